-- Titles lie apart over all partitions.
use Rattle.std.proofs.Common.{◌≡◌, ℕ, List, Some, sym, ◌∙◌, ap}
use Rattle.std.specs.Prelude.{slice_get}
use Rattle.pa_slot.specs.declared.title.Title.{Title}
use Rattle.pa_record.specs.declared.pool.PoolEntry.{PoolEntry}
use Rattle.pa_record.specs.Sound.{IsMadeBy}
use Rattle.pa_record.proofs.Lawful.{journal_leaves}
use Rattle.pa_record.proofs.Asked.{titles_are_asked}
use Rattle.pa_rules.specs.declared.played.Played.{Played}
use Rattle.pa_rules.specs.Roots.{Journals, AreRoots, IsPoolOf, Names}
use Rattle.pa_rules.specs.Laws.{TitlesFollow}
use Rattle.pa_rules.proofs.Naming.{asked_is}

owned : (supers partitions : ℕ) (ps : List Played) (pools : List PoolEntry) (roots : Journals) → AreRoots partitions ps pools roots →
    IsPoolOf supers ps pools roots →
    (p q : ℕ) (t u : Title) → IsMadeBy pools (roots p) t → IsMadeBy pools (roots q) u → t.born ≡ u.born → p ≡ q
owned supers partitions ps pools roots r h p q t u made made' same =
    let (i, e, at, named) = titles_are_asked pools (roots p) t (r.journals p) made in
    let (k, f, at', named') = titles_are_asked pools (roots q) u (r.journals q) made' in
    let (x, there) = asked_is pools (roots p) i t.born e (r.journals p) at named in
    (h.once t.born p q i k x there (e, at, named) (f, at', named' ∙ ap Some (sym same))).0

own : (supers : ℕ) (ps : List Played) (pools : List PoolEntry) (roots : Journals) (p i j : ℕ) (e : PoolEntry) →
    IsPoolOf supers ps pools roots → Names roots p i j →
    slice_get pools j ≡ Some e → e.partition ≡ p
own supers ps pools roots p i j e h names at =
    let (k, f, here, named, line) = h.named j e at in
    (h.once j e.partition p k i e at (f, here, named) names).0

pub titles_follow : TitlesFollow
titles_follow = record {
  titles = λ supers partitions ps pools roots r h.
      record { titles = λ p. (journal_leaves pools (roots p) (r.journals p)).titles; owned = owned supers partitions ps pools roots r h };
  own = own;
}
