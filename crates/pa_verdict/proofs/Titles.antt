-- The clause of the titles: it never fails if the journals and the pool are right, and said of the journals up to each
-- line it is the whole.
use Rattle.std.proofs.Common.{◌≡◌, ℕ, zero, suc, ◌+◌, ◌<◌, ◌==◌, List, [], ◌∷◌, take, Some, refl, subst, sym, ◌∙◌, ap, arith, inl, inr}
use Rattle.std.specs.Prelude.{slice_get, nat_lt}
use Rattle.std.proofs.lemmas.Bool.{cases_Bool, lt-ltb}
use Rattle.pa_slot.specs.declared.title.Title.{Title}
use Rattle.pa_trace.specs.declared.script.Trace.{Trace}
use Rattle.pa_record.specs.declared.pool.PoolEntry.{PoolEntry}
use Rattle.pa_record.specs.declared.root.RootEntry.{RootEntry}
use Rattle.pa_record.specs.Root.{Root, new_root, root_next, RootReplays, IsJournal}
use Rattle.pa_record.specs.Sound.{IsMadeBy, AreTitles}
use Rattle.pa_lists.proofs.Members.{not_some}
use Rattle.pa_record.proofs.Lawful.{journal_leaves}
use Rattle.pa_record.proofs.Asked.{titles_are_asked}
use Rattle.pa_rules.specs.declared.played.Played.{Played}
use Rattle.pa_rules.specs.declared.verdict.Clause.TheVariants as clauses
use Rattle.pa_rules.specs.declared.verdict.Place.TheVariants as places
use Rattle.pa_rules.specs.Told.{Told, records_of}
use Rattle.pa_rules.specs.Roots.{Journals, AreRoots, IsPoolOf, AreAllTitles}
use Rattle.pa_rules.specs.HeapDemands.{up_to}
use Rattle.pa_rules.proofs.Naming.{asked_is}
use Rattle.pa_verdict.specs.Clauses.{IsMet, TitlesArePlaces}
use Rattle.pa_verdict.proofs.Journals.{rise_whole, rising_all}

-- a journal up to an entry
take_at : {A : Type 0} (n : ℕ) (xs : List A) (j : ℕ) (x : A) → slice_get (take n xs) j ≡ Some x → slice_get xs j ≡ Some x
take_at zero xs j x at = absurd (not_some x at)
take_at (suc n) [] j x at = absurd (not_some x at)
take_at (suc n) (y ∷ ys) zero x at = at
take_at (suc n) (y ∷ ys) (suc j) x at = take_at n ys j x at

replays_taken : (pools : List PoolEntry) (n : ℕ) (es : List RootEntry) (r : Root) → RootReplays pools es r → RootReplays pools (take n es) r
replays_taken pools zero es r h = tt
replays_taken pools (suc n) [] r h = tt
replays_taken pools (suc n) (e ∷ es) r h = (h.0, replays_taken pools n es (root_next pools e.act r) h.1)

-- a journal, and every entry of it an entry of the other
record IsPartOf (pools : List PoolEntry) (journal whole : List RootEntry) : Type 0 where
  fits : IsJournal pools journal
  among : (j : ℕ) (e : RootEntry) → slice_get journal j ≡ Some e → slice_get whole j ≡ Some e

part_taken : (pools : List PoolEntry) (n : ℕ) (es : List RootEntry) → IsJournal pools es → IsPartOf pools (take n es) es
part_taken pools n es h = record {
  fits = record {
    replays = replays_taken pools n es new_root h.replays;
    rise = rise_whole (take n es) 0 (λ j b f at asks. omega arith)
        (λ i j a b e f at at'. rising_all es 0 h.rise i j a b e f (take_at n es i e at) (take_at n es j f at'));
  };
  among = take_at n es;
}

part_self : (pools : List PoolEntry) (es : List RootEntry) → IsJournal pools es → IsPartOf pools es es
part_self pools es h = record { fits = h; among = λ j e at. at }

part_up_to : (pools : List PoolEntry) (p n q : ℕ) (roots : Journals) → IsJournal pools (roots q) →
    IsPartOf pools (up_to p n roots q) (roots q)
part_up_to pools p n q roots h = elim (cases_Bool (nat_lt q p)) [
  | inl below ↦ rw below (part_self pools (roots q) h)
  | inr other ↦ elim (cases_Bool (q == p)) [
    | inl same ↦ rw (other, same) (part_taken pools n (roots q) h)
    | inr past ↦ rw (other, past) (part_taken pools 0 (roots q) h)
  ]
]

parts_own : (supers partitions : ℕ) (ps : List Played) (pools : List PoolEntry) (roots parts : Journals) →
    AreRoots partitions ps pools roots → IsPoolOf supers ps pools roots
    → ((q : ℕ) → IsPartOf pools (parts q) (roots q)) → (p q : ℕ) (t u : Title) → IsMadeBy pools (parts p) t → IsMadeBy pools (parts q) u →
    t.born ≡ u.born → p ≡ q
parts_own supers partitions ps pools roots parts r h are p q t u made made' same =
    let (i, e, at, named) = titles_are_asked pools (parts p) t (are p).fits made in
    let (k, f, at', named') = titles_are_asked pools (parts q) u (are q).fits made' in
    let there = (are p).among i e at in
    let (x, is) = asked_is pools (roots p) i t.born e (r.journals p) there named in
    (h.once t.born p q i k x is (e, there, named) (f, (are q).among k f at', named' ∙ ap Some (sym same))).0

pub titles_meet : (t : Trace) (r : Told) → AreRoots t.partitions (records_of t r) r.pools r.roots →
    IsPoolOf t.region (records_of t r) r.pools r.roots → IsMet clauses.Titles t r
titles_meet t r roots pool (places.Root p j) =
    let parts = up_to p (j + 1) r.roots in
    let are : (q : ℕ) → IsPartOf r.pools (parts q) (r.roots q) = λ q. part_up_to r.pools p (j + 1) q r.roots (roots.journals q) in
    record {
      titles = λ q. (journal_leaves r.pools (parts q) (are q).fits).titles;
      owned = parts_own t.region t.partitions (records_of t r) r.pools r.roots parts roots pool are;
    }
titles_meet t r roots pool (places.Record i) = tt
titles_meet t r roots pool (places.Pool j) = tt
titles_meet t r roots pool (places.Cell k j) = tt
titles_meet t r roots pool (places.Report i) = tt

-- the journals of the partitions below are whole
below_whole : (p n q : ℕ) (roots : Journals) → q < p → up_to p n roots q ≡ roots q
below_whole p n q roots less = rw (lt-ltb q p less) refl

titles_whole : (t : Trace) (r : Told) → IsMet clauses.Titles t r → AreAllTitles r.pools r.roots
titles_whole t r met = record {
  titles = λ p. subst (λ zs. AreTitles r.pools (IsMadeBy r.pools zs)) (below_whole (p + 1) 1 p r.roots (omega arith))
      ((met (places.Root (p + 1) 0)).titles p);
  owned = λ p q u v made made' same.
      (met (places.Root (p + q + 1) 0)).owned p q u v
      (subst (λ zs. IsMadeBy r.pools zs u) (sym (below_whole (p + q + 1) 1 p r.roots (omega arith))) made)
      (subst (λ zs. IsMadeBy r.pools zs v) (sym (below_whole (p + q + 1) 1 q r.roots (omega arith))) made')
      same;
}

pub titles_are_places : TitlesArePlaces
titles_are_places = record { whole = titles_whole; met = titles_meet }
