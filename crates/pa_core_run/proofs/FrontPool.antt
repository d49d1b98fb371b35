-- The journals and the pool before a line: they share as those of a whole run do, so no two titles that are there at once share a byte.
use Rattle.std.proofs.Common.{◌≡◌, ℕ, ◌<◌, List, [], ◌∷◌, ◌++◌, Option, Some, None, refl, sym, ◌∙◌, ap, subst, append_assoc}
use Rattle.std.specs.Prelude.{Contains, slice_get, option_map, map}
use Rattle.std.proofs.lemmas.List.{append-nil}
use Rattle.pa_slot.specs.declared.title.Title.{Title}
use Rattle.pa_buckets.specs.Bands.{fill_of}
use Rattle.pa_record.specs.declared.pool.PoolEntry.{PoolEntry}
use Rattle.pa_record.specs.declared.pool.PoolAct.{PoolAct}
use Rattle.pa_record.specs.declared.root.RootEntry.{RootEntry}
use Rattle.pa_record.specs.declared.root.RootAct.{RootAct}
use Rattle.pa_record.specs.declared.root.RootAct.TheVariants.{Fill, Map, Full, Give, Unmap, Purge}
use Rattle.pa_record.specs.Spans.{name_of}
use Rattle.pa_record.specs.Pool.{PoolActFits, PoolReplays, IsPool, act_at}
use Rattle.pa_record.specs.Root.{Root, new_root, takes, opened, super_of, names, root_next, RootActFits, RootReplays, asked_by}
use Rattle.pa_lists.proofs.Members.{first_in, later_in}
use Rattle.pa_record.proofs.PoolSteps.{pool_grows}
use Rattle.pa_heap_effects.specs.Deeds.{root_at as root_of}
use Rattle.pa_heap_effects.specs.Pooled.{pool_at as pool_of}
use Rattle.pa_heap_effects.specs.Shared.{SharePool, IsThere, AreOneOrApart}
use Rattle.pa_heap_effects.proofs.Sharing.{titles_share_no_byte}
use Rattle.pa_one_run.specs.Parts.{Parts, entry_line, pool_line}
use Rattle.pa_one_run.specs.Before.{below, on, past, root_at}
use Rattle.pa_one_run.proofs.lines.Sorting.{in_below, below_on_past, get_below, below_get}
use Rattle.pa_lists.proofs.Elements.{both_have}
use Rattle.pa_one_run.proofs.Filed.{IsFiled}
use Rattle.pa_one_run.proofs.roots.Replays.{front_journal, named_of, next_same, replayed_same}
use Rattle.pa_lists.proofs.Indexed.{at_in}
use Rattle.pa_heap_effects.proofs.Runs.{fits_before}

-- ---- the first entries of the pool

pool_front : (supers : ℕ) (pools before es rest : List PoolEntry) → pools ≡ before ++ (es ++ rest) → IsPool supers before
    → PoolReplays pools (es ++ rest) (pool_of supers before) → IsPool supers (before ++ es)
pool_front supers pools before [] rest parts h fits = subst (λ z. IsPool supers z) (sym (append-nil before)) h
pool_front supers pools before (e ∷ es) rest parts h fits =
    let act = fits_before supers before (e ∷ (es ++ rest)) e.partition e.act h
    (subst (λ z. PoolActFits z e.partition e.act (pool_of supers before)) parts fits.0) in
    subst (λ z. IsPool supers z) (append_assoc before (e ∷ []) es)
    (pool_front supers pools (before ++ e ∷ []) es rest (parts ∙ sym (append_assoc before (e ∷ []) (es ++ rest)))
    (pool_grows.fits supers before e h act)
    (subst (λ s. PoolReplays pools (es ++ rest) s) (sym (pool_grows.next supers before e)) fits.1))

-- ---- a journal beside two pools that have the entries that it names

act_fits : (pools other : List PoolEntry) (act : RootAct) (r : Root) → ((j : ℕ) → asked_by act ≡ Some j → act_at pools j ≡ act_at other j) →
    RootActFits pools act r → RootActFits other act r
act_fits pools other (Fill class None slots) r same fits = fits
act_fits pools other (Fill class (Some j) slots) r same (few, (none, first, found), titles) = (
  few,
  (none, first, sym (same j refl) ∙ found),
  subst (λ (o : Option PoolAct). map name_of (takes class (fill_of class) (opened (super_of o) j r)).titles ≡ names slots)
      (same j refl) titles,
)
act_fits pools other (Map asked slot len) r same (first, found, start, born) = (first, sym (same asked refl) ∙ found, start, born)
act_fits pools other (Full None asked) r same (count, found) = (count, sym (same asked refl) ∙ found)
act_fits pools other (Full (Some class) asked) r same (none, found) = (none, sym (same asked refl) ∙ found)
act_fits pools other (Give slots) r same fits = fits
act_fits pools other (Unmap asked slot) r same (len, first, member, start, gave) = (len, first, member, start, sym (same asked refl) ∙ gave)
act_fits pools other Purge r same fits = fits

replays_same : (pools other : List PoolEntry) (es : List RootEntry) (r : Root) →
    ((e : RootEntry) (j : ℕ) → Contains es e → asked_by e.act ≡ Some j → act_at pools j ≡ act_at other j) →
    RootReplays pools es r → RootReplays other es r
replays_same pools other [] r same fits = fits
replays_same pools other (e ∷ es) r same (fits, rest) =
    let next = next_same pools other e.act r (λ j asks. same e j (first_in e es) asks) in (
      act_fits pools other e.act r (λ j asks. same e j (first_in e es) asks) fits,
      subst (λ s. RootReplays other es s) next
          (replays_same pools other es (root_next pools e.act r) (λ f j among asks. same f j (later_in e f es among) asks) rest),
    )

-- ---- before a line

abbrev pub pool_before : Parts → ℕ → List PoolEntry
pool_before a n = below pool_line n a.pools

abbrev pub journal_before : Parts → ℕ → ℕ → List RootEntry
journal_before a n p = below entry_line n (a.roots p)

module _ (a : Parts) (n : ℕ) (h : IsFiled a) where
  same_acts : (p : ℕ) (e : RootEntry) (j : ℕ) → Contains (journal_before a n p) e → asked_by e.act ≡ Some j →
      act_at a.pools j ≡ act_at (pool_before a n) j
  same_acts p e j among asks =
      let (member, low) = in_below entry_line n (a.roots p) e among in
      ap (λ o. option_map (λ (d : PoolEntry). d.act) o) (both_have (slice_get a.pools j) (slice_get (pool_before a n) j)
      (λ d at. get_below pool_line n a.pools j d h.order.pool at (subst (λ m. m < n) (sym (named_of a p j e d h member asks at).line) low))
      (λ d at. below_get pool_line n a.pools j d h.order.pool at))

  pub shares : SharePool a.supers (pool_before a n) (journal_before a n)
  shares = record {
    fits = pool_front a.supers a.pools [] (pool_before a n) (on pool_line n a.pools ++ past pool_line n a.pools) parted tt whole;
    journals = λ p.
        let front = front_journal a n p h in
        record {
          replays = replays_same a.pools (pool_before a n) (journal_before a n p) new_root (same_acts p) front.replays;
          rise = front.rise;
        };
    named = λ j e at.
        let full = below_get pool_line n a.pools j e h.order.pool at in
        let (i, f, there, asks, line) = h.pool.named j e full in
        let low = (in_below pool_line n a.pools e (at_in (pool_before a n) j e at)).1 in (
          i,
          (
            f,
            get_below entry_line n (a.roots e.partition) i f (h.order.journals e.partition) there (subst (λ m. m < n) (sym line) low),
            asks,
          ),
        );
    once = λ j p q i k e at (f, there, asks) (g, other, names_it).
        h.pool.once j p q i k e (below_get pool_line n a.pools j e h.order.pool at)
        (f, below_get entry_line n (a.roots p) i f (h.order.journals p) there, asks)
        (g, below_get entry_line n (a.roots q) k g (h.order.journals q) other, names_it);
  }
    where
      parted : a.pools ≡ [] ++ (pool_before a n ++ (on pool_line n a.pools ++ past pool_line n a.pools))
      parted = below_on_past pool_line n a.pools h.order.pool ∙
          append_assoc (pool_before a n) (on pool_line n a.pools) (past pool_line n a.pools)

      whole : PoolReplays a.pools (pool_before a n ++ (on pool_line n a.pools ++ past pool_line n a.pools)) (pool_of a.supers [])
      whole = subst (λ es. PoolReplays a.pools es (pool_of a.supers [])) parted h.pool.fits

  front_root : (p : ℕ) → root_at a n p ≡ root_of (pool_before a n) (journal_before a n) p
  front_root p = replayed_same a.pools (pool_before a n) (journal_before a n p) new_root (same_acts p)

  -- two titles that are there before a line are one of one partition, or share no byte
  pub apart_here : (p q : ℕ) (t u : Title) → IsThere (root_at a n p) t → IsThere (root_at a n q) u → AreOneOrApart p q t u
  apart_here p q t u here there =
      titles_share_no_byte.there a.supers p q (pool_before a n) (journal_before a n) t u shares
      (subst (λ (r : Root). IsThere r t) (front_root p) here) (subst (λ (r : Root). IsThere r u) (front_root q) there)
