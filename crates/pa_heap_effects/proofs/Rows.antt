-- The rows of the lists while the journals grow.
use Rattle.std.proofs.Common.{◌≡◌, ℕ, List, [], ◌∷◌, ◌++◌, Option, Some, None, ◌∙◌, ap, subst, inl, inr}
use Rattle.std.specs.Prelude.{Contains}
use Rattle.pa_slot.specs.declared.word.SlotName.{SlotName}
use Rattle.pa_slot.specs.declared.word.Step.{Step}
use Rattle.pa_record.specs.declared.entry.Seen.{Seen}
use Rattle.pa_record.specs.declared.entry.Answer.{Answer}
use Rattle.pa_record.specs.declared.entry.Answer.TheVariants as answers
use Rattle.pa_record.specs.declared.numbered.Numbered.{Numbered}
use Rattle.pa_record.specs.declared.root.RootEntry.{RootEntry}
use Rattle.pa_record.specs.declared.root.RootAct.{RootAct}
use Rattle.pa_lists.proofs.Members.{first_in, later_in}
use Rattle.pa_rules.specs.declared.played.Played.{Played}
use Rattle.pa_rules.specs.Played.{step_of}
use Rattle.pa_rules.specs.Roots.{Journals}
use Rattle.pa_rules.specs.Caches.{Cache, Caches, with_cache, acts_of, OnlyActs, NoActs, IsOfClass, IsDirect, FilledFirst, MadeRow, FullRow, ReturnRow, DoneRow, CacheRow, CachesTo}

-- on this line the journals have the same acts, and they have no entry less
pub record Stays (roots grows : Journals) (line : ℕ) : Type 0 where
  pub acts : (q : ℕ) → acts_of grows line q ≡ acts_of roots line q
  pub more : (q : ℕ) (e : RootEntry) → Contains (roots q) e → Contains (grows q) e

module _ (partitions : ℕ) (roots grows : Journals) where
  pub class_stays : (s : SlotName) (p class : ℕ) (line : ℕ) → Stays roots grows line → IsOfClass roots s p class → IsOfClass grows s p class
  class_stays s p class line h (e, asked, slots, among, is, member) = (e, asked, slots, h.more p e among, is, member)

  pub direct_stays : (s : SlotName) (p : ℕ) (line : ℕ) → Stays roots grows line → IsDirect roots s p → IsDirect grows s p
  direct_stays s p line h (e, asked, len, among, is) = (e, asked, len, h.more p e among, is)

  only_stays : (line p : ℕ) (acts : List RootAct) → Stays roots grows line → OnlyActs roots line p acts → OnlyActs grows line p acts
  only_stays line p acts h (here, others) = (h.acts p ∙ here, λ q ne. h.acts q ∙ others q ne)

  none_stays : (line : ℕ) → Stays roots grows line → NoActs roots line → NoActs grows line
  none_stays line h none q = h.acts q ∙ none q

  filled_stays : (line p class : ℕ) (old xs : List Numbered) → Stays roots grows line → FilledFirst roots line p class old xs →
      FilledFirst grows line p class old xs
  filled_stays line p class [] xs h (asked, only) = (asked, only_stays line p _ h only)
  filled_stays line p class (y ∷ ys) xs h (same, none) = (same, none_stays line h none)

  return_stays : (x : Played) (slot : Numbered) (cache after : Cache) → Stays roots grows x.line → ReturnRow roots x slot cache after →
      ReturnRow grows x slot cache after
  return_stays x slot cache after h (inl (p, class, of, only, becomes)) =
      inl (p, class, class_stays slot.slot p class x.line h of, only_stays x.line p _ h only, becomes)
  return_stays x slot cache after h (inr (p, asked, number, of, only, becomes)) =
      inr (p, asked, number, direct_stays slot.slot p x.line h of, only_stays x.line p _ h only, becomes)

  done_stays : (x : Played) (o : Option Step) (seen : Seen) (cache after : Cache) → Stays roots grows x.line →
      DoneRow roots x o seen cache after → DoneRow grows x o seen cache after
  done_stays x None seen cache after h (none, becomes) = (none_stays x.line h none, becomes)
  done_stays x (Some step) seen cache after h (inl (returning, row)) = inl (returning, return_stays x _ cache after h row)
  done_stays x (Some step) seen cache after h (inr (other, none, becomes)) = inr (other, none_stays x.line h none, becomes)

  full_stays : (x : Played) (cache after : Cache) → Stays roots grows x.line → FullRow roots x cache after → FullRow grows x cache after
  full_stays x cache after h (inl (p, class, asked, asks, empty, only, becomes)) =
      inl (p, class, asked, asks, empty, only_stays x.line p _ h only, becomes)
  full_stays x cache after h (inr (p, size, asked, asks, only, becomes)) = inr (p, size, asked, asks, only_stays x.line p _ h only, becomes)

  made_stays : (x : Played) (seen : Seen) (cache after : Cache) → Stays roots grows x.line → MadeRow roots x seen cache after →
      MadeRow grows x seen cache after
  made_stays x seen cache after h (inl (p, class, xs, rest, asks, filled, front, becomes)) =
      inl (p, class, xs, rest, asks, filled_stays x.line p class (cache p class) xs h filled, front, becomes)
  made_stays x seen cache after h (inr (p, size, asked, len, asks, only, becomes)) =
      inr (p, size, asked, len, asks, only_stays x.line p _ h only, becomes)

  -- a row requires of the journals what its line did, and what its slot is
  pub row_stays : (x : Played) (a : Answer) (cache after : Cache) → Stays roots grows x.line → CacheRow partitions roots x a cache after →
      CacheRow partitions grows x a cache after
  row_stays x (answers.Made seen usable) cache after h row = made_stays x seen cache after h row
  row_stays x (answers.Done seen) cache after h row = done_stays x (step_of x.op) seen cache after h row
  row_stays x (answers.Value seen value) cache after h row = (none_stays x.line h row.0, row.1)
  row_stays x (answers.Dangling seen value) cache after h row = (none_stays x.line h row.0, row.1)
  row_stays x (answers.SecondFree seen) cache after h row = (none_stays x.line h row.0, row.1)
  row_stays x (answers.NotOwner seen) cache after h row = (none_stays x.line h row.0, row.1)
  row_stays x answers.StaleReset cache after h row = (none_stays x.line h row.0, row.1)
  row_stays x (answers.StaleUse seen) cache after h row = (none_stays x.line h row.0, row.1)
  row_stays x answers.Nothing cache after h row = (none_stays x.line h row.0, row.1)
  row_stays x answers.Filled cache after h row = (none_stays x.line h row.0, row.1)
  row_stays x answers.NotRef cache after h row = (none_stays x.line h row.0, row.1)
  row_stays x (answers.Shared seen) cache after h row = (none_stays x.line h row.0, row.1)
  row_stays x answers.OutOfRange cache after h row = (none_stays x.line h row.0, row.1)
  row_stays x answers.TooLarge cache after h row = (none_stays x.line h row.0, row.1)
  row_stays x (answers.Full entry) cache after h row = full_stays x cache after h row
  row_stays x (answers.Swapped entry) cache after h row = (none_stays x.line h row.0, row.1)
  row_stays x (answers.Purged slots) cache after h (acts, total, empty) = (λ p below. h.acts p ∙ acts p below, total, empty)
  row_stays x answers.Uncounted cache after h row = (none_stays x.line h row.0, row.1)

  pub caches_stay : (xs : List Played) (all after : Caches) → ((x : Played) → Contains xs x → Stays roots grows x.line) →
      CachesTo partitions roots all xs after →
      CachesTo partitions grows all xs after
  caches_stay [] all after h e = e
  caches_stay (x ∷ xs) all after h (next, row, rest) = (
    next,
    row_stays x x.answer (all x.thread) next (h x (first_in x xs)) row,
    caches_stay xs (with_cache all x.thread next) after (λ y among. h y (later_in x y xs among)) rest,
  )

-- one record more
pub caches_push : (partitions : ℕ) (roots : Journals) (xs : List Played) (x : Played) (all last : Caches) (next : Cache) →
    CachesTo partitions roots all xs last →
    CacheRow partitions roots x x.answer (last x.thread) next → CachesTo partitions roots all (xs ++ x ∷ []) (with_cache last x.thread next)
caches_push partitions roots [] x all last next e row = (
  next,
  subst (λ (c : Caches). CacheRow partitions roots x x.answer (c x.thread) next) e row,
  ap (λ (c : Caches). with_cache c x.thread next) e,
)
caches_push partitions roots (y ∷ xs) x all last next (mid, first, rest) row =
    (mid, first, caches_push partitions roots xs x (with_cache all y.thread mid) last next rest row)
