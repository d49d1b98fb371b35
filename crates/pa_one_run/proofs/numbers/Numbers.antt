-- A fill names each slot at the number of its word.
use Rattle.std.proofs.Common.{◌≡◌, ℕ, ◌<◌, ◌≤◌, List, [], ◌∷◌, ◌++◌, Option, Some, None, refl, sym, ◌∙◌, ap, subst, arith, inl, inr}
use Rattle.std.specs.Prelude.{Contains}
use Rattle.std.proofs.lemmas.Bool.{cases_eq}
use Rattle.std.proofs.lemmas.List.{append_assoc, append-nil}
use Rattle.pa_slot.specs.declared.word.SlotName.{SlotName}
use Rattle.pa_slot.specs.declared.word.Step.{Step}
use Rattle.pa_slot.specs.Count.{number_of}
use Rattle.pa_record.specs.declared.entry.Seen.{Seen}
use Rattle.pa_record.specs.declared.entry.Answer.{Answer}
use Rattle.pa_record.specs.declared.numbered.Numbered.{Numbered}
use Rattle.pa_record.specs.declared.root.RootAct.{RootAct}
use Rattle.pa_record.specs.declared.root.RootAct.TheVariants.{Fill, Map, Full}
use Rattle.pa_record.specs.Root.{names}
use Rattle.pa_record.specs.Laws.{leaves_by, times}
use Rattle.pa_lists.proofs.Members.{not_in_none, in_cases}
use Rattle.pa_lists.proofs.Joined.{map_in}
use Rattle.pa_record.specs.declared.entry.Answer.TheVariants as answers
use Rattle.pa_rules.specs.declared.played.Played.{Played}
use Rattle.pa_rules.specs.Played.{step_of}
use Rattle.pa_rules.specs.Caches.{Cache, Caches, with_cache, acts_of, OnlyActs, IsOfClass, FilledFirst, MadeRow, FullRow, ReturnRow, DoneRow, CacheRow, CachesTo, no_caches, spilled, unmap_at}
use Rattle.pa_rules.specs.Flow.{left_in}
use Rattle.pa_rules.proofs.Counted.{stands, left_gives, left_purge}
use Rattle.pa_rules.proofs.Totals.{some_times}
use Rattle.pa_rules.proofs.CachesAfter.{caches_snoc}
use Rattle.pa_one_run.specs.Parts.{Parts}
use Rattle.pa_one_run.specs.Before.{word_after}
use Rattle.pa_one_run.proofs.Filed.{IsFiled}
use Rattle.pa_one_run.proofs.numbers.Away.{acts_before, fill_finds, acts_next, acts_none}
use Rattle.pa_one_run.proofs.numbers.Standing.{AreNumbered, root_number}
use Rattle.pa_one_run.proofs.numbers.Listing.{Stands}
use Rattle.pa_one_run.proofs.lines.Cuts.{cut_here, IsCut, record_row}
use Rattle.pa_one_run.proofs.numbers.Numbering.{number_after}
use Rattle.pa_one_run.proofs.numbers.NextNumbers.{IsNext, class_partition, next_numbers}
use Rattle.pa_one_run.proofs.roots.Replays.{act_entry}
use Rattle.pa_lists.proofs.Elements.{in_one}

-- ---- before each line

abbrev HasNumbers : Parts → SlotName → ℕ → List Played → List Played → Caches → Type 0
HasNumbers a s p before rest all = (n : ℕ) → IsCut a n before rest →
    AreNumbered (acts_before a n p) s (number_after before s) (Stands all s p a.threads)

numbers_start : (a : Parts) (s : SlotName) (p : ℕ) → IsFiled a → HasNumbers a s p [] a.ps no_caches
numbers_start a s p h n cut = rw (acts_none a n p h cut) (record {
  listed = λ m at. absurd (not_in_none m at.among);
  later = λ k more. refl;
  gone = λ k less. absurd (omega arith);
})

numbers_next : (a : Parts) (before rest : List Played) (x : Played) (all : Caches) (next : Cache) (s : SlotName) (p class : ℕ) →
    IsNext a before rest x all next s p class →
    HasNumbers a s p before (x ∷ rest) all → HasNumbers a s p (before ++ x ∷ []) rest (with_cache all x.thread next)
numbers_next a before rest x all next s p class step has n cut =
    let after = next_numbers a before rest x all next s p class step (has x.line (cut_here a before rest x step.filed step.parts)) in
    subst (λ acts. AreNumbered acts s (number_after (before ++ x ∷ []) s) (Stands (with_cache all x.thread next) s p a.threads))
    (sym (acts_next a before rest x n p step.filed step.parts cut)) after

numbers_from : (a : Parts) (s : SlotName) (p class : ℕ) (before xs rest : List Played) (all last : Caches) → IsFiled a →
    IsOfClass a.roots s p class → a.ps ≡ before ++ (xs ++ rest) →
    CachesTo a.partitions a.roots no_caches before all → HasNumbers a s p before (xs ++ rest) all →
    CachesTo a.partitions a.roots all xs last → HasNumbers a s p (before ++ xs) rest last
numbers_from a s p class before [] rest all last h of parts to has same =
    subst (λ ys. HasNumbers a s p ys rest last) (sym (append-nil before)) (subst (HasNumbers a s p before rest) (sym same) has)
numbers_from a s p class before (x ∷ xs) rest all last h of parts to has (next, row, on) =
    let step : IsNext a before (xs ++ rest) x all next s p class = record { filed = h; parts = parts; caches = to; row = row; of = of } in
    subst (λ ys. HasNumbers a s p ys rest last) (append_assoc before (x ∷ []) xs)
    (numbers_from a s p class (before ++ x ∷ []) xs rest (with_cache all x.thread next) last h of
    (parts ∙ sym (append_assoc before (x ∷ []) (xs ++ rest)))
    (caches_snoc a.partitions a.roots no_caches all before x next to row)
    (numbers_next a before (xs ++ rest) x all next s p class step has) on)

-- each slot of a class has its numbers before each line
pub numbers_before : (a : Parts) (s : SlotName) (p class : ℕ) (before rest : List Played) (all : Caches) → IsFiled a →
    IsOfClass a.roots s p class → a.ps ≡ before ++ rest →
    CachesTo a.partitions a.roots no_caches before all → HasNumbers a s p before rest all
numbers_before a s p class before rest all h of parts to =
    numbers_from a s p class [] before rest no_caches all h of parts refl
    (subst (λ ys. HasNumbers a s p [] ys no_caches) parts (numbers_start a s p h)) to

-- ---- a fill is its line's only entry

some_left : (class : ℕ) (asked : Option ℕ) (slots : List Numbered) (m : Numbered) (acts : List RootAct) →
    Contains acts (Fill class asked slots) → Contains slots m → 1 ≤ left_in m.slot acts
some_left class asked slots m [] among member = absurd (not_in_none (Fill class asked slots) among)
some_left class asked slots m (act ∷ acts) among member = elim (in_cases act (Fill class asked slots) acts among) [
  | inl e ↦
      let same : times m.slot (leaves_by act) ≡ stands m.slot slots = ap (λ z. times m.slot (leaves_by z)) e in
      let some = some_times m.slot (names slots) (map_in (λ (n : Numbered). n.slot) slots m member) in
      omega arith
  | inr rest ↦ let ih = some_left class asked slots m acts rest member in omega arith
]

abbrev IsAlone : List RootAct → Type 0
IsAlone acts = (act : RootAct) × (acts ≡ act ∷ [])

module _ (a : Parts) (x : Played) (p : ℕ) (s : SlotName) (real : p < a.partitions) (some : 1 ≤ left_in s (acts_of a.roots x.line p)) where
  none_left : (acts : List RootAct) → acts_of a.roots x.line p ≡ acts → left_in s acts ≡ 0 → IsAlone (acts_of a.roots x.line p)
  none_left acts is none = let same : left_in s (acts_of a.roots x.line p) ≡ left_in s acts = ap (left_in s) is in absurd (omega arith)

  only_alone : (q : ℕ) (act : RootAct) → OnlyActs a.roots x.line q (act ∷ []) → IsAlone (acts_of a.roots x.line p)
  only_alone q act only = elim (cases_eq p q) [
    | inl e ↦ (act, subst (λ z. acts_of a.roots x.line z ≡ act ∷ []) (sym e) only.0)
    | inr other ↦ none_left [] (only.1 p other) refl
  ]

  first_alone : (q c : ℕ) (old xs : List Numbered) → FilledFirst a.roots x.line q c old xs → IsAlone (acts_of a.roots x.line p)
  first_alone q c [] xs (asked, only) = only_alone q (Fill c asked xs) only
  first_alone q c (y ∷ ys) xs (same, none) = none_left [] (none p) refl

  made_alone : (seen : Seen) (cache after : Cache) → MadeRow a.roots x seen cache after → IsAlone (acts_of a.roots x.line p)
  made_alone seen cache after (inl (q, c, xs, rest, asks, first, front, becomes)) = first_alone q c (cache q c) xs first
  made_alone seen cache after (inr (q, size, asked, len, asks, only, becomes)) = only_alone q (Map asked seen.slot len) only

  return_alone : (slot : Numbered) (cache after : Cache) → ReturnRow a.roots x slot cache after → IsAlone (acts_of a.roots x.line p)
  return_alone slot cache after (inl (q, c, of, only, becomes)) = elim (cases_eq p q) [
    | inl e ↦ none_left _ (ap (acts_of a.roots x.line) e ∙ only.0) (left_gives s (spilled c (slot ∷ cache q c)))
    | inr other ↦ none_left [] (only.1 p other) refl
  ]
  return_alone slot cache after (inr (q, asked, number, direct, only, becomes)) = only_alone q (unmap_at asked slot.slot number) only

  done_alone : (o : Option Step) (seen : Seen) (cache after : Cache) → DoneRow a.roots x o seen cache after →
      IsAlone (acts_of a.roots x.line p)
  done_alone None seen cache after (acts, becomes) = none_left [] (acts p) refl
  done_alone (Some step) seen cache after (inl (returning, row)) = return_alone _ cache after row
  done_alone (Some step) seen cache after (inr (other, acts, becomes)) = none_left [] (acts p) refl

  full_alone : (cache after : Cache) → FullRow a.roots x cache after → IsAlone (acts_of a.roots x.line p)
  full_alone cache after (inl (q, c, asked, asks, empty, only, becomes)) = only_alone q (Full (Some c) asked) only
  full_alone cache after (inr (q, size, asked, asks, only, becomes)) = only_alone q (Full None asked) only

  row_alone : (answer : Answer) (cache after : Cache) → CacheRow a.partitions a.roots x answer cache after →
      IsAlone (acts_of a.roots x.line p)
  row_alone (answers.Made seen usable) cache after row = made_alone seen cache after row
  row_alone (answers.Done seen) cache after row = done_alone (step_of x.op) seen cache after row
  row_alone (answers.Full entry) cache after row = full_alone cache after row
  row_alone (answers.Purged slots) cache after row = none_left _ (row.0 p real) (left_purge s (cache p) 0 170)
  row_alone answer cache after row = none_left [] (row.0 p) refl

alone_is : (acts : List RootAct) (act : RootAct) → IsAlone acts → Contains acts act → acts ≡ act ∷ []
alone_is acts act (other, is) among = is ∙ ap (λ z. z ∷ []) (in_one other act (subst (λ ys. Contains ys act) is among))

act_class : (a : Parts) (line p class : ℕ) (asked : Option ℕ) (slots : List Numbered) (m : Numbered)
    → Contains (acts_of a.roots line p) (Fill class asked slots) → Contains slots m → IsOfClass a.roots m.slot p class
act_class a line p class asked slots m among member =
    let (e, stands, here, is) = act_entry a.roots line p (Fill class asked slots) among in
    (e, asked, slots, stands, is, map_in (λ (n : Numbered). n.slot) slots m member)

pub filled_numbers : (a : Parts) (before rest : List Played) (x : Played) (p class : ℕ) (asked : Option ℕ) (slots : List Numbered)
    (m : Numbered) → IsFiled a → a.ps ≡ before ++ x ∷ rest →
    Contains (acts_of a.roots x.line p) (Fill class asked slots) → Contains slots m → m.number ≡ number_of (word_after before m.slot)
filled_numbers a before rest x p class asked slots m h parts among member =
    let (all, next, to', row) = record_row a before rest x h parts in
    let of = act_class a x.line p class asked slots m among member in
    let are = numbers_before a m.slot p class before (x ∷ rest) all h of parts to' x.line (cut_here a before rest x h parts) in
    let some = some_left class asked slots m (acts_of a.roots x.line p) among member in
    let only = alone_is (acts_of a.roots x.line p) (Fill class asked slots)
    (row_alone a x p m.slot (class_partition a m.slot p class h of) some x.answer (all x.thread) next row) among in
    root_number (acts_before a x.line p) m.slot (number_after before m.slot) m.number (Stands all m.slot p a.threads) are
    (fill_finds a x.line p class asked slots m h only member)
