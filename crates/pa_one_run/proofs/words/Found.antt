-- The word that a record finds is the one that the records before it leave.
use Rattle.std.proofs.Common.{◌≡◌, ℕ, List, [], ◌∷◌, ◌++◌, Some, None, refl, ◌∙◌, ap, arith, inl, inr}
use Rattle.std.specs.Prelude.{Contains}
use Rattle.std.proofs.lemmas.List.{append-nil}
use Rattle.std.proofs.lemmas.List.Elements.{filter_map-append}
use Rattle.pa_slot.specs.declared.word.SlotName.{SlotName}
use Rattle.pa_slot.specs.declared.word.Step.{Step}
use Rattle.pa_slot.specs.Count.{CanStep, number_of, held_of, refs_of, stepped}
use Rattle.pa_slot.specs.Run.{Mark, Slots}
use Rattle.pa_slot.proofs.Runs.{runs_end, run_of_path, slots_of_runs, number_stepped}
use Rattle.pa_lists.proofs.Members.{first_in}
use Rattle.pa_rules.specs.declared.played.Played.{Played}
use Rattle.pa_rules.specs.Played.{mark_of, marks_of}
use Rattle.pa_rules.specs.Report.{HasWord}
use Rattle.pa_rules.specs.Holders.{Holder, IsFirstHolder}
use Rattle.pa_rules.proofs.Phases.{mark_in}
use Rattle.pa_one_run.proofs.Filed.{IsFiled}
use Rattle.pa_one_run.proofs.words.Fronts.{finds_by_numbers, word_at, word_beside, IsFront, front_of}
use Rattle.pa_legal.proofs.Words.{leaves_free}
use Rattle.pa_rules.proofs.Running.{same_word}
use Rattle.pa_one_run.specs.Parts.{Parts}
use Rattle.pa_one_run.specs.Before.{stepped_by, word_from, word_after}
use Rattle.pa_one_run.proofs.words.Marks.{marks_rise, goes_on}
use Rattle.pa_lists.proofs.Elements.{in_middle}
use Rattle.pa_rules.proofs.Paths.{path_ends}

-- ---- the records before one

-- the marks are those before a record's and its own on
module _ (a : Parts) (before rest : List Played) (h : IsFiled a) (parts : a.ps ≡ before ++ rest) where
  pub marks_cut : marks_of a.ps ≡ marks_of before ++ marks_of rest
  marks_cut = ap marks_of parts ∙ filter_map-append mark_of before rest

  pub front_is : IsFront (marks_of a.ps) h.slots (marks_of before)
  front_is =
      let rises = marks_rise a.ps h.rising in
      front_of (marks_of a.ps) h.slots (marks_of before) (marks_of rest) rises
      (finds_by_numbers (marks_of a.ps) h.slots rises h.order.numbers) marks_cut

mark_first : (x : Played) (rest : List Played) (m : Mark) → mark_of x ≡ Some m → marks_of (x ∷ rest) ≡ m ∷ marks_of rest
mark_first x rest m is = rw is refl

mark_none : (x : Played) (rest : List Played) → mark_of x ≡ None → marks_of (x ∷ rest) ≡ marks_of rest
mark_none x rest none = rw none refl

-- the marks before a record's, its own, and those past it
pub marks_at : (a : Parts) (before rest : List Played) (x : Played) (m : Mark) → a.ps ≡ before ++ x ∷ rest → mark_of x ≡ Some m →
    marks_of a.ps ≡ marks_of before ++ m ∷ marks_of rest
marks_at a before rest x m parts is = ap marks_of parts ∙ filter_map-append mark_of before (x ∷ rest) ∙
    ap (λ ys. marks_of before ++ ys) (mark_first x rest m is)

-- the word found
pub found_is : (a : Parts) (before rest : List Played) (x : Played) (m : Mark) → IsFiled a → a.ps ≡ before ++ x ∷ rest →
    mark_of x ≡ Some m → m.found ≡ word_after before m.slot
found_is a before rest x m h parts is =
    finds_by_numbers (marks_of a.ps) h.slots (marks_rise a.ps h.rising) h.order.numbers (marks_of before) (marks_of rest) m
    (marks_at a before rest x m parts is) (front_is a before (x ∷ rest) h parts)

-- a step that was made can be made
pub step_can : (a : Parts) (before rest : List Played) (x : Played) (m : Mark) (p : Step) → IsFiled a → a.ps ≡ before ++ x ∷ rest →
    mark_of x ≡ Some m → m.step ≡ Some p → CanStep p m.found
step_can a before rest x m p h parts is step = let (vs, run, one) = h.slots m.slot in
    (one.used m p (mark_in a.ps x m (in_middle before rest a.ps x parts) is) refl step).1

-- the records before a line have one run for each slot, which ends at its word
pub front_slots : (a : Parts) (before rest : List Played) → IsFiled a → a.ps ≡ before ++ rest → Slots (marks_of before)
front_slots a before rest h parts = slots_of_runs (marks_of before) (λ s. word_after before s) (front_is a before rest h parts).runs

pub front_word : (a : Parts) (before rest : List Played) (s : SlotName) → IsFiled a → a.ps ≡ before ++ rest →
    HasWord before s (word_after before s)
front_word a before rest s h parts =
    let runs = (front_is a before rest h parts).runs in
    let (vs, path, found) = runs.path s in
    let ends = runs_end (marks_of before) (λ z. word_after before z) s runs in (
      vs,
      run_of_path (marks_of before) s 0 vs (word_after before s) ends path,
      path_ends (marks_of before) s 0 vs (word_after before s) path,
    )

-- one record more: a slot that it doesn't name keeps its word, and one that it names has the next
pub word_same : (before : List Played) (x : Played) (s : SlotName) → mark_of x ≡ None →
    word_after (before ++ x ∷ []) s ≡ word_after before s
word_same before x s none =
    ap (λ ms. word_from ms s 0) (filter_map-append mark_of before (x ∷ []) ∙ ap (λ ys. marks_of before ++ ys) (mark_none x [] none) ∙
    append-nil (marks_of before))

marks_more : (before : List Played) (x : Played) (m : Mark) → mark_of x ≡ Some m → marks_of (before ++ x ∷ []) ≡ marks_of before ++ m ∷ []
marks_more before x m is = filter_map-append mark_of before (x ∷ []) ∙ ap (λ ys. marks_of before ++ ys) (mark_first x [] m is)

pub word_other : (before : List Played) (x : Played) (m : Mark) (s : SlotName) → mark_of x ≡ Some m → (m.slot ≡ s → ⊥) →
    word_after (before ++ x ∷ []) s ≡ word_after before s
word_other before x m s is other = ap (λ ms. word_from ms s 0) (marks_more before x m is) ∙ word_beside (marks_of before) m s other

pub word_here : (before : List Played) (x : Played) (m : Mark) → mark_of x ≡ Some m →
    word_after (before ++ x ∷ []) m.slot ≡ stepped_by m.step (word_after before m.slot)
word_here before x m is = ap (λ ms. word_from ms m.slot 0) (marks_more before x m is) ∙ word_at (marks_of before) m

-- if a slot has a first holder at a number, the word that a record finds with that number is free
pub held_free : (a : Parts) (s : SlotName) (k : ℕ) (holder : Holder) (n : Mark) → IsFiled a → IsFirstHolder a.ps s k holder →
    Contains (marks_of a.ps) n → n.slot ≡ s → number_of n.found ≡ k →
    (held_of n.found ≡ 0) × (refs_of n.found ≡ 0)
held_free a s k holder n h first among slot number =
    let (vs, run, one) = h.slots s in
    let there = one.found n among slot in
    elim first [
      | inl (zero_first, in_root) ↦
          let zero_number : number_of 0 ≡ 0 = omega arith in
          let is : n.found ≡ 0 = same_word (marks_of a.ps) s 0 vs n.found 0 run there (first_in 0 vs) (omega arith) in
          (ap held_of is, ap refs_of is)
      | inr (x, (member, m, p, mark, of, step, returning, up), with_thread) ↦
          let (at, can) = one.used m p (mark_in a.ps x m member mark) of step in
          let found = one.found m (mark_in a.ps x m member mark) of in
          let next = goes_on (marks_of a.ps) s 0 vs m.found m p (marks_rise a.ps h.rising) run found at can in
          let more = number_stepped p m.found can in
          let is : n.found ≡ stepped p m.found =
          same_word (marks_of a.ps) s 0 vs n.found (stepped p m.found) run there next (omega arith) in
          let (free, none) = leaves_free p m.found can returning in
          (ap held_of is ∙ free, ap refs_of is ∙ none)
    ]
