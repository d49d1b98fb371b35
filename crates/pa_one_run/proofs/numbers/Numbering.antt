-- What a record that steps on a slot says of the slot's number and word, and one that doesn't.
use Rattle.std.proofs.Common.{◌≡◌, ℕ, ◌+◌, ◌<◌, true, false, List, [], ◌∷◌, ◌++◌, Option, Some, None, refl, sym, ◌∙◌, ap, subst, arith, inl, inr}
use Rattle.std.proofs.lemmas.Bool.{true≢false}
use Rattle.pa_slot.specs.declared.word.SlotName.{SlotName}
use Rattle.pa_slot.specs.declared.word.Step.{Step}
use Rattle.pa_slot.specs.declared.word.Step.TheVariants.{Issue, Copy, Reset, Free, Write}
use Rattle.pa_slot.specs.Count.{CanStep, stepped, number_of, held_of, refs_of}
use Rattle.pa_slot.specs.Run.{Mark}
use Rattle.pa_slot.proofs.Runs.{same_slot_cases, number_stepped}
use Rattle.pa_rules.specs.declared.played.Played.{Played}
use Rattle.pa_rules.specs.Played.{mark_of}
use Rattle.pa_rules.specs.Flow.{busy, is_issue}
use Rattle.pa_rules.proofs.Running.{busy_some}
use Rattle.pa_rules.proofs.Phases.{mark_in}
use Rattle.pa_one_run.specs.Parts.{Parts}
use Rattle.pa_one_run.specs.Before.{stepped_by, word_after}
use Rattle.pa_one_run.proofs.Filed.{IsFiled}
use Rattle.pa_one_run.proofs.numbers.Away.{acts_before, unfree_away}
use Rattle.pa_one_run.proofs.numbers.Ways.{is_away}
use Rattle.pa_one_run.proofs.words.Found.{found_is, step_can, word_same, word_other, word_here}
use Rattle.pa_lists.proofs.Elements.{in_middle}

-- the number of a slot's word after some records
abbrev pub number_after : List Played → SlotName → ℕ
number_after before s = number_of (word_after before s)

-- x makes no step of the slot
abbrev pub IsApart : Played → SlotName → Type 0
IsApart x s = (m : Mark) → mark_of x ≡ Some m → m.slot ≡ s → m.step ≡ None

-- the record makes this step on slot s, with this mark
pub record StepsOn (x : Played) (s : SlotName) (m : Mark) (step : Step) : Type 0 where
  pub mark : mark_of x ≡ Some m
  pub slot : m.slot ≡ s
  pub steps : m.step ≡ Some step

apart_by : (before : List Played) (x : Played) (s : SlotName) (o : Option Mark) → mark_of x ≡ o → IsApart x s →
    word_after (before ++ x ∷ []) s ≡ word_after before s
apart_by before x s None is apart = word_same before x s is
apart_by before x s (Some m) is apart = elim (same_slot_cases m.slot s) [
  | inl same ↦
      let here : word_after (before ++ x ∷ []) m.slot ≡ word_after before m.slot = word_here before x m is ∙
      ap (λ o. stepped_by o (word_after before m.slot)) (apart m is same) in
      subst (λ z. word_after (before ++ x ∷ []) z ≡ word_after before z) same here
  | inr other ↦ word_other before x m s is other
]

pub apart_number : (before : List Played) (x : Played) (s : SlotName) → IsApart x s →
    number_after (before ++ x ∷ []) s ≡ number_after before s
apart_number before x s apart = ap number_of (apart_by before x s (mark_of x) refl apart)

-- a step other than an issue finds a word that isn't free
unfree : (step : Step) (w : ℕ) → is_issue (Some step) ≡ false → CanStep step w → 0 < held_of w + refs_of w
unfree Issue w none can = absurd (true≢false none)
unfree Copy w none can = can.0
unfree Reset w none can = let some = can.0 in omega arith
unfree Free w none can = let held = can.0 in omega arith
unfree Write w none can = let held = can.0.0 in omega arith

module _ (a : Parts) (before rest : List Played) (x : Played) (s : SlotName) (m : Mark) (step : Step) (h : IsFiled a)
    (parts : a.ps ≡ before ++ x ∷ rest) (on : StepsOn x s m step) where
  pub step_found : m.found ≡ word_after before s
  step_found = found_is a before rest x m h parts on.mark ∙ ap (word_after before) on.slot

  pub step_enabled : CanStep step m.found
  step_enabled = step_can a before rest x m step h parts on.mark on.steps

  pub step_word : word_after (before ++ x ∷ []) s ≡ stepped step m.found
  step_word =
      let here : word_after (before ++ x ∷ []) m.slot ≡ stepped_by m.step (word_after before m.slot) = word_here before x m on.mark in
      let next : stepped_by m.step (word_after before m.slot) ≡ stepped step (word_after before m.slot) =
      ap (λ o. stepped_by o (word_after before m.slot)) on.steps in
      let found : stepped step (word_after before m.slot) ≡ stepped step m.found =
      ap (stepped step) (sym (found_is a before rest x m h parts on.mark)) in
      ap (word_after (before ++ x ∷ [])) (sym on.slot) ∙ here ∙ next ∙ found

  pub step_number : number_after (before ++ x ∷ []) s ≡ number_after before s + 1
  step_number = ap number_of step_word ∙ number_stepped step m.found step_enabled ∙ ap (λ w. number_of w + 1) step_found

  pub step_busy : is_issue (Some step) ≡ false → busy (word_after before s) ≡ 1
  step_busy none = ap busy (sym step_found) ∙ busy_some m.found (unfree step m.found none step_enabled)

  pub step_away : (p : ℕ) → is_issue (Some step) ≡ false → is_away (acts_before a x.line p) s (number_after before s) ≡ true
  step_away p none =
      let some = unfree step m.found none step_enabled in
      let away = unfree_away a x.line p m h (mark_in a.ps x m (in_middle before rest a.ps x parts) on.mark) (λ (held, refs). omega arith) in
      subst (λ k. is_away (acts_before a x.line p) s k ≡ true) (ap number_of step_found)
      (subst (λ z. is_away (acts_before a x.line p) z (number_of m.found) ≡ true) on.slot away)
