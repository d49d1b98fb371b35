-- A log segment has the step or the look of its record's mark, and no other step.
use Rattle.std.proofs.Common.{◌≡◌, ℕ, ◌+◌, ◌<◌, Bool, List, [], ◌∷◌, ◌++◌, Option, Some, None, refl, sym, ◌∙◌, ap, subst, inl, inr}
use Rattle.std.specs.Prelude.{Contains}
use Rattle.std.proofs.lemmas.List.Elements.{Contains-append_right, Contains-append_cases}
use Rattle.pa_slot.specs.declared.title.Title.{Title}
use Rattle.pa_slot.specs.declared.word.SlotName.{SlotName}
use Rattle.pa_slot.specs.declared.word.Step.{Step}
use Rattle.pa_slot.specs.declared.word.Step.TheVariants as steps
use Rattle.pa_slot.specs.Count.{held_of, refs_of}
use Rattle.pa_slot.specs.Run.{Mark}
use Rattle.pa_region.specs.declared.view.Entry.{Entry}
use Rattle.pa_region.specs.declared.view.Entry.TheVariants.{Counted, Looked, Read}
use Rattle.pa_trace.specs.declared.script.Op.{Op}
use Rattle.pa_record.specs.declared.entry.Seen.{Seen}
use Rattle.pa_record.specs.declared.entry.Answer.{Answer}
use Rattle.pa_record.specs.declared.entry.Answer.TheVariants as answers
use Rattle.pa_lists.proofs.Members.{not_in_none, first_in, in_cases, of_some, not_some}
use Rattle.pa_lists.proofs.Joined.{filter_cases, filter_in}
use Rattle.pa_rules.specs.Played.{step_of, mark_of_answer, mark_at, look_at}
use Rattle.pa_logs.specs.Touches.{title_of, is_touch, touches, AreLooks, StepMade, value_by, done_step, step_in, IsStepTold, IsLookTold, IsReadTold, IsDoneTold, IsSeenTold, ReadsTold, IsToldBy, TellsItsMark}

-- what touches says of the log segment
touched_in : (es : List Entry) (e : Entry) → Contains (touches es) e → Contains es e
touched_in es e among = (filter_cases is_touch es e among).0

step_touched : (es : List Entry) (t : Title) (step : Step) (found value : ℕ) → Contains es (Counted t step found value) →
    Contains (touches es) (Counted t step found value)
step_touched es t step found value among = filter_in is_touch es (Counted t step found value) among refl

-- looks have no step
looks_none : (t u : Title) (looks : List Entry) (step : Step) (found value : ℕ) → AreLooks t looks →
    Contains looks (Counted u step found value) → ⊥
looks_none t u [] step found value are among = not_in_none _ among
looks_none t u (e ∷ es) step found value are among = elim (in_cases e _ es among) [
  | inl same ↦ let is = are.0.1 in cc
  | inr rest ↦ looks_none t u es step found value are.1 rest
]

-- the step that is recorded is there, and no other
step_there : (t : Title) (step : Step) (found value : ℕ) (es : List Entry) → IsStepTold t step found value es →
    Contains es (Counted t step found value)
step_there t step found value es told =
    touched_in es (Counted t step found value)
    (rw told.2 (Contains-append_right told.0 (Counted t step found value ∷ []) (Counted t step found value)
    (first_in (Counted t step found value) [])))

step_alone : (t u : Title) (step p : Step) (found value w v : ℕ) (es : List Entry) → IsStepTold t step found value es →
    Contains es (Counted u p w v) →
    Counted u p w v ≡ Counted t step found value
step_alone t u step p found value w v es told among =
    let there : Contains (told.0 ++ Counted t step found value ∷ []) (Counted u p w v) =
    subst (λ xs. Contains xs (Counted u p w v)) told.2 (step_touched es u p w v among) in
    elim (Contains-append_cases told.0 (Counted t step found value ∷ []) (Counted u p w v) there) [
      | inl look ↦ absurd (looks_none t u told.0 p w v told.1 look)
      | inr last ↦ elim (in_cases (Counted t step found value) (Counted u p w v) [] last)
          [ inl e ↦ sym e | inr none ↦ absurd (not_in_none _ none) ]
    ]

-- a look is there, and no step is
look_there : (t : Title) (found : ℕ) (es : List Entry) → IsLookTold t found es → Contains es (Looked t found)
look_there t found es told = touched_in es (Looked t found) (rw told.0 (first_in (Looked t found) []))

none_there : (es xs : List Entry) (u : Title) (p : Step) (w v : ℕ) → touches es ≡ xs → (Contains xs (Counted u p w v) → ⊥) →
    Contains es (Counted u p w v) → ⊥
none_there es xs u p w v is none among = none (subst (λ ys. Contains ys (Counted u p w v)) is (step_touched es u p w v among))

look_alone : (t u : Title) (found : ℕ) (es : List Entry) (p : Step) (w v : ℕ) → IsLookTold t found es → Contains es (Counted u p w v) → ⊥
look_alone t u found es p w v told among =
    none_there es (Looked t found ∷ []) u p w v told.0 (λ h. looks_none t u (Looked t found ∷ []) p w v ((found, refl), tt) h) among

nothing_there : (u : Title) (es : List Entry) (p : Step) (w v : ℕ) → touches es ≡ [] → Contains es (Counted u p w v) → ⊥
nothing_there u es p w v is among = none_there es [] u p w v is (λ h. not_in_none _ h) among

-- a log segment with a read has the look before it
read_look : (t : Title) (place found value : ℕ) (owned : Bool) (es : List Entry) → IsReadTold t place found value owned es →
    Contains es (Looked t found)
read_look t place found value owned es told =
    rw told.pair (first_in (Looked t found) (Read t place value told.since owned told.unclean ∷ told.rest))

read_alone : (t u : Title) (place found value : ℕ) (owned : Bool) (es : List Entry) (p : Step) (w v : ℕ) →
    IsReadTold t place found value owned es → Contains es (Counted u p w v) → ⊥
read_alone t u place found value owned es p w v told among =
    let r = Read t place value told.since owned told.unclean in
    elim (in_cases (Looked t found) (Counted u p w v) (r ∷ told.rest) (subst (λ xs. Contains xs (Counted u p w v)) told.pair among)) [
      | inl e ↦ absurd cc
      | inr rest ↦ elim (in_cases r (Counted u p w v) told.rest rest)
          [ inl e ↦ absurd cc | inr later ↦ nothing_there u told.rest p w v told.none later ]
    ]

-- the parts of what a log segment says of a mark, by op, answer and line
pub record Tells (sizes : SlotName → ℕ) (line : ℕ) (op : Op) (a : Answer) (es : List Entry) : Type 0 where
  pub has_step : (d : StepMade) → step_in op a ≡ Some d → Contains es (Counted (title_of sizes d.slot) d.step d.found d.value)
  pub has_look : (m : Mark) → mark_of_answer line op a ≡ Some m → m.step ≡ None → Contains es (Looked (title_of sizes m.slot) m.found) ×
      (0 < held_of m.found + refs_of m.found)
  pub step_is : (t : Title) (step : Step) (found value : ℕ) → Contains es (Counted t step found value)
      → (d : StepMade) × (step_in op a ≡ Some d) × (Counted t step found value ≡ Counted (title_of sizes d.slot) d.step d.found d.value)

some_none : (p : Step) → Some p ≡ None → ⊥
some_none p e = cc

-- a step
tells_step : (sizes : SlotName → ℕ) (line : ℕ) (op : Op) (a : Answer) (es : List Entry) (d : StepMade) → step_in op a ≡ Some d →
    ((m : Mark) → mark_of_answer line op a ≡ Some m → m.step ≡ None → ⊥) → IsStepTold (title_of sizes d.slot) d.step d.found d.value es →
    Tells sizes line op a es
tells_step sizes line op a es d is no_look told = record {
  has_step = λ e other.
      subst (λ (x : StepMade). Contains es (Counted (title_of sizes x.slot) x.step x.found x.value)) (of_some d e (sym is ∙ other))
      (step_there _ d.step d.found d.value es told);
  has_look = λ m marked none. absurd (no_look m marked none);
  step_is = λ t step found value among. (d, is, step_alone (title_of sizes d.slot) t d.step step d.found d.value found value es told among);
}

-- a look
tells_look : (sizes : SlotName → ℕ) (line : ℕ) (op : Op) (a : Answer) (es : List Entry) (seen : Seen) → step_in op a ≡ None →
    mark_of_answer line op a ≡ Some (mark_at line seen None) →
    Contains es (Looked (title_of sizes seen.slot) seen.found.0) → 0 < held_of seen.found.0 + refs_of seen.found.0 →
    ((t : Title) (p : Step) (w v : ℕ) → Contains es (Counted t p w v) → ⊥) → Tells sizes line op a es
tells_look sizes line op a es seen none is there used alone = record {
  has_step = λ d e. absurd (not_some d (sym none ∙ e));
  has_look = λ m marked no_step.
      subst (λ (x : Mark). Contains es (Looked (title_of sizes x.slot) x.found) × (0 < held_of x.found + refs_of x.found))
      (of_some (mark_at line seen None) m (sym is ∙ marked)) (there, used);
  step_is = λ t step found value among. absurd (alone t step found value among);
}

-- nothing
tells_none : (sizes : SlotName → ℕ) (line : ℕ) (op : Op) (a : Answer) (es : List Entry) → step_in op a ≡ None →
    mark_of_answer line op a ≡ None → touches es ≡ [] → Tells sizes line op a es
tells_none sizes line op a es none no_mark nothing = record {
  has_step = λ d e. absurd (not_some d (sym none ∙ e));
  has_look = λ m marked no_step. absurd (not_some m (sym no_mark ∙ marked));
  step_is = λ t step found value among. absurd (nothing_there t es step found value nothing among);
}

tells_done : (sizes : SlotName → ℕ) (line : ℕ) (op : Op) (seen : Seen) (es : List Entry) (o : Option Step) → step_of op ≡ o
    → IsDoneTold sizes o (value_by op) seen es → Tells sizes line op (answers.Done seen) es
tells_done sizes line op seen es None e told = absurd told
tells_done sizes line op seen es (Some p) e told =
    tells_step sizes line op (answers.Done seen) es (record { slot = seen.slot; step = p; found = seen.found.0; value = value_by op })
    (ap (λ o. done_step o (value_by op) seen) e)
    (λ m marked none. some_none p (sym e ∙ (ap (λ (x : Mark). x.step) (of_some (mark_at line seen (step_of op)) m marked) ∙ none)))
    told

tells_seen : (sizes : SlotName → ℕ) (line : ℕ) (op : Op) (a : Answer) (es : List Entry) (o : Option Seen) → step_in op a ≡ None
    → mark_of_answer line op a ≡ look_at line o → IsSeenTold sizes o es → Tells sizes line op a es
tells_seen sizes line op a es None none is told = tells_none sizes line op a es none is told
tells_seen sizes line op a es (Some seen) none is told =
    tells_look sizes line op a es seen none is (look_there _ seen.found.0 es told) told.1
    (λ t p w v among. look_alone (title_of sizes seen.slot) t seen.found.0 es p w v told among)

tells_read : (sizes : SlotName → ℕ) (line : ℕ) (op : Op) (a : Answer) (es : List Entry) (seen : Seen) (value : ℕ) → step_in op a ≡ None →
    mark_of_answer line op a ≡ Some (mark_at line seen None) →
    ReadsTold sizes op seen value es → Tells sizes line op a es
tells_read sizes line op a es seen value none is (reg, place, owned, reads, told) =
    tells_look sizes line op a es seen none is (read_look _ place seen.found.0 value owned es told) told.in_use
    (λ t p w v among. read_alone (title_of sizes seen.slot) t place seen.found.0 value owned es p w v told among)

tells_by : (sizes : SlotName → ℕ) (line : ℕ) (op : Op) (a : Answer) (es : List Entry) → IsToldBy sizes op a es → Tells sizes line op a es
tells_by sizes line op (answers.Made seen usable) es told =
    tells_step sizes line op (answers.Made seen usable) es _ refl
    (λ m marked none. some_none steps.Issue (ap (λ (x : Mark). x.step) (of_some _ m marked) ∙ none)) told.0
tells_by sizes line op (answers.Done seen) es told = tells_done sizes line op seen es (step_of op) refl told
tells_by sizes line op (answers.Value seen value) es told =
    tells_read sizes line op (answers.Value seen value) es seen value refl refl told.1
tells_by sizes line op (answers.Dangling seen value) es told =
    tells_read sizes line op (answers.Dangling seen value) es seen value refl refl told.1
tells_by sizes line op (answers.SecondFree seen) es told = tells_seen sizes line op (answers.SecondFree seen) es seen refl refl told
tells_by sizes line op (answers.NotOwner seen) es told = tells_seen sizes line op (answers.NotOwner seen) es (Some seen) refl refl told
tells_by sizes line op (answers.StaleUse seen) es told = tells_seen sizes line op (answers.StaleUse seen) es seen refl refl told
tells_by sizes line op (answers.Shared seen) es told = tells_seen sizes line op (answers.Shared seen) es (Some seen) refl refl told
tells_by sizes line op answers.StaleReset es told = tells_none sizes line op answers.StaleReset es refl refl told
tells_by sizes line op answers.Nothing es told = tells_none sizes line op answers.Nothing es refl refl told
tells_by sizes line op answers.Filled es told = tells_none sizes line op answers.Filled es refl refl told
tells_by sizes line op answers.NotRef es told = tells_none sizes line op answers.NotRef es refl refl told
tells_by sizes line op answers.OutOfRange es told = tells_none sizes line op answers.OutOfRange es refl refl told
tells_by sizes line op answers.TooLarge es told = tells_none sizes line op answers.TooLarge es refl refl told
tells_by sizes line op (answers.Full entry) es told = tells_none sizes line op (answers.Full entry) es refl refl told
tells_by sizes line op (answers.Swapped entry) es told = tells_none sizes line op (answers.Swapped entry) es refl refl told
tells_by sizes line op (answers.Purged slots) es told = tells_none sizes line op (answers.Purged slots) es refl refl told
tells_by sizes line op answers.Uncounted es told = tells_none sizes line op answers.Uncounted es refl refl told

pub tells_its_mark : TellsItsMark
tells_its_mark sizes x told =
    let all = tells_by sizes x.played.line x.played.op x.played.answer x.stretch told in
    record { has_step = all.has_step; has_look = all.has_look; step_is = all.step_is }
