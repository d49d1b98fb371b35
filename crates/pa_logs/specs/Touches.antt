-- What a log segment says of its record: the steps, the looks and the reads of its op.
use Rattle.std.specs.Prelude.{◌≡◌, ℕ, ◌+◌, ◌<◌, List, [], ◌∷◌, ◌++◌, filter, Bool, true, false, Option, Some, None, Contains}
use Rattle.pa_slot.specs.declared.title.Title.{Title}
use Rattle.pa_slot.specs.declared.word.SlotName.{SlotName}
use Rattle.pa_slot.specs.declared.word.Step.{Step}
use Rattle.pa_slot.specs.declared.word.Step.TheVariants as steps
use Rattle.pa_slot.specs.Count.{held_of, refs_of}
use Rattle.pa_slot.specs.Run.{Mark}
use Rattle.pa_region.specs.declared.view.Deeds.{Deeds}
use Rattle.pa_region.specs.declared.view.Entry.{Entry}
use Rattle.pa_region.specs.declared.view.Entry.TheVariants.{Counted, Looked, Read, Added, Entered, Uncut}
use Rattle.pa_region.specs.Waiting.{is_quiet}
use Rattle.pa_trace.specs.declared.script.Op.{Op}
use Rattle.pa_trace.specs.declared.script.Op.TheVariants as ops
use Rattle.pa_record.specs.declared.entry.Seen.{Seen}
use Rattle.pa_record.specs.declared.entry.Answer.{Answer}
use Rattle.pa_record.specs.declared.entry.Answer.TheVariants as answers
use Rattle.pa_rules.specs.declared.played.Played.{Played}
use Rattle.pa_rules.specs.Played.{step_of, mark_of}
use Rattle.pa_logs.specs.Told.{ToldRecord}

-- the title of a slot, by the length of each
abbrev pub title_of : (SlotName → ℕ) → SlotName → Title
title_of sizes s = record { start = s.start; len = sizes s; born = s.born }

-- the entry is a step, a look or a read of a title: no addition to a total,
-- no entry in a list, and no title that is uncut
abbrev pub is_touch : Entry → Bool
is_touch (Counted t step found value) = true
is_touch (Looked t found) = true
is_touch (Read t place value since owned unclean) = true
is_touch (Added word bytes) = false
is_touch (Entered keeper made) = false
is_touch (Uncut t) = false

-- the steps, looks and reads of a log segment
abbrev pub touches : List Entry → List Entry
touches es = filter is_touch es

-- looks at the title, whatever they found
abbrev pub AreLooks : Title → List Entry → Type 0
AreLooks t [] = Unit {0}
AreLooks t (e ∷ es) = ((found : ℕ) × (e ≡ Looked t found)) × AreLooks t es

-- a step that a record made: of a slot, with the word that it found and the value that it wrote, or 0 if it isn't a write
pub record StepMade : Type 0 where
  pub slot : SlotName
  pub step : Step
  pub found : ℕ
  pub value : ℕ

-- the value that an op writes
abbrev pub value_by : Op → ℕ
value_by (ops.Alloc reg partition size) = 0
value_by (ops.Copy from to) = 0
value_by (ops.Reset reg) = 0
value_by (ops.Free reg) = 0
value_by (ops.Write reg value) = value
value_by (ops.Read reg place) = 0
value_by (ops.Swap cell reg) = 0
value_by ops.Purge = 0

-- the step of an answer: `made` is an issue, and `done` is its op's step
abbrev pub done_step : Option Step → ℕ → Seen → Option StepMade
done_step None value seen = None
done_step (Some step) value seen = Some (record { slot = seen.slot; step = step; found = seen.found.0; value = value })

-- the step of an op with this answer: an issue if a slot was made, the op's own step if that was done, and else none
abbrev pub step_in : Op → Answer → Option StepMade
step_in op (answers.Made seen usable) = Some (record { slot = seen.slot; step = steps.Issue; found = seen.found.0; value = 0 })
step_in op (answers.Done seen) = done_step (step_of op) (value_by op) seen
step_in op answer = None

-- the step that a record made, if it made one
abbrev pub step_by : Played → Option StepMade
step_by x = step_in x.op x.answer

-- the log segment has this step, after looks that its record doesn't keep, and touches nothing else
abbrev pub IsStepTold : Title → Step → ℕ → ℕ → List Entry → Type 0
IsStepTold t step found value es = (looks : List Entry) × AreLooks t looks × (touches es ≡ looks ++ Counted t step found value ∷ [])

-- the log segment has a look at the title, which found a word in use, and touches nothing else
abbrev pub IsLookTold : Title → ℕ → List Entry → Type 0
IsLookTold t found es = (touches es ≡ Looked t found ∷ []) × (0 < held_of found + refs_of found)

-- The log segment is a look at the title and right after it a read of its content word number `place`, which gave this value. What
-- comes after them touches nothing: at a phase's end come additions to totals words. Between the two nothing was done,
-- and the reader had no unclean Own.
pub record IsReadTold (t : Title) (place found value : ℕ) (owned : Bool) (es : List Entry) : Type 0 where
  pub since : Deeds
  pub unclean : Bool
  pub rest : List Entry
  pub pair : es ≡ Looked t found ∷ Read t place value since owned unclean ∷ rest
  pub none : touches rest ≡ []
  pub quiet : is_quiet since ≡ true
  pub clean : unclean ≡ false
  pub in_use : 0 < held_of found + refs_of found

-- the op makes a step, and the log segment has this step on the slot that was seen
abbrev pub IsDoneTold : (SlotName → ℕ) → Option Step → ℕ → Seen → List Entry → Type 0
IsDoneTold sizes None value seen es = ⊥
IsDoneTold sizes (Some step) value seen es = IsStepTold (title_of sizes seen.slot) step seen.found.0 value es

-- If a slot was seen, the log segment has a look at it that found it in use, and touches nothing else.
-- If none was, it touches nothing.
abbrev pub IsSeenTold : (SlotName → ℕ) → Option Seen → List Entry → Type 0
IsSeenTold sizes None es = touches es ≡ []
IsSeenTold sizes (Some seen) es = IsLookTold (title_of sizes seen.slot) seen.found.0 es

-- the op is a read, and the log segment has a look at the slot and right after it the read of that place, which gave this value
abbrev pub ReadsTold : (SlotName → ℕ) → Op → Seen → ℕ → List Entry → Type 0
ReadsTold sizes op seen value es =
    (reg place : ℕ) × (owned : Bool) × (op ≡ ops.Read reg place)
    × IsReadTold (title_of sizes seen.slot) place seen.found.0 value owned es

-- What a log segment is, by the op and its answer. A slot that was made has its count word after the usable bytes.
abbrev pub IsToldBy : (SlotName → ℕ) → Op → Answer → List Entry → Type 0
IsToldBy sizes op (answers.Made seen usable) es =
    IsStepTold (title_of sizes seen.slot) steps.Issue seen.found.0 0 es × (usable + 8 ≡ sizes seen.slot)
IsToldBy sizes op (answers.Done seen) es = IsDoneTold sizes (step_of op) (value_by op) seen es
IsToldBy sizes op (answers.Value seen value) es = (held_of seen.found.0 ≡ 1) × ReadsTold sizes op seen value es
IsToldBy sizes op (answers.Dangling seen value) es = (held_of seen.found.0 ≡ 0) × ReadsTold sizes op seen value es
IsToldBy sizes op (answers.SecondFree seen) es = IsSeenTold sizes seen es
IsToldBy sizes op (answers.NotOwner seen) es = IsSeenTold sizes (Some seen) es
IsToldBy sizes op (answers.StaleUse seen) es = IsSeenTold sizes seen es
IsToldBy sizes op (answers.Shared seen) es = IsSeenTold sizes (Some seen) es
IsToldBy sizes op answer es = touches es ≡ []

-- each record's log segment is what its answer requires
abbrev pub IsTold : (SlotName → ℕ) → ToldRecord → Type 0
IsTold sizes x = IsToldBy sizes x.played.op x.played.answer x.stretch

-- the log segment of each of these records is what its answer requires
abbrev pub AreTold : (SlotName → ℕ) → List ToldRecord → Type 0
AreTold sizes ts = (x : ToldRecord) → Contains ts x → IsTold sizes x

-- A log segment says what its record's mark does.
--   has_step: it has the step that the record made
--   has_look: it has the look, if the record's mark is one, and that found a word in use
--   step_is: a counted step that it has is the one that the record made, of the slot's title
pub record TellsMark (sizes : SlotName → ℕ) (x : ToldRecord) : Type 0 where
  pub has_step : (d : StepMade) → step_by x.played ≡ Some d → Contains x.stretch (Counted (title_of sizes d.slot) d.step d.found d.value)
  pub has_look : (m : Mark) → mark_of x.played ≡ Some m → m.step ≡ None
      → Contains x.stretch (Looked (title_of sizes m.slot) m.found) × (0 < held_of m.found + refs_of m.found)
  pub step_is : (t : Title) (step : Step) (found value : ℕ) → Contains x.stretch (Counted t step found value)
      → (d : StepMade) × (step_by x.played ≡ Some d) × (Counted t step found value ≡ Counted (title_of sizes d.slot) d.step d.found d.value)

-- each log segment that is what its record's answer requires says what the record's mark does
abbrev pub TellsItsMark : Type 0
TellsItsMark = (sizes : SlotName → ℕ) (x : ToldRecord) → IsTold sizes x → TellsMark sizes x
