-- The issues and the frees of the slots, each by its slot and the number that it found.
use Rattle.std.specs.Prelude.{◌≡◌, ℕ, ◌<◌, ◌≤◌, List, Option, Some, None, Contains}
use Rattle.pa_slot.specs.declared.word.SlotName.{SlotName}
use Rattle.pa_slot.specs.declared.word.Step.{Step}
use Rattle.pa_slot.specs.declared.word.Step.TheVariants as steps
use Rattle.pa_slot.specs.Count.{number_of}
use Rattle.pa_slot.specs.Run.{Mark, IsQuarantined}
use Rattle.pa_record.specs.declared.entry.Seen.{Seen}
use Rattle.pa_record.specs.declared.entry.Answer.{Answer}
use Rattle.pa_record.specs.declared.entry.Answer.TheVariants.{Made, Done, Value, Dangling, SecondFree, NotOwner, StaleUse, Shared}
use Rattle.pa_rules.specs.declared.played.Played.{Played}
use Rattle.pa_rules.specs.Played.{mark_of}
use Rattle.pa_rules.specs.RecordDemands.{IsRecord}
use Rattle.pa_audit_records.specs.Keys.{word_key}
use Rattle.pa_dangle.specs.declared.numbers.Kind.{Kind}
use Rattle.pa_dangle.specs.declared.numbers.Kind.TheVariants.{Issued, Freed}

-- the step of a kind: an issue or a free
abbrev pub step_of_kind : Kind → Step
step_of_kind Issued = steps.Issue
step_of_kind Freed = steps.Free

-- what an answer reports that its op saw of a slot
abbrev pub seen_by_answer : Answer → Option Seen
seen_by_answer (Made seen usable) = Some seen
seen_by_answer (Done seen) = Some seen
seen_by_answer (Value seen value) = Some seen
seen_by_answer (Dangling seen value) = Some seen
seen_by_answer (SecondFree seen) = seen
seen_by_answer (NotOwner seen) = Some seen
seen_by_answer (StaleUse seen) = seen
seen_by_answer (Shared seen) = Some seen
seen_by_answer answer = None

-- the record's mark is of what it saw
pub record IsMarkSeen (x : Played) (seen : Seen) (m : Mark) : Type 0 where
  pub mark : mark_of x ≡ Some m
  pub slot : m.slot ≡ seen.slot
  pub found : m.found ≡ seen.found.0

-- the table has the steps of the kind that the records before index k made, each by its slot and number
pub record AreStepsOf (kind : Kind) (ps : List Played) (at : ℕ → Option ℕ) (k : ℕ) : Type 0 where
  pub hit : (q i : ℕ) → at q ≡ Some i → (x : Played) × (m : Mark) × (i < k) × IsRecord ps i x × (mark_of x ≡ Some m)
      × (m.step ≡ Some (step_of_kind kind)) × (m.slot.start < 4294967296) × (number_of m.found < 18446744073709551616)
      × (word_key m.slot (number_of m.found) ≡ q)
  pub whole : (i : ℕ) (x : Played) (m : Mark) → i < k → IsRecord ps i x → mark_of x ≡ Some m → m.step ≡ Some (step_of_kind kind)
      → (m.slot.start < 4294967296) × (number_of m.found < 18446744073709551616)
      × ((j : ℕ) × (at (word_key m.slot (number_of m.found)) ≡ Some j))

-- m is the last step of the kind of the slot below a number: it is on this line and found this number
pub record IsLastStep (kind : Kind) (ms : List Mark) (s : SlotName) (high n k : ℕ) (m : Mark) : Type 0 where
  pub among : Contains ms m
  pub slot : m.slot ≡ s
  pub step : m.step ≡ Some (step_of_kind kind)
  pub line : m.line ≡ n
  pub number : number_of m.found ≡ k
  pub below : k < high
  pub last : (j : Mark) → Contains ms j → j.slot ≡ s → j.step ≡ Some (step_of_kind kind) → number_of j.found < high → number_of j.found ≤ k

-- no step of the kind of the slot is below the number
abbrev pub NoStepBelow : Kind → List Mark → SlotName → ℕ → Type 0
NoStepBelow kind ms s below =
    (j : Mark) → Contains ms j → j.slot ≡ s → j.step ≡ Some (step_of_kind kind) → number_of j.found < below → ⊥

-- the record found that slot and word as it used a slot in quarantine
abbrev pub SawUse : Played → Seen → Type 0
SawUse x seen = ((m : Mark) × IsMarkSeen x seen m) × IsQuarantined seen.found.0
