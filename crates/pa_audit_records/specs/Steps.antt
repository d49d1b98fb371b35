-- The tables of the steps that were made, and of the words that the slots' runs reach.
use Rattle.std.specs.Prelude.{◌≡◌, ℕ, ◌≤◌, List, ◌∷◌, Option, Some, None, IsSome, Contains}
use Rattle.pa_slot.specs.declared.word.SlotName.{SlotName}
use Rattle.pa_slot.specs.declared.word.Step.{Step}
use Rattle.pa_slot.specs.Count.{CanStep, stepped}
use Rattle.pa_slot.specs.Run.{Mark, IsFirstAt, IsRunFrom}
use Rattle.pa_rules.specs.declared.played.Played.{Played}
use Rattle.pa_rules.specs.Played.{mark_of, marks_of}
use Rattle.pa_rules.specs.RecordDemands.{IsRecord}
use Rattle.pa_audit_records.specs.Keys.{word_key}
use Rattle.pa_audit_records.specs.Marks.{IsSized}

-- the record made a step of a slot at a word of this number
abbrev pub IsStepOf : Played → ℕ → Type 0
IsStepOf x q = (m : Mark) × (mark_of x ≡ Some m) × IsSome m.step × (word_key m.slot m.found ≡ q)

-- record i made a step of a slot at a word of this number
abbrev pub IsStepAt : List Played → ℕ → ℕ → Type 0
IsStepAt ps i q = (x : Played) × IsRecord ps i x × IsStepOf x q

-- the name and the word that a record reports have the bits of their types
abbrev pub IsSizedMark : Played → Type 0
IsSizedMark x = (m : Mark) → mark_of x ≡ Some m → IsSized m.slot m.found

-- The table has the first record from k on that made a step at each number, and nothing if none did. From k on,
-- each name and word has the bits of its type.
pub record AreFirstsFrom (ps : List Played) (at : ℕ → Option ℕ) (k : ℕ) : Type 0 where
  pub hit : (q i : ℕ) → at q ≡ Some i → (k ≤ i) × IsStepAt ps i q × ((j : ℕ) → k ≤ j → IsStepAt ps j q → i ≤ j)
  pub miss : (q j : ℕ) → at q ≡ None → k ≤ j → IsStepAt ps j q → ⊥
  pub sized : (i : ℕ) (x : Played) → k ≤ i → IsRecord ps i x → IsSizedMark x

-- the table has the first of all records that made a step at each number
abbrev pub AreFirsts : List Played → (ℕ → Option ℕ) → Type 0
AreFirsts ps at = AreFirstsFrom ps at 0

-- v is the word after w in the slot's run, by the first step that was made there
abbrev pub IsNextWord : List Played → SlotName → ℕ → ℕ → Type 0
IsNextWord ps s w v = (m : Mark) × (p : Step) × IsFirstAt (marks_of ps) s w m p × CanStep p w × (v ≡ stepped p w)

-- no step leads on from the word in the slot's run
abbrev pub IsLastWord : List Played → SlotName → ℕ → Type 0
IsLastWord ps s w = (m : Mark) (p : Step) → IsFirstAt (marks_of ps) s w m p → CanStep p w → ⊥

-- the table has just the words of the slot's run
abbrev pub HasRunOf : List Played → (ℕ → Option ℕ) → SlotName → Type 0
HasRunOf ps at s =
    (vs : List ℕ) × IsRunFrom (marks_of ps) s 0 vs
    × ((w : ℕ) → IsSized s w → IsSome (at (word_key s w)) → Contains (0 ∷ vs) w)
    × ((w : ℕ) → IsSized s w → Contains (0 ∷ vs) w → IsSome (at (word_key s w)))

-- the table has the runs of some slots, whole
abbrev pub AreReached : List Played → (ℕ → Option ℕ) → Type 0
AreReached ps at = (s : SlotName) (w : ℕ) → IsSized s w → IsSome (at (word_key s w)) → HasRunOf ps at s

-- the table has the first word of each slot that a record reports
abbrev pub HasAllSlots : List Played → (ℕ → Option ℕ) → Type 0
HasAllSlots ps at = (i : ℕ) (x : Played) (m : Mark) → IsRecord ps i x → mark_of x ≡ Some m → IsSome (at (word_key m.slot 0))

-- the step of record i, if it made one, is the first at its word and enabled there
abbrev pub StepFits : (ℕ → Option ℕ) → ℕ → Mark → Option Step → Type 0
StepFits firsts i m None = Unit {0}
StepFits firsts i m (Some p) = (firsts (word_key m.slot m.found) ≡ Some i) × CanStep p m.found

-- the word that record i found is one of its slot's run, and its step fits
abbrev pub MarkFits : (ℕ → Option ℕ) → (ℕ → Option ℕ) → ℕ → Option Mark → Type 0
MarkFits firsts reached i None = Unit {0}
MarkFits firsts reached i (Some m) = IsSome (reached (word_key m.slot m.found)) × StepFits firsts i m m.step
