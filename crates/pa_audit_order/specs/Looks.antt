-- What a record reports of a slot, by step numbers alone.
use Rattle.std.specs.Prelude.{◌≡◌, ℕ, ◌<◌, ◌≤◌, ◌⊎◌, Bool, true, List, Option, Some, None, slice_get}
use Rattle.pa_slot.specs.Count.{number_of}
use Rattle.pa_slot.specs.Run.{Mark}
use Rattle.pa_rules.specs.declared.played.Played.{Played}
use Rattle.pa_rules.specs.Played.{mark_of}
use Rattle.pa_rules.specs.RecordDemands.{IsRecord}
use Rattle.pa_rules.specs.Seen.{left_number}
use Rattle.pa_audit_records.specs.Keys.{word_key}
use Rattle.pa_audit_order.specs.declared.looks.Look.{Look}

-- a mark by the numbers that it found and left
abbrev pub look_by : Mark → Look
look_by m = record { slot = m.slot; found = number_of m.found; left = left_number m }

-- index i of the list is marked
abbrev pub IsMarked : List Bool → ℕ → Type 0
IsMarked marked i = slice_get marked i ≡ Some true

-- the value at k is v or the greater number that was there, and the other keys have what they had
pub record Raises (f g : ℕ → Option ℕ) (k v : ℕ) : Type 0 where
  pub number : ℕ
  pub here : g k ≡ Some number
  pub most : v ≤ number
  pub one : (number ≡ v) ⊎ (f k ≡ Some number)
  pub kept : (n : ℕ) → f k ≡ Some n → n ≤ number
  pub other : (q : ℕ) → (q ≡ k → ⊥) → g q ≡ f q

-- the table has for each slot the greatest number that a marked record left there
pub record AreLeft (ps : List Played) (marked : List Bool) (at : ℕ → Option ℕ) : Type 0 where
  pub hit : (q n : ℕ) → at q ≡ Some n
      → (i : ℕ) × (x : Played) × (m : Mark) × IsMarked marked i × IsRecord ps i x × (mark_of x ≡ Some m) × (m.slot.start < 4294967296)
      × (word_key m.slot 0 ≡ q) × (left_number m ≡ n)
  pub whole : (i : ℕ) (x : Played) (m : Mark) → IsMarked marked i → IsRecord ps i x → mark_of x ≡ Some m
      → (m.slot.start < 4294967296) × (n : ℕ) × (at (word_key m.slot 0) ≡ Some n) × (left_number m ≤ n)

-- what a record reports finds no lower number of its slot than the table has
abbrev pub FindsEnough : (ℕ → Option ℕ) → Option Mark → Type 0
FindsEnough at None = Unit {0}
FindsEnough at (Some m) = (n : ℕ) → at (word_key m.slot 0) ≡ Some n → n ≤ number_of m.found

-- no record finds a lower number of its slot than one above it left
abbrev pub NumbersRise : List Played → Type 0
NumbersRise ps =
    (i j : ℕ) (x y : Played) (m n : Mark) → i < j → IsRecord ps i x → IsRecord ps j y → mark_of x ≡ Some m → mark_of y ≡ Some n
    → m.slot ≡ n.slot → left_number m ≤ number_of n.found
