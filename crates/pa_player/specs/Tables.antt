-- The tables of the player: the slots that ever left a root, what is reported so far, and the tallies.
use Rattle.std.specs.Prelude.{◌≡◌, ℕ, ◌+◌, ◌*◌, ◌<◌, ◌⊎◌, List, [], ◌∷◌, ◌++◌, length, slice_index_or, Option, Some, None}
use Rattle.pa_slot.specs.declared.title.Title.{Title}
use Rattle.pa_slot.specs.declared.word.SlotName.{SlotName}
use Rattle.pa_record.specs.Spans.{name_of}
use Rattle.pa_record.specs.declared.history.Held.{Held}
use Rattle.pa_record.specs.declared.history.Held.TheVariants as held
use Rattle.pa_rules.specs.Nexts.{HasSomeHandle}
use Rattle.pa_rules.specs.declared.register.Register.{Register}
use Rattle.pa_rules.specs.declared.register.Register.TheVariants.{Empty, Own, Ref, Freed, Cleared}
use Rattle.pa_player.specs.declared.table.Slot.{Slot}

-- the slot past the end of the table: no bytes, no class
abbrev pub no_slot : Slot
no_slot = record { title = record { start = 0; len = 0; born = 0 }; partition = 0; class = None; word = record { 0 = 0 }; content = 0 }

-- a slot that was never issued
abbrev pub new_slot : Title → ℕ → Option ℕ → Slot
new_slot title partition class = record { title = title; partition = partition; class = class; word = record { 0 = 0 }; content = 0 }

-- the slot at an index of the table, and past its end a slot of no bytes
abbrev pub slot_at : List Slot → ℕ → Slot
slot_at slots i = slice_index_or slots i no_slot

-- the name of the slot at an index
abbrev pub named_at : List Slot → ℕ → SlotName
named_at slots i = name_of (slot_at slots i).title

-- a slot's name as one number
abbrev pub key_of : SlotName → ℕ
key_of s = s.start + 4294967296 * s.born

-- By its name each slot is found: the key of an index leads to it, and each key to an index of that key.
pub record IsHomed (slots : List Slot) (home : ℕ → Option ℕ) : Type 0 where
  pub leads : (i : ℕ) → i < length slots → home (key_of (named_at slots i)) ≡ Some i
  pub only : (k i : ℕ) → home k ≡ Some i → (i < length slots) × (key_of (named_at slots i) ≡ k)
  pub low : (i : ℕ) → i < length slots → (named_at slots i).start < 4294967296

-- no two indices have slots of one name
abbrev pub AreNamed : List Slot → Type 0
AreNamed slots = (i j : ℕ) → i < length slots → j < length slots → named_at slots i ≡ named_at slots j → i ≡ j

-- no slot has the name
abbrev pub NoneNamed : List Slot → SlotName → Type 0
NoneNamed slots s = (i : ℕ) → i < length slots → named_at slots i ≡ s → ⊥

-- the index of a slot in the table, to which it is appended if no slot of its name is there
abbrev pub IsHome : List Slot → List Slot → Slot → ℕ → Type 0
IsHome before after new place =
    ((after ≡ before) × (place < length before) × (named_at before place ≡ name_of new.title))
    ⊎ ((after ≡ before ++ new ∷ []) × (place ≡ length before) × NoneNamed before (name_of new.title))

-- the title and the partition of the slot of an owner, and none of any other handle
abbrev pub title_owned : List Slot → Register ℕ → Option (Title × ℕ)
title_owned slots Empty = None
title_owned slots (Own place) = Some ((slot_at slots place).title, (slot_at slots place).partition)
title_owned slots (Ref place) = None
title_owned slots Freed = None
title_owned slots Cleared = None

-- how a handle is reported
abbrev pub held_of : List Slot → Register ℕ → Held
held_of slots Empty = held.Nothing
held_of slots (Own place) = held.Own (named_at slots place)
held_of slots (Ref place) = held.Ref (named_at slots place)
held_of slots Freed = held.Nothing
held_of slots Cleared = held.Nothing

-- the index of the handle's slot, if it has one, is below `n`
abbrev pub IsIn : ℕ → Register ℕ → Type 0
IsIn n Empty = Unit {0}
IsIn n (Own place) = place < n
IsIn n (Ref place) = place < n
IsIn n Freed = Unit {0}
IsIn n Cleared = Unit {0}

-- the handle is of the slot at this index
abbrev pub Points : Register ℕ → ℕ → Type 0
Points Empty i = ⊥
Points (Own place) i = place ≡ i
Points (Ref place) i = place ≡ i
Points Freed i = ⊥
Points Cleared i = ⊥

-- the register has no handle: it is empty, freed or cleared
abbrev pub HasNone : Register ℕ → Type 0
HasNone r = ¬ HasSomeHandle r

-- the handle that a register has, or none
abbrev pub handle_in : Register ℕ → Register ℕ
handle_in Empty = Empty
handle_in (Own place) = Own place
handle_in (Ref place) = Ref place
handle_in Freed = Empty
handle_in Cleared = Empty
