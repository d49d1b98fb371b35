-- What an op does by what its register holds alone, whatever a handle is; and the answers of ops that only look at a slot.
use Rattle.std.specs.Prelude.{ℕ, Bool, true, false, ◌==◌, if◌then◌else◌, Some, None, Result, Ok, Err}
use Rattle.pa_slot.specs.declared.word.SlotName.{SlotName}
use Rattle.pa_slot.specs.Count.{held_of}
use Rattle.pa_record.specs.declared.entry.Seen.{Seen}
use Rattle.pa_record.specs.declared.entry.Answer.{Answer}
use Rattle.pa_record.specs.declared.entry.Answer.TheVariants.{Value, Dangling, SecondFree, NotOwner, StaleReset, StaleUse, Nothing, NotRef}
use Rattle.pa_rules.specs.declared.register.Register.{Register}
use Rattle.pa_rules.specs.declared.register.Register.TheVariants.{Empty, Own, Ref, Freed, Cleared}
use Rattle.pa_rules.specs.declared.register.Next.{Next}
use Rattle.pa_rules.specs.declared.register.Next.TheVariants.{Refused, Step, Look}

-- the register with the name of its handle's slot
abbrev pub named : {H : Type 0} → (H → SlotName) → Register H → Register SlotName
named name Empty = Empty
named name (Own h) = Own (name h)
named name (Ref h) = Ref (name h)
named name Freed = Freed
named name Cleared = Cleared

-- the register has a handle
abbrev pub HasSomeHandle : {H : Type 0} → Register H → Type 0
HasSomeHandle Empty = ⊥
HasSomeHandle (Own h) = Unit {0}
HasSomeHandle (Ref h) = Unit {0}
HasSomeHandle Freed = ⊥
HasSomeHandle Cleared = ⊥

-- the register is an object's owner
abbrev pub is_owner : {H : Type 0} → Register H → Bool
is_owner Empty = false
is_owner (Own h) = true
is_owner (Ref h) = false
is_owner Freed = false
is_owner Cleared = false

-- a copy makes its step on the slot of an owner or of a raw_ptr
abbrev pub copy_next : {H : Type 0} → Register H → Result H Answer
copy_next Empty = Err Nothing
copy_next (Own h) = Ok h
copy_next (Ref h) = Ok h
copy_next Freed = Err (StaleUse None)
copy_next Cleared = Err (StaleUse None)

-- a reset makes its step on the slot of a raw_ptr alone
abbrev pub reset_next : {H : Type 0} → Register H → Result H Answer
reset_next Empty = Err Nothing
reset_next (Own h) = Err NotRef
reset_next (Ref h) = Ok h
reset_next Freed = Err NotRef
reset_next Cleared = Err StaleReset

-- a free makes its step on the slot of an owner, and only looks at the slot of a raw_ptr
abbrev pub free_next : {H : Type 0} → Register H → Next H
free_next Empty = Refused Nothing
free_next (Own h) = Step h
free_next (Ref h) = Look h
free_next Freed = Refused (SecondFree None)
free_next Cleared = Refused (StaleUse None)

-- a write makes its step on the slot of an owner, and only looks at the slot of a raw_ptr
abbrev pub write_next : {H : Type 0} → Register H → Next H
write_next Empty = Refused Nothing
write_next (Own h) = Step h
write_next (Ref h) = Look h
write_next Freed = Refused (StaleUse None)
write_next Cleared = Refused (StaleUse None)

-- a read looks at the slot of an owner or of a raw_ptr
abbrev pub read_next : {H : Type 0} → Register H → Result H Answer
read_next Empty = Err Nothing
read_next (Own h) = Ok h
read_next (Ref h) = Ok h
read_next Freed = Err (StaleUse None)
read_next Cleared = Err (StaleUse None)

-- the answer of a free that only looked: not the owner while the allocator holds the slot, else a second free
abbrev pub looked_free : Seen → Answer
looked_free seen = if held_of seen.found.0 == 1 then NotOwner seen else SecondFree (Some seen)

-- the answer of a write that only looked: not the owner while the allocator holds the slot, else a stale use
abbrev pub looked_write : Seen → Answer
looked_write seen = if held_of seen.found.0 == 1 then NotOwner seen else StaleUse (Some seen)

-- the answer of a read: the value while the allocator holds the slot, else a dangling one
abbrev pub looked_read : Seen → ℕ → Answer
looked_read seen value = if held_of seen.found.0 == 1 then Value seen value else Dangling seen value
