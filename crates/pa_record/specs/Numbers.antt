-- The numbers of an entry, in the order of its fields. A variant is its index in its enum, counted from 0, before its
-- fields; a list is its length before its members; an Option is 0, or 1 before its value.
use Rattle.std.specs.Prelude.{ℕ, List, [], ◌∷◌, ◌++◌, length, Option, Some, None}
use Rattle.std.specs.List.{flat_map}
use Rattle.pa_slot.specs.declared.word.SlotName.{SlotName}
use Rattle.pa_record.specs.declared.numbered.Numbered.{Numbered}
use Rattle.pa_record.specs.declared.root.RootEntry.{RootEntry}
use Rattle.pa_record.specs.declared.root.RootAct.{RootAct}
use Rattle.pa_record.specs.declared.root.RootAct.TheVariants as acts
use Rattle.pa_record.specs.declared.pool.PoolEntry.{PoolEntry}
use Rattle.pa_record.specs.declared.pool.PoolAct.{PoolAct}
use Rattle.pa_record.specs.declared.pool.PoolAct.TheVariants as turns
use Rattle.pa_record.specs.declared.history.CellEntry.{CellEntry}
use Rattle.pa_record.specs.declared.history.Held.{Held}
use Rattle.pa_record.specs.declared.history.Held.TheVariants as handles

-- the numbers of a number that may be absent
abbrev pub option_numbers : Option ℕ → List ℕ
option_numbers None = 0 ∷ []
option_numbers (Some n) = 1 ∷ n ∷ []

-- the numbers of a slot's name: where it starts, and its `born`
abbrev pub slot_numbers : SlotName → List ℕ
slot_numbers s = s.start ∷ s.born ∷ []

-- the numbers of a slot and its count word: those of the slot's name, and the word's number
abbrev pub numbered_numbers : Numbered → List ℕ
numbered_numbers n = n.slot.start ∷ n.slot.born ∷ n.number ∷ []

-- the numbers of a batch: how many slots it has, and then those of each slot
abbrev pub batch_numbers : List Numbered → List ℕ
batch_numbers slots = length slots ∷ flat_map numbered_numbers slots

-- the numbers of what a root did: 0 to 5 by its variant, and its fields
abbrev pub root_act_numbers : RootAct → List ℕ
root_act_numbers (acts.Fill class pool slots) = 0 ∷ class ∷ option_numbers pool ++ batch_numbers slots
root_act_numbers (acts.Map pool slot len) = 1 ∷ pool ∷ slot_numbers slot ++ len ∷ []
root_act_numbers (acts.Full class pool) = 2 ∷ option_numbers class ++ pool ∷ []
root_act_numbers (acts.Give slots) = 3 ∷ batch_numbers slots
root_act_numbers (acts.Unmap pool slot) = 4 ∷ pool ∷ numbered_numbers slot
root_act_numbers acts.Purge = 5 ∷ []

-- the numbers of a journal's entry
abbrev pub root_numbers : RootEntry → List ℕ
root_numbers e = e.line ∷ root_act_numbers e.act

-- the numbers of what the pool did: 0 if it took super pages and 1 if some were given back, and the fields
abbrev pub pool_act_numbers : PoolAct → List ℕ
pool_act_numbers (turns.Take count first) = 0 ∷ count ∷ option_numbers first
pool_act_numbers (turns.Give count first) = 1 ∷ count ∷ first ∷ []

-- the numbers of an entry of the pool
abbrev pub pool_numbers : PoolEntry → List ℕ
pool_numbers e = e.line ∷ e.partition ∷ pool_act_numbers e.act

-- the numbers of what a cell holds: 0 if that is nothing, and 1 for an Own and 2 for a Ref before the slot
abbrev pub held_numbers : Held → List ℕ
held_numbers handles.Nothing = 0 ∷ []
held_numbers (handles.Own slot) = 1 ∷ slot_numbers slot
held_numbers (handles.Ref slot) = 2 ∷ slot_numbers slot

-- the numbers of an exchange
abbrev pub cell_numbers : CellEntry → List ℕ
cell_numbers e = e.line ∷ held_numbers e.gave ++ held_numbers e.found
