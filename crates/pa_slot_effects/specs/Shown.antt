-- What the lines so far left, by the names of slots: registers, cells, and each slot's word, content and usable number, and whether
-- it is plain.
use Rattle.std.specs.Prelude.{◌≡◌, ℕ, Bool, zero, suc, ◌+◌, ◌<◌, ◌==◌, if◌then◌else◌, List, [], ◌∷◌, ◌++◌}
use Rattle.pa_slot.specs.declared.word.SlotName.{SlotName}
use Rattle.pa_slot.specs.Count.{held_of, refs_of}
use Rattle.pa_slot.specs.Run.{same_slot}
use Rattle.pa_trace.specs.declared.script.Rules.{Rules}
use Rattle.pa_record.specs.declared.history.CellEntry.{CellEntry}
use Rattle.pa_record.specs.declared.history.Held.{Held}
use Rattle.pa_trace.specs.Limits.{register_count, cell_count}
use Rattle.pa_rules.specs.declared.register.Register.TheVariants.{Empty, Own, Ref, Freed, Cleared}
use Rattle.pa_rules.specs.Registers.{Reg, AllRegs, reg_of, with, with_thread}

-- the rules by which the lines are played, the registers of all threads, what each cell holds,
-- each cell's history, and what each slot has
pub record Shown : Type 0 where
  pub rules : Rules
  pub regs : AllRegs
  pub held : ℕ → Held
  pub cells : ℕ → List CellEntry
  pub word : SlotName → ℕ
  pub content : SlotName → ℕ
  pub usable : SlotName → ℕ
  pub plain : SlotName → Bool

-- the registers of all threads, with one register of one thread changed
abbrev pub with_reg : AllRegs → ℕ → ℕ → Reg → AllRegs
with_reg regs thread reg x = with_thread regs thread (with (regs thread) reg x)

-- a number for each slot, with that of slot s changed
abbrev pub with_slot : (SlotName → ℕ) → SlotName → ℕ → SlotName → ℕ
with_slot f s n t = if same_slot t s then n else f t

-- what each cell holds, with one cell's changed
abbrev pub with_held : (ℕ → Held) → ℕ → Held → ℕ → Held
with_held held cell h k = if k == cell then h else held k

-- the histories of the cells, with one exchange more at the end of one
abbrev pub with_entry : (ℕ → List CellEntry) → ℕ → CellEntry → ℕ → List CellEntry
with_entry cells cell e k = if k == cell then cells k ++ e ∷ [] else cells k

-- b looks the same as a: a content counts while the slot is held, and a usable number and the partition once the slot was stepped on
pub record IsLike (a b : Shown) : Type 0 where
  pub rules : b.rules ≡ a.rules
  pub regs : (t r : ℕ) → b.regs t r ≡ a.regs t r
  pub held : (k : ℕ) → b.held k ≡ a.held k
  pub cells : (k : ℕ) → b.cells k ≡ a.cells k
  pub word : (s : SlotName) → b.word s ≡ a.word s
  pub content : (s : SlotName) → held_of (a.word s) ≡ 1 → b.content s ≡ a.content s
  pub usable : (s : SlotName) → 0 < a.word s → b.usable s ≡ a.usable s
  pub plain : (s : SlotName) → 0 < a.word s → b.plain s ≡ a.plain s

-- 1 if the register owns the slot, and else 0
abbrev pub owns : SlotName → Reg → ℕ
owns s Empty = 0
owns s (Own t) = if same_slot t s then 1 else 0
owns s (Ref t) = 0
owns s Freed = 0
owns s Cleared = 0

-- 1 if the register is a raw_ptr to the slot, and else 0
abbrev pub points : SlotName → Reg → ℕ
points s Empty = 0
points s (Own t) = 0
points s (Ref t) = if same_slot t s then 1 else 0
points s Freed = 0
points s Cleared = 0

-- the sum of what f gives of the numbers below n
abbrev pub over : ℕ → (ℕ → ℕ) → ℕ
over zero f = 0
over (suc n) f = over n f + f n

-- the sum of what f gives of each register of this many threads and of each cell
abbrev pub amount : ℕ → (Reg → ℕ) → AllRegs → (ℕ → Held) → ℕ
amount threads f regs held = over threads (λ t. over register_count (λ r. f (regs t r))) + over cell_count (λ k. f (reg_of (held k)))

-- the slot of a handle was stepped on
abbrev pub IsUsed : (SlotName → ℕ) → Reg → Type 0
IsUsed word Empty = Unit {0}
IsUsed word (Own s) = 0 < word s
IsUsed word (Ref s) = 0 < word s
IsUsed word Freed = Unit {0}
IsUsed word Cleared = Unit {0}

-- A slot's word counts its handles in registers and cells: the allocator's bit is its owner, the count its raw_ptrs.
pub record AreHandles (threads : ℕ) (a : Shown) : Type 0 where
  pub owners : (s : SlotName) → held_of (a.word s) ≡ amount threads (owns s) a.regs a.held
  pub pointers : (s : SlotName) → refs_of (a.word s) ≡ amount threads (points s) a.regs a.held
  pub named : (t r : ℕ) → IsUsed a.word (a.regs t r)
  pub celled : (k : ℕ) → IsUsed a.word (reg_of (a.held k))
