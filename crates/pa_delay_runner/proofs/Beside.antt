-- Ops that leave a worker's queue alone: an allocation, a copy, a write, a read and an exchange.
use Rattle.std.proofs.Common.{◌≡◌, IfOk, OnOk, Bool, true, false, ℕ, List, Some, None, sym, ◌∙◌, ap, subst, inl, inr}
use Rattle.std.specs.declared.result.Result.{Result}
use Rattle.std.specs.declared.result.Result.TheVariants.{Ok, Err}
use Rattle.pa_slot.specs.declared.word.SlotName.{SlotName}
use Rattle.pa_slot.specs.declared.word.Step.{Step}
use Rattle.pa_slot.specs.declared.word.Step.TheVariants as steps
use Rattle.pa_slot.specs.Run.{IsReturning}
use Rattle.pa_trace.specs.declared.script.Op.{Op}
use Rattle.pa_trace.specs.declared.script.Op.TheVariants as ops
use Rattle.pa_record.specs.declared.entry.Answer.{Answer}
use Rattle.pa_record.specs.declared.entry.Answer.TheVariants as answers
use Rattle.pa_record.specs.declared.history.CellEntry.{CellEntry}
use Rattle.pa_rules.specs.declared.played.Played.{Played}
use Rattle.pa_rules.specs.declared.register.Register.TheVariants.{Empty, Own, Ref, Freed, Cleared}
use Rattle.pa_rules.specs.Played.{step_of}
use Rattle.pa_rules.specs.Registers.{Facts, Reg, Regs, Row, RequestRow, AllocRow, PointRow, CopyToRow, CopyRow, WriteRow, ReadFromRow, ReadRow, SwapRow}
use Rattle.pa_delay.specs.Queue.{QueueList}
use Rattle.pa_cells.specs.declared.handle.Handle.{Handle}
use Rattle.pa_cells.specs.Handles.{SlotsStaySeen}
use Rattle.pa_op_specs.specs.Stocks.{regs_of}
use Rattle.pa_op_specs.specs.Workers.{WorkerValue}
use Rattle.pa_op_specs.specs.Outcomes.{row_facts}
use Rattle.pa_op_specs.specs.Plays.{PlaysOp}
use Rattle.pa_heap.specs.Waiting.{HoldsQueue, PlaysDelayed}
use Rattle.pa_heap.proofs.Beside.{leads_beside, holds_after}

-- an op whose step, if it makes one, returns no slot, and which gives back no lists
abbrev pub LeavesQueue : Op → Type 0
LeavesQueue (ops.Alloc reg partition size) = Unit {0}
LeavesQueue (ops.Copy from to) = Unit {0}
LeavesQueue (ops.Reset reg) = ⊥
LeavesQueue (ops.Free reg) = ⊥
LeavesQueue (ops.Write reg value) = Unit {0}
LeavesQueue (ops.Read reg place) = Unit {0}
LeavesQueue (ops.Swap cell reg) = Unit {0}
LeavesQueue ops.Purge = ⊥

-- the answer isn't that of a purge
abbrev IsNoPurge : Answer → Type 0
IsNoPurge a = (slots : ℕ) → a ≡ answers.Purged slots → ⊥

-- ---- no row of these ops has the answer of a purge

request : (facts : Facts) (regs : Regs) (reg size : ℕ) (a : Answer) (after : Regs) → RequestRow facts regs reg size a after → IsNoPurge a
request facts regs reg size a after (inl (large, is, same)) slots so =
    let no : answers.TooLarge ≡ answers.Purged slots = sym is ∙ so in absurd cc
request facts regs reg size a after (inr (inl (fits, seen, is, same))) slots so =
    let no : answers.Made seen (facts.usable_of size) ≡ answers.Purged slots = sym is ∙ so in absurd cc
request facts regs reg size a after (inr (inr (fits, entry, is, same))) slots so =
    let no : answers.Full entry ≡ answers.Purged slots = sym is ∙ so in absurd cc

filled : (a : Answer) → a ≡ answers.Filled → IsNoPurge a
filled a is slots so = let no : answers.Filled ≡ answers.Purged slots = sym is ∙ so in absurd cc

nothing : (a : Answer) → a ≡ answers.Nothing → IsNoPurge a
nothing a is slots so = let no : answers.Nothing ≡ answers.Purged slots = sym is ∙ so in absurd cc

stale : (a : Answer) → a ≡ answers.StaleUse None → IsNoPurge a
stale a is slots so = let no : answers.StaleUse None ≡ answers.Purged slots = sym is ∙ so in absurd cc

alloc : (r : Reg) (facts : Facts) (regs : Regs) (reg size : ℕ) (a : Answer) (after : Regs) → AllocRow r facts regs reg size a after →
    IsNoPurge a
alloc Empty facts regs reg size a after row = request facts regs reg size a after row
alloc (Own s) facts regs reg size a after row = filled a row.0
alloc (Ref s) facts regs reg size a after row = filled a row.0
alloc Freed facts regs reg size a after row = request facts regs reg size a after row
alloc Cleared facts regs reg size a after row = request facts regs reg size a after row

point : (plain : Bool) (s : SlotName) (regs : Regs) (to : ℕ) (a : Answer) (after : Regs) → PointRow plain s regs to a after → IsNoPurge a
point true s regs to a after (is, same) slots so = let no : answers.Uncounted ≡ answers.Purged slots = sym is ∙ so in absurd cc
point false s regs to a after (seen, its, is, same) slots so = let no : answers.Done seen ≡ answers.Purged slots = sym is ∙ so in absurd cc

copy_to : (r : Reg) (plain : Bool) (s : SlotName) (regs : Regs) (to : ℕ) (a : Answer) (after : Regs) →
    CopyToRow r plain s regs to a after → IsNoPurge a
copy_to Empty plain s regs to a after row = point plain s regs to a after row
copy_to (Own t) plain s regs to a after row = filled a row.0
copy_to (Ref t) plain s regs to a after row = filled a row.0
copy_to Freed plain s regs to a after row = point plain s regs to a after row
copy_to Cleared plain s regs to a after row = point plain s regs to a after row

copy : (r : Reg) (facts : Facts) (regs : Regs) (to : ℕ) (a : Answer) (after : Regs) → CopyRow r facts regs to a after → IsNoPurge a
copy Empty facts regs to a after row = nothing a row.0
copy (Own s) facts regs to a after row = copy_to (regs to) (facts.plain_at s) s regs to a after row
copy (Ref s) facts regs to a after row = copy_to (regs to) false s regs to a after row
copy Freed facts regs to a after row = stale a row.0
copy Cleared facts regs to a after row = stale a row.0

write : (r : Reg) (regs : Regs) (a : Answer) (after : Regs) → WriteRow r regs a after → IsNoPurge a
write Empty regs a after row slots so = nothing a row.0 slots so
write (Own s) regs a after (seen, its, same, inl (pointed, is)) slots so =
    let no : answers.Shared seen ≡ answers.Purged slots = sym is ∙ so in absurd cc
write (Own s) regs a after (seen, its, same, inr (alone, is)) slots so =
    let no : answers.Done seen ≡ answers.Purged slots = sym is ∙ so in absurd cc
write (Ref s) regs a after (seen, its, same, inl (held, is)) slots so =
    let no : answers.NotOwner seen ≡ answers.Purged slots = sym is ∙ so in absurd cc
write (Ref s) regs a after (seen, its, same, inr (free, is)) slots so =
    let no : answers.StaleUse (Some seen) ≡ answers.Purged slots = sym is ∙ so in absurd cc
write Freed regs a after row slots so = stale a row.0 slots so
write Cleared regs a after row slots so = stale a row.0 slots so

read_from : (s : SlotName) (facts : Facts) (regs : Regs) (place : ℕ) (a : Answer) (after : Regs) → ReadFromRow s facts regs place a after →
    IsNoPurge a
read_from s facts regs place a after (same, inl (out, is)) slots so =
    let no : answers.OutOfRange ≡ answers.Purged slots = sym is ∙ so in absurd cc
read_from s facts regs place a after (same, inr (inside, seen, value, its, inl (held, is))) slots so =
    let no : answers.Value seen value ≡ answers.Purged slots = sym is ∙ so in absurd cc
read_from s facts regs place a after (same, inr (inside, seen, value, its, inr (free, is))) slots so =
    let no : answers.Dangling seen value ≡ answers.Purged slots = sym is ∙ so in absurd cc

read : (r : Reg) (facts : Facts) (regs : Regs) (place : ℕ) (a : Answer) (after : Regs) → ReadRow r facts regs place a after → IsNoPurge a
read Empty facts regs place a after row = nothing a row.0
read (Own s) facts regs place a after row = read_from s facts regs place a after row
read (Ref s) facts regs place a after row = read_from s facts regs place a after row
read Freed facts regs place a after row = stale a row.0
read Cleared facts regs place a after row = stale a row.0

swapped : (history : List CellEntry) (regs : Regs) (reg : ℕ) (a : Answer) (after : Regs) → SwapRow history regs reg a after → IsNoPurge a
swapped history regs reg a after (entry, e, is, at, gave, same) slots so =
    let no : answers.Swapped entry ≡ answers.Purged slots = sym is ∙ so in absurd cc

no_purge : (facts : Facts) (op : Op) (regs : Regs) (a : Answer) (after : Regs) → LeavesQueue op → Row facts op regs a after → IsNoPurge a
no_purge facts (ops.Alloc reg partition size) regs a after leaves row = alloc (regs reg) facts regs reg size a after row
no_purge facts (ops.Copy from to) regs a after leaves row = copy (regs from) facts regs to a after row
no_purge facts (ops.Reset reg) regs a after leaves row = absurd leaves
no_purge facts (ops.Free reg) regs a after leaves row = absurd leaves
no_purge facts (ops.Write reg value) regs a after leaves row = write (regs reg) regs a after row
no_purge facts (ops.Read reg place) regs a after leaves row = read (regs reg) facts regs place a after row
no_purge facts (ops.Swap cell reg) regs a after leaves row = swapped (facts.cells cell) regs reg a after row
no_purge facts ops.Purge regs a after leaves row = absurd leaves

-- their steps return no slot
no_return : (op : Op) (step : Step) (found : ℕ) → LeavesQueue op → step_of op ≡ Some step → IsReturning step found → ⊥
no_return (ops.Alloc reg partition size) step found leaves is returning = absurd cc
no_return (ops.Copy from to) step found leaves is returning =
    subst (λ s. IsReturning s found) (let same : step ≡ steps.Copy = cc in same) returning
no_return (ops.Reset reg) step found leaves is returning = leaves
no_return (ops.Free reg) step found leaves is returning = leaves
no_return (ops.Write reg value) step found leaves is returning =
    subst (λ s. IsReturning s found) (let same : step ≡ steps.Write = cc in same) returning
no_return (ops.Read reg place) step found leaves is returning = absurd cc
no_return (ops.Swap cell reg) step found leaves is returning = absurd cc
no_return ops.Purge step found leaves is returning = leaves

-- ---- such an op, played with a queue

-- lists and queue go on as the lists do without a queue
pub plays_beside : (line : ℕ) (op : Op) (answer : Answer) (w v : WorkerValue) (queue : QueueList) →
    HoldsQueue queue.slots w.stock → PlaysOp line op answer w v → LeavesQueue op → PlaysDelayed line op answer w queue v queue
plays_beside line op answer w v queue holds plays leaves phase =
    let (x, is, one, leads) = plays phase in
    let same : x.played.op ≡ op = ap (λ (p : Played). p.op) is in (
      x,
      is,
      one,
      leads_beside queue.limit queue.slots w.stock v.stock x holds leads
          (λ o fits. record {
            no_return = λ seen step done steps. no_return op step seen.found.0 leaves (sym (ap step_of same) ∙ steps);
            no_purge =
                no_purge (row_facts o) op (regs_of w.stock.registers) x.played.answer (regs_of v.stock.registers) leaves
                (subst (λ (z : Op). Row (row_facts o) z (regs_of w.stock.registers) x.played.answer (regs_of v.stock.registers)) same
                (one.does.answers o fits).row);
          }),
    )

-- what waits can wait still
pub waits_beside : SlotsStaySeen → (line : ℕ) (op : Op) (answer : Answer) (w v : WorkerValue) (hs : List Handle) →
    HoldsQueue hs w.stock → PlaysOp line op answer w v → HoldsQueue hs v.stock
waits_beside stays line op answer w v hs holds plays =
    let (x, is, one, leads) = plays 0 in holds_after stays hs w.stock v.stock x holds one.does leads

-- the same of one that may run out of memory
pub ok_plays_beside : {E : Type 0} (line : ℕ) (op : Op) (w v : WorkerValue) (queue : QueueList) →
    HoldsQueue queue.slots w.stock → (r : Result Answer E) → IfOk r (λ answer. PlaysOp line op answer w v) → LeavesQueue op →
    IfOk r (λ answer. PlaysDelayed line op answer w queue v queue)
ok_plays_beside line op w v queue holds (Ok answer) plays leaves = plays_beside line op answer w v queue holds plays leaves
ok_plays_beside line op w v queue holds (Err e) none leaves = tt

pub ok_waits_beside : {E : Type 0} → SlotsStaySeen → (line : ℕ) (op : Op) (w v : WorkerValue) (hs : List Handle) → HoldsQueue hs w.stock →
    (r : Result Answer E) → IfOk r (λ answer. PlaysOp line op answer w v) → OnOk r (HoldsQueue hs v.stock)
ok_waits_beside stays line op w v hs holds (Ok answer) plays = waits_beside stays line op answer w v hs holds plays
ok_waits_beside stays line op w v hs holds (Err e) none = tt
