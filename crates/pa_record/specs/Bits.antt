-- What the types say of the numbers of a run, since here a number may be of any size.
use Rattle.std.specs.Prelude.{ℕ, ◌^◌, ◌<◌, ◌≤◌, length, IfSome}
use Rattle.std.specs.List.{AllByRecursion}
use Rattle.pa_buckets.specs.Limits.{class_count}
use Rattle.pa_text.specs.Hex.{SlotFits}
use Rattle.pa_record.specs.declared.entry.Entry.{Entry}
use Rattle.pa_record.specs.declared.entry.Seen.{Seen}
use Rattle.pa_record.specs.declared.entry.Answer.{Answer}
use Rattle.pa_record.specs.declared.entry.Answer.TheVariants.{Made, Done, Value, Dangling, SecondFree, NotOwner, StaleReset, StaleUse, Nothing, Filled, NotRef, Shared, OutOfRange, TooLarge, Full, Swapped, Purged, Uncounted}
use Rattle.pa_record.specs.declared.numbered.Numbered.{Numbered}
use Rattle.pa_record.specs.declared.root.RootEntry.{RootEntry}
use Rattle.pa_record.specs.declared.root.RootAct.{RootAct}
use Rattle.pa_record.specs.declared.root.RootAct.TheVariants as acts
use Rattle.pa_record.specs.declared.pool.PoolEntry.{PoolEntry}
use Rattle.pa_record.specs.declared.pool.PoolAct.{PoolAct}
use Rattle.pa_record.specs.declared.pool.PoolAct.TheVariants as turns
use Rattle.pa_record.specs.declared.history.CellEntry.{CellEntry}
use Rattle.pa_record.specs.declared.history.Held.{Held}
use Rattle.pa_record.specs.declared.history.Held.TheVariants as handles
use Rattle.pa_record.specs.declared.report.Tally.{Tally}
use Rattle.pa_record.specs.declared.report.ReportLine.{ReportLine}
use Rattle.pa_record.specs.declared.run.Run.{Run}

-- a number of 32 bits
abbrev pub Is32 : ℕ → Type 0
Is32 n = n < 2 ^ 32

-- a number of 64 bits
abbrev pub Is64 : ℕ → Type 0
Is64 n = n < 2 ^ 64

-- the number of a class
abbrev pub IsClass : ℕ → Type 0
IsClass n = n < class_count

-- both numbers of the slot's name have 32 bits, and the word that was found has 64
abbrev pub SeenInBits : Seen → Type 0
SeenInBits s = SlotFits s.slot × Is64 s.found.0

-- an answer: the word that was found and a value have 64 bits, and every other number has 32
abbrev pub AnswerInBits : Answer → Type 0
AnswerInBits (Made seen usable) = SeenInBits seen × Is32 usable
AnswerInBits (Done seen) = SeenInBits seen
AnswerInBits (Value seen value) = SeenInBits seen × Is64 value
AnswerInBits (Dangling seen value) = SeenInBits seen × Is64 value
AnswerInBits (SecondFree seen) = IfSome seen SeenInBits
AnswerInBits (NotOwner seen) = SeenInBits seen
AnswerInBits StaleReset = Unit {0}
AnswerInBits (StaleUse seen) = IfSome seen SeenInBits
AnswerInBits Nothing = Unit {0}
AnswerInBits Filled = Unit {0}
AnswerInBits NotRef = Unit {0}
AnswerInBits (Shared seen) = SeenInBits seen
AnswerInBits OutOfRange = Unit {0}
AnswerInBits TooLarge = Unit {0}
AnswerInBits (Full entry) = Is32 entry
AnswerInBits (Swapped entry) = Is32 entry
AnswerInBits (Purged slots) = Is32 slots
AnswerInBits Uncounted = Unit {0}

-- a record: its line and its thread have 32 bits, and the numbers of its answer fit their types
abbrev pub EntryInBits : Entry → Type 0
EntryInBits e = Is32 e.line × Is32 e.thread × AnswerInBits e.answer

-- both numbers of the slot's name have 32 bits, and the number of its count word has 64
abbrev pub NumberedInBits : Numbered → Type 0
NumberedInBits n = SlotFits n.slot × Is64 n.number

-- what a root did: entries of the pool and lengths have 32 bits, a class is one of the classes, and a batch has at
-- most 16 slots, each of which fits its type
abbrev pub RootActInBits : RootAct → Type 0
RootActInBits (acts.Fill class pool slots) = IsClass class × IfSome pool Is32 × (length slots ≤ 16) × AllByRecursion NumberedInBits slots
RootActInBits (acts.Map pool slot len) = Is32 pool × SlotFits slot × Is32 len
RootActInBits (acts.Full class pool) = IfSome class IsClass × Is32 pool
RootActInBits (acts.Give slots) = (length slots ≤ 16) × AllByRecursion NumberedInBits slots
RootActInBits (acts.Unmap pool slot) = Is32 pool × NumberedInBits slot
RootActInBits acts.Purge = Unit {0}

-- an entry of a journal: its line has 32 bits, and what the root did fits its type
abbrev pub RootInBits : RootEntry → Type 0
RootInBits e = Is32 e.line × RootActInBits e.act

-- what the pool did: how many super pages, and the first of them if there is one, have 32 bits each
abbrev pub PoolActInBits : PoolAct → Type 0
PoolActInBits (turns.Take count first) = Is32 count × IfSome first Is32
PoolActInBits (turns.Give count first) = Is32 count × Is32 first

-- an entry of the pool: its line and its partition have 32 bits, and so have the numbers of what the pool did
abbrev pub PoolInBits : PoolEntry → Type 0
PoolInBits e = Is32 e.line × Is32 e.partition × PoolActInBits e.act

-- what a cell holds: both numbers of the slot's name have 32 bits, if there is a handle
abbrev pub HeldInBits : Held → Type 0
HeldInBits handles.Nothing = Unit {0}
HeldInBits (handles.Own slot) = SlotFits slot
HeldInBits (handles.Ref slot) = SlotFits slot

-- an exchange: its line has 32 bits, and the handle that was given and the one that was found fit their types
abbrev pub CellInBits : CellEntry → Type 0
CellInBits e = Is32 e.line × HeldInBits e.gave × HeldInBits e.found

-- a tally: how many slots and how many bytes have 64 bits each
abbrev pub TallyInBits : Tally → Type 0
TallyInBits t = Is64 t.slots × Is64 t.bytes

-- a line of the report: phase, partition and the numbers of spans have 32 bits, all bytes and slots have 64
pub record ReportInBits (s : ReportLine) : Type 0 where
  pub phase : Is32 s.phase
  pub partition : Is32 s.partition
  pub live : TallyInBits s.live
  pub quarantined : TallyInBits s.quarantined
  pub cached : TallyInBits s.cached
  pub root : TallyInBits s.root
  pub committed : Is64 s.committed
  pub reserved : Is64 s.reserved
  pub full : Is32 s.full
  pub active : Is32 s.active
  pub empty : Is32 s.empty
  pub decommitted : Is32 s.decommitted

-- every number of a run fits its type: in its records, its journals, its pool, its histories and its report
pub record RunInBits (r : Run) : Type 0 where
  pub entries : AllByRecursion EntryInBits r.entries.items
  pub roots : AllByRecursion (AllByRecursion RootInBits) r.roots.items
  pub pool : AllByRecursion PoolInBits r.pool.items
  pub cells : AllByRecursion (AllByRecursion CellInBits) r.cells.items
  pub report : AllByRecursion ReportInBits r.report.items
