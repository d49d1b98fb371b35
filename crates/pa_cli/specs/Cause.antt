-- The causes of the statuses, and what each leaves.
use Rattle.std.specs.Prelude.{◌≡◌, ◌↔◌, ℕ, ◌≤◌, ◌⊎◌, true, List, Some, IfSome, IsSome}
use Rattle.std.specs.Io.KnownBytes.{Appends}
use Rattle.pa_io.specs.Moves.{HasRisen, HasWrittenPart}
use Rattle.pa_trace.specs.declared.script.Trace.{Trace}
use Rattle.pa_trace.specs.Limits.{IsInput}
use Rattle.pa_trace.specs.Faults.{IsFirstFault}
use Rattle.pa_trace.specs.declared.fault.TraceFault.{TraceFault}
use Rattle.pa_trace.specs.declared.fault.TraceFault.TheVariants as faults
use Rattle.pa_record.specs.declared.run.Run.{Run}
use Rattle.pa_script.specs.declared.script.Script.{Script}
use Rattle.pa_script.specs.Limits.{IsScriptInput}
use Rattle.pa_script.specs.Faults.{IsFirstScriptFault}
use Rattle.pa_rules.specs.declared.verdict.Clause.{Clause}
use Rattle.pa_rules.specs.declared.verdict.Verdict.{Verdict}
use Rattle.pa_audit_input.specs.Input.{most_audited, IsAudited, IsFirstAuditFault}
use Rattle.pa_audit_input.specs.Judged.{IsRefutedInput, IsVerdictOn}
use Rattle.pa_cli.specs.declared.status.Status.{Status}
use Rattle.pa_cli.specs.declared.status.Status.TheVariants.{Done, BadCommand, BadLine, Limit, ReadFault, WriteFault, OutOfMemory, NotLegal}
use Rattle.pa_cli.specs.Call.{Stream, Call, KeepsSource, KeepsSink, HasGiven, IsReadWhole, IsRead}
use Rattle.pa_cli.specs.declared.command.Command.{Command}
use Rattle.pa_cli.specs.Command.{Reading, ReadsNothing, ReadsTrace, ReadsRun, ReadsSome, most_read, Needs, needs_of, ReadsScript}
use Rattle.pa_cli.specs.Command.{AsksFor, AsksToRead, AsksForRegion, IsCommand}
use Rattle.pa_cli.specs.Output.{HasNoRun, IsOutput}
use Rattle.pa_cli.specs.StatusText.{status_of_trace, status_of_verdict}

-- the bytes have this fault as such an input: it is that of the first faulty line
abbrev pub IsFaulty : Reading → TraceFault → List ℕ → Type 0
IsFaulty ReadsNothing fault bytes = ⊥
IsFaulty (ReadsTrace known) fault bytes = IsFirstFault known fault bytes
IsFaulty ReadsScript fault bytes = IsFirstScriptFault fault bytes
IsFaulty ReadsRun fault bytes = IsFirstAuditFault fault bytes

-- The input has this fault: it was read without a fault of the source, and the first faulty line of what was read has it, and so has
-- that of all that the source exposed.
pub record HasFault (reads : Reading) (fault : TraceFault) (before after : Stream) : Type 0 where
  pub bytes : List ℕ
  pub read : IsRead (most_read reads) before after bytes
  pub first : IsFaulty reads fault bytes
  pub told : IfSome before.told (IsFaulty reads fault)

-- the source had a fault in this call
pub record IsReadFault (most : ℕ) (before after : Stream) : Type 0 where
  pub risen : HasRisen before.faults after.faults
  pub bytes : List ℕ
  pub given : HasGiven most before after bytes

-- the call stopped, and the source had no fault in it
pub record IsStopped (most : ℕ) (before after : Stream) : Type 0 where
  pub calm : after.faults ≡ before.faults
  pub bytes : List ℕ
  pub given : HasGiven most before after bytes

-- The source's bytes, all of which were read, are a trace followed by a run, and this clause is the first that the run breaks,
-- first at line n of these bytes.
pub record IsRefuted (clause : Clause) (n : ℕ) (before after : Stream) : Type 0 where
  pub bytes : List ℕ
  pub read : IsReadWhole most_audited before after bytes
  pub refuted : IsRefutedInput clause n bytes

-- Why a command with these needs has no output, by what the source exposes before it and after it. Done,
-- BadCommand and WriteFault are no reason.
abbrev pub IsRefusal : Status → Needs → Stream → Stream → Type 0
IsRefusal Done of before after = ⊥
IsRefusal BadCommand of before after = ⊥
IsRefusal (BadLine n) of before after = ReadsSome of.reads × HasFault of.reads (faults.BadLine n) before after
IsRefusal (Limit n) of before after = ReadsSome of.reads × HasFault of.reads (faults.Limit n) before after
IsRefusal ReadFault of before after = ReadsSome of.reads × IsReadFault (most_read of.reads) before after
IsRefusal WriteFault of before after = ⊥
IsRefusal OutOfMemory of before after = (of.memory ≡ true) × IsStopped (most_read of.reads) before after
IsRefusal (NotLegal clause n) of before after = (of.reads ≡ ReadsRun) × IsRefuted clause n before after

-- the words are those of a command that has no output, for this reason
abbrev pub HasNoOutput : Status → Call → Type 0
HasNoOutput status c = (command : Command) × AsksFor command c.words × IsRefusal status (needs_of command) c.source c.source_after

-- when each status is returned:
--   Done: the output was written whole
--   BadCommand: the words are no command; nothing was read or written
--   BadLine: line n of the input is the first faulty one, and it is outside the grammar; nothing was written
--   Limit: line n of the input is the first faulty one, and it passes a limit; nothing was written
--   ReadFault: the source had a fault in this call; nothing was written
--   WriteFault: the sink had a fault in this call; what was written is a first part of the output
--   OutOfMemory: the words are those of a command that takes memory, and no fault of the source came first; nothing was written
--   NotLegal: the words are those of a command that reads a trace and a run, which is what its input is, and this clause of a legal
--     run is the first that fails, at line n of the input; nothing was written
abbrev pub Caused : Status → Call → Type 0
Caused Done c = (text : List ℕ) × IsOutput c text × Appends c.sink.told c.sink_after.told text × (c.sink_after.faults ≡ c.sink.faults)
Caused BadCommand c = (IsCommand c.words → ⊥) × KeepsSource c × KeepsSink c
Caused (BadLine n) c = HasNoOutput (BadLine n) c × KeepsSink c
Caused (Limit n) c = HasNoOutput (Limit n) c × KeepsSink c
Caused ReadFault c = HasNoOutput ReadFault c × KeepsSink c
Caused WriteFault c =
    (text : List ℕ) × IsOutput c text × HasRisen c.sink.faults c.sink_after.faults × HasWrittenPart c.sink.told c.sink_after.told text
Caused OutOfMemory c = HasNoOutput OutOfMemory c × KeepsSink c
Caused (NotLegal clause n) c = HasNoOutput (NotLegal clause n) c × KeepsSink c

-- the source had no fault in this call
abbrev pub HasNoReadFault : Call → Type 0
HasNoReadFault c = HasRisen c.source.faults c.source_after.faults → ⊥

-- the sink had no fault in this call
abbrev pub HasNoWriteFault : Call → Type 0
HasNoWriteFault c = HasRisen c.sink.faults c.sink_after.faults → ⊥

-- the bytes are such an input, in its grammar and its limits
abbrev pub IsInputFor : Reading → List ℕ → Type 0
IsInputFor ReadsNothing bytes = ⊥
IsInputFor (ReadsTrace known) bytes = (trace : Trace) × IsInput trace bytes × (trace.version ≤ known)
IsInputFor ReadsScript bytes = (script : Script) × IsScriptInput script bytes
IsInputFor ReadsRun bytes = (trace : Trace) × (run : Run) × (lines : ℕ) × IsAudited trace run lines bytes

-- a run was read, and the status has a clause and a line
abbrev pub RefutesBy : Reading → Status → Type 0
RefutesBy reads status = (reads ≡ ReadsRun) × (clause : Clause) × (n : ℕ) × (status ≡ NotLegal clause n)

-- an input for a command that reads, without a fault of source or sink, leads to Done,
-- or to NotLegal for a trace and a run, unless memory has run out
abbrev pub Completes : Status → Call → Type 0
Completes status c =
    (bytes : List ℕ) (command : Command) → AsksFor command c.words → c.source.told ≡ Some bytes → IsInputFor (needs_of command).reads bytes
    → HasNoReadFault c → HasNoWriteFault c → (status ≡ Done) ⊎ ((status ≡ OutOfMemory) ⊎ RefutesBy (needs_of command).reads status)

-- if a command that reads a trace and a run, `audit` or `dangling`, gets bytes with a verdict, and neither source nor sink has a fault,
-- the status is that verdict's or OutOfMemory
abbrev pub Judges : Status → Call → Type 0
Judges status c =
    (bytes : List ℕ) (verdict : Verdict) (command : Command) → AsksFor command c.words → (needs_of command).reads ≡ ReadsRun
    → c.source.told ≡ Some bytes → IsVerdictOn verdict bytes → HasNoReadFault c → HasNoWriteFault c →
    (status ≡ status_of_verdict verdict) ⊎ (status ≡ OutOfMemory)

-- a command that reads nothing leads to Done if the sink has no fault, or to OutOfMemory if it takes memory: so `layout`, `--help` and
-- `--version` are Done then, and nothing else
abbrev pub Answers : Status → Call → Type 0
Answers status c =
    (command : Command) → AsksFor command c.words → (needs_of command).reads ≡ ReadsNothing → HasNoWriteFault c
    → (status ≡ Done) ⊎ ((status ≡ OutOfMemory) × ((needs_of command).memory ≡ true))

-- only a command that reads an input reads from the source
abbrev pub ReadsForInput : Call → Type 0
ReadsForInput c = (AsksToRead c.words → ⊥) → KeepsSource c

-- if a command that reads gets bytes with a faulty line, and the source has no fault,
-- the status is that of the first faulty line or OutOfMemory
abbrev pub Refuses : Status → Call → Type 0
Refuses status c =
    (bytes : List ℕ) (fault : TraceFault) (command : Command) → AsksFor command c.words → c.source.told ≡ Some bytes
    → IsFaulty (needs_of command).reads fault bytes → HasNoReadFault c → (status ≡ status_of_trace fault) ⊎ (status ≡ OutOfMemory)

-- the output was written, whole or a first part of it
abbrev pub IsWritten : Status → Type 0
IsWritten status = (status ≡ Done) ⊎ (status ≡ WriteFault)

-- if nothing was written, no run and no region are returned
abbrev pub TellsNoRun : Status → Call → Type 0
TellsNoRun status c = (IsWritten status → ⊥) → HasNoRun c.run c.region

-- the call returns a run and a region exactly if the words are those of a command that plays in a region and the output was written
pub record TellsRun (status : Status) (c : Call) : Type 0 where
  pub run : IsSome c.run ↔ (AsksForRegion c.words × IsWritten status)
  pub region : IsSome c.region ↔ (AsksForRegion c.words × IsWritten status)

-- the call is right: its status has its cause, nothing is read but for a command that reads, the others answer, a good input
-- completes, a run is judged, a faulty input is refused, and a command that plays in a region has its run
pub record IsRightCall (status : Status) (c : Call) : Type 0 where
  pub cause : Caused status c
  pub reads : ReadsForInput c
  pub answers : Answers status c
  pub completes : Completes status c
  pub judges : Judges status c
  pub refuses : Refuses status c
  pub run : TellsRun status c
