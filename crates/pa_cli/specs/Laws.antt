-- What is proved of the texts of `replay`, `model`, `delay` and `resize`, and of the answers.
use Rattle.std.specs.Prelude.{◌≡◌, ℕ, ◌<◌, ◌≤◌, ◌⊎◌, ◌↔◌, List, ◌++◌, length}
use Rattle.pa_trace.specs.declared.script.Trace.{Trace}
use Rattle.pa_trace.specs.Limits.{IsInput, IsWithinLimits}
use Rattle.pa_record.specs.declared.run.Run.{Run}
use Rattle.pa_script.specs.declared.script.Script.{Script}
use Rattle.pa_audit_input.specs.Input.{most_audited}
use Rattle.pa_audit_input.specs.Judged.{IsLegalInput}
use Rattle.pa_rules.specs.declared.verdict.Clause.{Clause}
use Rattle.pa_cli.specs.declared.command.Command.{Command}
use Rattle.pa_cli.specs.declared.command.Command.TheVariants.{Audit, Dangling}
use Rattle.pa_cli.specs.declared.status.Status.{Status}
use Rattle.pa_cli.specs.declared.status.Status.TheVariants.{ReadFault, NotLegal}
use Rattle.pa_cli.specs.Call.{Call}
use Rattle.pa_cli.specs.Command.{AsksFor}
use Rattle.pa_cli.specs.Output.{IsReplayText, IsModelText, IsDelayedText, IsResizeText}
use Rattle.pa_cli.specs.Cause.{IsRightCall}

-- what `replay` prints of a trace of one thread is what `model` prints of it
abbrev pub OneThreadPrintsAsModel : Type 0
OneThreadPrintsAsModel =
    (t : Trace) (run : Run) (words replayed modelled : List ℕ) → IsWithinLimits t → t.threads ≡ 1
    → IsReplayText t run words replayed → IsModelText t modelled → replayed ≡ modelled

-- what `delay 0` prints of a trace is what `model` prints of it
abbrev pub DelayOfNothingPrintsAsModel : Type 0
DelayOfNothingPrintsAsModel =
    (t : Trace) (run : Run) (words delayed modelled : List ℕ) → IsWithinLimits t → IsDelayedText 0 t run words delayed
    → IsModelText t modelled → delayed ≡ modelled

-- a trace with what `delay` prints of it is an input that `audit` calls legal, if it isn't too long for one, exactly where that is what
-- `model` prints of it
abbrev pub DelayedIsLegalAsModelled : Type 0
DelayedIsLegalAsModelled =
    (bytes : ℕ) (t : Trace) (run : Run) (words front delayed modelled : List ℕ) → IsInput t front → IsDelayedText bytes t run words delayed
    → IsModelText t modelled → length (front ++ delayed) ≤ most_audited → IsLegalInput (front ++ delayed) ↔ (delayed ≡ modelled)

-- what `resize` prints is an input that `audit` calls legal, if it isn't too long for one
abbrev pub ResizedIsLegalInput : Type 0
ResizedIsLegalInput = (s : Script) (text : List ℕ) → IsResizeText s text → length text ≤ most_audited → IsLegalInput text

-- a trace with what `model` prints of it is an input that `audit` calls legal, if it isn't too long for one
abbrev pub ModelledIsLegalInput : Type 0
ModelledIsLegalInput =
    (t : Trace) (front text : List ℕ) → IsInput t front → IsModelText t text → length (front ++ text) ≤ most_audited
    → IsLegalInput (front ++ text)

-- a trace with what `replay` prints of it is an input that `audit` calls legal, if it isn't too long for one
abbrev pub ReplayedIsLegalInput : Type 0
ReplayedIsLegalInput =
    (t : Trace) (run : Run) (words front text : List ℕ) → IsInput t front → IsReplayText t run words text
    → length (front ++ text) ≤ most_audited → IsLegalInput (front ++ text)

-- only `audit` and `dangling` are answered with a clause that a run breaks
abbrev pub OnlyAuditRefutes : Type 0
OnlyAuditRefutes =
    (clause : Clause) (n : ℕ) (c : Call) (command : Command) → IsRightCall (NotLegal clause n) c → AsksFor command c.words
    → (command ≡ Audit) ⊎ (command ≡ Dangling)

-- if the count of the source's faults rose in a call, that is the answer, whatever else is wrong with what was read
abbrev pub AReadFaultComesFirst : Type 0
AReadFaultComesFirst =
    (status : Status) (c : Call) → IsRightCall status c → c.source.faults < c.source_after.faults → status ≡ ReadFault
