-- Why bytes that are no input are refused.
use Rattle.std.proofs.Common.{rules, arith, ◌≡◌, ◌+◌, ◌≤◌, ℕ, List, ◌++◌, Option, Some, None, IfSome, inl, inr, length, refl, sym, subst, Bool, true, false}
use Rattle.std.specs.Io.KnownBytes.{Consumes}
use Rattle.pa_io.specs.Moves.{IsAllOf}
use Rattle.pa_trace.specs.declared.script.Trace.{Trace}
use Rattle.pa_trace.specs.declared.fault.TraceFault.{TraceFault}
use Rattle.pa_trace.specs.declared.fault.TraceFault.TheVariants.{BadLine, Limit, OutOfMemory}
use Rattle.pa_trace.specs.Limits.{most_bytes}
use Rattle.pa_trace.specs.Faults.{IsFault}
use Rattle.pa_trace.proofs.Early.{fault_early}
use Rattle.pa_script.specs.declared.script.Script.{Script}
use Rattle.pa_script.specs.Faults.{IsScriptFault}
use Rattle.pa_cli.specs.declared.status.Status.TheVariants.{NotLegal}
use Rattle.pa_cli.specs.Call.{Stream, IsRead, IsReadWhole}
use Rattle.pa_record.specs.declared.run.Run.{Run}
use Rattle.pa_rules.specs.declared.verdict.Clause.{Clause}
use Rattle.pa_audit_input.specs.Input.{most_audited}
use Rattle.pa_audit_input.specs.Judged.{IsLegalInput, IsLegalOf, IsRefutedInput, IsInputFault}
use Rattle.pa_audit_input.proofs.Early.{audit_fault_early}
use Rattle.pa_cli.specs.Command.{Reading, ReadsTrace, ReadsRun, most_read, needing, ReadsScript}
use Rattle.pa_cli.specs.Output.{IsTraceRead, IsAuditOutput, IsPairsText, IsDanglingOutput, legal_text, IsScriptRead}
use Rattle.pa_cli.specs.Cause.{IsFaulty, HasFault, IsRefusal, IsStopped}
use Rattle.pa_cli.specs.StatusText.{status_of_trace}
use Rattle.pa_script.proofs.Early.{script_fault_early}

-- what was read was read to its end, if it isn't too long
pub read_whole : (most : ℕ) (bytes : List ℕ) (before after : Stream) → IsRead most before after bytes → length bytes ≤ most →
    IsReadWhole most before after bytes
read_whole most bytes before after (inl whole) short = whole
read_whole most bytes before after (inr past) short = absurd (let p = past.past in omega (arith, p, short))

-- a source that was read gave what it should, without a fault
pub read_stopped : (most : ℕ) (bytes : List ℕ) (before after : Stream) → IsRead most before after bytes → IsStopped most before after
read_stopped most bytes before after (inl whole) = search rules
read_stopped most bytes before after (inr past) = search rules

-- All bytes that the source exposes have the fault of what was read, both if that is all of them and if it is one byte more than
-- an input may have.
told_whole : (P : List ℕ → Type 0) (told : Option (List ℕ)) (bytes : List ℕ) → IsAllOf told bytes → P bytes → IfSome told P
told_whole P None bytes all h = tt
told_whole P (Some left) bytes all h = subst P (sym all) h

told_past : (P : List ℕ → Type 0) (told after : Option (List ℕ)) (bytes : List ℕ) → Consumes told after bytes
    → ((more : List ℕ) → P (bytes ++ more)) → IfSome told P
told_past P None after bytes given h = tt
told_past P (Some left) None bytes given h = absurd given
told_past P (Some left) (Some rest) bytes given h = subst P (sym given) (h rest)

told_all : (most : ℕ) (P : List ℕ → Type 0) (bytes : List ℕ) (before after : Stream) → IsRead most before after bytes → P bytes
    → (length bytes ≡ most + 1 → (more : List ℕ) → P (bytes ++ more)) → IfSome before.told P
told_all most P bytes before after (inl whole) h early = told_whole P before.told bytes whole.all h
told_all most P bytes before after (inr past) h early = told_past P before.told after.told bytes past.given (early past.past)

-- what was read has the fault, and so has all that the source exposed
has_fault : (reads : Reading) (fault : TraceFault) (bytes : List ℕ) (before after : Stream) → IsRead (most_read reads) before after bytes
    → IsFaulty reads fault bytes → (length bytes ≡ most_read reads + 1 → (more : List ℕ) → IsFaulty reads fault (bytes ++ more))
    → HasFault reads fault before after
has_fault reads fault bytes before after read first early = record {
  bytes = bytes;
  read = read;
  first = first;
  told = told_all (most_read reads) (IsFaulty reads fault) bytes before after read first early;
}

-- a source from which a trace was read gave what it should, without a fault
pub trace_stopped : (t : Trace) (before after : Stream) → IsTraceRead t before after → IsStopped most_bytes before after
trace_stopped t before after h = read_stopped most_bytes h.bytes before after (inl h.read)

-- the fault of what was read is why a command that reads a trace has no output
pub trace_refused : (known : ℕ) (region : Bool) (fault : TraceFault) (bytes : List ℕ) (before after : Stream) →
    IsRead most_bytes before after bytes
    → IsFault known fault bytes → IsRefusal (status_of_trace fault) (needing (ReadsTrace known) region true) before after
trace_refused known region (BadLine n) bytes before after read first = (
  tt,
  has_fault (ReadsTrace known) (BadLine n) bytes before after read first
      (λ past more. fault_early known (BadLine n) bytes more past first),
)
trace_refused known region (Limit n) bytes before after read first = (
  tt,
  has_fault (ReadsTrace known) (Limit n) bytes before after read first (λ past more. fault_early known (Limit n) bytes more past first),
)
trace_refused known region OutOfMemory bytes before after read first = (refl, read_stopped most_bytes bytes before after read)

-- a call that stops after it read a script whole had no fault of the source
pub script_stopped : (s : Script) (before after : Stream) → IsScriptRead s before after → IsStopped most_bytes before after
script_stopped s before after h = read_stopped most_bytes h.bytes before after (inl h.read)

-- an input is refused with the status of its first fault as a script
pub script_refused : (fault : TraceFault) (bytes : List ℕ) (before after : Stream) → IsRead most_bytes before after bytes
    → IsScriptFault fault bytes → IsRefusal (status_of_trace fault) (needing ReadsScript false true) before after
script_refused (BadLine n) bytes before after read first = (
  tt,
  has_fault ReadsScript (BadLine n) bytes before after read first
      (λ past more. script_fault_early (BadLine n) bytes more past first),
)
script_refused (Limit n) bytes before after read first =
    (tt, has_fault ReadsScript (Limit n) bytes before after read first (λ past more. script_fault_early (Limit n) bytes more past first))
script_refused OutOfMemory bytes before after read first = (refl, read_stopped most_bytes bytes before after read)

-- ---- the input of `audit` and of `dangling`

-- a legal run after its trace is what `audit` prints `legal` for
pub input_legal : (bytes text : List ℕ) (before after : Stream) → IsRead most_audited before after bytes → IsLegalInput bytes
    → text ≡ legal_text → IsAuditOutput before after text
input_legal bytes text before after read h printed = record {
  bytes = bytes;
  read = read_whole most_audited bytes before after read h.input.short;
  legal = h;
  printed = printed;
}

-- the text of the pairs of a legal run after its trace is what `dangling` prints
pub input_paired : (t : Trace) (r : Run) (bytes text : List ℕ) (before after : Stream) → IsRead most_audited before after bytes
    → IsLegalOf t r bytes → IsPairsText t r text → IsDanglingOutput before after text
input_paired t r bytes text before after read h told = record {
  bytes = bytes;
  read = read_whole most_audited bytes before after read h.input.short;
  trace = t;
  run = r;
  legal = h;
  told = told;
}

-- a run that isn't legal is why neither has an output
pub input_refuted : (clause : Clause) (n : ℕ) (bytes : List ℕ) (before after : Stream) → IsRead most_audited before after bytes
    → IsRefutedInput clause n bytes → IsRefusal (NotLegal clause n) (needing ReadsRun false true) before after
input_refuted clause n bytes before after read h =
    (refl, record { bytes = bytes; read = read_whole most_audited bytes before after read h.input.short; refuted = h })

-- the fault of what was read is why neither has an output
pub input_faulty : (fault : TraceFault) (bytes : List ℕ) (before after : Stream) → IsRead most_audited before after bytes
    → IsInputFault fault bytes → IsRefusal (status_of_trace fault) (needing ReadsRun false true) before after
input_faulty (BadLine n) bytes before after read h =
    (tt, has_fault ReadsRun (BadLine n) bytes before after read h (λ past more. audit_fault_early (BadLine n) bytes more past h))
input_faulty (Limit n) bytes before after read h =
    (tt, has_fault ReadsRun (Limit n) bytes before after read h (λ past more. audit_fault_early (Limit n) bytes more past h))
input_faulty OutOfMemory bytes before after read h = (refl, read_stopped most_audited bytes before after read)
