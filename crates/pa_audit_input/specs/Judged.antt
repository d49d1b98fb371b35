-- What the verdict on bytes says of them, and why there is none. Lines count from 1 in the whole input.
use Rattle.std.specs.Prelude.{◌≡◌, ℕ, ◌+◌, List}
use Rattle.pa_trace.specs.declared.script.Trace.{Trace}
use Rattle.pa_trace.specs.declared.fault.TraceFault.{TraceFault}
use Rattle.pa_trace.specs.declared.fault.TraceFault.TheVariants.{BadLine, Limit, OutOfMemory}
use Rattle.pa_record.specs.declared.run.Run.{Run}
use Rattle.pa_rules.specs.declared.verdict.Clause.{Clause}
use Rattle.pa_rules.specs.declared.verdict.Verdict.{Verdict}
use Rattle.pa_rules.specs.declared.verdict.Verdict.TheVariants.{Legal, Broken}
use Rattle.pa_rules.specs.Legal.{IsLegal}
use Rattle.pa_rules.specs.Verdicts.{IsFirstFailing}
use Rattle.pa_audit_input.specs.declared.judging.Judgement.{Judgement}
use Rattle.pa_audit_input.specs.declared.judging.Judgement.TheVariants as judgements
use Rattle.pa_audit_input.specs.Input.{IsAudited, IsFirstAuditFault}

-- the bytes are this trace followed by this run, which is legal for it
pub record IsLegalOf (t : Trace) (r : Run) (bytes : List ℕ) : Type 0 where
  pub lines : ℕ
  pub input : IsAudited t r lines bytes
  pub legal : IsLegal t r

-- the bytes are a trace followed by a legal run of it
pub record IsLegalInput (bytes : List ℕ) : Type 0 where
  pub trace : Trace
  pub run : Run
  pub lines : ℕ
  pub input : IsAudited trace run lines bytes
  pub legal : IsLegal trace run

-- the bytes are a trace followed by a run, of which this clause is the first that fails, first at line n of the bytes
pub record IsRefutedInput (clause : Clause) (n : ℕ) (bytes : List ℕ) : Type 0 where
  pub trace : Trace
  pub run : Run
  pub lines : ℕ
  pub line : ℕ
  pub input : IsAudited trace run lines bytes
  pub fails : IsFirstFailing clause line trace run
  pub at : n ≡ lines + line

-- the verdict on the bytes
abbrev pub IsVerdictOn : Verdict → List ℕ → Type 0
IsVerdictOn Legal bytes = IsLegalInput bytes
IsVerdictOn (Broken clause n) bytes = IsRefutedInput clause n bytes

-- the judgement on the bytes, with the trace and the run if these are legal
abbrev pub IsJudgementOn : Judgement → List ℕ → Type 0
IsJudgementOn (judgements.Legal trace run) bytes = IsLegalOf trace run bytes
IsJudgementOn (judgements.Broken clause n) bytes = IsRefutedInput clause n bytes

-- why there is no verdict on the bytes: their first faulty line, or out of memory
abbrev pub IsInputFault : TraceFault → List ℕ → Type 0
IsInputFault (BadLine n) bytes = IsFirstAuditFault (BadLine n) bytes
IsInputFault (Limit n) bytes = IsFirstAuditFault (Limit n) bytes
IsInputFault OutOfMemory bytes = Unit {0}
