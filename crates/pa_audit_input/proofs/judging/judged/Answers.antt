use Rattle.std.proofs.Common.{◌≡◌, ◌∙◌, ℕ, ◌+◌, ◌≤◌, List, length, refl, ap, arith}
use Rattle.std.proofs.lemmas.List.{length-append}
use Rattle.pa_trace.specs.declared.script.Trace.{Trace}
use Rattle.pa_trace.specs.Limits.{IsInput}
use Rattle.pa_trace.specs.Faults.{lines_of}
use Rattle.pa_record.specs.declared.run.Run.{Run}
use Rattle.pa_record.specs.RunText.{IsRunText}
use Rattle.pa_audit_input.specs.Input.{most_audited, IsParted, IsAudited}
use Rattle.pa_audit_input.proofs.Counting.{run_lines}
use Rattle.pa_audit_input.proofs.Failing.{failing_line}
use Rattle.pa_audit_input.proofs.judging.judged.Goals as goal

parts_length : (front back bytes : List ℕ) → IsParted front back bytes → length bytes ≡ length front + length back
parts_length front back bytes parted = ap length parted.parts ∙ length-append front back

input_of : (t : Trace) (r : Run) (lines : ℕ) (front back bytes : List ℕ) → IsParted front back bytes → IsInput t front → IsRunText r back
    → lines ≡ length (lines_of front) → length front + length back ≤ most_audited → IsAudited t r lines bytes
input_of t r lines front back bytes parted trace run count short = record {
  front = front;
  back = back;
  parted = parted;
  trace = trace;
  run = run;
  count = count;
  short = (let long = parts_length front back bytes parted in omega (arith, long, short));
}

pub audit_dense-requires-clause-short : goal.audit_dense-requires-clause-short
audit_dense-requires-clause-short c =
    let few = run_lines c.in_ok-run.run' c.parts_of-lines.result.1.now c.in_ok-run.ensures.found in
    let long = parts_length c.parts_of-lines.result.0.now c.parts_of-lines.result.1.now c.args.bytes.now c.parts_of-lines.ensures.parted in
    omega (arith, few, long, c.requires)

pub returns-in-Ok-Legal-clause-judged : goal.returns-in-Ok-Legal-clause-judged
returns-in-Ok-Legal-clause-judged c =
    let parts = c.parts_of-lines.result in
    record {
      lines = parts.2;
      input = input_of c.in_ok-trace.trace c.in_ok-run.run' parts.2 parts.0.now parts.1.now c.args.bytes.now c.parts_of-lines.ensures.parted
          c.in_ok-trace.ensures.found c.in_ok-run.ensures.found c.parts_of-lines.ensures.lines c.in_ok-run.ensures.within;
      legal = rw c.in-Ok-Legal.field-0-is at c.in-Ok-Legal.ensures;
    }

pub overflow_add-result : goal.overflow_add-result
overflow_add-result c =
    let parts = c.parts_of-lines.result in
    let fails = rw c.in-Ok-Broken.field-0-is at c.in-Ok-Broken.ensures in
    let line = failing_line c.in-Ok-Broken.clause c.in-Ok-Broken.line c.in_ok-trace.trace c.in_ok-run.run' fails in
    let few = run_lines c.in_ok-run.run' parts.1.now c.in_ok-run.ensures.found in
    let long = parts_length parts.0.now parts.1.now c.args.bytes.now c.parts_of-lines.ensures.parted in
    omega (arith, line, few, long, c.requires, c.parts_of-lines.ensures.few)

pub returns-in-Ok-Broken-clause-judged : goal.returns-in-Ok-Broken-clause-judged
returns-in-Ok-Broken-clause-judged c =
    let parts = c.parts_of-lines.result in
    record {
      trace = c.in_ok-trace.trace;
      run = c.in_ok-run.run';
      lines = parts.2;
      line = c.in-Ok-Broken.line;
      input = input_of c.in_ok-trace.trace c.in_ok-run.run' parts.2 parts.0.now parts.1.now c.args.bytes.now c.parts_of-lines.ensures.parted
          c.in_ok-trace.ensures.found c.in_ok-run.ensures.found c.parts_of-lines.ensures.lines c.in_ok-run.ensures.within;
      fails = rw c.in-Ok-Broken.field-0-is at c.in-Ok-Broken.ensures;
      at = refl;
    }
