use Rattle.std.proofs.Common.{◌≡◌, ◌+◌, ◌≤◌, drop}
use Rattle.pa_trace.specs.declared.script.Rules.{Rules}
use Rattle.pa_audit_records.proofs.Due.{DueSoFar}
use Rattle.pa_audit_records.proofs.lines.lines_meet.Given as goal

abbrev pub invariant-loop-line : goal.invariant-loop-line
invariant-loop-line l = record {
  due : (r : Rules) → DueSoFar r l.lines l.records (drop l.line-index l.lines) l.number l.at;
  few : l.at ≤ l.line-index;
  number : l.number ≡ l.line-index + 2;
}
