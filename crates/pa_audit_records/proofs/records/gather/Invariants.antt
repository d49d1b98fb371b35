use Rattle.std.proofs.Common.{◌≡◌, ◌+◌, ◌≤◌, drop, length}
use Rattle.pa_audit_records.proofs.Beside.{BesideSoFar}
use Rattle.pa_audit_records.proofs.records.gather.Given as goal

abbrev pub invariant-loop-line : goal.invariant-loop-line
invariant-loop-line l = record {
  beside : BesideSoFar l.rules l.lines l.records (drop l.line-index l.lines) l.number l.phase l.all.items;
  few : length l.all.items ≤ l.line-index;
  phase : l.phase ≤ l.line-index + 1;
  number : l.number ≡ l.line-index + 2;
}
