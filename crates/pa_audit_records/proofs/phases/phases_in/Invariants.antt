use Rattle.std.proofs.Common.{◌≡◌, ◌+◌, ◌≤◌, take}
use Rattle.std.specs.Prelude.{count_by}
use Rattle.pa_rules.specs.Legal.{is_phase}
use Rattle.pa_audit_records.proofs.phases.phases_in.Given as goal

abbrev pub invariant-loop-line : goal.invariant-loop-line
invariant-loop-line l = record {
  phases : l.phases ≡ count_by is_phase (take l.line-index l.lines) + 1;
  few : l.phases ≤ l.line-index + 1;
}
