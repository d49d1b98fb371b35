use Rattle.std.proofs.Common.{◌≡◌, ℕ, ◌<◌}
use Rattle.std.specs.Prelude.{slice_get}
use Rattle.pa_audit_report.proofs.report.first_other.Given as goal

abbrev pub invariant-loop-line : goal.invariant-loop-line
invariant-loop-line l = record {
  at : l.at ≡ l.line-index;
  same : (j : ℕ) → j < l.line-index → slice_get l.lines j ≡ slice_get l.due j;
}
