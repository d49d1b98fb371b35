use Rattle.std.proofs.Common.{ℕ, ◌<◌, ◌≤◌, get_or}
use Rattle.pa_rules.specs.declared.played.Played.{Played}
use Rattle.pa_audit_holders.proofs.lines.lines_below.Given as goal

abbrev pub invariant-loop-record : goal.invariant-loop-record
invariant-loop-record l = (j : ℕ) (d : Played) → j < l.record-index → (get_or l.records j d).line ≤ l.most
