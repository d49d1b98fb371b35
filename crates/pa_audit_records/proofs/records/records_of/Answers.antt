use Rattle.std.proofs.Common.{sym, subst}
use Rattle.pa_rules.specs.Rising.{RiseByLine}
use Rattle.pa_audit_records.specs.Cuts.{RiseByPhase}
use Rattle.pa_audit_records.proofs.Rising.{phased_played, rising_played}
use Rattle.pa_audit_records.proofs.records.records_of.Goals as goal

pub returns-clause-rising : goal.returns-clause-rising
returns-clause-rising c =
    subst RiseByLine (sym c.in_ok-all.ensures.records) (rising_played c.args.rules c.args.lines.now c.args.records.now)

pub returns-clause-phased : goal.returns-clause-phased
returns-clause-phased c =
    subst RiseByPhase (sym c.in_ok-all.ensures.records) (phased_played c.args.rules c.args.lines.now c.args.records.now)
