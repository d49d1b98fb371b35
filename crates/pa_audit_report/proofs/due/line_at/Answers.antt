use Rattle.std.proofs.Common.{arith}
use Rattle.std.proofs.lemmas.List.{get_or_default}
use Rattle.std.proofs.lemmas.Option.{slice_get-get_or}
use Rattle.pa_rules.specs.Lists.{no_tally}
use Rattle.pa_audit_report.proofs.Columns.{line_due}
use Rattle.pa_audit_report.proofs.due.line_at.Goals as goal

pub returns : goal.returns
returns c = λ supers partitions threads ps pools roots sizes g knows used listed counted.
    let there = listed c.args.at _ (slice_get-get_or c.args.cached.now c.args.at _ c.requires.listed) in
    line_due supers partitions threads c.args.partition c.args.at ps pools roots sizes _ _ _ _ c.line_of.result g knows
    c.requires.partition (used c.args.at _ (slice_get-get_or c.args.uses.now c.args.at _ c.requires.used)) there
    (get_or_default _ c.args.partition _ no_tally (omega (arith, there.many, c.requires.partition)))
    (counted c.args.at _ (slice_get-get_or c.args.censuses.now c.args.at _ c.requires.counted)) c.line_of.ensures
