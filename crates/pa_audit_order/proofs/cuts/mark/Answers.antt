use Rattle.std.proofs.Common.{◌<◌, length, arith}
use Rattle.pa_audit_records.specs.ByKeys.{value_at}
use Rattle.pa_audit_order.proofs.Leaving.{left_looked, left_unlooked}
use Rattle.pa_audit_order.proofs.cuts.mark.Goals as goal

pub returns-in_ok-raise-clause-left : goal.returns-in_ok-raise-clause-left
returns-in_ok-raise-clause-left c =
    let ps = c.args.records.now in
    let marked = c.args.marked.now.items in
    let k = c.args.at in
    let within : k < length marked = omega arith in
    left_looked ps marked (value_at c.args.left.now) (value_at c.raise.new.map) k c.key.result _ c.in-Some.look c.requires.at within
    c.in-Some.ensures c.key.ensures.sized.0 c.key.ensures.key c.in_ok-raise.ensures.raises c.requires.left

pub returns-in_default-clause-left : goal.returns-in_default-clause-left
returns-in_default-clause-left c =
    left_unlooked c.args.records.now c.args.marked.now.items
    (value_at c.args.left.now) c.args.at _ c.requires.at c.in_default.ensures c.requires.left
