use Rattle.std.proofs.Common.{rules}
use Rattle.pa_audit_records.specs.ByKeys.{value_at}
use Rattle.pa_audit_holders.proofs.Owning.{returns_start, returns_next, returns_whole}
use Rattle.pa_audit_holders.proofs.owners.returns_of.Goals as goal

pub loop-record-init : goal.loop-record-init
loop-record-init c = returns_start c.args.records.now (value_at c.new-firsts.result) (λ q. search rules)

pub loop-record-preserved : goal.loop-record-preserved
loop-record-preserved c =
    returns_next c.args.records.now (value_at c.loop-record.firsts) (value_at c.enter_return.new.firsts) c.loop-record.record-index _
    c.loop-record-test.true c.loop-record.invariant c.in_ok-enter_return.ensures.enters

pub returns : goal.returns
returns c = returns_whole c.args.records.now (value_at c.loop-record.firsts) c.loop-record.record-index c.loop-record-test.false
    c.loop-record.invariant
