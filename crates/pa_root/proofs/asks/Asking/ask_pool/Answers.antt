use Rattle.std.proofs.Common.{Some, None, subst}
use Rattle.pa_pool.specs.declared.fault.PoolFault.{PoolFault}
use Rattle.pa_pool.specs.Calls.{Refused}
use Rattle.pa_root.proofs.Asked.{shown_lends, asked_is, run_low}
use Rattle.pa_root.proofs.asks.Asking.ask_pool.Goals as goal

pub take-requires-clause-lender : goal.take-requires-clause-lender
take-requires-clause-lender g c =
    (shown_lends c.args.self.now.seat.now.view c.show_seen.new.to.view c.args.root.now.view c.show_seen.new.from.view
    c.show_seen.ensures.shown c.requires.lender).0

pub returns-in-Ok-clause-asked : goal.returns-in-Ok-clause-asked
returns-in-Ok-clause-asked g c =
    asked_is c.args.self.now.line c.args.partition c.args.count c.in-Ok.index
    (Some c.in-Ok.first) c.args.self.now.seat.now.view c.args.root.now.view c.show_seen.new.from.view
    c.show_seen.new.to c.take.new.seat c.room.new.self c.take.new.self c.show_seen.ensures.shown c.requires.lender c.aware.ensures.aware
    c.aware-in-Ok.ensures.aware
    c.kept.ensures c.in-Ok.ensures.took

pub returns-in-Err-NoRoom-clause-asked : goal.returns-in-Err-NoRoom-clause-asked
returns-in-Err-NoRoom-clause-asked g c =
    asked_is c.args.self.now.line c.args.partition c.args.count c.in-Err-NoRoom.index None c.args.self.now.seat.now.view
    c.args.root.now.view c.show_seen.new.from.view
    c.show_seen.new.to c.take.new.seat c.room.new.self c.take.new.self c.show_seen.ensures.shown c.requires.lender c.aware.ensures.aware
    c.aware-in-Err-NoRoom.ensures.aware
    c.kept.ensures (subst (λ
    (f : PoolFault). Refused c.args.self.now.line c.args.partition c.args.count c.show_seen.new.to c.take.new.seat c.room.new.self
    c.take.new.self f)
    c.in-Err-NoRoom.field-0-is c.in-Err-NoRoom.ensures.refused)

pub returns-in-Ok-clause-low : goal.returns-in-Ok-clause-low
returns-in-Ok-clause-low g c = run_low c.args.count c.in-Ok.first c.room.new.self c.kept.ensures c.in-Ok.ensures.took.lowest
