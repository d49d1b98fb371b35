use Rattle.std.proofs.Common.{arith}
use Rattle.pa_heap.proofs.Exchanged.{exchange_does, parks_stake, exchanged_none, exchanged_budget}
use Rattle.pa_heap.proofs.Undone.{undone}
use Rattle.pa_heap.proofs.exchanges.exchange.Goals as goal

pub swap-requires-clause-stake : goal.swap-requires-clause-stake
swap-requires-clause-stake g c =
    parks_stake c.givers_lack_handles.ensures c.args.stock.now c.park-given.new.self c.args.reg c.park-given.result c.kept.ensures.stock
    c.requires.numbers.1
    c.requires.stake c.park-given.ensures.parks

pub take_in-requires-clause-none : goal.take_in-requires-clause-none
take_in-requires-clause-none g c =
    exchanged_none c.args.line c.args.cell c.args.reg c.in-Ok.entry c.park-given.result c.in-Ok.found c.args.stock.now
    c.park-given.new.self c.swap.new.self
    c.kept.ensures.stock c.requires.numbers.1 c.park-given.ensures.parks c.in-Ok.ensures.made

pub returns-in-Ok-clause-does : goal.returns-in-Ok-clause-does
returns-in-Ok-clause-does g c =
    exchange_does c.givers_lack_handles.ensures c.beginnings_join.ensures c.seen_numbers_join.ensures c.free_numbers_stay.ensures
    c.args.line c.args.cell c.args.reg c.in-Ok.entry c.park-given.result c.in-Ok.found c.args.stock.now c.park-given.new.self
    c.swap.new.self c.take_in.new.self
    c.kept.ensures.stock c.requires.numbers.1 c.kept-2.ensures.aware c.kept-in-Ok.ensures.aware c.kept-in-Ok-2.ensures.aware
    c.park-given.ensures.parks
    c.in-Ok.ensures.made c.take_in.ensures.taken

pub returns-in-Err-clause-undone : goal.returns-in-Err-clause-undone
returns-in-Err-clause-undone g c =
    undone c.givers_lack_handles.ensures c.takers_have_handles.ensures c.beginnings_join.ensures c.seen_numbers_join.ensures
    c.seen_lists_join.ensures c.free_numbers_stay.ensures
    c.args.stock.now c.park-given.new.self c.swap.new.self c.put_back.new.self c.args.reg c.park-given.result c.in-Err.given
    c.kept.ensures.stock c.requires.numbers.1
    c.kept-2.ensures.aware c.kept-in-Err.ensures.aware c.park-given.ensures.parks c.in-Err.ensures.back c.in-Err.ensures.same
    c.put_back.ensures.taken c.put_back.ensures.none

pub returns-in-Ok-clause-budget : goal.returns-in-Ok-clause-budget
returns-in-Ok-clause-budget g c =
    let fits =
    exchanged_budget c.givers_lack_handles.ensures c.beginnings_join.ensures c.seen_numbers_join.ensures c.free_numbers_stay.ensures
    c.args.line c.args.cell c.args.reg c.in-Ok.entry c.park-given.result c.in-Ok.found c.args.stock.now c.park-given.new.self
    c.swap.new.self c.take_in.new.self
    c.kept.ensures.stock c.requires.numbers.1 c.kept-in-Ok.ensures.aware c.kept-in-Ok-2.ensures.aware c.park-given.ensures.parks
    c.in-Ok.ensures.made c.take_in.ensures.taken in
    omega arith
