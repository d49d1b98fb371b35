use Rattle.std.proofs.Common.{◌<◌, sym, subst, arith}
use Rattle.pa_op_specs.specs.Stocks.{StockValue}
use Rattle.pa_op_specs.specs.Workers.{HasItsStake}
use Rattle.pa_thread_state.specs.Changes.{CanFill}
use Rattle.pa_thread_state.proofs.Looking.{looked_stake}
use Rattle.pa_heap.proofs.Writing.{can_fill, shared_does, written_does}
use Rattle.pa_heap.proofs.writes.write_owned.Goals as goal

pub returns-then-refs-gt0-clause-does : goal.returns-then-refs-gt0-clause-does
returns-then-refs-gt0-clause-does g c line =
    shared_does c.looks_leave.ensures c.args.stock.now c.look-seen.new.self c.args.reg c.args.value c.args.handle.now c.look-seen.result
    c.kept.ensures.stock c.kept.ensures.aware c.requires.stake c.requires.reg
    c.requires.handle c.look-seen.ensures (subst (λ n. 0 < n) c.refs.ensures c.if-refs-gt0.true) line

pub fill-seen-requires-clause-stake : goal.fill-seen-requires-clause-stake
fill-seen-requires-clause-stake g c =
    subst HasItsStake (sym c.look-seen.ensures.after_is)
    (looked_stake c.looks_leave.ensures c.args.stock.now c.look-seen.result.found.0 c.args.handle.now c.kept.ensures.stock
    c.requires.stake)

pub fill-seen-requires-clause-can : goal.fill-seen-requires-clause-can
fill-seen-requires-clause-can g c =
    subst (λ (z : StockValue). CanFill c.args.handle.now z) (sym c.look-seen.ensures.after_is)
    (can_fill c.looks_leave.ensures c.owns_change.ensures c.args.stock.now c.args.reg c.look-seen.result.found.0 c.args.handle.now
    c.kept.ensures.stock c.requires.stake c.requires.reg c.requires.handle
    (let e = c.refs.ensures in let z = c.if-refs-gt0.false in omega arith))

pub returns-clause-does : goal.returns-clause-does
returns-clause-does g c line =
    written_does c.counted_steps_leave.ensures c.looks_leave.ensures c.owns_change.ensures c.states_are_owns.ensures
    c.filled_words_have_the_value.ensures _ c.args.stock.now c.look-seen.new.self c.fill-seen.new.self
    c.args.reg c.args.value c.args.handle.now c.look-seen.result c.fill-seen.result c.kept.ensures.stock c.kept.ensures.aware
    c.requires.stake c.requires.budget c.requires.reg c.requires.handle c.placed.ensures.well c.placed.ensures.long
    (let e = c.refs.ensures in let z = c.if-refs-gt0.false in omega arith) c.look-seen.ensures c.fill-seen.ensures line
