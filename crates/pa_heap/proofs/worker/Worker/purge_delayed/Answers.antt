use Rattle.std.proofs.Common.{length, sym, ap, subst, arith}
use Rattle.std.proofs.lemmas.Result.{on_ok_weaker}
use Rattle.std.specs.Prelude.{OnErr}
use Rattle.pa_trace.specs.declared.script.Op.TheVariants as ops
use Rattle.pa_op_specs.specs.Workers.{WorkerValue, CanPlayOp}
use Rattle.pa_thread_state.specs.Stopping.{KeepsItsStake}
use Rattle.pa_heap.specs.Waiting.{HoldsQueue}
use Rattle.pa_heap.proofs.Ending.{if_delayed_some, purge_makes, step_delays, step_goes_on, step_keeps, step_leaves, step_stops}
use Rattle.pa_heap.proofs.PurgedWaiting.{holds_none}
use Rattle.pa_heap.proofs.worker.Worker.purge_delayed.Goals as goal

pub purge_waiting-ended-requires-clause-stake : goal.purge_waiting-ended-requires-clause-stake
purge_waiting-ended-requires-clause-stake g c =
    (subst (λ (z : WorkerValue). CanPlayOp z) (sym c.self.view_is) c.requires.ready).stake

pub purge_waiting-ended-requires-clause-waits : goal.purge_waiting-ended-requires-clause-waits
purge_waiting-ended-requires-clause-waits g c =
    subst (λ (z : WorkerValue). HoldsQueue c.args.queue.now.slots z.stock) (sym c.self.view_is) c.requires.waits

pub invariant_of-self : goal.invariant_of-self
invariant_of-self g c =
    let makes =
    purge_makes c.args.line c.self.inside.stock c.purge_waiting-ended.new.stock c.self.inside.account c.self.invariant.0
    c.purge_waiting-ended.result
    (if_delayed_some c.args.line ops.Purge c.self.inside.stock c.args.queue.now c.purge_waiting-ended.new.stock
    c.purge_waiting-ended.new.queue c.purge_waiting-ended.result c.purge_waiting-ended.ensures.does) in
    step_keeps c.self.inside.stock c.purge_waiting-ended.new.stock c.self.inside.account c.end_op.new.self
    c.self.view_is ops.Purge c.purge_waiting-ended.result c.end_op.ensures.ends makes c.purge_waiting-ended.ensures.budget
    c.self.invariant.1 c.self.invariant.2 c.requires.ready c.kept.ensures.stock c.kept.ensures.aware c.end_op.ensures.account

pub returns : goal.returns
returns g c =
    let makes =
    purge_makes c.args.line c.self.inside.stock c.purge_waiting-ended.new.stock c.self.inside.account c.self.invariant.0
    c.purge_waiting-ended.result
    (if_delayed_some c.args.line ops.Purge c.self.inside.stock c.args.queue.now c.purge_waiting-ended.new.stock
    c.purge_waiting-ended.new.queue c.purge_waiting-ended.result c.purge_waiting-ended.ensures.does) in
    record {
      plays = step_delays c.self.inside.stock c.purge_waiting-ended.new.stock c.self.inside.account c.end_op.new.self
          c.self.view_is ops.Purge c.args.queue.now c.purge_waiting-ended.new.queue c.purge_waiting-ended.result c.end_op.ensures.ends
          makes c.thread.ensures
          c.purge_waiting-ended.ensures.does;
      goes_on = step_goes_on c.self.inside.stock c.purge_waiting-ended.new.stock c.self.inside.account c.end_op.new.self
          c.self.view_is ops.Purge c.purge_waiting-ended.result c.end_op.ensures.ends makes c.requires.ready;
      waits = on_ok_weaker c.purge_waiting-ended.result
          (λ none. subst (λ hs. HoldsQueue hs c.purge_waiting-ended.new.stock) (sym none) (holds_none c.purge_waiting-ended.new.stock))
          c.purge_waiting-ended.ensures.none;
      rest = c.purge_waiting-ended.ensures.rest;
      few = on_ok_weaker c.purge_waiting-ended.result (λ none. let no = ap length none in omega arith) c.purge_waiting-ended.ensures.none;
      stops = step_stops c.purge_waiting-ended.result c.end_op.ensures.ends;
      stake = subst (λ (w : WorkerValue). OnErr c.purge_waiting-ended.result (KeepsItsStake w.stock c.purge_waiting-ended.new.stock))
          c.self.view_is
          c.purge_waiting-ended.ensures.stake;
      same = step_leaves c.self.inside.stock c.purge_waiting-ended.new.stock c.self.inside.account c.end_op.new.self
          c.self.view_is c.purge_waiting-ended.result c.end_op.ensures.ends;
    }
