use Rattle.std.proofs.Common.{subst}
use Rattle.std.specs.Prelude.{OnErr}
use Rattle.pa_trace.specs.declared.script.Op.TheVariants as ops
use Rattle.pa_op_specs.specs.Workers.{WorkerValue}
use Rattle.pa_thread_state.specs.Stopping.{KeepsItsStake}
use Rattle.pa_heap.specs.Stopping.{StopsPurge}
use Rattle.pa_heap.proofs.Ending.{if_op_some, purge_makes, step_goes_on, step_keeps, step_leaves, step_plays, step_stops}
use Rattle.pa_heap.proofs.worker.Worker.purge.Goals as goal

pub invariant_of-self : goal.invariant_of-self
invariant_of-self g c =
    let makes =
    purge_makes c.args.line c.self.inside.stock c.purge-ended.new.stock c.self.inside.account c.self.invariant.0 c.purge-ended.result
    (if_op_some c.args.line ops.Purge c.self.inside.stock c.purge-ended.new.stock c.purge-ended.result c.purge-ended.ensures.does) in
    step_keeps c.self.inside.stock c.purge-ended.new.stock c.self.inside.account c.end_op.new.self
    c.self.view_is ops.Purge c.purge-ended.result c.end_op.ensures.ends makes c.purge-ended.ensures.budget
    c.self.invariant.1 c.self.invariant.2 c.requires.ready c.kept.ensures.stock c.kept.ensures.aware c.end_op.ensures.account

pub returns : goal.returns
returns g c =
    let makes =
    purge_makes c.args.line c.self.inside.stock c.purge-ended.new.stock c.self.inside.account c.self.invariant.0 c.purge-ended.result
    (if_op_some c.args.line ops.Purge c.self.inside.stock c.purge-ended.new.stock c.purge-ended.result c.purge-ended.ensures.does) in
    record {
      plays = step_plays c.self.inside.stock c.purge-ended.new.stock c.self.inside.account c.end_op.new.self
          c.self.view_is ops.Purge c.purge-ended.result c.end_op.ensures.ends makes c.thread.ensures c.purge-ended.ensures.does;
      goes_on = step_goes_on c.self.inside.stock c.purge-ended.new.stock c.self.inside.account c.end_op.new.self
          c.self.view_is ops.Purge c.purge-ended.result c.end_op.ensures.ends makes c.requires.ready;
      stops = step_stops c.purge-ended.result c.end_op.ensures.ends;
      stake = subst (λ (w : WorkerValue). OnErr c.purge-ended.result (KeepsItsStake w.stock c.purge-ended.new.stock)) c.self.view_is
          c.purge-ended.ensures.stake;
      left = subst (λ (w : WorkerValue). OnErr c.purge-ended.result (StopsPurge c.args.line w.stock c.purge-ended.new.stock)) c.self.view_is
          c.purge-ended.ensures.left;
      same = step_leaves c.self.inside.stock c.purge-ended.new.stock c.self.inside.account c.end_op.new.self
          c.self.view_is c.purge-ended.result c.end_op.ensures.ends;
    }
