use Rattle.std.proofs.Common.{◌∙◌, ap, subst}
use Rattle.std.specs.Prelude.{OnErr}
use Rattle.pa_trace.specs.declared.script.Op.TheVariants as ops
use Rattle.pa_op_specs.specs.Counts.{owned_in}
use Rattle.pa_op_specs.specs.Workers.{WorkerValue}
use Rattle.pa_thread_state.specs.Stopping.{KeepsItsStake}
use Rattle.pa_heap.specs.Stopping.{StopsFree}
use Rattle.pa_heap.proofs.Ending.{free_makes, if_op_some, step_goes_on, step_keeps, step_leaves, step_plays, step_stops}
use Rattle.pa_heap.proofs.worker.Worker.free.Goals as goal

pub invariant_of-self : goal.invariant_of-self
invariant_of-self g c =
    let makes =
    free_makes c.args.line c.self.inside.stock c.play_free-ended.new.stock c.self.inside.account c.self.invariant.0
    c.args.reg c.kept.ensures.stock c.requires.reg (c.owned-handle.ensures ∙ ap owned_in c.register.ensures) c.play_free-ended.result
    (if_op_some c.args.line (ops.Free c.args.reg) c.self.inside.stock
    c.play_free-ended.new.stock c.play_free-ended.result c.play_free-ended.ensures.does) in
    step_keeps c.self.inside.stock c.play_free-ended.new.stock c.self.inside.account c.end_step.new.self
    c.self.view_is (ops.Free c.args.reg) c.play_free-ended.result c.end_step.ensures.ends makes c.play_free-ended.ensures.budget
    c.self.invariant.1 c.self.invariant.2 c.requires.ready c.kept-2.ensures.stock c.kept-2.ensures.aware c.end_step.ensures.account

pub returns : goal.returns
returns g c =
    let makes =
    free_makes c.args.line c.self.inside.stock c.play_free-ended.new.stock c.self.inside.account c.self.invariant.0
    c.args.reg c.kept.ensures.stock c.requires.reg (c.owned-handle.ensures ∙ ap owned_in c.register.ensures) c.play_free-ended.result
    (if_op_some c.args.line (ops.Free c.args.reg) c.self.inside.stock
    c.play_free-ended.new.stock c.play_free-ended.result c.play_free-ended.ensures.does) in
    record {
      plays = step_plays c.self.inside.stock c.play_free-ended.new.stock c.self.inside.account c.end_step.new.self
          c.self.view_is (ops.Free c.args.reg) c.play_free-ended.result c.end_step.ensures.ends makes c.thread.ensures
          c.play_free-ended.ensures.does;
      goes_on = step_goes_on c.self.inside.stock c.play_free-ended.new.stock c.self.inside.account c.end_step.new.self
          c.self.view_is (ops.Free c.args.reg) c.play_free-ended.result c.end_step.ensures.ends makes c.requires.ready;
      stops = step_stops c.play_free-ended.result c.end_step.ensures.ends;
      stake = subst (λ (w : WorkerValue).
          OnErr c.play_free-ended.result (KeepsItsStake w.stock c.play_free-ended.new.stock))
          c.self.view_is c.play_free-ended.ensures.stake;
      left = subst (λ (w : WorkerValue).
          OnErr c.play_free-ended.result (StopsFree c.args.line c.args.reg w.stock c.play_free-ended.new.stock))
          c.self.view_is c.play_free-ended.ensures.left;
      same = step_leaves c.self.inside.stock c.play_free-ended.new.stock c.self.inside.account c.end_step.new.self
          c.self.view_is c.play_free-ended.result c.end_step.ensures.ends;
    }
