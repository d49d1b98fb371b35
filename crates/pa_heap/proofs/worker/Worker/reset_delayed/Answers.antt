use Rattle.std.proofs.Common.{◌∙◌, ap, subst}
use Rattle.std.specs.Prelude.{OnErr}
use Rattle.pa_trace.specs.declared.script.Op.TheVariants as ops
use Rattle.pa_op_specs.specs.Counts.{pointed_in}
use Rattle.pa_op_specs.specs.Workers.{WorkerValue}
use Rattle.pa_thread_state.specs.Stopping.{KeepsItsStake}
use Rattle.pa_heap.proofs.Ending.{if_delayed_some, reset_makes, step_delays, step_goes_on, step_keeps, step_leaves, step_stops}
use Rattle.pa_heap.proofs.worker.Worker.reset_delayed.Goals as goal

pub invariant_of-self : goal.invariant_of-self
invariant_of-self g c =
    let makes =
    reset_makes c.args.line c.self.inside.stock c.play_reset_delayed-ended.new.stock c.self.inside.account c.self.invariant.0
    c.args.reg c.kept.ensures.stock c.requires.reg (c.pointed-handle.ensures ∙ ap pointed_in c.register.ensures)
    c.play_reset_delayed-ended.result
    (if_delayed_some c.args.line (ops.Reset c.args.reg) c.self.inside.stock c.args.queue.now
    c.play_reset_delayed-ended.new.stock c.play_reset_delayed-ended.new.queue
    c.play_reset_delayed-ended.result c.play_reset_delayed-ended.ensures.does) in
    step_keeps c.self.inside.stock c.play_reset_delayed-ended.new.stock c.self.inside.account c.end_step.new.self
    c.self.view_is (ops.Reset c.args.reg) c.play_reset_delayed-ended.result c.end_step.ensures.ends makes
    c.play_reset_delayed-ended.ensures.budget
    c.self.invariant.1 c.self.invariant.2 c.requires.ready c.kept-2.ensures.stock c.kept-2.ensures.aware c.end_step.ensures.account

pub returns : goal.returns
returns g c =
    let makes =
    reset_makes c.args.line c.self.inside.stock c.play_reset_delayed-ended.new.stock c.self.inside.account c.self.invariant.0
    c.args.reg c.kept.ensures.stock c.requires.reg (c.pointed-handle.ensures ∙ ap pointed_in c.register.ensures)
    c.play_reset_delayed-ended.result
    (if_delayed_some c.args.line (ops.Reset c.args.reg) c.self.inside.stock c.args.queue.now
    c.play_reset_delayed-ended.new.stock c.play_reset_delayed-ended.new.queue
    c.play_reset_delayed-ended.result c.play_reset_delayed-ended.ensures.does) in
    record {
      plays = step_delays c.self.inside.stock c.play_reset_delayed-ended.new.stock c.self.inside.account c.end_step.new.self
          c.self.view_is (ops.Reset c.args.reg) c.args.queue.now c.play_reset_delayed-ended.new.queue
          c.play_reset_delayed-ended.result c.end_step.ensures.ends makes c.thread.ensures
          c.play_reset_delayed-ended.ensures.does;
      goes_on = step_goes_on c.self.inside.stock c.play_reset_delayed-ended.new.stock c.self.inside.account c.end_step.new.self
          c.self.view_is (ops.Reset c.args.reg) c.play_reset_delayed-ended.result c.end_step.ensures.ends makes c.requires.ready;
      waits = c.play_reset_delayed-ended.ensures.waits;
      rest = c.play_reset_delayed-ended.ensures.rest;
      few = c.play_reset_delayed-ended.ensures.few;
      stops = step_stops c.play_reset_delayed-ended.result c.end_step.ensures.ends;
      stake = subst (λ (w : WorkerValue).
          OnErr c.play_reset_delayed-ended.result (KeepsItsStake w.stock c.play_reset_delayed-ended.new.stock))
          c.self.view_is c.play_reset_delayed-ended.ensures.stake;
      same = step_leaves c.self.inside.stock c.play_reset_delayed-ended.new.stock c.self.inside.account c.end_step.new.self
          c.self.view_is c.play_reset_delayed-ended.result c.end_step.ensures.ends;
    }
