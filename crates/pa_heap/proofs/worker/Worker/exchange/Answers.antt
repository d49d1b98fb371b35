use Rattle.std.proofs.Common.{sym, subst}
use Rattle.std.proofs.lemmas.Result.{on_err_weaker}
use Rattle.std.specs.Prelude.{OnErr}
use Rattle.pa_trace.specs.declared.script.Op.TheVariants as ops
use Rattle.pa_op_specs.specs.Workers.{WorkerValue, HasItsStake}
use Rattle.pa_thread_state.specs.Exchanging.{IsUndone}
use Rattle.pa_thread_state.specs.Stopping.{KeepsItsStake}
use Rattle.pa_heap.proofs.Ending.{step_goes_on, step_keeps, step_leaves, step_plays, step_stops, swap_makes}
use Rattle.pa_heap.proofs.Undone.{undone_keeps}
use Rattle.pa_heap.proofs.worker.Worker.exchange.Goals as goal

pub invariant_of-self : goal.invariant_of-self
invariant_of-self g c =
    let makes =
    swap_makes c.args.line c.self.inside.stock c.exchange-ended.new.stock c.self.inside.account c.self.invariant.0 c.args.cell c.args.reg
    c.exchange-ended.result c.exchange-ended.ensures.does in
    step_keeps c.self.inside.stock c.exchange-ended.new.stock c.self.inside.account c.end_op.new.self
    c.self.view_is (ops.Swap c.args.cell c.args.reg) c.exchange-ended.result c.end_op.ensures.ends makes c.exchange-ended.ensures.budget
    c.self.invariant.1 c.self.invariant.2 c.requires.ready c.kept.ensures.stock c.kept.ensures.aware c.end_op.ensures.account

pub returns : goal.returns
returns g c =
    let makes =
    swap_makes c.args.line c.self.inside.stock c.exchange-ended.new.stock c.self.inside.account c.self.invariant.0 c.args.cell c.args.reg
    c.exchange-ended.result c.exchange-ended.ensures.does in
    let stake = subst (λ (w : WorkerValue). HasItsStake w.stock) (sym c.self.view_is) c.requires.ready.stake in
    record {
      plays = step_plays c.self.inside.stock c.exchange-ended.new.stock c.self.inside.account c.end_op.new.self
          c.self.view_is (ops.Swap c.args.cell c.args.reg) c.exchange-ended.result c.end_op.ensures.ends makes c.thread.ensures
          c.exchange-ended.ensures.does;
      goes_on = step_goes_on c.self.inside.stock c.exchange-ended.new.stock c.self.inside.account c.end_op.new.self
          c.self.view_is (ops.Swap c.args.cell c.args.reg) c.exchange-ended.result c.end_op.ensures.ends makes c.requires.ready;
      stops = step_stops c.exchange-ended.result c.end_op.ensures.ends;
      stake = subst (λ (w : WorkerValue). OnErr c.exchange-ended.result (KeepsItsStake w.stock c.exchange-ended.new.stock)) c.self.view_is
          (on_err_weaker c.exchange-ended.result (λ undone. undone_keeps c.self.inside.stock c.exchange-ended.new.stock undone stake)
          c.exchange-ended.ensures.undone);
      undone = subst (λ (w : WorkerValue). OnErr c.exchange-ended.result (IsUndone w.stock c.exchange-ended.new.stock)) c.self.view_is
          c.exchange-ended.ensures.undone;
      same = step_leaves c.self.inside.stock c.exchange-ended.new.stock c.self.inside.account c.end_op.new.self
          c.self.view_is c.exchange-ended.result c.end_op.ensures.ends;
    }
