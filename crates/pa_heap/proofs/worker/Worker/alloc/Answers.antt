use Rattle.std.proofs.Common.{◌∙◌, ap, subst}
use Rattle.std.proofs.lemmas.Result.{IfOk-weaker}
use Rattle.std.specs.Prelude.{OnErr}
use Rattle.pa_trace.specs.declared.script.Op.TheVariants as ops
use Rattle.pa_op_specs.specs.Counts.{owned_in}
use Rattle.pa_op_specs.specs.Workers.{WorkerValue}
use Rattle.pa_heap.specs.Stopping.{AsksRoot}
use Rattle.pa_heap.proofs.Ending.{alloc_makes, step_goes_on, step_keeps, step_leaves_stock, step_plays, step_stops}
use Rattle.pa_heap.proofs.worker.Worker.alloc.Goals as goal

pub invariant_of-self : goal.invariant_of-self
invariant_of-self g c =
    let makes =
    alloc_makes c.args.line c.self.inside.stock c.alloc-ended.new.stock c.self.inside.account c.self.invariant.0
    c.args.reg c.args.partition c.args.size c.kept.ensures.stock c.requires.reg (c.owned-handle.ensures ∙ ap owned_in c.register.ensures)
    c.alloc-ended.result c.alloc-ended.ensures.does c.alloc-ended.ensures.made in
    step_keeps c.self.inside.stock c.alloc-ended.new.stock c.self.inside.account c.end_step.new.self
    c.self.view_is (ops.Alloc c.args.reg c.args.partition c.args.size) c.alloc-ended.result c.end_step.ensures.ends makes
    (IfOk-weaker c.alloc-ended.result _ _ (λ answer does. c.alloc-ended.ensures.budget) c.alloc-ended.ensures.does)
    c.self.invariant.1 c.self.invariant.2 c.requires.ready c.kept.ensures.stock c.kept.ensures.aware c.end_step.ensures.account

pub returns : goal.returns
returns g c =
    let makes =
    alloc_makes c.args.line c.self.inside.stock c.alloc-ended.new.stock c.self.inside.account c.self.invariant.0
    c.args.reg c.args.partition c.args.size c.kept.ensures.stock c.requires.reg (c.owned-handle.ensures ∙ ap owned_in c.register.ensures)
    c.alloc-ended.result c.alloc-ended.ensures.does c.alloc-ended.ensures.made in
    record {
      plays = step_plays c.self.inside.stock c.alloc-ended.new.stock c.self.inside.account c.end_step.new.self
          c.self.view_is (ops.Alloc c.args.reg c.args.partition c.args.size) c.alloc-ended.result c.end_step.ensures.ends makes
          c.thread.ensures c.alloc-ended.ensures.does;
      goes_on = step_goes_on c.self.inside.stock c.alloc-ended.new.stock c.self.inside.account c.end_step.new.self
          c.self.view_is (ops.Alloc c.args.reg c.args.partition c.args.size) c.alloc-ended.result c.end_step.ensures.ends makes
          c.requires.ready;
      stops = step_stops c.alloc-ended.result c.end_step.ensures.ends;
      same = step_leaves_stock c.self.inside.stock c.alloc-ended.new.stock c.self.inside.account c.end_step.new.self
          c.self.view_is c.alloc-ended.result c.end_step.ensures.ends c.alloc-ended.ensures.same;
      asks = subst (λ (w : WorkerValue). OnErr c.alloc-ended.result (AsksRoot c.args.reg c.args.partition c.args.size w.stock))
          c.self.view_is
          c.alloc-ended.ensures.asks;
    }
