use Rattle.std.proofs.Common.{arith}
use Rattle.std.specs.Prelude.{Ok}
use Rattle.pa_trace.specs.declared.script.Op.TheVariants as ops
use Rattle.pa_heap.proofs.Ending.{read_makes, step_goes_on, step_keeps, step_plays}
use Rattle.pa_heap.proofs.worker.Worker.deref.Goals as goal

pub invariant_of-self : goal.invariant_of-self
invariant_of-self g c =
    let makes =
    read_makes c.args.line c.self.inside.stock c.deref-answer.new.stock c.self.inside.account c.self.invariant.0 c.args.reg c.args.place
    c.deref-answer.result (c.deref-answer.ensures.does c.args.line) in
    step_keeps c.self.inside.stock c.deref-answer.new.stock c.self.inside.account c.end_op.new.self
    c.self.view_is (ops.Read c.args.reg c.args.place) (Ok c.deref-answer.result) c.end_op.ensures.ends makes
    (let e = c.deref-answer.ensures.budget in omega arith)
    c.self.invariant.1 c.self.invariant.2 c.requires.ready c.kept.ensures.stock c.kept.ensures.aware c.end_op.ensures.account

pub returns : goal.returns
returns g c =
    let makes =
    read_makes c.args.line c.self.inside.stock c.deref-answer.new.stock c.self.inside.account c.self.invariant.0 c.args.reg c.args.place
    c.deref-answer.result (c.deref-answer.ensures.does c.args.line) in
    record {
      plays = step_plays c.self.inside.stock c.deref-answer.new.stock c.self.inside.account c.end_op.new.self
          c.self.view_is (ops.Read c.args.reg c.args.place) (Ok c.deref-answer.result) c.end_op.ensures.ends makes c.thread.ensures
          (c.deref-answer.ensures.does c.args.line);
      goes_on = step_goes_on c.self.inside.stock c.deref-answer.new.stock c.self.inside.account c.end_op.new.self
          c.self.view_is (ops.Read c.args.reg c.args.place) (Ok c.deref-answer.result) c.end_op.ensures.ends makes c.requires.ready;
    }
