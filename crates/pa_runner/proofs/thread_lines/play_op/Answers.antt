use Rattle.std.proofs.Common.{IfOk, OnErr, sym, subst}
use Rattle.std.proofs.lemmas.Result.{on_err_weaker}
use Rattle.pa_trace.specs.declared.script.Op.{Op}
use Rattle.pa_op_specs.specs.Plays.{PlaysOp}
use Rattle.pa_runner.specs.Stopped.{StopsOp}
use Rattle.pa_runner.proofs.PlayedLines.{both_on_err, stopped_keeps, stopped_owes, stopped_records}
use Rattle.pa_runner.proofs.thread_lines.play_op.Goals as goal

pub returns-in-Alloc-clause-plays : goal.returns-in-Alloc-clause-plays
returns-in-Alloc-clause-plays g c =
    subst (λ (op : Op). IfOk c.alloc.result (λ answer. PlaysOp c.args.due.line op answer c.args.worker.now c.alloc.new.self))
    (sym c.in-Alloc.is) c.alloc.ensures.plays

pub returns-in-Alloc-clause-stake : goal.returns-in-Alloc-clause-stake
returns-in-Alloc-clause-stake g c =
    on_err_weaker c.alloc.result (stopped_keeps c.args.worker.now c.alloc.new.self c.requires.ready.stake) c.alloc.ensures.same

pub returns-in-Alloc-clause-settled : goal.returns-in-Alloc-clause-settled
returns-in-Alloc-clause-settled g c = on_err_weaker c.alloc.result (stopped_owes c.args.worker.now c.alloc.new.self) c.alloc.ensures.same

pub returns-in-Alloc-clause-records : goal.returns-in-Alloc-clause-records
returns-in-Alloc-clause-records g c = on_err_weaker c.alloc.result (stopped_records c.args.worker.now c.alloc.new.self) c.alloc.ensures.same

pub returns-in-Alloc-clause-left : goal.returns-in-Alloc-clause-left
returns-in-Alloc-clause-left g c =
    subst (λ (op : Op). OnErr c.alloc.result (StopsOp c.args.due.line op c.args.worker.now c.alloc.new.self)) (sym c.in-Alloc.is)
    (both_on_err c.alloc.result _ _ c.alloc.ensures.asks c.alloc.ensures.same)

pub returns-in-Copy-clause-plays : goal.returns-in-Copy-clause-plays
returns-in-Copy-clause-plays g c =
    subst (λ (op : Op). PlaysOp c.args.due.line op c.copy.result c.args.worker.now c.copy.new.self) (sym c.in-Copy.is) c.copy.ensures.plays

pub returns-in-Reset-clause-plays : goal.returns-in-Reset-clause-plays
returns-in-Reset-clause-plays g c =
    subst (λ (op : Op). IfOk c.reset.result (λ answer. PlaysOp c.args.due.line op answer c.args.worker.now c.reset.new.self))
    (sym c.in-Reset.is) c.reset.ensures.plays

pub returns-in-Reset-clause-records : goal.returns-in-Reset-clause-records
returns-in-Reset-clause-records g c = on_err_weaker c.reset.result (stopped_records c.args.worker.now c.reset.new.self) c.reset.ensures.same

pub returns-in-Reset-clause-left : goal.returns-in-Reset-clause-left
returns-in-Reset-clause-left g c =
    subst (λ (op : Op). OnErr c.reset.result (StopsOp c.args.due.line op c.args.worker.now c.reset.new.self)) (sym c.in-Reset.is)
    (both_on_err c.reset.result _ _ c.reset.ensures.left c.reset.ensures.same)

pub returns-in-Free-clause-plays : goal.returns-in-Free-clause-plays
returns-in-Free-clause-plays g c =
    subst (λ (op : Op). IfOk c.free.result (λ answer. PlaysOp c.args.due.line op answer c.args.worker.now c.free.new.self))
    (sym c.in-Free.is) c.free.ensures.plays

pub returns-in-Free-clause-records : goal.returns-in-Free-clause-records
returns-in-Free-clause-records g c = on_err_weaker c.free.result (stopped_records c.args.worker.now c.free.new.self) c.free.ensures.same

pub returns-in-Free-clause-left : goal.returns-in-Free-clause-left
returns-in-Free-clause-left g c =
    subst (λ (op : Op). OnErr c.free.result (StopsOp c.args.due.line op c.args.worker.now c.free.new.self)) (sym c.in-Free.is)
    (both_on_err c.free.result _ _ c.free.ensures.left c.free.ensures.same)

pub returns-in-Write-clause-plays : goal.returns-in-Write-clause-plays
returns-in-Write-clause-plays g c =
    subst (λ (op : Op). PlaysOp c.args.due.line op c.write.result c.args.worker.now c.write.new.self)
    (sym c.in-Write.is) c.write.ensures.plays

pub returns-in-Read-clause-plays : goal.returns-in-Read-clause-plays
returns-in-Read-clause-plays g c =
    subst (λ (op : Op). PlaysOp c.args.due.line op c.deref.result c.args.worker.now c.deref.new.self)
    (sym c.in-Read.is) c.deref.ensures.plays

pub returns-in-Swap-clause-plays : goal.returns-in-Swap-clause-plays
returns-in-Swap-clause-plays g c = subst (λ (op : Op). IfOk c.exchange.result
    (λ answer. PlaysOp c.args.due.line op answer c.args.worker.now c.exchange.new.self)) (sym c.in-Swap.is) c.exchange.ensures.plays

pub returns-in-Swap-clause-records : goal.returns-in-Swap-clause-records
returns-in-Swap-clause-records g c =
    on_err_weaker c.exchange.result (stopped_records c.args.worker.now c.exchange.new.self) c.exchange.ensures.same

pub returns-in-Swap-clause-left : goal.returns-in-Swap-clause-left
returns-in-Swap-clause-left g c =
    subst (λ (op : Op). OnErr c.exchange.result (StopsOp c.args.due.line op c.args.worker.now c.exchange.new.self)) (sym c.in-Swap.is)
    (both_on_err c.exchange.result _ _ c.exchange.ensures.undone c.exchange.ensures.same)

pub returns-in-Purge-clause-plays : goal.returns-in-Purge-clause-plays
returns-in-Purge-clause-plays g c =
    subst (λ (op : Op). IfOk c.purge.result (λ answer. PlaysOp c.args.due.line op answer c.args.worker.now c.purge.new.self))
    (sym c.in-Purge.is) c.purge.ensures.plays

pub returns-in-Purge-clause-records : goal.returns-in-Purge-clause-records
returns-in-Purge-clause-records g c = on_err_weaker c.purge.result (stopped_records c.args.worker.now c.purge.new.self) c.purge.ensures.same

pub returns-in-Purge-clause-left : goal.returns-in-Purge-clause-left
returns-in-Purge-clause-left g c =
    subst (λ (op : Op). OnErr c.purge.result (StopsOp c.args.due.line op c.args.worker.now c.purge.new.self)) (sym c.in-Purge.is)
    (both_on_err c.purge.result _ _ c.purge.ensures.left c.purge.ensures.same)
