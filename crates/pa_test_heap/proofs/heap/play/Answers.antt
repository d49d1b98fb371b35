use Rattle.std.proofs.Common.{◌∙◌, ap, length, arith}
use Rattle.pa_op_specs.specs.Workers.{WorkerValue}
use Rattle.pa_test_heap.proofs.heap.play.Goals as goal

pub write-requires-clause-ready : goal.write-requires-clause-ready
write-requires-clause-ready g c =
    let new = c.in_ok-worker.ensures in
    let first = c.copy.ensures.goes_on in
    let none = ap length new.records in
    record {
      going = first.going;
      stake = first.stake;
      room = (let a = first.count in let b = first.room in let d = new.room in omega arith);
    }

pub deref-requires-clause-ready : goal.deref-requires-clause-ready
deref-requires-clause-ready g c =
    let new = c.in_ok-worker.ensures in
    let first = c.copy.ensures.goes_on in
    let second = c.write.ensures.goes_on in
    let none = ap length new.records in
    record {
      going = second.going;
      stake = second.stake;
      room = (let a = first.count in let b = first.room in let d = new.room in let e = second.count in let f = second.room in omega arith);
    }

pub hear-requires-clause-settled : goal.hear-requires-clause-settled
hear-requires-clause-settled g c =
    ap (λ (w : WorkerValue). w.owed) c.tell-told.ensures.left ∙ ap (λ (w : WorkerValue). w.owed) c.settle.ensures.settled
