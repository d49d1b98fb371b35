use Rattle.std.proofs.Common.{ap, length, arith}
use Rattle.pa_test_heap.proofs.heap_ops.play_dense.Goals as goal

pub free-requires-clause-ready : goal.free-requires-clause-ready
free-requires-clause-ready g c =
    let new = c.in_ok-worker.ensures in
    let none = ap length new.records in
    let op1 = c.in_ok-made.ensures.goes_on in
    record {
      going = op1.going;
      stake = op1.stake;
      room = (let d = new.room in let a1 = op1.count in let b1 = op1.room in omega arith);
    }

pub purge-requires : goal.purge-requires
purge-requires g c =
    let new = c.in_ok-worker.ensures in
    let none = ap length new.records in
    let op1 = c.in_ok-made.ensures.goes_on in
    let op2 = c.in_ok-freed.ensures.goes_on in
    record {
      ready = record {
        going = op2.going;
        stake = op2.stake;
        room = (let d = new.room in let a1 = op1.count in let b1 = op1.room in let a2 = op2.count in let b2 = op2.room in omega arith);
      };
    }
