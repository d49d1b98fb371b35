use Rattle.std.proofs.Common.{ap, length, arith}
use Rattle.pa_test_heap.proofs.heap_ops.play_plain.Goals as goal

pub copy-filled-requires-clause-ready : goal.copy-filled-requires-clause-ready
copy-filled-requires-clause-ready g c =
    let new = c.in_ok-worker.ensures in
    let none = ap length new.records in
    let op1 = c.in_ok-made.ensures.goes_on in
    record {
      going = op1.going;
      stake = op1.stake;
      room = (let d = new.room in let a1 = op1.count in let b1 = op1.room in omega arith);
    }

pub copy-uncounted-requires-clause-ready : goal.copy-uncounted-requires-clause-ready
copy-uncounted-requires-clause-ready g c =
    let new = c.in_ok-worker.ensures in
    let none = ap length new.records in
    let op1 = c.in_ok-made.ensures.goes_on in
    let op2 = c.copy-filled.ensures.goes_on in
    record {
      going = op2.going;
      stake = op2.stake;
      room = (let d = new.room in let a1 = op1.count in let b1 = op1.room in let a2 = op2.count in let b2 = op2.room in omega arith);
    }

pub write-written-requires-clause-ready : goal.write-written-requires-clause-ready
write-written-requires-clause-ready g c =
    let new = c.in_ok-worker.ensures in
    let none = ap length new.records in
    let op1 = c.in_ok-made.ensures.goes_on in
    let op2 = c.copy-filled.ensures.goes_on in
    let op3 = c.copy-uncounted.ensures.goes_on in
    record {
      going = op3.going;
      stake = op3.stake;
      room = (let d = new.room in let a1 = op1.count in let b1 = op1.room in let a2 = op2.count in let b2 = op2.room in
          let a3 = op3.count in let b3 = op3.room in omega arith);
    }

pub free-requires-clause-ready : goal.free-requires-clause-ready
free-requires-clause-ready g c =
    let new = c.in_ok-worker.ensures in
    let none = ap length new.records in
    let op1 = c.in_ok-made.ensures.goes_on in
    let op2 = c.copy-filled.ensures.goes_on in
    let op3 = c.copy-uncounted.ensures.goes_on in
    let op4 = c.write-written.ensures.goes_on in
    record {
      going = op4.going;
      stake = op4.stake;
      room = (let d = new.room in let a1 = op1.count in let b1 = op1.room in let a2 = op2.count in let b2 = op2.room in let a3 = op3.count
          in let b3 = op3.room in let a4 = op4.count in let b4 = op4.room in omega arith);
    }
