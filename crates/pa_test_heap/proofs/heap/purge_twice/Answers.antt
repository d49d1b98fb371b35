use Rattle.std.proofs.Common.{ap, length, arith}
use Rattle.pa_test_heap.proofs.heap.purge_twice.Goals as goal

pub purge-requires-2 : goal.purge-requires-2
purge-requires-2 g c =
    let new = c.in_ok-worker.ensures in
    let none = ap length new.records in
    let op1 = c.in_ok-first.ensures.goes_on in
    record {
      ready = record {
        going = op1.going;
        stake = op1.stake;
        room = (let d = new.room in let a1 = op1.count in let b1 = op1.room in omega arith);
      };
    }
