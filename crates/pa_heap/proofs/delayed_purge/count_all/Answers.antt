use Rattle.std.proofs.Common.{◌≡◌, ◌+◌, ◌-◌, ◌<◌, suc, ap, arith}
use Rattle.pa_rules.specs.Caches.{all_listed, listed_slots}
use Rattle.pa_op_specs.specs.Stocks.{listed_in}
use Rattle.pa_heap.proofs.delayed_purge.count_all.Goals as goal

pub loop-partition-init : goal.loop-partition-init
loop-partition-init g c =
    let s = c.args.stock.now in
    let all : all_listed (listed_in s) 0 (s.partitions - 0) ≡ all_listed (listed_in s) 0 s.partitions =
    ap (all_listed (listed_in s) 0) (let e : s.partitions - 0 ≡ s.partitions = omega arith in e) in
    let count = c.len-slots.ensures.count in
    let room = c.len-slots.ensures.room in
    let few = c.requires.few in
    record { count = omega arith; few = omega arith }

pub loop-partition-preserved : goal.loop-partition-preserved
loop-partition-preserved g c =
    let s = c.args.stock.now in
    let n = c.loop-partition.partition in
    let end = c.partitions-partition-end.ensures in
    let below : n < s.partitions = let t = c.loop-partition-test.true in omega arith in
    let more : all_listed (listed_in s) n (s.partitions - n)
    ≡ listed_slots (listed_in s n) 0 170 + all_listed (listed_in s) (n + 1) (s.partitions - (n + 1)) =
    ap (all_listed (listed_in s) n) (let e : s.partitions - n ≡ suc (s.partitions - (n + 1)) = omega arith in e) in
    let here = c.cached.ensures.slots in
    let few = c.cached.ensures.few in
    let count = c.loop-partition.invariant.count in
    let before = c.loop-partition.invariant.few in
    record { count = omega arith; few = omega arith }

pub returns : goal.returns
returns g c =
    let s = c.args.stock.now in
    let n = c.loop-partition.partition in
    let end = c.partitions-partition-end.ensures in
    let past = c.loop-partition-test.false in
    let none : all_listed (listed_in s) n (s.partitions - n) ≡ 0 =
    ap (all_listed (listed_in s) n) (let e : s.partitions - n ≡ 0 = omega arith in e) in
    let count = c.loop-partition.invariant.count in
    omega arith
