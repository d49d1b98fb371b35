use Rattle.std.proofs.Common.{arith}
use Rattle.pa_buckets.proofs.Facts.{IsRow-of}
use Rattle.pa_test_root.proofs.root_plain.fill.Goals as goal

pub fill-requires-clause-some : goal.fill-requires-clause-some
fill-requires-clause-some c =
    let some = (IsRow-of c.args.class c.fill_count.ensures.bound).some_fill in
    let want = c.fill_count.ensures.count in
    omega arith

pub fill-requires-clause-few : goal.fill-requires-clause-few
fill-requires-clause-few c =
    let few = (IsRow-of c.args.class c.fill_count.ensures.bound).few_fill in
    let want = c.fill_count.ensures.count in
    omega arith
