use Rattle.std.proofs.Common.{◌+◌, ◌<◌, max, subst, arith}
use Rattle.pa_buckets.specs.Classes.{IsClassIn}
use Rattle.pa_buckets.specs.Limits.{greatest_raw}
use Rattle.pa_rules.specs.Sizes.{IsMapSize}
use Rattle.pa_rules.proofs.Versions.{raw_least}
use Rattle.pa_heap.proofs.Fulling.{too_large}
use Rattle.pa_heap.proofs.allocs.request.Goals as goal

pub returns-then-size-gt-GREATEST_SIZE-clause-does : goal.returns-then-size-gt-GREATEST_SIZE-clause-does
returns-then-size-gt-GREATEST_SIZE-clause-does g c =
    too_large c.args.stock.now c.args.reg c.args.partition c.args.size c.kept.ensures.stock c.requires.none
    c.if-size-gt-GREATEST_SIZE.true c.args.line

-- the version is the lists'
pub alloc_slot-requires-clause-class : goal.alloc_slot-requires-clause-class
alloc_slot-requires-clause-class g c = (
  omega (arith, c.if-size-gt-GREATEST_SIZE.false),
  subst (λ v. IsClassIn v (max c.args.size 1 + 8) c.in-Some.class) c.version.ensures
      (subst (λ n. IsClassIn c.version.result n c.in-Some.class) c.raw_of.ensures c.in-Some.ensures.least),
)

pub alloc_map-requires-clause-direct : goal.alloc_map-requires-clause-direct
alloc_map-requires-clause-direct g c =
    subst (λ v. IsMapSize v c.args.size) c.version.ensures
    (let large : greatest_raw c.version.result < c.raw_of.result = grind (arith, c.in-None.ensures.refused) in
    let least = raw_least c.version.result in
    (omega (arith, large, least, c.raw_of.ensures), omega (arith, c.if-size-gt-GREATEST_SIZE.false)))
