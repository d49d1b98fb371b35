use Rattle.std.proofs.Common.{arith}
use Rattle.pa_buckets.proofs.Facts.{IsRow-of}
use Rattle.pa_audit_holders.proofs.returns.how_many_stay.Goals as goal

pub returns-then-slots-limit-clause-short : goal.returns-then-slots-limit-clause-short
returns-then-slots-limit-clause-short c =
    let most = (IsRow-of c.args.class c.cache_limit-limit.ensures.bound).few_kept in
    omega (arith, most, c.cache_limit-limit.ensures.limit)

pub returns-else-slots-limit-clause-short : goal.returns-else-slots-limit-clause-short
returns-else-slots-limit-clause-short c =
    let most = (IsRow-of c.args.class c.cache_limit-limit.ensures.bound).few_kept in
    omega (arith, most, c.cache_limit-limit.ensures.limit, c.if-slots-limit.false)
