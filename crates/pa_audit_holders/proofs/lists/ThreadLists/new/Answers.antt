use Rattle.std.proofs.Common.{arith}
use Rattle.pa_audit_holders.specs.Lists.{VersionLists}
use Rattle.pa_audit_holders.proofs.Listing.{cache_empty}
use Rattle.pa_audit_holders.proofs.Summing.{none_summed}
use Rattle.pa_audit_holders.proofs.lists.ThreadLists.new.Goals as goal

pub invariant_of-result : goal.invariant_of-result
invariant_of-result c =
    let all : VersionLists = record { version = c.args.version; lists = c.loop.lists.items } in
    none_summed all c.no_sums.result
    (omega (arith, c.loop-test.false, c.loop.invariant.0, c.loop.auto.counter-end, c.class_total-end.ensures.count)) c.loop.invariant.1
    c.no_sums.ensures

pub returns-clause-empty : goal.returns-clause-empty
returns-clause-empty c =
    let all : VersionLists = record { version = c.args.version; lists = c.loop.lists.items } in
    cache_empty all c.loop.invariant.1
