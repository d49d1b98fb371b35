use Rattle.std.proofs.Common.{◌∙◌}
use Rattle.pa_audit_holders.specs.Lists.{VersionLists}
use Rattle.pa_audit_holders.proofs.Summing.{none_summed}
use Rattle.pa_audit_holders.proofs.Listing.{cache_empty}
use Rattle.pa_audit_holders.proofs.lists.ThreadLists.clear.Goals as goal

pub invariant_of-self : goal.invariant_of-self
invariant_of-self c =
    let all : VersionLists = record { version = c.self.inside.version; lists = c.clear_all.new.lists.items } in
    none_summed all c.no_sums-self-inside.result (c.clear_all.ensures.many ∙ c.self.invariant.many) c.clear_all.ensures.empty
    c.no_sums-self-inside.ensures

pub returns-clause-empty : goal.returns-clause-empty
returns-clause-empty c =
    let all : VersionLists = record { version = c.self.inside.version; lists = c.clear_all.new.lists.items } in
    cache_empty all c.clear_all.ensures.empty
