use Rattle.std.proofs.Common.{◌-◌, ◌≤◌, map}
use Rattle.pa_buckets.specs.Limits.{first_class, past_class}
use Rattle.pa_audit_holders.specs.Lines.{did_at}
use Rattle.pa_audit_holders.specs.Lists.{cache_in}
use Rattle.pa_audit_holders.proofs.Purging.{IsPurging}
use Rattle.pa_audit_holders.proofs.purges.purges_lists.Given as goal

abbrev pub invariant-lists : goal.invariant-lists
invariant-lists l = record {
  low : first_class l.cache.version ≤ l.number;
  purging : IsPurging (map (did_at l.journal) l.places) (cache_in l.cache l.partition) l.slots
      (past_class l.cache.version) l.number l.at l.left l.rest;
}

abbrev pub decreases-lists : goal.decreases-lists
decreases-lists l = past_class l.cache.version - l.number
