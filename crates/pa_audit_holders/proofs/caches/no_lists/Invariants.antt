use Rattle.std.proofs.Common.{◌≡◌, [], length}
use Rattle.std.specs.List.{All}
use Rattle.pa_audit_holders.specs.Lists.{cache_in}
use Rattle.pa_audit_holders.proofs.caches.no_lists.Given as goal

-- the lists of that many threads are empty
abbrev pub invariant-loop : goal.invariant-loop
invariant-loop l = record {
  version : All (λ x. x.version ≡ l.version) l.lists.items;
  many : length l.lists.items ≡ l.counter;
  none : All (λ t. cache_in t ≡ (λ p class. [])) l.lists.items;
}
