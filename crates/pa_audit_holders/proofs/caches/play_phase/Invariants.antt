use Rattle.std.proofs.Common.{◌≡◌, length}
use Rattle.std.specs.Prelude.{All}
use Rattle.pa_rules.specs.Roots.{journal_at}
use Rattle.pa_audit_holders.specs.Cached.{CachesSoFar}
use Rattle.pa_audit_holders.specs.Lists.{caches_in}
use Rattle.pa_audit_holders.proofs.caches.play_phase.Given as goal

abbrev pub invariant-loop-at : goal.invariant-loop-at
invariant-loop-at l = record {
  threads : length l.caches.items ≡ 16;
  version : All (λ x. x.version ≡ l.books.version) l.caches.items;
  walk : CachesSoFar l.books.partitions (journal_at l.books.roots) l.books.records (caches_in l.caches.items) l.at;
}
