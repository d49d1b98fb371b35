use Rattle.std.proofs.Common.{◌≡◌, length, map}
use Rattle.std.specs.Prelude.{All}
use Rattle.pa_rules.specs.declared.played.Played.{Played}
use Rattle.pa_rules.specs.Roots.{journal_at}
use Rattle.pa_audit_records.specs.Cuts.{IsLow}
use Rattle.pa_audit_holders.specs.Cached.{CachesSoFar, HaveCached, HaveListed}
use Rattle.pa_audit_holders.specs.Lists.{caches_in}
use Rattle.pa_audit_holders.proofs.caches.caches_meet.Given as goal

abbrev pub invariant-loop-end : goal.invariant-loop-end
invariant-loop-end l = record {
  many : length l.cached.items ≡ l.end-index;
  low : IsLow (map (λ (x : Played). x.phase) l.books.records) l.end-index l.from;
  threads : length l.caches.items ≡ 16;
  version : All (λ x. x.version ≡ l.books.version) l.caches.items;
  walk : CachesSoFar l.books.partitions (journal_at l.books.roots) l.books.records (caches_in l.caches.items) l.from;
  listed : HaveListed l.threads (caches_in l.caches.items) l.listed;
  told : HaveCached l.books.partitions l.threads (journal_at l.books.roots) l.books.records l.cached.items;
}
