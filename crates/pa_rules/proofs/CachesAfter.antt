-- What the caches have after one record more.
use Rattle.std.proofs.Common.{ℕ, List, [], ◌∷◌, ◌++◌, ap, subst}
use Rattle.pa_rules.specs.declared.played.Played.{Played}
use Rattle.pa_rules.specs.Roots.{Journals}
use Rattle.pa_rules.specs.Caches.{Cache, Caches, CacheRow, CachesTo, with_cache}

-- one record more
pub caches_snoc : (partitions : ℕ) (roots : Journals) (first all : Caches) (before : List Played) (x : Played) (next : Cache) →
    CachesTo partitions roots first before all →
    CacheRow partitions roots x x.answer (all x.thread) next →
    CachesTo partitions roots first (before ++ x ∷ []) (with_cache all x.thread next)
caches_snoc partitions roots first all [] x next to row = (
  next,
  subst (λ (c : Caches). CacheRow partitions roots x x.answer (c x.thread) next) to row,
  ap (λ (c : Caches). with_cache c x.thread next) to,
)
caches_snoc partitions roots first all (y ∷ before) x next (after, here, to) row =
    (after, here, caches_snoc partitions roots (with_cache first y.thread after) all before x next to row)
