-- The caches between two parts of some records.
use Rattle.std.proofs.Common.{ℕ, List, [], ◌∷◌, ◌++◌, refl}
use Rattle.pa_rules.specs.declared.played.Played.{Played}
use Rattle.pa_rules.specs.Roots.{Journals}
use Rattle.pa_rules.specs.Caches.{Caches, CachesTo, with_cache}

pub caches_cut : (partitions : ℕ) (roots : Journals) (all : Caches) (xs ys : List Played) (after : Caches) →
    CachesTo partitions roots all (xs ++ ys) after →
    (mid : Caches) × CachesTo partitions roots all xs mid × CachesTo partitions roots mid ys after
caches_cut partitions roots all [] ys after to = (all, refl, to)
caches_cut partitions roots all (x ∷ xs) ys after (next, row, to) =
    let (mid, front, back) = caches_cut partitions roots (with_cache all x.thread next) xs ys after to in (mid, (next, row, front), back)
