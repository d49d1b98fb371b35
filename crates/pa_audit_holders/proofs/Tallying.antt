-- What the threads' lists have together.
use Rattle.std.proofs.Common.{◌≡◌, ℕ, ◌+◌, List, length, map, take, sym, ◌∙◌, ap, subst, arith}
use Rattle.pa_record.specs.declared.report.Tally.{Tally}
use Rattle.pa_rules.specs.declared.played.Played.{Played}
use Rattle.pa_rules.specs.Roots.{Journals}
use Rattle.pa_rules.specs.Caches.{Cache, Caches, listed_slots}
use Rattle.pa_rules.specs.Lists.{IsTallyOf}
use Rattle.pa_rules.specs.Report.{cached_bytes, cached_slots, listed_bytes, until}
use Rattle.pa_audit_records.specs.Cuts.{IsCut, IsLow}
use Rattle.pa_audit_records.proofs.Cutting.{until_is}
use Rattle.pa_audit_holders.specs.Cached.{AreCachedAt, CachesSoFar, HaveLed, HaveListed, IsListed}
use Rattle.pa_audit_holders.specs.Lists.{VersionLists, caches_in}
use Rattle.pa_lists.proofs.Tests.{one_more}

pub cached_at : (partitions threads : ℕ) (roots : Journals) (ps : List Played) (end : ℕ) (all : Caches) (tallies : List Tally) →
    HaveLed partitions roots ps end all → HaveListed threads all tallies
    → AreCachedAt partitions threads roots (take end ps) tallies
cached_at partitions threads roots ps end all tallies h listed = record {
  many = listed.many;
  each = λ p low. let is = listed.each p low in (all, h, is.slots, is.bytes);
}

-- ---- phase by phase

-- what is known at the end of a phase, whose records and those before it are the first `count` ones
pub record IsEnded (partitions threads : ℕ) (roots : Journals) (ps : List Played) (phase count : ℕ) (caches : List VersionLists)
    (tallies : List Tally) : Type 0 where
  pub low : IsLow (map (λ (x : Played). x.phase) ps) phase count
  pub sixteen : length caches ≡ 16
  pub walk : CachesSoFar partitions roots ps (caches_in caches) count
  pub listed : HaveListed threads (caches_in caches) tallies
  pub here : AreCachedAt partitions threads roots (until phase ps) tallies

pub phase_ended : (partitions threads : ℕ) (roots : Journals) (ps : List Played) (phase count end : ℕ) (caches : List VersionLists)
    (tallies : List Tally)
    → IsCut (map (λ (x : Played). x.phase) ps) phase end → count ≡ end → length caches ≡ 16
    → CachesSoFar partitions roots ps (caches_in caches) end → HaveListed threads (caches_in caches) tallies
    → IsEnded partitions threads roots ps phase count caches tallies
phase_ended partitions threads roots ps phase count end caches tallies cut same many walk listed =
    subst (λ n. IsEnded partitions threads roots ps phase n caches tallies) (sym same) (record {
      low = cut.front;
      sixteen = many;
      walk = walk;
      listed = listed;
      here = subst (λ xs. AreCachedAt partitions threads roots xs tallies) (until_is ps phase end cut)
          (cached_at partitions threads roots ps end (caches_in caches) tallies walk.led listed);
    })

-- ---- thread by thread

pub listed_next : (all : Caches) (cache : Cache) (p t : ℕ) (sum one after : Tally) → IsListed t all p sum → IsTallyOf (cache p) one
    → cache ≡ all t → after ≡ record { slots = sum.slots + one.slots; bytes = sum.bytes + one.bytes }
    → IsListed (t + 1) all p after
listed_next all cache p t sum one after h by there is =
    let a : one.slots ≡ listed_slots (all t p) 0 170 = by.slots ∙ ap (λ (z : Cache). listed_slots (z p) 0 170) there in
    let b : one.bytes ≡ listed_bytes (λ class. length (all t p class)) 0 170 =
    by.bytes ∙ ap (λ (z : Cache). listed_bytes (λ class. length (z p class)) 0 170) there in
    let c : after.slots ≡ sum.slots + one.slots = ap (λ (z : Tally). z.slots) is in
    let d : after.bytes ≡ sum.bytes + one.bytes = ap (λ (z : Tally). z.bytes) is in
    let e : cached_slots all p (t + 1) ≡ listed_slots (all t p) 0 170 + cached_slots all p t = ap (cached_slots all p) (one_more t) in
    let f : cached_bytes all p (t + 1) ≡ listed_bytes (λ class. length (all t p class)) 0 170 + cached_bytes all p t =
    ap (cached_bytes all p) (one_more t) in
    let g : sum.slots ≡ cached_slots all p t = h.slots in
    let k : sum.bytes ≡ cached_bytes all p t = h.bytes in
    record { slots = omega (arith, a, c, e, g); bytes = omega (arith, b, d, f, k) }
