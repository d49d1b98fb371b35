-- The pool of super pages: what a list of its entries replays to, and which entry fits.
use Rattle.std.specs.Prelude.{◌≡◌, ℕ, ◌+◌, ◌≤◌, ◌==◌, ◌⊎◌, if◌then◌else◌, List, [], ◌∷◌, ◌++◌, Option, Some, None, Contains, slice_get, option_map}
use Rattle.pa_record.specs.declared.taken.Taken.{Taken}
use Rattle.pa_record.specs.declared.pool.PoolEntry.{PoolEntry}
use Rattle.pa_record.specs.declared.pool.PoolAct.{PoolAct}
use Rattle.pa_record.specs.declared.pool.PoolAct.TheVariants.{Take, Give}

-- The super pages of the region, the number of entries so far, and the runs that are taken.
pub record PoolState : Type 0 where
  pub supers : ℕ
  pub entries : ℕ
  pub taken : List Taken

-- the pool at the start, of which nothing is taken
abbrev pub new_pool : ℕ → PoolState
new_pool supers = record { supers = supers; entries = 0; taken = [] }

-- the run t has none of the `count` super pages from `first` on
abbrev pub IsApart : ℕ → ℕ → Taken → Type 0
IsApart first count t = (first + count ≤ t.first) ⊎ (t.first + t.count ≤ first)

-- the `count` super pages from `first` on are in the region, and none of them is taken
pub record IsFreeRun (s : PoolState) (count first : ℕ) : Type 0 where
  pub inside : first + count ≤ s.supers
  pub free : (t : Taken) → Contains s.taken t → IsApart first count t

-- what a take of `count` super pages finds: the lowest run that is free, and nothing if there is none
abbrev pub IsLowest : PoolState → ℕ → Option ℕ → Type 0
IsLowest s count None = (first : ℕ) → IsFreeRun s count first → ⊥
IsLowest s count (Some first) = IsFreeRun s count first × ((lower : ℕ) → IsFreeRun s count lower → first ≤ lower)

-- these super pages are one take that wasn't given back
pub record IsOneTake (s : PoolState) (first count : ℕ) (t : Taken) : Type 0 where
  pub among : Contains s.taken t
  pub begins : t.first ≡ first
  pub reaches : t.count ≡ count

-- the run was taken for this partition, as the pool's entry that took it says
abbrev pub IsPartitions : List PoolEntry → ℕ → Taken → Type 0
IsPartitions pools partition t = (e : PoolEntry) × (slice_get pools t.entry ≡ Some e) × (e.partition ≡ partition)

-- an entry fits if it is a take of at least 1 super page that finds the lowest free run, or none if there is none, or if it is
-- a give that names one take of its partition that wasn't given back
abbrev pub PoolActFits : List PoolEntry → ℕ → PoolAct → PoolState → Type 0
PoolActFits pools partition (Take count found) s = (1 ≤ count) × IsLowest s count found
PoolActFits pools partition (Give count first) s = (t : Taken) × IsOneTake s first count t × IsPartitions pools partition t

-- the pool after a take, whose entry has the next index
abbrev pub took : ℕ → Option ℕ → PoolState → PoolState
took count None s = record s { entries = s.entries + 1 }
took count (Some first) s =
    record s { entries = s.entries + 1; taken = s.taken ++ record { entry = s.entries; first = first; count = count } ∷ [] }

-- the runs without the one that begins there
abbrev pub without_run : ℕ → List Taken → List Taken
without_run first [] = []
without_run first (t ∷ ts) = if t.first == first then ts else t ∷ without_run first ts

-- the pool after a give
abbrev pub gave : ℕ → PoolState → PoolState
gave first s = record s { entries = s.entries + 1; taken = without_run first s.taken }

-- the pool after an entry, by whether it is a take or a give
abbrev pub pool_next : PoolAct → PoolState → PoolState
pool_next (Take count found) s = took count found s
pool_next (Give count first) s = gave first s

-- the pool after these entries
abbrev pub pool_replayed : List PoolEntry → PoolState → PoolState
pool_replayed [] s = s
pool_replayed (e ∷ es) s = pool_replayed es (pool_next e.act s)

-- each of these entries fits the pool after the entries before it; `pools` are all of the pool's entries
abbrev pub PoolReplays : List PoolEntry → List PoolEntry → PoolState → Type 0
PoolReplays pools [] s = Unit {0}
PoolReplays pools (e ∷ es) s = PoolActFits pools e.partition e.act s × PoolReplays pools es (pool_next e.act s)

-- the entries are those of a pool over this many super pages
abbrev pub IsPool : ℕ → List PoolEntry → Type 0
IsPool supers pools = PoolReplays pools pools (new_pool supers)

-- what entry j of the pool did
abbrev pub act_at : List PoolEntry → ℕ → Option PoolAct
act_at pools j = option_map (λ (e : PoolEntry). e.act) (slice_get pools j)

-- entry j of the pool is a take of `count` super pages that found those from `first` on
abbrev pub FoundRun : List PoolEntry → ℕ → ℕ → ℕ → Type 0
FoundRun pools j count first = act_at pools j ≡ Some (Take count (Some first))

-- entry j of the pool is a take of `count` super pages that found none
abbrev pub FoundNone : List PoolEntry → ℕ → ℕ → Type 0
FoundNone pools j count = act_at pools j ≡ Some (Take count None)

-- entry j of the pool is a give of the `count` super pages from `first` on
abbrev pub GaveRun : List PoolEntry → ℕ → ℕ → ℕ → Type 0
GaveRun pools j count first = act_at pools j ≡ Some (Give count first)
