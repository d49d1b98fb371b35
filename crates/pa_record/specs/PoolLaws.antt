-- What holds of the pool at every moment, and how its list of entries grows.
use Rattle.std.specs.Prelude.{◌≡◌, ◌≢◌, ℕ, ◌+◌, ◌<◌, ◌≤◌, List, [], ◌∷◌, ◌++◌, length, Option, Contains, AllPairs}
use Rattle.pa_record.specs.declared.taken.Taken.{Taken}
use Rattle.pa_record.specs.declared.pool.PoolEntry.{PoolEntry}
use Rattle.pa_record.specs.Pool.{PoolState, new_pool, IsApart, IsFreeRun, IsLowest, IsOneTake, PoolActFits, IsPool, pool_next, pool_replayed, gave, FoundRun}

-- the super page x is one of the run
abbrev pub Covers : Taken → ℕ → Type 0
Covers t x = (t.first ≤ x) × (x < t.first + t.count)

-- Each run that is taken lies in the region and isn't empty, and was found by the entry of the pool that it names, in this
-- list. No super page is in two runs, and no two runs have one entry.
pub record IsSoundPool (pools : List PoolEntry) (s : PoolState) : Type 0 where
  pub entries : s.entries ≤ length pools
  pub some : (t : Taken) → Contains s.taken t → 1 ≤ t.count
  pub inside : (t : Taken) → Contains s.taken t → t.first + t.count ≤ s.supers
  pub found : (t : Taken) → Contains s.taken t → (t.entry < s.entries) × FoundRun pools t.entry t.count t.first
  pub apart : AllPairs (λ t u. IsApart t.first t.count u) s.taken
  pub once : AllPairs (λ (t : Taken) (u : Taken). t.entry ≢ u.entry) s.taken
  pub owned : (t u : Taken) (x : ℕ) → Contains s.taken t → Contains s.taken u → Covers t x → Covers u x → t ≡ u

-- a list of entries that fit leaves a sound pool, which counts them
pub record PoolIsSound : Type 0 where
  pub sound : (supers : ℕ) (pools : List PoolEntry) → IsPool supers pools → IsSoundPool pools (pool_replayed pools (new_pool supers))
  pub counted : (supers : ℕ) (pools : List PoolEntry) → (pool_replayed pools (new_pool supers)).entries ≡ length pools
  pub supers : (supers : ℕ) (pools : List PoolEntry) → (pool_replayed pools (new_pool supers)).supers ≡ supers

-- a list to which an entry that fits is added fits too, and the state after it is the next one
pub record PoolGrows : Type 0 where
  pub fits : (supers : ℕ) (pools : List PoolEntry) (e : PoolEntry) → IsPool supers pools →
      PoolActFits pools e.partition e.act (pool_replayed pools (new_pool supers)) → IsPool supers (pools ++ e ∷ [])
  pub next : (supers : ℕ) (pools : List PoolEntry) (e : PoolEntry) →
      pool_replayed (pools ++ e ∷ []) (new_pool supers) ≡ pool_next e.act (pool_replayed pools (new_pool supers))

-- a take has one answer, and a run that was given back is free
pub record PoolAnswers : Type 0 where
  pub lowest : (s : PoolState) (count : ℕ) (a b : Option ℕ) → IsLowest s count a → IsLowest s count b → a ≡ b
  pub free : (pools : List PoolEntry) (s : PoolState) (first count : ℕ) (t : Taken) → IsSoundPool pools s → IsOneTake s first count t →
      IsFreeRun (gave first s) count first
