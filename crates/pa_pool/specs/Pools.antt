-- The pool, which is kept behind a lock: what contracts see of it, and what its type keeps.
use Rattle.std.specs.Prelude.{◌≡◌, ℕ, ◌+◌, ◌*◌, ◌<◌, ◌≤◌, List, [], length, map, Contains}
use Rattle.pa_slot.specs.declared.title.Title.{Title}
use Rattle.pa_layout.specs.Limits.{region_supers}
use Rattle.pa_record.specs.declared.taken.Taken.{Taken}
use Rattle.pa_record.specs.declared.pool.PoolEntry.{PoolEntry}
use Rattle.pa_record.specs.Pool.{PoolState, new_pool, pool_replayed, IsPool}
use Rattle.pa_record.specs.Numbers.{pool_numbers}
use Rattle.pa_region.specs.declared.view.Made.{Made}
use Rattle.pa_region.specs.declared.view.View.{View}
use Rattle.pa_region.specs.Views.{free_of, own_of, ref_of, low_of, stake_of}
use Rattle.pa_region.specs.Lists.{keeper_of, lease_of, list_of}
use Rattle.pa_region.specs.Lending.{HostsKeeper}

-- the pool: the view of its seat, its entries, how many super pages the region has, and for how many more entries it has room
pub record PoolValue : Type 0 where
  pub view : View
  pub entries : List PoolEntry
  pub supers : ℕ
  pub spare : ℕ

-- the pool of this many super pages after these entries
abbrev pub pool_after : List PoolEntry → ℕ → PoolState
pool_after entries supers = pool_replayed entries (new_pool supers)

-- the byte lies in one of the `count` super pages from `first` on
abbrev pub IsByteOf : ℕ → ℕ → ℕ → Type 0
IsByteOf first count byte = (2097152 * first ≤ byte) × (byte < 2097152 * (first + count))

-- the byte lies in the region's super pages, and in no run that is taken
pub record IsFreeByte (s : PoolState) (byte : ℕ) : Type 0 where
  pub inside : byte < 2097152 * s.supers
  pub free : (t : Taken) → Contains s.taken t → IsByteOf t.first t.count byte → ⊥

-- entry n took a run that is still taken
abbrev pub IsEntryOut : PoolState → ℕ → Type 0
IsEntryOut s n = (t : Taken) × Contains s.taken t × (t.entry ≡ n)

-- the view has no free title and no handle
abbrev pub HasNoTitle : View → Type 0
HasNoTitle v = (t : Title) → free_of v t + own_of v t + ref_of v t ≡ 0

-- the view has no title, no counted steps, and no keeper but the pool's
pub record HasNoMore (v : View) : Type 0 where
  pub titles : HasNoTitle v
  pub budget : v.budget ≡ 0
  pub keepers : (k : ℕ) → (k ≡ 4 → ⊥) → keeper_of v k ≡ 0

-- What the type of the pool keeps. The entries are those of a pool over the super pages, and the list of keeper 4 is these, as
-- numbers. The seat has that keeper, no stake, and only clean Owns. Each byte of a super page that isn't taken is raw there, with a
-- floor of at most the number of entries. It has each lease but those of the entries with a run that is taken, and nothing more.
pub record IsPoolSound (supers : ℕ) (entries : List PoolEntry) (v : View) : Type 0 where
  pub few : supers ≤ region_supers
  pub pool : IsPool supers entries
  pub list : map (λ (m : Made). m.numbers) (list_of 4 v) ≡ map pool_numbers entries
  pub hosts : HostsKeeper 4 v
  pub raw : (b : ℕ) → IsFreeByte (pool_after entries supers) b → 0 < low_of v b (length entries)
  pub here : (n : ℕ) → (IsEntryOut (pool_after entries supers) n → ⊥) → 0 < lease_of v n
  pub out : (n : ℕ) → IsEntryOut (pool_after entries supers) n → lease_of v n ≡ 0
  pub more : HasNoMore v

-- what the type of the pool keeps, of a pool as contracts see it
abbrev pub IsPoolKept : PoolValue → Type 0
IsPoolKept p = IsPoolSound p.supers p.entries p.view

-- A view of which a pool can be made. It has the super pages as raw with the floor 0, keeper 4 with an empty list, and every lease.
-- It has no stake, and nothing more.
pub record CanOpen (supers : ℕ) (v : View) : Type 0 where
  pub few : supers ≤ region_supers
  pub raw : (b : ℕ) → b < 2097152 * supers → 0 < low_of v b 0
  pub keeper : 0 < keeper_of v 4
  pub list : list_of 4 v ≡ []
  pub leases : (n : ℕ) → 0 < lease_of v n
  pub stakes : (k : ℕ) → stake_of v k ≡ 0
  pub more : HasNoMore v
