-- What a fill and a direct map do to a placement and its pool.
use Rattle.std.specs.Prelude.{◌≡◌, ℕ, ◌+◌, ◌≤◌, ◌↔◌, [], ◌∷◌, Option, Some, None, IsSome, IsNone}
use Rattle.pa_slot.specs.declared.title.Title.{Title}
use Rattle.pa_layout.specs.Pages.{page_place, supers_for}
use Rattle.pa_record.specs.Pool.{PoolState, IsLowest, took}
use Rattle.pa_record.specs.Root.{Root, Filled, span_for, takes, opened, map_title, mapped}
use Rattle.pa_record.specs.Sound.{IsBornBelow}
use Rattle.pa_place.specs.declared.placed.Placed.{Placed}

-- The pool was asked for `count` super pages: by its next entry it found the lowest that are free, or none.
pub record IsAsked (count asked : ℕ) (found : Option ℕ) (pool next : PoolState) : Type 0 where
  pub entry : asked ≡ pool.entries
  pub lowest : IsLowest pool count found
  pub took : next ≡ took count found pool

-- the root and the slots after a fill that asked the pool: without room nothing changed
abbrev pub filled_by : ℕ → ℕ → ℕ → Option ℕ → Root → Filled
filled_by class want entry None r = record { root = r; titles = [] }
filled_by class want entry (Some first) r = takes class want (opened first entry r)

-- A fill asks the pool exactly when no span of the class has a slot left and the current super page has no room for one.
abbrev pub Fills : ℕ → ℕ → PoolState → PoolState → Root → Filled → Option ℕ → Type 0
Fills class want pool next r filled None = IsSome (span_for class r) × (next ≡ pool) × (filled ≡ takes class want r)
Fills class want pool next r filled (Some entry) =
    IsNone (span_for class r) × (found : Option ℕ) × IsAsked 1 entry found pool next × (filled ≡ filled_by class want entry found r)

-- a direct map in the super pages from `first` on
abbrev pub map_in : ℕ → ℕ → ℕ → Title
map_in first len entry = map_title (record { start = page_place first 1; born = entry }) len

-- the root and the slot after a direct map was asked for
abbrev pub mapped_by : ℕ → ℕ → Option ℕ → Root → Filled
mapped_by len entry None r = record { root = r; titles = [] }
mapped_by len entry (Some first) r = record { root = mapped (map_in first len entry) r; titles = map_in first len entry ∷ [] }

-- a direct map always asks the pool, for as many super pages as its slot needs
abbrev pub Maps : ℕ → PoolState → PoolState → Root → Filled → Option ℕ → Type 0
Maps len pool next r filled None = ⊥
Maps len pool next r filled (Some entry) =
    (found : Option ℕ) × IsAsked (supers_for len) entry found pool next × (filled ≡ mapped_by len entry found r)

-- the root after a call, with the slots that it took
abbrev pub with_slots : Root → Placed → Filled
with_slots after p = record { root = after; titles = p.titles.items }

-- what a fill of `want` slots of the class did to the pool and the root
abbrev pub FillDid : ℕ → ℕ → PoolState → PoolState → Root → Root → Placed → Type 0
FillDid class want pool next r after p = Fills class want pool next r (with_slots after p) p.pool

-- what a call for a direct map of `len` bytes did to the pool and the root
abbrev pub MapDid : ℕ → PoolState → PoolState → Root → Root → Placed → Type 0
MapDid len pool next r after p = Maps len pool next r (with_slots after p) p.pool

-- the pool was asked for `count` super pages, and there were none
abbrev pub IsRefused : ℕ → PoolState → Option ℕ → Type 0
IsRefused count pool asked = (asked ≡ Some pool.entries) × IsLowest pool count None

-- the call took no slot exactly when the pool was asked for `count` super pages and had none
abbrev pub IsEmptyIfRefused : ℕ → PoolState → Placed → Type 0
IsEmptyIfRefused count pool p = (p.titles.items ≡ []) ↔ IsRefused count pool p.pool

-- What each call leaves, for a caller that makes many: the pool had n entries before it, and has m after it.
pub record IsStep (n m : ℕ) (r after : Root) : Type 0 where
  pub turn : after.turn ≤ r.turn + 32
  pub rises : r.turn ≤ after.turn
  pub entries : n ≤ m
  pub one : m ≤ n + 1
  pub born : IsBornBelow n r → IsBornBelow m after
