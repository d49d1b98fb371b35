-- What the pool's list says: its entries, read from their numbers.
use Rattle.std.specs.Prelude.{ℕ, zero, suc, List, [], ◌∷◌, Option, Some, None, map}
use Rattle.pa_region.specs.declared.view.Made.{Made}
use Rattle.pa_region.specs.declared.view.View.{View}
use Rattle.pa_region.specs.Lists.{list_of}
use Rattle.pa_record.specs.declared.pool.PoolEntry.{PoolEntry}
use Rattle.pa_record.specs.declared.pool.PoolAct.{PoolAct}
use Rattle.pa_record.specs.declared.pool.PoolAct.TheVariants.{Take, Give}

-- what a take found: 0, or 1 and the first super page
abbrev pub found_read : List ℕ → Option ℕ
found_read [] = None
found_read (zero ∷ rest) = None
found_read (suc kind ∷ []) = None
found_read (suc kind ∷ first ∷ rest) = Some first

-- the first super page of a give
abbrev pub given_read : List ℕ → ℕ
given_read [] = 0
given_read (first ∷ rest) = first

-- What the pool did: 0, a count and what was found, or 1, a count and the first.
-- Numbers of no act are read as a give of nothing.
abbrev pub pool_act_read : List ℕ → PoolAct
pool_act_read [] = Give 0 0
pool_act_read (kind ∷ []) = Give 0 0
pool_act_read (zero ∷ count ∷ rest) = Take count (found_read rest)
pool_act_read (suc kind ∷ count ∷ rest) = Give count (given_read rest)

-- An entry of the pool, as its numbers say: its line, its partition and what the pool did.
abbrev pub pool_entry_read : List ℕ → PoolEntry
pool_entry_read [] = record { line = 0; partition = 0; act = Give 0 0 }
pool_entry_read (line ∷ []) = record { line = line; partition = 0; act = Give 0 0 }
pool_entry_read (line ∷ partition ∷ act) = record { line = line; partition = partition; act = pool_act_read act }

-- the entries that a list of the pool's keeper says
abbrev pub pools_read : List Made → List PoolEntry
pools_read list = map (λ (m : Made). pool_entry_read m.numbers) list

-- What a seat has seen of the pool's entries. If its list is that of the pool, in numbers, these are the pool's entries.
abbrev pub pools_seen : View → List PoolEntry
pools_seen v = pools_read (list_of 4 v)
