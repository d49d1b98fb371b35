-- What a census of a root says, by the lists that a seat has seen then.
use Rattle.std.specs.Prelude.{◌≡◌, ℕ, List}
use Rattle.pa_record.specs.declared.census.Census.{Census}
use Rattle.pa_record.specs.declared.pool.PoolEntry.{PoolEntry}
use Rattle.pa_region.specs.declared.view.Made.{Made}
use Rattle.pa_region.specs.declared.view.View.{View}
use Rattle.pa_region.specs.Lists.{list_of, IsBeginning}
use Rattle.pa_logs.specs.Listed.{IsPoolList}
use Rattle.pa_logs.specs.Said.{IsCensusBy}

-- The census is that of partition p's journal, which the seat has seen whole. Of the pool's entries the seat has seen those that the
-- journal names, so it is the same in any list of the pool that begins with what the seat has seen.
abbrev pub TellsCensus : ℕ → View → Census → Type 0
TellsCensus p seat c =
    (list : List Made) (pools : List PoolEntry) → IsBeginning (list_of 4 seat) list → IsPoolList list pools →
    IsCensusBy (list_of p seat) list c

-- the two have seen the same of each list
abbrev pub HasSameLists : View → View → Type 0
HasSameLists before after = (k : ℕ) → list_of k after ≡ list_of k before
