-- The lists of the worked runs, and that they meet what is required of lists.
use Rattle.std.specs.Prelude.{ℕ, ◌<◌, List, [], ◌∷◌, map, slice_index_or}
use Rattle.pa_record.specs.declared.history.CellEntry.{CellEntry}
use Rattle.pa_record.specs.declared.pool.PoolEntry.{PoolEntry}
use Rattle.pa_record.specs.declared.root.RootEntry.{RootEntry}
use Rattle.pa_record.specs.Numbers.{root_numbers, pool_numbers, cell_numbers}
use Rattle.pa_record.specs.Worked.{purge_journal, purge_pool, direct_map_again_pool, direct_map_again_journal}
use Rattle.pa_region.specs.declared.view.Made.{Made}
use Rattle.pa_rules.specs.Cells.{history_at}
use Rattle.pa_rules.specs.Roots.{Journals, journal_at}
use Rattle.pa_examples.specs.Worked.{two_threads_journal, two_threads_pool, two_threads_history}
use Rattle.pa_logs.specs.Told.{ToldRecord}
use Rattle.pa_logs.specs.Listed.{HasCuts}
use Rattle.pa_logs.specs.Swaps.{SwapMade, AreSwapped, AreAnswered}
use Rattle.pa_logs.specs.Indices.{AreLists, AreAsked}
use Rattle.pa_examples.specs.told.Maps.{maps_told}
use Rattle.pa_examples.specs.told.Purge.{purge_told}
use Rattle.pa_examples.specs.told.Threads.{seen_number, the_gift, the_taking, threads_told}

-- an entry of the first thread in a root's list
abbrev pub in_root : RootEntry → Made
in_root e = record { stake = 0; numbers = root_numbers e; seen = [] }

-- an entry of the first thread in the pool's list
abbrev pub in_pool : PoolEntry → Made
in_pool e = record { stake = 0; numbers = pool_numbers e; seen = [] }

-- The six lists: those of the first root, which has this journal, of the pool and of the cells. Those of the other roots are empty.
abbrev pub lists_of : List RootEntry → List PoolEntry → List Made → ℕ → List Made
lists_of journal pools swaps q = slice_index_or (map in_root journal ∷ [] ∷ [] ∷ [] ∷ map in_pool pools ∷ swaps ∷ []) q []

-- The lists of a run meet what is required of them.
--   lists_are: each is that of the records, and in numbers the journal of its partition, or the pool's entries
--   cuts: at each phase's end it was a beginning, and that of the records so far
--   asked: each record asked the pool at most once, and then names its entry there by the index
pub record ListsFit (lists : ℕ → List Made) (pools : List PoolEntry) (roots : Journals) (ts : List ToldRecord) : Type 0 where
  pub lists_are : AreLists lists pools roots ts
  pub cuts : (q : ℕ) → q < 6 → HasCuts q (lists q) ts
  pub asked : AreAsked (lists 4) ts

-- the first exchange: on line 4 the first thread puts the raw_ptr into cell 0
abbrev pub gift_made : SwapMade
gift_made = record { made = record { stake = 0; numbers = cell_numbers the_gift; seen = seen_number 2 }; cell = 0; entry = the_gift }

-- the second exchange: on line 7 the second thread takes the raw_ptr out of cell 0
abbrev pub taking_made : SwapMade
taking_made = record { made = record { stake = 1; numbers = cell_numbers the_taking; seen = seen_number 2 }; cell = 0; entry = the_taking }

-- the two exchanges in their order
abbrev pub threads_swaps : List SwapMade
threads_swaps = gift_made ∷ taking_made ∷ []

-- the six lists of the run of two threads
abbrev pub threads_lists : ℕ → List Made
threads_lists = lists_of two_threads_journal two_threads_pool (map (λ (s : SwapMade). s.made) threads_swaps)

-- the histories of the cells in the run of two threads: that of cell 0 has the two exchanges, and the others are empty
abbrev pub threads_cells : ℕ → List CellEntry
threads_cells = history_at (two_threads_history ∷ [])

-- the lists of the run of two threads meet what is required of lists, and of the cells' list besides
pub record TwoThreadsHaveLists : Type 0 where
  pub lists : ListsFit threads_lists two_threads_pool (journal_at (two_threads_journal ∷ [])) threads_told
  pub swapped : AreSwapped (threads_lists 5) threads_cells threads_swaps threads_told
  pub answered : AreAnswered threads_cells threads_swaps threads_told

-- the lists of the run with a purge meet what is required of lists
abbrev pub PurgeHasLists : Type 0
PurgeHasLists = ListsFit (lists_of purge_journal purge_pool []) purge_pool (journal_at (purge_journal ∷ [])) purge_told

-- the lists of the run of direct maps meet what is required of lists
abbrev pub DirectMapHasLists : Type 0
DirectMapHasLists =
    ListsFit (lists_of direct_map_again_journal direct_map_again_pool []) direct_map_again_pool
    (journal_at (direct_map_again_journal ∷ [])) maps_told
