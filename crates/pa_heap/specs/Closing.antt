-- What a heap leaves when it is closed: one seat has what its parts had, and what they made is listed.
use Rattle.std.specs.Prelude.{◌≡◌, ℕ, ◌*◌, ◌<◌, ◌≤◌, List, [], length, slice_index, slice_index_or, All}
use Rattle.pa_slot.specs.declared.title.Title.{Title}
use Rattle.pa_slot.specs.Links.{AreLinked}
use Rattle.pa_record.specs.declared.history.CellEntry.{CellEntry}
use Rattle.pa_record.specs.declared.history.Held.TheVariants.{Nothing}
use Rattle.pa_record.specs.declared.pool.PoolEntry.{PoolEntry}
use Rattle.pa_record.specs.declared.root.RootEntry.{RootEntry}
use Rattle.pa_record.specs.Laws.{IsNameOut}
use Rattle.pa_record.specs.Pool.{IsPool}
use Rattle.pa_record.specs.Root.{Root, new_root, root_replayed, IsJournal}
use Rattle.pa_record.specs.Sound.{IsMade}
use Rattle.pa_record.specs.Spans.{name_of}
use Rattle.pa_trace.specs.Limits.{cell_count, most_partitions}
use Rattle.pa_region.specs.declared.view.View.{View}
use Rattle.pa_region.specs.Views.{Knows, free_of, seen_of, stake_of, HasEveryStake}
use Rattle.pa_region.specs.Waiting.{unclean_of}
use Rattle.pa_region.specs.Lists.{keeper_of, list_of, IsBeginning}
use Rattle.pa_region.specs.Takes.{log_of}
use Rattle.pa_region.specs.Aware.{IsAware}
use Rattle.pa_region.specs.Ends.{IsEnd}
use Rattle.pa_records.specs.Records.{HasSpans, AreSpansIn}
use Rattle.pa_rules.specs.Cells.{IsChain}
use Rattle.pa_legal.specs.Numbers.{AreNumbered}
use Rattle.pa_logs.specs.Listed.{IsJournalOf, IsPoolList}
use Rattle.pa_pool.specs.Pools.{PoolValue, IsPoolKept}
use Rattle.pa_root.specs.Keeping.{RootState, IsRootSound}
use Rattle.pa_cells.specs.Cells.{CellsHeld, Exchange, IsCells, AreExchanges}
use Rattle.pa_heap.specs.declared.left.Left.{Left}
use Rattle.pa_link.specs.Chains.{slot_names}
use Rattle.pa_op_specs.specs.Stocks.{IsStock, titles_in}
use Rattle.pa_op_specs.specs.Workers.{WorkerValue}

-- The view `whole` has each free title and each keeper that `part` has. It has seen all that `part` has seen, of the lists of
-- those keepers no more, and it knows each word that `part` knows.
pub record IsWithin (part whole : View) : Type 0 where
  pub frees : (t : Title) → free_of part t ≤ free_of whole t
  pub keepers : (k : ℕ) → keeper_of part k ≤ keeper_of whole k
  pub lists : (k : ℕ) → IsBeginning (list_of k part) (list_of k whole)
  pub own_lists : (k : ℕ) → 0 < keeper_of part k → list_of k whole ≡ list_of k part
  pub seen : (t : Title) → seen_of part t ≤ seen_of whole t
  pub known : (q : ℕ) → Knows part q → Knows whole q × (slice_index whole.words q ≡ slice_index part.words q)

-- A seat took in others that had no stake and no unclean Own: it has the same stakes, each with the same log.
pub record TakesOthersIn (before after : View) : Type 0 where
  pub within : IsWithin before after
  pub stakes : (k : ℕ) → stake_of after k ≡ stake_of before k
  pub logs : (k : ℕ) → log_of k after ≡ log_of k before
  pub clean : unclean_of after ≡ unclean_of before

-- These are the entries of the pool of a region of this many words, and the pool's seat was taken in.
pub record LeavesPool (words : ℕ) (entries : List PoolEntry) (after : View) : Type 0 where
  pub pool : PoolValue
  pub entries_are : pool.entries ≡ entries
  pub whole : words ≡ 262144 * pool.supers
  pub kept : IsPoolKept pool
  pub within : IsWithin pool.view after

-- This is the journal of the root of partition p, and the root's seat was taken in. The words that this seat knew have the root.
pub record LeavesRoot (p : ℕ) (journal : List RootEntry) (after : View) : Type 0 where
  pub root : RootState
  pub journal_is : root.journal ≡ journal
  pub kept : IsRootSound p root
  pub spans : HasSpans root.view.words root.root
  pub within : IsWithin root.view after

-- These are the histories of the cells, and the cells' seat was taken in.
pub record LeavesCells (histories : List (List CellEntry)) (after : View) : Type 0 where
  pub cells : CellsHeld
  pub histories_are : cells.histories ≡ histories
  pub kept : IsCells cells
  pub within : IsWithin cells.view after

-- A worker's seat was taken in. The worker's lists are linked in the words that this seat knew.
pub record LeavesWorker (after : View) (w : WorkerValue) : Type 0 where
  pub stock : IsStock w.stock
  pub links : (p class : ℕ) → AreLinked w.stock.view.words (slot_names (titles_in w.stock.caches p class))
  pub within : IsWithin w.stock.view after

-- the worker handed its stake over and has none
abbrev pub HasTold : WorkerValue → Type 0
HasTold w = (k : ℕ) → stake_of w.stock.view k ≡ 0

-- the journal of partition p, empty if the partition isn't there
abbrev pub journal_left : Left → ℕ → List RootEntry
journal_left l p = slice_index_or l.roots p []

-- the history of cell k at the end, empty if the cell isn't there
abbrev pub history_left : Left → ℕ → List CellEntry
history_left l k = slice_index_or l.cells.items k []

-- the root of partition p at the end
abbrev pub root_left : Left → ℕ → Root
root_left l p = root_replayed l.pool.items (journal_left l p) new_root

-- What is left agrees with what the closing seat has seen, which took all others in.
--   pool, fits: its list of the pool is the pool's entries in numbers, and they are those of the region's super pages
--   lists, journals: its list of each root is that root's journal in numbers, which replays with the pool's entries
--   numbers: each root gives a slot out at the number at which it has it
--   count: there is a history for each of the 64 cells
--   exchanges, chain: its list of the cells is all exchanges in numbers, each history is that of its cell, and each exchange
--     found what the one before it gave
pub record LeavesLists (words : ℕ) (last : View) (left : Left) : Type 0 where
  pub pool : IsPoolList (list_of 4 last) left.pool.items
  pub fits : (supers : ℕ) → words ≡ 262144 * supers → IsPool supers left.pool.items
  pub lists : (p : ℕ) → p < most_partitions → IsJournalOf (list_of p last) (journal_left left p)
  pub journals : (p : ℕ) → IsJournal left.pool.items (journal_left left p)
  pub numbers : AreNumbered (journal_left left)
  pub count : length left.cells.items ≡ cell_count
  pub exchanges : (xs : List Exchange) × AreExchanges (list_of 5 last) left.cells.items xs
  pub chain : (k : ℕ) → IsChain Nothing (history_left left k)

-- A heap of a region of this many words was closed by a seat that had this view, with these workers, and this is left.
--   last: the view of the seat at the end, into which all others were taken
--   aware, every, logs, within: it has every stake with the log that the seat had, and has seen what the seat had
--   ends, long: the region's words are what it knows of them
--   lists: what is left agrees with what it has seen
--   spans: the words have each root, as its journal replays
--   workers: what each worker had was taken in too
--   clean: each of its Owns is clean
pub record IsClosedBy (words : ℕ) (told : List WorkerValue) (seat : View) (left : Left) : Type 0 where
  pub last : View
  pub aware : IsAware last
  pub every : HasEveryStake last
  pub logs : (k : ℕ) → log_of k last ≡ log_of k seat
  pub within : IsWithin seat last
  pub ends : IsEnd left.region last
  pub long : length left.region ≡ words
  pub lists : LeavesLists words last left
  pub spans : AreSpansIn left.pool.items (journal_left left) left.region
  pub rooted : (p : ℕ) (u : Title) → IsMade (root_left left p) u → (IsNameOut (root_left left p) (name_of u) → ⊥) → 0 < free_of last u
  pub workers : All (LeavesWorker last) told
  pub clean : unclean_of last ≡ 0
