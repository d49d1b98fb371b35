-- The 64 cells: what each holds, the exchanges that were made with it, and the one list with all exchanges.
use Rattle.std.specs.Prelude.{◌≡◌, ℕ, ◌≤◌, List, [], ◌∷◌, ◌++◌, ◌==◌, Bool, map, length, replicate, Option, None, Some, IfSome, slice_get, slice_index, slice_index_or, slice_set}
use Rattle.std.specs.List.{filter}
use Rattle.atomic_table.specs.Seated.{TableId}
use Rattle.pa_record.specs.declared.history.CellEntry.{CellEntry}
use Rattle.pa_record.specs.declared.history.Held.{Held}
use Rattle.pa_record.specs.declared.history.Held.TheVariants.{Nothing}
use Rattle.pa_record.specs.Numbers.{held_numbers}
use Rattle.pa_trace.specs.Limits.{cell_count}
use Rattle.pa_region.specs.declared.view.Made.{Made}
use Rattle.pa_region.specs.declared.view.View.{View}
use Rattle.pa_region.specs.Views.{least_stake}
use Rattle.pa_region.specs.Lists.{list_of}
use Rattle.pa_region.specs.Lending.{HostsKeeper, IsNoted}
use Rattle.pa_rules.specs.Cells.{IsChain}
use Rattle.pa_cells.specs.Handles.{ParkedHandle, IsSealedFrom, held_as}

-- one exchange: the number of its cell, and its entry in the cell's history
pub record Exchange : Type 0 where
  pub cell : ℕ
  pub entry : CellEntry

-- the numbers of an exchange in the list: its line, its cell, and what was given and found
abbrev pub exchange_numbers : Exchange → List ℕ
exchange_numbers x = x.entry.line ∷ x.cell ∷ held_numbers x.entry.gave ++ held_numbers x.entry.found

-- the exchange is one with cell k
abbrev pub is_with_cell : ℕ → Exchange → Bool
is_with_cell k x = x.cell == k

-- the entries of cell k among these exchanges, in order
abbrev pub entries_with : ℕ → List Exchange → List CellEntry
entries_with k xs = map (λ (x : Exchange). x.entry) (filter (is_with_cell k) xs)

-- an entry of the list is one with cell k: its second number says so
abbrev pub names_cell : ℕ → Made → Bool
names_cell k m = slice_index m.numbers 1 == k

-- the entries of the list that are exchanges with cell k, in order
abbrev pub made_with_cell : ℕ → List Made → List Made
made_with_cell k list = filter (names_cell k) list

-- the cells, as contracts see them: the view of their seat, the history of each, and what each holds
pub record CellsHeld : Type 0 where
  pub view : View
  pub histories : List (List CellEntry)
  pub parked : List (Option ParkedHandle)

-- the history of cell k, empty if the cell isn't there
abbrev pub cell_history : List (List CellEntry) → ℕ → List CellEntry
cell_history histories k = slice_index_or histories k []

-- what cell k holds: nothing if it is empty or isn't there
abbrev pub cell_holds : List (Option ParkedHandle) → ℕ → Option ParkedHandle
cell_holds parked k = slice_index_or parked k None

-- the histories with one more entry, at the end of that of cell k
abbrev pub pushed_at : ℕ → CellEntry → List (List CellEntry) → List (List CellEntry)
pushed_at k e histories = slice_set histories k (cell_history histories k ++ e ∷ [])

-- what a cell has after these exchanges, if it had `held` before
abbrev pub held_after : Held → List CellEntry → Held
held_after held [] = held
held_after held (e ∷ es) = held_after e.gave es

-- The list is that of these exchanges, in numbers, and the history of each cell is its own among them.
pub record AreExchanges (list : List Made) (histories : List (List CellEntry)) (xs : List Exchange) : Type 0 where
  pub numbers : map (λ (m : Made). m.numbers) list ≡ map exchange_numbers xs
  pub cells : (k : ℕ) → cell_history histories k ≡ entries_with k xs

-- What is always true of the cells.
--   cells, held: there are 64
--   host: their seat has keeper 5, and no stake
--   exchanged: the keeper's list is that of all exchanges, and each history is that of its cell
--   chain: each exchange found what the one before it gave, the first one nothing
--   holds: a cell holds what its last exchange gave
--   few: each history has at most 2^31 - 1 exchanges
pub record IsCells (c : CellsHeld) : Type 0 where
  pub cells : length c.histories ≡ cell_count
  pub held : length c.parked ≡ cell_count
  pub host : HostsKeeper 5 c.view
  pub exchanged : (xs : List Exchange) × AreExchanges (list_of 5 c.view) c.histories xs
  pub chain : (k : ℕ) → IsChain Nothing (cell_history c.histories k)
  pub holds : (k : ℕ) → held_as (cell_holds c.parked k) ≡ held_after Nothing (cell_history c.histories k)
  pub few : (k : ℕ) → length (cell_history c.histories k) ≤ 2147483647

-- a handle on its way is of this region, and its Own is sealed exactly if its slot is in a plain partition
abbrev pub IsOf : TableId → ℕ → ParkedHandle → Type 0
IsOf region plain_from p = (p.note.region ≡ region) × IsSealedFrom plain_from p

-- each handle that waits in a cell is so
abbrev pub AreOf : TableId → ℕ → List (Option ParkedHandle) → Type 0
AreOf region plain_from parked = (k : ℕ) → IfSome (cell_holds parked k) (IsOf region plain_from)

-- 64 empty cells, with this view of their seat
abbrev pub empty_cells : View → CellsHeld
empty_cells v = record { view = v; histories = replicate cell_count []; parked = replicate cell_count None }

-- the entry of an exchange that gives this to a cell which holds that
abbrev pub exchange_entry : (line : ℕ) → (given found : Option ParkedHandle) → CellEntry
exchange_entry line given found = record { line = line; gave = held_as given; found = held_as found }

-- One exchange was made on this line with this cell, with the least stake of the lender. The cell holds what was given. Its history
-- has the entry at its end, and so have the list, which both seats have seen whole then, and the stake's log. All else stays.
pub record MakesExchange (line cell : ℕ) (given : Option ParkedHandle) (lender lender_now : View) (old new : CellsHeld) : Type 0 where
  pub parked : new.parked ≡ slice_set old.parked cell given
  pub histories : new.histories ≡ pushed_at cell (exchange_entry line given (cell_holds old.parked cell)) old.histories
  pub noted : (m : Made) × IsNoted (least_stake lender.stakes) 5
      (exchange_numbers (record { cell = cell; entry = exchange_entry line given (cell_holds old.parked cell) })) lender lender_now
      old.view new.view m

-- an exchange that is in the list is in its cell's history, after as many as are before it in the list
abbrev pub PlacesStay : Type 0
PlacesStay =
    (list before rest : List Made) (histories : List (List CellEntry)) (xs : List Exchange) (m : Made) (x : Exchange) →
    AreExchanges list histories xs → list ≡ before ++ m ∷ rest → m.numbers ≡ exchange_numbers x →
    slice_get (cell_history histories x.cell) (length (made_with_cell x.cell before)) ≡ Some x.entry
