-- What an op entered in the lists of roots, pool and cells, by the lists that its seat has seen then.
use Rattle.std.specs.Prelude.{◌≡◌, ℕ, ◌<◌, ◌≤◌, ◌⊎◌, List, [], ◌∷◌, ◌++◌, length, Contains}
use Rattle.pa_slot.specs.declared.title.Title.{Title}
use Rattle.pa_trace.specs.declared.script.Op.{Op}
use Rattle.pa_trace.specs.declared.script.Op.TheVariants as ops
use Rattle.pa_record.specs.declared.entry.Answer.TheVariants as answers
use Rattle.pa_record.specs.declared.history.CellEntry.{CellEntry}
use Rattle.pa_record.specs.declared.root.RootEntry.{RootEntry}
use Rattle.pa_record.specs.Numbers.{root_numbers}
use Rattle.pa_trace.specs.Limits.{most_partitions}
use Rattle.pa_region.specs.declared.view.Entry.TheVariants.{Uncut}
use Rattle.pa_region.specs.declared.view.Made.{Made}
use Rattle.pa_region.specs.declared.view.View.{View}
use Rattle.pa_region.specs.Lists.{list_of, made_with, entered_in}
use Rattle.pa_region.specs.Takes.{log_of}
use Rattle.pa_cells.specs.Cells.{exchange_numbers, made_with_cell}
use Rattle.pa_logs.specs.Told.{ToldRecord}
use Rattle.pa_logs.specs.Listed.{line_of}
use Rattle.pa_logs.specs.Indices.{Enters, AskedNone, AskedOnce, IsFullAt}
use Rattle.pa_logs.specs.Standing.{Unmaps}
use Rattle.pa_op_specs.specs.Outcomes.{FillsFrom}
use Rattle.pa_op_specs.specs.Stocks.{StockValue}

-- An exchange with cell k made one entry in the cells' list, which is of its line,
-- and its answer is how many exchanges of the cell are before it.
pub record EntersExchange (list : List Made) (x : ToldRecord) (k : ℕ) : Type 0 where
  pub older : List Made
  pub rest : List Made
  pub made : Made
  pub entry : CellEntry
  pub begins : list ≡ (older ++ made ∷ []) ++ rest
  pub says : made.numbers ≡ exchange_numbers (record { cell = k; entry = entry })
  pub line : entry.line ≡ x.played.line
  pub answer : x.played.answer ≡ answers.Swapped (length (made_with_cell k older))
  pub entered : entered_in 5 x.stretch ≡ made ∷ []

-- of all ops only an exchange enters something in the cells' list
abbrev pub EntersCells : Op → List Made → ToldRecord → Type 0
EntersCells (ops.Alloc reg partition size) list x = entered_in 5 x.stretch ≡ []
EntersCells (ops.Copy from to) list x = entered_in 5 x.stretch ≡ []
EntersCells (ops.Reset reg) list x = entered_in 5 x.stretch ≡ []
EntersCells (ops.Free reg) list x = entered_in 5 x.stretch ≡ []
EntersCells (ops.Write reg value) list x = entered_in 5 x.stretch ≡ []
EntersCells (ops.Read reg place) list x = entered_in 5 x.stretch ≡ []
EntersCells (ops.Swap cell reg) list x = EntersExchange list x cell
EntersCells ops.Purge list x = entered_in 5 x.stretch ≡ []

-- What a record entered. `lists` are those that its seat has seen after it.
--   lines: all is of its line
--   fills: a fill is of a class of its rules' version
--   asked: it asked the pool at most once
--   refused: if it was full, it names its entry
--   uncuts: a title that was uncut is one that it unmaps
--   cells: an exchange is one entry of the cells' list, and no other op enters there
pub record EntersOwn (lists : ℕ → List Made) (x : ToldRecord) : Type 0 where
  pub lines : (q : ℕ) (m : Made) → Contains (entered_in q x.stretch) m → line_of m ≡ x.played.line
  pub fills : (p : ℕ) (m : Made) (e : RootEntry) → p < most_partitions → Contains (entered_in p x.stretch) m → m.numbers ≡ root_numbers e
      → FillsFrom x.played.rules.version e.act
  pub asked : (it : Enters x) × (AskedNone x it ⊎ AskedOnce (lists 4) x it)
  pub refused : (j reg p size : ℕ) → x.played.answer ≡ answers.Full j → x.played.op ≡ ops.Alloc reg p size →
      (p < most_partitions) × IsFullAt (lists p) x j
  pub uncuts : (t : Title) → Contains x.stretch (Uncut t) → Unmaps x t
  pub cells : EntersCells x.played.op (lists 5) x

-- The view has seen an entry of list q, and what it has seen there that the stake made is what the stake's log entered.
pub record HasSeenSome (stake q : ℕ) (v : View) : Type 0 where
  pub some : (m : Made) × Contains (list_of q v) m
  pub own : made_with stake (list_of q v) ≡ entered_in q (log_of stake v)

-- In the list of a partition past the run's it entered nothing, or its seat had seen an entry there before.
abbrev pub EntersAtHome : StockValue → ToldRecord → Type 0
EntersAtHome before x =
    (p : ℕ) → before.partitions ≤ p → p < most_partitions → (entered_in p x.stretch ≡ []) ⊎ HasSeenSome before.thread p before.view
