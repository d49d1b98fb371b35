-- When a text is the text of a run, and when two runs have the same contents.
use Rattle.std.specs.Prelude.{◌≡◌, ℕ, ◌≤◌, ◌<◌, List, [], length, slice_index_or}
use Rattle.std.specs.List.{AllByRecursion}
use Rattle.pa_record.specs.declared.root.RootEntry.{RootEntry}
use Rattle.pa_record.specs.declared.root.RootAct.{RootAct}
use Rattle.pa_record.specs.declared.root.RootAct.TheVariants.{Fill, Map, Full, Give, Unmap, Purge}
use Rattle.pa_record.specs.declared.history.CellEntry.{CellEntry}
use Rattle.pa_record.specs.declared.run.Run.{Run}
use Rattle.pa_record.specs.Bits.{RunInBits}
use Rattle.pa_record.specs.Text.{run_text}

-- a fill or a give names at least one slot
abbrev pub NamesSlots : RootAct → Type 0
NamesSlots (Fill class pool slots) = 0 < length slots
NamesSlots (Map pool slot len) = Unit {0}
NamesSlots (Full class pool) = Unit {0}
NamesSlots (Give slots) = 0 < length slots
NamesSlots (Unmap pool slot) = Unit {0}
NamesSlots Purge = Unit {0}

-- what a run that has a text keeps: there are at most 4 partitions and 64 cells
pub record IsPrintable (r : Run) : Type 0 where
  pub roots : length r.roots.items ≤ 4
  pub cells : length r.cells.items ≤ 64
  pub slots : AllByRecursion (AllByRecursion (λ e. NamesSlots e.act)) r.roots.items

-- the bytes are the text of this run
pub record IsRunText (r : Run) (bytes : List ℕ) : Type 0 where
  pub fits : RunInBits r
  pub form : IsPrintable r
  pub text : bytes ≡ run_text r

-- the journal of partition p, empty if the run has none
abbrev pub journal_of : Run → ℕ → List RootEntry
journal_of r p = slice_index_or r.roots.items p []

-- the history of cell k, empty if the run has no such cell
abbrev pub history_of : Run → ℕ → List CellEntry
history_of r k = slice_index_or r.cells.items k []

-- two runs have the same contents
pub record IsSameRun (a b : Run) : Type 0 where
  pub entries : a.entries.items ≡ b.entries.items
  pub roots : (p : ℕ) → journal_of a p ≡ journal_of b p
  pub pool : a.pool.items ≡ b.pool.items
  pub cells : (k : ℕ) → history_of a k ≡ history_of b k
  pub report : a.report.items ≡ b.report.items
