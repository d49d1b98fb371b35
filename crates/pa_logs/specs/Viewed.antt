-- What seats had seen along a run, in which order the exchanges come, and what follows: the clause of what was seen.
use Rattle.std.specs.Prelude.{◌≡◌, ◌≢◌, ℕ, ◌+◌, ◌<◌, ◌≤◌, List, Contains, AllPairs}
use Rattle.pa_slot.specs.declared.title.Title.{Title}
use Rattle.pa_slot.specs.declared.word.SlotName.{SlotName}
use Rattle.pa_slot.specs.declared.word.Step.{Step}
use Rattle.pa_slot.specs.Count.{number_of}
use Rattle.pa_region.specs.declared.view.Entry.TheVariants.{Counted, Looked}
use Rattle.pa_trace.specs.declared.script.Op.TheVariants.{Swap}
use Rattle.pa_record.specs.declared.history.CellEntry.{CellEntry}
use Rattle.pa_rules.specs.declared.played.Played.{Played}
use Rattle.pa_rules.specs.Cells.{AreCells}
use Rattle.pa_rules.specs.Order.{StandsBefore}
use Rattle.pa_rules.specs.Seen.{HandsTo, IsSeenInOrder}
use Rattle.pa_logs.specs.Told.{ToldRecord, played_in}
use Rattle.pa_logs.specs.Touches.{AreTold}

-- the record is an exchange
abbrev pub IsExchanged : Played → Type 0
IsExchanged x = (cell reg : ℕ) × (x.op ≡ Swap cell reg)

-- Exchanges have one order: `place` is that of the exchange on a line.
--   cells_are: the cells are those of the records
--   lines: each record has a line of its own
--   phases: those of a later phase are on later lines
--   handed: the next exchange of a cell comes after the one that gave
--   threads: those of one thread are in the order of its lines
pub record IsOrdered (cells : ℕ → List CellEntry) (place : ℕ → ℕ) (ps : List Played) : Type 0 where
  pub cells_are : AreCells cells ps
  pub lines : AllPairs (λ (x y : Played). x.line ≢ y.line) ps
  pub phases : (x y : Played) → Contains ps x → Contains ps y → x.phase < y.phase → x.line < y.line
  pub handed : (x y : Played) → HandsTo cells x y → place x.line < place y.line
  pub threads : (x y : Played) → Contains ps x → Contains ps y → IsExchanged x → IsExchanged y → x.thread ≡ y.thread →
      x.line < y.line → place x.line < place y.line

-- What seats had seen along a run.
--   steps, looks: no step or look found less than its seat had seen, and what it left is handed on
--   grows: what was seen stays seen
--   stands: a record's seat has seen what the ones before it hand on, of its thread and of the phases before
--   hands: an exchange hands on what the exchange that gave to it did
pub record AreViewed (cells : ℕ → List CellEntry) (ts : List ToldRecord) : Type 0 where
  pub steps : (x : ToldRecord) (t : Title) (step : Step) (found value : ℕ) → Contains ts x →
      Contains x.stretch (Counted t step found value) → (x.saw t ≤ number_of found) × (number_of found + 1 ≤ x.gives t)
  pub looks : (x : ToldRecord) (t : Title) (found : ℕ) → Contains ts x → Contains x.stretch (Looked t found) →
      (x.saw t ≤ number_of found) × (number_of found ≤ x.gives t)
  pub grows : (x : ToldRecord) (t : Title) → Contains ts x → x.saw t ≤ x.gives t
  pub stands : (x y : ToldRecord) (t : Title) → Contains ts x → Contains ts y → StandsBefore x.played y.played → x.gives t ≤ y.saw t
  pub hands : (x y : ToldRecord) (t : Title) → Contains ts x → Contains ts y → HandsTo cells x.played y.played → x.gives t ≤ y.gives t

-- No record is before itself, and none finds less than one before it left.
abbrev pub SeenFollows : Type 0
SeenFollows =
    (sizes : SlotName → ℕ) (cells : ℕ → List CellEntry) (place : ℕ → ℕ) (ts : List ToldRecord) → AreTold sizes ts →
    IsOrdered cells place (played_in ts) → AreViewed cells ts → IsSeenInOrder cells (played_in ts)
