-- A run whose lines are played one after the other.
use Rattle.std.specs.Prelude.{ℕ, List}
use Rattle.pa_trace.specs.declared.script.Trace.{Trace}
use Rattle.pa_rules.specs.FileOrder.{IsInFileOrder}
use Rattle.pa_rules.specs.Told.{Told}
use Rattle.pa_region.specs.declared.view.View.{View}
use Rattle.pa_logs.specs.Told.{ToldRecord, played_in}
use Rattle.pa_logs.specs.Said.{LayersSay}
use Rattle.pa_logs.specs.InTurn.{TurnsSay}

-- If all layers say what they must, and each line was played after those before it, the run is in the order of its lines.
abbrev pub TurnsAreInOrder : Type 0
TurnsAreInOrder =
    (t : Trace) (r : Told) (v : View) (ts : List ToldRecord) (seats : ℕ → View) → LayersSay t r v ts → TurnsSay v ts seats →
    IsInFileOrder (played_in ts) r.pools r.roots r.cells
