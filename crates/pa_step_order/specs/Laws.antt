-- What follows of the order of all logs.
use Rattle.std.specs.Prelude.{◌≡◌, List}
use Rattle.pa_trace.specs.declared.script.Trace.{Trace}
use Rattle.pa_rules.specs.Told.{Told}
use Rattle.pa_region.specs.declared.view.View.{View}
use Rattle.pa_region.specs.Waiting.{unclean_of}
use Rattle.pa_legal.specs.Flows.{SlotsFlow}
use Rattle.pa_timeline.specs.Timeline.{HasTimeline}
use Rattle.pa_logs.specs.Told.{ToldRecord, played_in}
use Rattle.pa_logs.specs.Said.{LayersSay}
use Rattle.pa_step_order.specs.Segments.{AreInTheirOrder}

-- If all layers say what they must, slots flow, each record's log segment has its steps in their order, and the seat at the end has no
-- Own that isn't clean, then the run has a timeline.
abbrev pub TimelineFollows : Type 0
TimelineFollows =
    (t : Trace) (r : Told) (v : View) (ts : List ToldRecord) → LayersSay t r v ts →
    SlotsFlow t.partitions r.roots (played_in ts) → AreInTheirOrder t.partitions r.roots ts → unclean_of v ≡ 0 → HasTimeline t r
