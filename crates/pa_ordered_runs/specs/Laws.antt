-- What is proved of timelines.
use Rattle.pa_trace.specs.declared.script.Trace.{Trace}
use Rattle.pa_trace.specs.Limits.{IsWithinLimits}
use Rattle.pa_record.specs.declared.run.Run.{Run}
use Rattle.pa_rules.specs.Told.{told_by}
use Rattle.pa_rules.specs.Legal.{IsFileRun}
use Rattle.pa_timeline.specs.Timeline.{HasTimeline}

-- a run in the order of the lines, of a trace within the limits, has a timeline
abbrev pub FileRunsHaveATimeline : Type 0
FileRunsHaveATimeline = (t : Trace) (r : Run) → IsWithinLimits t → IsFileRun t r → HasTimeline t (told_by r)
