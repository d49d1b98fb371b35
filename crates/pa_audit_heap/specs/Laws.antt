-- What the checkers require of the records, if the clause of the lines holds.
use Rattle.pa_trace.specs.declared.script.Trace.{Trace}
use Rattle.pa_trace.specs.Limits.{IsWithinLimits}
use Rattle.pa_trace.specs.Rules.{rules_of}
use Rattle.pa_rules.specs.Told.{Told, records_of}
use Rattle.pa_rules.specs.Played.{AreDue}
use Rattle.pa_audit_heap.specs.Ordered.{AreOfThreads16}
use Rattle.pa_rules.specs.Rising.{RiseByLine}

-- the records that are due are in the order of their lines, and their threads are of the 16
pub record RecordsHaveLines : Type 0 where
  pub rising : (t : Trace) (r : Told) → AreDue (rules_of t) t.lines r.entries → RiseByLine (records_of t r)
  pub threads : (t : Trace) (r : Told) → IsWithinLimits t → AreDue (rules_of t) t.lines r.entries → AreOfThreads16 (records_of t r)
