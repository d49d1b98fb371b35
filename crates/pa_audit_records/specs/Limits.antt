-- What the limits of a trace say of its records.
use Rattle.std.specs.Prelude.{List, All}
use Rattle.pa_trace.specs.declared.script.Trace.{Trace}
use Rattle.pa_trace.specs.Limits.{IsWithinLimits}
use Rattle.pa_trace.specs.Rules.{rules_of}
use Rattle.pa_record.specs.declared.entry.Entry.{Entry}
use Rattle.pa_rules.specs.Played.{played}
use Rattle.pa_audit_records.specs.Rows.{IsPlayedWithin}

-- the records beside the ops of a trace within its limits are of its threads and registers
abbrev pub RecordsAreWithin : Type 0
RecordsAreWithin = (t : Trace) (es : List Entry) → IsWithinLimits t → All IsPlayedWithin (played (rules_of t) t.lines es)
