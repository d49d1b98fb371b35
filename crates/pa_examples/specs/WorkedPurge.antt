-- A run that was worked out by hand: an allocation, its free, a purge and another allocation.
use Rattle.std.specs.Prelude.{List, [], ◌∷◌, map}
use Rattle.pa_trace.specs.declared.script.Trace.{Trace}
use Rattle.pa_trace.specs.declared.script.Line.TheVariants.{Do}
use Rattle.pa_trace.specs.declared.script.Op.TheVariants as ops
use Rattle.pa_record.specs.declared.report.ReportLine.{ReportLine}
use Rattle.pa_record.specs.declared.run.Run.{Run}
use Rattle.pa_record.specs.Worked.{purge_pool, purge_journal, purge_census}
use Rattle.pa_rules.specs.Played.{entry_of}
use Rattle.pa_rules.specs.Worked.{purge_records}
use Rattle.pa_rules.specs.Legal.{IsFileRun}
use Rattle.pa_examples.specs.Worked.{IsRunOf, IsTold, tally, report_line}

-- The slot that was freed is cached until the purge gives all slots back, and is the first one that the next fill takes.
abbrev pub purge_trace : Trace
purge_trace =
    record {
      version = 1;
      region = 1;
      partitions = 1;
      threads = 1;
      plain = 0;
      lines =
          Do 0 (ops.Alloc 0 0 8)
          ∷ Do 0 (ops.Free 0)
          ∷ Do 0 ops.Purge
          ∷ Do 0 (ops.Alloc 1 0 8)
          ∷ [];
    }

-- the report of the run with a purge: one line, with one live slot of 16 bytes, none quarantined and seven cached
abbrev pub purge_report : List ReportLine
purge_report = report_line 1 (tally 1 16) (tally 0 0) (tally 7 112) purge_census ∷ []

-- the trace is within the limits and has a run with these lists
abbrev pub PurgeIsTold : Type 0
PurgeIsTold = IsTold purge_trace (map entry_of purge_records) (purge_journal ∷ []) purge_pool [] purge_report

-- a run with these lists is the one in the order of the lines
abbrev pub PurgeIsFiled : Type 0
PurgeIsFiled = (r : Run) → IsRunOf r (map entry_of purge_records) (purge_journal ∷ []) purge_pool [] purge_report → IsFileRun purge_trace r
