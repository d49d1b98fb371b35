-- A run that was worked out by hand: writes to a slot, and a read of what was written.
use Rattle.std.specs.Prelude.{List, [], ◌∷◌, map}
use Rattle.pa_trace.specs.declared.script.Trace.{Trace}
use Rattle.pa_trace.specs.declared.script.Line.TheVariants.{Do}
use Rattle.pa_trace.specs.declared.script.Op.TheVariants as ops
use Rattle.pa_record.specs.declared.entry.Answer.TheVariants as answers
use Rattle.pa_record.specs.declared.pool.PoolEntry.{PoolEntry}
use Rattle.pa_record.specs.declared.root.RootEntry.{RootEntry}
use Rattle.pa_record.specs.declared.report.ReportLine.{ReportLine}
use Rattle.pa_record.specs.declared.run.Run.{Run}
use Rattle.pa_record.specs.Worked.{census_of}
use Rattle.pa_rules.specs.declared.played.Played.{Played}
use Rattle.pa_rules.specs.Played.{entry_of}
use Rattle.pa_rules.specs.Legal.{IsFileRun}
use Rattle.pa_examples.specs.Worked.{IsRunOf, IsTold, seen_at, tally, report_line, two_threads_journal, two_threads_pool, of_one}

-- One thread writes to a slot that it owns, but not while a raw_ptr points to it. Through the raw_ptr it reads what it
-- wrote. A word that isn't inside the usable bytes is out of range.
abbrev pub writes_trace : Trace
writes_trace =
    record {
      version = 1;
      region = 1;
      partitions = 1;
      threads = 1;
      plain = 0;
      lines =
          Do 0 (ops.Alloc 0 0 8)
          ∷ Do 0 (ops.Write 0 5)
          ∷ Do 0 (ops.Copy 0 1)
          ∷ Do 0 (ops.Write 0 6)
          ∷ Do 0 (ops.Read 1 0)
          ∷ Do 0 (ops.Reset 1)
          ∷ Do 0 (ops.Write 0 6)
          ∷ Do 0 (ops.Read 0 1)
          ∷ [];
    }

-- the records of the run with writes, beside their ops
abbrev pub writes_records : List Played
writes_records =
    record of_one { line = 2; thread = 0; phase = 1; op = ops.Alloc 0 0 8; answer = answers.Made (seen_at 16384 0 0) 8 }
    ∷ record of_one { line = 3; thread = 0; phase = 1; op = ops.Write 0 5; answer = answers.Done (seen_at 16384 0 0x1000001) }
    ∷ record of_one { line = 4; thread = 0; phase = 1; op = ops.Copy 0 1; answer = answers.Done (seen_at 16384 0 0x2000001) }
    ∷ record of_one { line = 5; thread = 0; phase = 1; op = ops.Write 0 6; answer = answers.Shared (seen_at 16384 0 0x3000003) }
    ∷ record of_one { line = 6; thread = 0; phase = 1; op = ops.Read 1 0; answer = answers.Value (seen_at 16384 0 0x3000003) 5 }
    ∷ record of_one { line = 7; thread = 0; phase = 1; op = ops.Reset 1; answer = answers.Done (seen_at 16384 0 0x3000003) }
    ∷ record of_one { line = 8; thread = 0; phase = 1; op = ops.Write 0 6; answer = answers.Done (seen_at 16384 0 0x4000001) }
    ∷ record of_one { line = 9; thread = 0; phase = 1; op = ops.Read 0 1; answer = answers.OutOfRange }
    ∷ []

-- the root's journal: the fill of eight slots of the worked run of two threads
abbrev pub writes_journal : List RootEntry
writes_journal = two_threads_journal

-- the pool's one entry: on line 2 partition 0 took super page 0
abbrev pub writes_pool : List PoolEntry
writes_pool = two_threads_pool

-- the report of the run with writes: one line, with one live slot of 16 bytes, none quarantined and seven cached
abbrev pub writes_report : List ReportLine
writes_report = report_line 1 (tally 1 16) (tally 0 0) (tally 7 112) (census_of 248 3968 4096 2097152 0 1 0 0) ∷ []

-- the trace is within the limits and has a run with these lists
abbrev pub WritesAreTold : Type 0
WritesAreTold = IsTold writes_trace (map entry_of writes_records) (writes_journal ∷ []) writes_pool [] writes_report

-- a run with these lists is the one in the order of the lines
abbrev pub WritesAreFiled : Type 0
WritesAreFiled =
    (r : Run) → IsRunOf r (map entry_of writes_records) (writes_journal ∷ []) writes_pool [] writes_report → IsFileRun writes_trace r
