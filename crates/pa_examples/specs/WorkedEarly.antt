-- A run that was worked out by hand, in which poison is read early: before the free,
-- by the order of threads, phases and hand-overs.
use Rattle.std.specs.Prelude.{List, [], ◌∷◌, map}
use Rattle.pa_slot.specs.Titles.{poison}
use Rattle.pa_trace.specs.declared.script.Trace.{Trace}
use Rattle.pa_trace.specs.declared.script.Line.TheVariants.{Phase, Do}
use Rattle.pa_trace.specs.declared.script.Op.TheVariants as ops
use Rattle.pa_record.specs.declared.entry.Answer.TheVariants as answers
use Rattle.pa_record.specs.declared.history.CellEntry.{CellEntry}
use Rattle.pa_record.specs.declared.history.Held.TheVariants as held
use Rattle.pa_record.specs.declared.report.ReportLine.{ReportLine}
use Rattle.pa_record.specs.declared.run.Run.{Run}
use Rattle.pa_rules.specs.declared.played.Played.{Played}
use Rattle.pa_rules.specs.Played.{entry_of}
use Rattle.pa_rules.specs.Legal.{IsLegal}
use Rattle.pa_examples.specs.Worked.{IsRunOf, IsTold, seen_at, tally, report_line, two_threads_journal, two_threads_pool, two_threads_census, of_one}

-- Two threads: one gives the other a raw_ptr through a cell. The other reads the slot, gives the raw_ptr back through another
-- cell, and only then does the first one free the slot. Yet the read finds poison: the clause of contents requires a free by
-- another thread in the same phase, and not that the read may come after it.
abbrev pub early_read_trace : Trace
early_read_trace =
    record {
      version = 1;
      region = 1;
      partitions = 1;
      threads = 2;
      plain = 0;
      lines =
          Do 0 (ops.Alloc 0 0 8)
          ∷ Do 0 (ops.Copy 0 1)
          ∷ Do 0 (ops.Swap 0 1)
          ∷ Phase
          ∷ Do 1 (ops.Swap 0 0)
          ∷ Do 1 (ops.Read 0 0)
          ∷ Do 1 (ops.Swap 1 0)
          ∷ Do 0 (ops.Swap 1 2)
          ∷ Do 0 (ops.Free 0)
          ∷ [];
    }

-- the eight records of the run with an early read, beside their ops
abbrev pub early_read_records : List Played
early_read_records =
    record of_one { line = 2; thread = 0; phase = 1; op = ops.Alloc 0 0 8; answer = answers.Made (seen_at 16384 0 0) 8 }
    ∷ record of_one { line = 3; thread = 0; phase = 1; op = ops.Copy 0 1; answer = answers.Done (seen_at 16384 0 0x1000001) }
    ∷ record of_one { line = 4; thread = 0; phase = 1; op = ops.Swap 0 1; answer = answers.Swapped 0 }
    ∷ record of_one { line = 6; thread = 1; phase = 2; op = ops.Swap 0 0; answer = answers.Swapped 1 }
    ∷ record of_one { line = 7; thread = 1; phase = 2; op = ops.Read 0 0; answer = answers.Value (seen_at 16384 0 0x2000003) poison }
    ∷ record of_one { line = 8; thread = 1; phase = 2; op = ops.Swap 1 0; answer = answers.Swapped 0 }
    ∷ record of_one { line = 9; thread = 0; phase = 2; op = ops.Swap 1 2; answer = answers.Swapped 1 }
    ∷ record of_one { line = 10; thread = 0; phase = 2; op = ops.Free 0; answer = answers.Done (seen_at 16384 0 0x2000003) }
    ∷ []

-- the first cell's history: on line 4 the raw_ptr is put in, on line 6 it is taken out
abbrev pub there_history : List CellEntry
there_history =
    record { line = 4; gave = held.Ref (record { start = 16384; born = 0 }); found = held.Nothing }
    ∷ record { line = 6; gave = held.Nothing; found = held.Ref (record { start = 16384; born = 0 }) }
    ∷ []

-- the second cell's history: on line 8 the raw_ptr is put in, on line 9 it is taken out
abbrev pub back_history : List CellEntry
back_history =
    record { line = 8; gave = held.Ref (record { start = 16384; born = 0 }); found = held.Nothing }
    ∷ record { line = 9; gave = held.Nothing; found = held.Ref (record { start = 16384; born = 0 }) }
    ∷ []

-- a line of the report for each phase: the slot is live after the first and quarantined after the second, and seven others are cached
abbrev pub early_read_report : List ReportLine
early_read_report =
    report_line 1 (tally 1 16) (tally 0 0) (tally 7 112) two_threads_census
    ∷ report_line 2 (tally 0 0) (tally 1 16) (tally 7 112) two_threads_census
    ∷ []

-- the trace is within the limits and has a run with these lists
abbrev pub EarlyReadIsTold : Type 0
EarlyReadIsTold =
    IsTold early_read_trace (map entry_of early_read_records) (two_threads_journal ∷ []) two_threads_pool
    (there_history ∷ back_history ∷ []) early_read_report

-- a run with these lists is legal
abbrev pub EarlyReadIsLegal : Type 0
EarlyReadIsLegal =
    (r : Run) →
    IsRunOf r (map entry_of early_read_records) (two_threads_journal ∷ []) two_threads_pool
    (there_history ∷ back_history ∷ []) early_read_report →
    IsLegal early_read_trace r
