-- Two runs that were worked out by hand, which the definitions of a legal run must let through.
use Rattle.std.specs.Prelude.{◌≡◌, ℕ, List, [], ◌∷◌, map, Some}
use Rattle.std.specs.Global.{Global}
use Rattle.pa_slot.specs.Titles.{poison}
use Rattle.pa_trace.specs.declared.script.Trace.{Trace}
use Rattle.pa_trace.specs.Limits.{IsWithinLimits}
use Rattle.pa_trace.specs.declared.script.Line.TheVariants.{Phase, Do}
use Rattle.pa_trace.specs.declared.script.Op.TheVariants as ops
use Rattle.pa_trace.specs.Rules.{first_rules}
use Rattle.pa_record.specs.declared.entry.Entry.{Entry}
use Rattle.pa_record.specs.declared.entry.Seen.{Seen}
use Rattle.pa_record.specs.declared.entry.Answer.TheVariants as answers
use Rattle.pa_record.specs.declared.history.CellEntry.{CellEntry}
use Rattle.pa_record.specs.declared.history.Held.TheVariants as held
use Rattle.pa_record.specs.declared.pool.PoolEntry.{PoolEntry}
use Rattle.pa_record.specs.declared.root.RootEntry.{RootEntry}
use Rattle.pa_record.specs.declared.report.ReportLine.{ReportLine}
use Rattle.pa_record.specs.declared.report.Tally.{Tally}
use Rattle.pa_record.specs.declared.census.Census.{Census}
use Rattle.pa_record.specs.declared.run.Run.{Run}
use Rattle.pa_record.specs.Bits.{RunInBits}
use Rattle.pa_record.specs.Worked.{slots, fill, pool_take, direct_map_again_pool, direct_map_again_journal, direct_map_again_census, census_of}
use Rattle.pa_rules.specs.declared.played.Played.{Played}
use Rattle.pa_rules.specs.Played.{entry_of}
use Rattle.pa_rules.specs.Legal.{IsLegal, IsFileRun}

-- the run has just these lists
pub record IsRunOf (r : Run) (told : List Entry) (journals : List (List RootEntry)) (pools : List PoolEntry)
    (exchanged : List (List CellEntry)) (lines : List ReportLine) : Type 0 where
  pub entries : r.entries.items ≡ told
  pub roots : r.roots.items ≡ journals
  pub pool : r.pool.items ≡ pools
  pub cells : r.cells.items ≡ exchanged
  pub report : r.report.items ≡ lines

-- The trace is within the limits, and there is a run with just these lists, with numbers that have the bits of their types.
-- Its vectors are of some heap.
pub record IsTold (t : Trace) (told : List Entry) (journals : List (List RootEntry)) (pools : List PoolEntry)
    (exchanged : List (List CellEntry)) (lines : List ReportLine) : Type 0 where
  pub limits : IsWithinLimits t
  pub run : (heap : Global) → (r : Run) × RunInBits r × IsRunOf r told journals pools exchanged lines

-- what was seen of the slot that begins at this byte, of this entry of the pool: this word
abbrev pub seen_at : ℕ → ℕ → ℕ → Seen
seen_at start born word = record { slot = record { start = start; born = born }; found = record { 0 = word } }

-- this many slots with this many bytes
abbrev pub tally : ℕ → ℕ → Tally
tally slots bytes = record { slots = slots; bytes = bytes }

-- a line of the report for partition 0, from what was live, quarantined and cached, and what the root had
abbrev pub report_line : ℕ → Tally → Tally → Tally → Census → ReportLine
report_line phase live quarantined cached c =
    record {
      phase = phase;
      partition = 0;
      live = live;
      quarantined = quarantined;
      cached = cached;
      root = c.root;
      committed = c.committed;
      reserved = c.reserved;
      full = c.full;
      active = c.active;
      empty = c.empty;
      decommitted = c.decommitted;
    }

-- a record of a trace of one partition, of which all else is to be said
abbrev pub of_one : Played
of_one = record { line = 0; thread = 0; phase = 0; rules = first_rules 1; op = ops.Purge; answer = answers.Purged 0 }

-- One thread asks for direct maps: one goes back as it is freed, one is quarantined and goes back with the reset of its
-- raw_ptr, and while it is mapped there is no room for another.
abbrev pub direct_map_trace : Trace
direct_map_trace =
    record {
      version = 1;
      region = 1;
      partitions = 1;
      threads = 1;
      plain = 0;
      lines =
          Do 0 (ops.Alloc 0 0 2000000)
          ∷ Do 0 (ops.Free 0)
          ∷ Do 0 (ops.Alloc 0 0 2000000)
          ∷ Do 0 (ops.Copy 0 1)
          ∷ Do 0 (ops.Free 0)
          ∷ Do 0 (ops.Alloc 2 0 2000000)
          ∷ Do 0 (ops.Reset 1)
          ∷ Do 0 (ops.Alloc 2 0 2000000)
          ∷ [];
    }

-- the records of the run of direct maps, beside their ops
abbrev pub direct_map_records : List Played
direct_map_records =
    record of_one { line = 2; thread = 0; phase = 1; op = ops.Alloc 0 0 2000000; answer = answers.Made (seen_at 16384 0 0) 2002936 }
    ∷ record of_one { line = 3; thread = 0; phase = 1; op = ops.Free 0; answer = answers.Done (seen_at 16384 0 0x1000001) }
    ∷ record of_one { line = 4; thread = 0; phase = 1; op = ops.Alloc 0 0 2000000; answer = answers.Made (seen_at 16384 2 0) 2002936 }
    ∷ record of_one { line = 5; thread = 0; phase = 1; op = ops.Copy 0 1; answer = answers.Done (seen_at 16384 2 0x1000001) }
    ∷ record of_one { line = 6; thread = 0; phase = 1; op = ops.Free 0; answer = answers.Done (seen_at 16384 2 0x2000003) }
    ∷ record of_one { line = 7; thread = 0; phase = 1; op = ops.Alloc 2 0 2000000; answer = answers.Full 3 }
    ∷ record of_one { line = 8; thread = 0; phase = 1; op = ops.Reset 1; answer = answers.Done (seen_at 16384 2 0x3000002) }
    ∷ record of_one { line = 9; thread = 0; phase = 1; op = ops.Alloc 2 0 2000000; answer = answers.Made (seen_at 16384 5 0) 2002936 }
    ∷ []

-- the report of the run of direct maps: one line, with a live map of 2002944 bytes, nothing quarantined and nothing cached
abbrev pub direct_map_report : List ReportLine
direct_map_report = report_line 1 (tally 1 2002944) (tally 0 0) (tally 0 0) direct_map_again_census ∷ []

-- the trace of direct maps is within the limits and has a run with the lists that were worked out
abbrev pub DirectMapIsTold : Type 0
DirectMapIsTold = IsTold direct_map_trace (map entry_of direct_map_records)
    (direct_map_again_journal ∷ []) direct_map_again_pool [] direct_map_report

-- a run of direct maps with these lists is the one in the order of the lines
abbrev pub DirectMapIsFiled : Type 0
DirectMapIsFiled =
    (r : Run) → IsRunOf r (map entry_of direct_map_records) (direct_map_again_journal ∷ []) direct_map_again_pool [] direct_map_report →
    IsFileRun direct_map_trace r

-- Two threads: one gives the other a raw_ptr through a cell and frees the slot, while the other reads it. The read still
-- finds the allocator's bit, and poison already. The slot is quarantined until the raw_ptr is reset,
-- and is then cached by the thread that reset it.
abbrev pub two_threads_trace : Trace
two_threads_trace =
    record {
      version = 1;
      region = 1;
      partitions = 1;
      threads = 2;
      plain = 0;
      lines =
          Do 0 (ops.Alloc 0 0 8)
          ∷ Do 0 (ops.Copy 0 1)
          ∷ Do 0 (ops.Swap 0 1)
          ∷ Phase
          ∷ Do 0 (ops.Free 0)
          ∷ Do 1 (ops.Swap 0 0)
          ∷ Do 1 (ops.Read 0 0)
          ∷ Phase
          ∷ Do 1 (ops.Read 0 0)
          ∷ Do 1 (ops.Reset 0)
          ∷ [];
    }

-- the eight records of the run of two threads, beside their ops
abbrev pub two_threads_records : List Played
two_threads_records =
    record of_one { line = 2; thread = 0; phase = 1; op = ops.Alloc 0 0 8; answer = answers.Made (seen_at 16384 0 0) 8 }
    ∷ record of_one { line = 3; thread = 0; phase = 1; op = ops.Copy 0 1; answer = answers.Done (seen_at 16384 0 0x1000001) }
    ∷ record of_one { line = 4; thread = 0; phase = 1; op = ops.Swap 0 1; answer = answers.Swapped 0 }
    ∷ record of_one { line = 6; thread = 0; phase = 2; op = ops.Free 0; answer = answers.Done (seen_at 16384 0 0x2000003) }
    ∷ record of_one { line = 7; thread = 1; phase = 2; op = ops.Swap 0 0; answer = answers.Swapped 1 }
    ∷ record of_one { line = 8; thread = 1; phase = 2; op = ops.Read 0 0; answer = answers.Value (seen_at 16384 0 0x2000003) poison }
    ∷ record of_one { line = 10; thread = 1; phase = 3; op = ops.Read 0 0; answer = answers.Dangling (seen_at 16384 0 0x3000002) poison }
    ∷ record of_one { line = 11; thread = 1; phase = 3; op = ops.Reset 0; answer = answers.Done (seen_at 16384 0 0x3000002) }
    ∷ []

-- the root's journal in the run of two threads: on line 2 a fill of eight slots, 16 bytes apart from byte 16384 on
abbrev pub two_threads_journal : List RootEntry
two_threads_journal = fill 2 0 (Some 0) (slots 0 0 (16384 ∷ 16400 ∷ 16416 ∷ 16432 ∷ 16448 ∷ 16464 ∷ 16480 ∷ 16496 ∷ [])) ∷ []

-- the pool's one entry in the run of two threads: on line 2 partition 0 took super page 0
abbrev pub two_threads_pool : List PoolEntry
two_threads_pool = pool_take 2 0 1 (Some 0) ∷ []

-- the history of the cell in the run of two threads: on line 4 the raw_ptr is put in, on line 7 it is taken out
abbrev pub two_threads_history : List CellEntry
two_threads_history =
    record { line = 4; gave = held.Ref (record { start = 16384; born = 0 }); found = held.Nothing }
    ∷ record { line = 7; gave = held.Nothing; found = held.Ref (record { start = 16384; born = 0 }) }
    ∷ []

-- what the root of the run of two threads has: 248 slots, 3968 bytes in all,
-- 4096 bytes committed of 2097152 reserved, and one active span
abbrev pub two_threads_census : Census
two_threads_census = census_of 248 3968 4096 2097152 0 1 0 0

-- a line of the report for each phase: the slot is live, then quarantined, then cached, and seven others are cached all along
abbrev pub two_threads_report : List ReportLine
two_threads_report =
    report_line 1 (tally 1 16) (tally 0 0) (tally 7 112) two_threads_census
    ∷ report_line 2 (tally 0 0) (tally 1 16) (tally 7 112) two_threads_census
    ∷ report_line 3 (tally 0 0) (tally 0 0) (tally 8 128) two_threads_census
    ∷ []

-- the trace of two threads is within the limits and has a run with the lists that were worked out
abbrev pub TwoThreadsAreTold : Type 0
TwoThreadsAreTold = IsTold two_threads_trace (map entry_of two_threads_records) (two_threads_journal ∷ []) two_threads_pool
    (two_threads_history ∷ []) two_threads_report

-- a run of two threads with these lists is legal
abbrev pub TwoThreadsAreLegal : Type 0
TwoThreadsAreLegal =
    (r : Run) → IsRunOf r (map entry_of two_threads_records) (two_threads_journal ∷ []) two_threads_pool
    (two_threads_history ∷ []) two_threads_report →
    IsLegal two_threads_trace r
