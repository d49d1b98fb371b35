-- Small runs of two threads that were worked out by hand: one that has a timeline, and five legal ones that have none.
use Rattle.std.specs.Prelude.{ℕ, List, [], ◌∷◌, map, Some}
use Rattle.pa_slot.specs.declared.word.SlotName.{SlotName}
use Rattle.pa_slot.specs.Titles.{poison}
use Rattle.pa_trace.specs.declared.script.Trace.{Trace}
use Rattle.pa_trace.specs.declared.script.Line.{Line}
use Rattle.pa_trace.specs.declared.script.Line.TheVariants.{Phase, Do}
use Rattle.pa_trace.specs.declared.script.Op.TheVariants as ops
use Rattle.pa_trace.specs.Rules.{first_rules}
use Rattle.pa_record.specs.declared.entry.Seen.{Seen}
use Rattle.pa_record.specs.declared.entry.Answer.TheVariants as answers
use Rattle.pa_record.specs.declared.history.CellEntry.{CellEntry}
use Rattle.pa_record.specs.declared.history.Held.TheVariants as held
use Rattle.pa_record.specs.declared.pool.PoolEntry.{PoolEntry}
use Rattle.pa_record.specs.declared.root.RootEntry.{RootEntry}
use Rattle.pa_record.specs.declared.report.ReportLine.{ReportLine}
use Rattle.pa_record.specs.Worked.{slots, fill, purge, pool_take}
use Rattle.pa_rules.specs.declared.played.Played.{Played}
use Rattle.pa_rules.specs.Played.{entry_of}
use Rattle.pa_rules.specs.Roots.{journal_at}
use Rattle.pa_rules.specs.Cells.{history_at}
use Rattle.pa_rules.specs.Told.{Told}
use Rattle.pa_timeline.specs.Timeline.{HasTimeline, HasOutline}

-- what a run has: its records, journals, the pool's entries and the histories of its cells, whatever its report
abbrev pub told_as : List Played → List (List RootEntry) → List PoolEntry → List (List CellEntry) → List ReportLine → Told
told_as records journals pools histories report =
    record { entries = map entry_of records; roots = journal_at journals; pools = pools; cells = history_at histories; report = report }

-- a trace of one super page, one partition and two threads
abbrev pub trace_as : List Line → Trace
trace_as lines = record { version = 1; region = 1; partitions = 1; threads = 2; plain = 0; lines = lines }

-- the first of the two slots of these runs
abbrev pub lower_slot : SlotName
lower_slot = record { start = 16384; born = 0 }

-- the second of the two slots of these runs, 16 bytes after the first
abbrev pub upper_slot : SlotName
upper_slot = record { start = 16400; born = 0 }

-- the slot, and this word as the count word that was found
abbrev pub slot_seen : SlotName → ℕ → Seen
slot_seen slot word = record { slot = slot; found = record { 0 = word } }

-- a fill on line 2, which asks the pool for its super page
abbrev pub one_fill : List RootEntry
one_fill = fill 2 0 (Some 0) (slots 0 0 (16384 ∷ 16400 ∷ 16416 ∷ 16432 ∷ 16448 ∷ 16464 ∷ 16480 ∷ 16496 ∷ [])) ∷ []

-- the pool's one entry, on line 2: partition 0 takes super page 0
abbrev pub one_super_page : List PoolEntry
one_super_page = pool_take 2 0 1 (Some 0) ∷ []

-- a raw_ptr to the slot goes through a cell, from the one line to the other
abbrev pub passed_on : ℕ → ℕ → SlotName → List CellEntry
passed_on from to slot =
    record { line = from; gave = held.Ref slot; found = held.Nothing }
    ∷ record { line = to; gave = held.Nothing; found = held.Ref slot }
    ∷ []

-- ---- one that has a timeline

-- thread 0 hands a raw_ptr to thread 1 and frees the slot, and the read of thread 1 finds the bit, and poison
abbrev pub read_trace : Trace
read_trace =
    trace_as
    (Do 0 (ops.Alloc 0 0 8)
    ∷ Do 0 (ops.Copy 0 1)
    ∷ Do 0 (ops.Swap 0 1)
    ∷ Phase
    ∷ Do 1 (ops.Swap 0 0)
    ∷ Do 0 (ops.Free 0)
    ∷ Do 1 (ops.Read 0 0)
    ∷ [])

-- the six records of `read_trace`: the free of thread 0 and the read of thread 1
-- find the same count word, and the read gives poison
abbrev pub read_records : List Played
read_records =
    record {
      line = 2;
      thread = 0;
      phase = 1;
      rules = first_rules 1;
      op = ops.Alloc 0 0 8;
      answer = answers.Made (slot_seen lower_slot 0) 8;
    }
    ∷ record {
      line = 3;
      thread = 0;
      phase = 1;
      rules = first_rules 1;
      op = ops.Copy 0 1;
      answer = answers.Done (slot_seen lower_slot 0x1000001);
    }
    ∷ record { line = 4; thread = 0; phase = 1; rules = first_rules 1; op = ops.Swap 0 1; answer = answers.Swapped 0 }
    ∷ record { line = 6; thread = 1; phase = 2; rules = first_rules 1; op = ops.Swap 0 0; answer = answers.Swapped 1 }
    ∷ record {
      line = 7;
      thread = 0;
      phase = 2;
      rules = first_rules 1;
      op = ops.Free 0;
      answer = answers.Done (slot_seen lower_slot 0x2000003);
    }
    ∷ record {
      line = 8;
      thread = 1;
      phase = 2;
      rules = first_rules 1;
      op = ops.Read 0 0;
      answer = answers.Value (slot_seen lower_slot 0x2000003) poison;
    }
    ∷ []

-- the run of `read_records` has a timeline, whatever its report
abbrev pub ThreadsHaveOne : Type 0
ThreadsHaveOne =
    (report : List ReportLine) →
    HasTimeline read_trace (told_as read_records (one_fill ∷ []) one_super_page (passed_on 4 6 lower_slot ∷ []) report)

-- ---- two slots, each with its steps in an order that contradicts the other's

-- Thread 0 frees the second slot and then the first, thread 1 resets its raw_ptr to the first and then that to the second. By the
-- numbers the free of the first slot came before its reset, and the reset of the second slot before its free.
abbrev pub two_slots_trace : Trace
two_slots_trace =
    trace_as
    (Do 0 (ops.Alloc 0 0 8)
    ∷ Do 0 (ops.Alloc 1 0 8)
    ∷ Do 0 (ops.Copy 0 2)
    ∷ Do 0 (ops.Copy 1 3)
    ∷ Do 0 (ops.Swap 0 2)
    ∷ Do 0 (ops.Swap 1 3)
    ∷ Phase
    ∷ Do 1 (ops.Swap 0 2)
    ∷ Do 1 (ops.Swap 1 3)
    ∷ Phase
    ∷ Do 0 (ops.Free 1)
    ∷ Do 0 (ops.Free 0)
    ∷ Do 1 (ops.Reset 2)
    ∷ Do 1 (ops.Reset 3)
    ∷ [])

-- the twelve records of `two_slots_trace`: the first slot was freed and then reset, and the second was reset and then freed
abbrev pub two_slots_records : List Played
two_slots_records =
    record {
      line = 2;
      thread = 0;
      phase = 1;
      rules = first_rules 1;
      op = ops.Alloc 0 0 8;
      answer = answers.Made (slot_seen lower_slot 0) 8;
    }
    ∷ record {
      line = 3;
      thread = 0;
      phase = 1;
      rules = first_rules 1;
      op = ops.Alloc 1 0 8;
      answer = answers.Made (slot_seen upper_slot 0) 8;
    }
    ∷ record {
      line = 4;
      thread = 0;
      phase = 1;
      rules = first_rules 1;
      op = ops.Copy 0 2;
      answer = answers.Done (slot_seen lower_slot 0x1000001);
    }
    ∷ record {
      line = 5;
      thread = 0;
      phase = 1;
      rules = first_rules 1;
      op = ops.Copy 1 3;
      answer = answers.Done (slot_seen upper_slot 0x1000001);
    }
    ∷ record { line = 6; thread = 0; phase = 1; rules = first_rules 1; op = ops.Swap 0 2; answer = answers.Swapped 0 }
    ∷ record { line = 7; thread = 0; phase = 1; rules = first_rules 1; op = ops.Swap 1 3; answer = answers.Swapped 0 }
    ∷ record { line = 9; thread = 1; phase = 2; rules = first_rules 1; op = ops.Swap 0 2; answer = answers.Swapped 1 }
    ∷ record { line = 10; thread = 1; phase = 2; rules = first_rules 1; op = ops.Swap 1 3; answer = answers.Swapped 1 }
    ∷ record {
      line = 12;
      thread = 0;
      phase = 3;
      rules = first_rules 1;
      op = ops.Free 1;
      answer = answers.Done (slot_seen upper_slot 0x3000001);
    }
    ∷ record {
      line = 13;
      thread = 0;
      phase = 3;
      rules = first_rules 1;
      op = ops.Free 0;
      answer = answers.Done (slot_seen lower_slot 0x2000003);
    }
    ∷ record {
      line = 14;
      thread = 1;
      phase = 3;
      rules = first_rules 1;
      op = ops.Reset 2;
      answer = answers.Done (slot_seen lower_slot 0x3000002);
    }
    ∷ record {
      line = 15;
      thread = 1;
      phase = 3;
      rules = first_rules 1;
      op = ops.Reset 3;
      answer = answers.Done (slot_seen upper_slot 0x2000003);
    }
    ∷ []

-- the run of `two_slots_records` has no outline, whatever its report
abbrev pub TwoSlotsHaveNone : Type 0
TwoSlotsHaveNone =
    (report : List ReportLine) →
    HasOutline two_slots_trace
    (told_as two_slots_records (one_fill ∷ []) one_super_page (passed_on 6 9 lower_slot ∷ passed_on 7 10 upper_slot ∷ []) report) →
    ⊥

-- ---- two partitions, purged in orders that contradict each other

-- thread 1 purges twice: the first journal has thread 0's purge last, the second has it first
abbrev pub purges_trace : Trace
purges_trace = record {
  version = 1;
  region = 2;
  partitions = 2;
  threads = 2;
  plain = 0;
  lines = Do 0 ops.Purge ∷ Do 1 ops.Purge ∷ Do 1 ops.Purge ∷ [];
}

-- the three records of `purges_trace`: each purge gives back no slot
abbrev pub purges_records : List Played
purges_records =
    record { line = 2; thread = 0; phase = 1; rules = first_rules 2; op = ops.Purge; answer = answers.Purged 0 }
    ∷ record { line = 3; thread = 1; phase = 1; rules = first_rules 2; op = ops.Purge; answer = answers.Purged 0 }
    ∷ record { line = 4; thread = 1; phase = 1; rules = first_rules 2; op = ops.Purge; answer = answers.Purged 0 }
    ∷ []

-- a journal of purges on these three lines, in this order
abbrev pub purged_in : ℕ → ℕ → ℕ → List RootEntry
purged_in i j k = purge i ∷ purge j ∷ purge k ∷ []

-- the run of `purges_records` has no outline, whatever its report: the journals contradict each other
abbrev pub PurgesHaveNone : Type 0
PurgesHaveNone =
    (report : List ReportLine) →
    HasOutline purges_trace (told_as purges_records (purged_in 3 4 2 ∷ purged_in 2 3 4 ∷ []) [] [] report) → ⊥

-- ---- exchanges that give nothing, beside a slot and beside a journal

-- two exchanges that give nothing and find nothing
abbrev pub emptied_in : ℕ → ℕ → List CellEntry
emptied_in i j =
    record { line = i; gave = held.Nothing; found = held.Nothing } ∷ record { line = j; gave = held.Nothing; found = held.Nothing } ∷ []

-- thread 1 reads after the copy of thread 0, and empties cell 1 before thread 0 does, which copies only after that
abbrev pub slot_and_cell_trace : Trace
slot_and_cell_trace =
    trace_as
    (Do 0 (ops.Alloc 0 0 8)
    ∷ Do 0 (ops.Copy 0 1)
    ∷ Do 0 (ops.Swap 0 1)
    ∷ Phase
    ∷ Do 1 (ops.Swap 0 0)
    ∷ Do 0 (ops.Swap 1 9)
    ∷ Do 0 (ops.Copy 0 2)
    ∷ Do 1 (ops.Read 0 0)
    ∷ Do 1 (ops.Swap 1 9)
    ∷ [])

-- the eight records of `slot_and_cell_trace`: the read of thread 1 finds the count word after thread 0's second copy
abbrev pub slot_and_cell_records : List Played
slot_and_cell_records =
    record {
      line = 2;
      thread = 0;
      phase = 1;
      rules = first_rules 1;
      op = ops.Alloc 0 0 8;
      answer = answers.Made (slot_seen lower_slot 0) 8;
    }
    ∷ record {
      line = 3;
      thread = 0;
      phase = 1;
      rules = first_rules 1;
      op = ops.Copy 0 1;
      answer = answers.Done (slot_seen lower_slot 0x1000001);
    }
    ∷ record { line = 4; thread = 0; phase = 1; rules = first_rules 1; op = ops.Swap 0 1; answer = answers.Swapped 0 }
    ∷ record { line = 6; thread = 1; phase = 2; rules = first_rules 1; op = ops.Swap 0 0; answer = answers.Swapped 1 }
    ∷ record { line = 7; thread = 0; phase = 2; rules = first_rules 1; op = ops.Swap 1 9; answer = answers.Swapped 1 }
    ∷ record {
      line = 8;
      thread = 0;
      phase = 2;
      rules = first_rules 1;
      op = ops.Copy 0 2;
      answer = answers.Done (slot_seen lower_slot 0x2000003);
    }
    ∷ record {
      line = 9;
      thread = 1;
      phase = 2;
      rules = first_rules 1;
      op = ops.Read 0 0;
      answer = answers.Value (slot_seen lower_slot 0x3000005) 0;
    }
    ∷ record { line = 10; thread = 1; phase = 2; rules = first_rules 1; op = ops.Swap 1 9; answer = answers.Swapped 0 }
    ∷ []

-- the run of `slot_and_cell_records` has no outline, whatever its report
abbrev pub SlotAndCellHaveNone : Type 0
SlotAndCellHaveNone =
    (report : List ReportLine) →
    HasOutline slot_and_cell_trace
    (told_as slot_and_cell_records (one_fill ∷ []) one_super_page (passed_on 4 6 lower_slot ∷ emptied_in 10 7 ∷ []) report) → ⊥

-- thread 1 purges after thread 0, and then empties the cell before thread 0 does, which purges only after that
abbrev pub journal_and_cell_trace : Trace
journal_and_cell_trace = trace_as (Do 0 (ops.Swap 0 9) ∷ Do 0 ops.Purge ∷ Do 1 ops.Purge ∷ Do 1 (ops.Swap 0 9) ∷ [])

-- the four records of `journal_and_cell_trace`: each purge gives back no slot, and each thread empties the cell
abbrev pub journal_and_cell_records : List Played
journal_and_cell_records =
    record { line = 2; thread = 0; phase = 1; rules = first_rules 1; op = ops.Swap 0 9; answer = answers.Swapped 1 }
    ∷ record { line = 3; thread = 0; phase = 1; rules = first_rules 1; op = ops.Purge; answer = answers.Purged 0 }
    ∷ record { line = 4; thread = 1; phase = 1; rules = first_rules 1; op = ops.Purge; answer = answers.Purged 0 }
    ∷ record { line = 5; thread = 1; phase = 1; rules = first_rules 1; op = ops.Swap 0 9; answer = answers.Swapped 0 }
    ∷ []

-- the run of `journal_and_cell_records` has no outline, whatever its report: the journal and the cell contradict each other
abbrev pub JournalAndCellHaveNone : Type 0
JournalAndCellHaveNone =
    (report : List ReportLine) →
    HasOutline journal_and_cell_trace (told_as journal_and_cell_records ((purge 3 ∷ purge 4 ∷ []) ∷ []) [] (emptied_in 5 2 ∷ []) report) → ⊥

-- ---- poison before the free's line began

-- thread 1 reads poison and hands its raw_ptr back to thread 0, which frees the slot only then
abbrev pub early_trace : Trace
early_trace =
    trace_as
    (Do 0 (ops.Alloc 0 0 8)
    ∷ Do 0 (ops.Copy 0 1)
    ∷ Do 0 (ops.Swap 0 1)
    ∷ Phase
    ∷ Do 1 (ops.Swap 0 0)
    ∷ Do 1 (ops.Read 0 0)
    ∷ Do 1 (ops.Swap 1 0)
    ∷ Do 0 (ops.Swap 1 2)
    ∷ Do 0 (ops.Free 0)
    ∷ [])

-- the eight records of `early_trace`: the read on line 7 gives poison, and only the free on line 10 poisons the slot
abbrev pub early_records : List Played
early_records =
    record {
      line = 2;
      thread = 0;
      phase = 1;
      rules = first_rules 1;
      op = ops.Alloc 0 0 8;
      answer = answers.Made (slot_seen lower_slot 0) 8;
    }
    ∷ record {
      line = 3;
      thread = 0;
      phase = 1;
      rules = first_rules 1;
      op = ops.Copy 0 1;
      answer = answers.Done (slot_seen lower_slot 0x1000001);
    }
    ∷ record { line = 4; thread = 0; phase = 1; rules = first_rules 1; op = ops.Swap 0 1; answer = answers.Swapped 0 }
    ∷ record { line = 6; thread = 1; phase = 2; rules = first_rules 1; op = ops.Swap 0 0; answer = answers.Swapped 1 }
    ∷ record {
      line = 7;
      thread = 1;
      phase = 2;
      rules = first_rules 1;
      op = ops.Read 0 0;
      answer = answers.Value (slot_seen lower_slot 0x2000003) poison;
    }
    ∷ record { line = 8; thread = 1; phase = 2; rules = first_rules 1; op = ops.Swap 1 0; answer = answers.Swapped 0 }
    ∷ record { line = 9; thread = 0; phase = 2; rules = first_rules 1; op = ops.Swap 1 2; answer = answers.Swapped 1 }
    ∷ record {
      line = 10;
      thread = 0;
      phase = 2;
      rules = first_rules 1;
      op = ops.Free 0;
      answer = answers.Done (slot_seen lower_slot 0x2000003);
    }
    ∷ []

-- the run of `early_records` has no timeline, whatever its report
abbrev pub ReadBeforeFreeHasNone : Type 0
ReadBeforeFreeHasNone =
    (report : List ReportLine) →
    HasTimeline early_trace
    (told_as early_records (one_fill ∷ []) one_super_page (passed_on 4 6 lower_slot ∷ passed_on 8 9 lower_slot ∷ []) report) → ⊥
