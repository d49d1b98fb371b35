-- A run that was worked out by hand: one partition has no reference counts, the other has.
use Rattle.std.specs.Prelude.{ℕ, List, [], ◌∷◌}
use Rattle.pa_slot.specs.Run.{Slots}
use Rattle.pa_trace.specs.declared.script.Trace.{Trace}
use Rattle.pa_trace.specs.declared.script.Line.TheVariants.{Do}
use Rattle.pa_trace.specs.declared.script.Op.{Op}
use Rattle.pa_trace.specs.declared.script.Op.TheVariants as ops
use Rattle.pa_trace.specs.Limits.{IsWithinLimits}
use Rattle.pa_trace.specs.Rules.{rules_of}
use Rattle.pa_record.specs.declared.entry.Answer.{Answer}
use Rattle.pa_record.specs.declared.entry.Answer.TheVariants as answers
use Rattle.pa_record.specs.declared.history.CellEntry.{CellEntry}
use Rattle.pa_record.specs.declared.history.Held.TheVariants as held
use Rattle.pa_rules.specs.declared.played.Played.{Played}
use Rattle.pa_rules.specs.Played.{marks_of, AreLines}
use Rattle.pa_rules.specs.Cells.{history_at}
use Rattle.pa_rules.specs.Registers.{AreRegisters}
use Rattle.pa_rules.specs.Sizes.{usable_of}
use Rattle.pa_examples.specs.Worked.{seen_at}

-- One thread asks for slots of both partitions, of which the last is plain. No raw_ptr to the plain slot is made, so its free
-- returns it; to the other slot one is. The plain slot is taken again, goes through a cell, and still isn't copied. A copy
-- into a register that has a handle finds just that.
abbrev pub plain_trace : Trace
plain_trace =
    record {
      version = 3;
      region = 2;
      partitions = 2;
      threads = 1;
      plain = 1;
      lines =
          Do 0 (ops.Alloc 0 1 8)
          ∷ Do 0 (ops.Copy 0 1)
          ∷ Do 0 (ops.Write 0 5)
          ∷ Do 0 (ops.Free 0)
          ∷ Do 0 (ops.Alloc 2 0 8)
          ∷ Do 0 (ops.Copy 2 3)
          ∷ Do 0 (ops.Alloc 0 1 8)
          ∷ Do 0 (ops.Swap 0 0)
          ∷ Do 0 (ops.Swap 0 4)
          ∷ Do 0 (ops.Copy 4 1)
          ∷ Do 0 (ops.Copy 4 2)
          ∷ [];
    }

-- a record of the thread, by rules of version 3 in which partition 1 is the first plain one
abbrev pub of_plain : ℕ → Op → Answer → Played
of_plain line op answer =
    record { line = line; thread = 0; phase = 1; rules = record { version = 3; plain_from = 1 }; op = op; answer = answer }

-- the records of the run with a plain partition, beside their ops
abbrev pub plain_records : List Played
plain_records =
    of_plain 2 (ops.Alloc 0 1 8) (answers.Made (seen_at 16384 0 0) 8)
    ∷ of_plain 3 (ops.Copy 0 1) answers.Uncounted
    ∷ of_plain 4 (ops.Write 0 5) (answers.Done (seen_at 16384 0 0x1000001))
    ∷ of_plain 5 (ops.Free 0) (answers.Done (seen_at 16384 0 0x2000001))
    ∷ of_plain 6 (ops.Alloc 2 0 8) (answers.Made (seen_at 2113536 1 0) 8)
    ∷ of_plain 7 (ops.Copy 2 3) (answers.Done (seen_at 2113536 1 0x1000001))
    ∷ of_plain 8 (ops.Alloc 0 1 8) (answers.Made (seen_at 16384 0 0x3000000) 8)
    ∷ of_plain 9 (ops.Swap 0 0) (answers.Swapped 0)
    ∷ of_plain 10 (ops.Swap 0 4) (answers.Swapped 1)
    ∷ of_plain 11 (ops.Copy 4 1) answers.Uncounted
    ∷ of_plain 12 (ops.Copy 4 2) answers.Filled
    ∷ []

-- the cell's history: on line 9 the owner is put in, on line 10 it is taken out
abbrev pub plain_history : List CellEntry
plain_history =
    record { line = 9; gave = held.Own (record { start = 16384; born = 0 }); found = held.Nothing }
    ∷ record { line = 10; gave = held.Nothing; found = held.Own (record { start = 16384; born = 0 }) }
    ∷ []

-- The trace is within the limits, and these are records of its lines. Each answer is the one that its registers require, and
-- the words found are those of the slots' runs.
pub record PlainRunIsRegistered : Type 0 where
  pub limits : IsWithinLimits plain_trace
  pub lines : AreLines (rules_of plain_trace) plain_trace.lines plain_records
  pub registers : AreRegisters (usable_of 3) (history_at (plain_history ∷ [])) plain_records
  pub slots : Slots (marks_of plain_records)
