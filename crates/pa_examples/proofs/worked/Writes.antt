-- The records of the worked run of writes: its registers, slot and contents.
use Rattle.std.proofs.Common.{◌≡◌, true, List, [], ◌∷◌, refl, inl, inr, lit<, lit≤}
use Rattle.std.specs.List.{AllByRecursion}
use Rattle.pa_slot.specs.Run.{Slots}
use Rattle.pa_buckets.specs.Table.{rows}
use Rattle.pa_trace.specs.declared.script.Op.TheVariants as ops
use Rattle.pa_trace.specs.Rules.{rules_of}
use Rattle.pa_record.specs.declared.entry.Answer.TheVariants as answers
use Rattle.pa_rules.specs.declared.register.Register.TheVariants.{Own, Ref, Cleared}
use Rattle.pa_rules.specs.Played.{marks_of, AreLines}
use Rattle.pa_rules.specs.Cells.{AreCells}
use Rattle.pa_rules.specs.Registers.{Regs, Facts, with, no_regs, Row, AreRegisters, facts_with}
use Rattle.pa_rules.specs.Contents.{IsWrittenAt, IsContent, IsReadAllowed, AreContents}
use Rattle.pa_rules.specs.Seen.{IsSeenInOrder}
use Rattle.pa_rules.specs.Sizes.{slot_size_for, usable_of}
use Rattle.pa_examples.specs.Worked.{seen_at}
use Rattle.pa_examples.specs.WorkedWrites.{writes_trace, writes_records}
use Rattle.pa_examples.proofs.worked.Lists.{each, lines_follow}
use Rattle.pa_examples.proofs.worked.OneFill.{the_slot}
use Rattle.pa_examples.proofs.worked.Slots.{Worded, are_worded, worded_slots}
use Rattle.pa_examples.proofs.worked.Alone.{no_cells, no_cell_used, seen_by_line}
use Rattle.pa_examples.proofs.worked.Contents.{content_of}

pub lines : AreLines (rules_of writes_trace) writes_trace.lines writes_records
lines = refl

pub cells : AreCells no_cells writes_records
cells = no_cell_used writes_records refl

abbrev facts : Facts
facts = facts_with (usable_of 1) writes_records no_cells

-- the registers after the lines that change them
abbrev after_made : Regs
after_made = with (no_regs 0) 0 (Own the_slot)

abbrev after_copy : Regs
after_copy = with after_made 1 (Ref the_slot)

abbrev after_reset : Regs
after_reset = with after_copy 1 Cleared

made : Row facts (ops.Alloc 0 0 8) (no_regs 0) (answers.Made (seen_at 16384 0 0) 8) after_made
unfolding slot_size_for rows
made = inr (inl (lit≤ tt, seen_at 16384 0 0, refl, λ k. refl))

written : Row facts (ops.Write 0 5) after_made (answers.Done (seen_at 16384 0 0x1000001)) after_made
written = (seen_at 16384 0 0x1000001, refl, λ k. refl, inr (refl, refl))

copied : Row facts (ops.Copy 0 1) after_made (answers.Done (seen_at 16384 0 0x2000001)) after_copy
copied = (seen_at 16384 0 0x2000001, refl, refl, λ k. refl)

shared : Row facts (ops.Write 0 6) after_copy (answers.Shared (seen_at 16384 0 0x3000003)) after_copy
shared = (seen_at 16384 0 0x3000003, refl, λ k. refl, inl (lit< tt, refl))

read : Row facts (ops.Read 1 0) after_copy (answers.Value (seen_at 16384 0 0x3000003) 5) after_copy
read = (λ k. refl, inr (lit< tt, seen_at 16384 0 0x3000003, 5, refl, inl (refl, refl)))

reset : Row facts (ops.Reset 1) after_copy (answers.Done (seen_at 16384 0 0x3000003)) after_reset
reset = (seen_at 16384 0 0x3000003, refl, refl, λ k. refl)

written_again : Row facts (ops.Write 0 6) after_reset (answers.Done (seen_at 16384 0 0x4000001)) after_reset
written_again = (seen_at 16384 0 0x4000001, refl, λ k. refl, inr (refl, refl))

read_outside : Row facts (ops.Read 0 1) after_reset answers.OutOfRange after_reset
read_outside = (λ k. refl, inl (lit≤ tt, refl))

pub registers : AreRegisters (usable_of 1) no_cells writes_records
registers = (
  _,
  (
    after_made,
    made,
    (
      after_made,
      written,
      (
        after_copy,
        copied,
        (
          after_copy,
          shared,
          (
            after_copy,
            read,
            (
              after_reset,
              reset,
              (
                after_reset,
                written_again,
                (after_reset, read_outside, refl),
              ),
            ),
          ),
        ),
      ),
    ),
  ),
)

-- the words of the slot
abbrev pub words : List Worded
words = record { slot = the_slot; words = 0x1000001 ∷ 0x2000001 ∷ 0x3000003 ∷ 0x4000001 ∷ 0x5000001 ∷ [] } ∷ []

pub worded : are_worded (marks_of writes_records) words ≡ true
worded = refl

pub slots : Slots (marks_of writes_records)
slots = worded_slots (marks_of writes_records) words worded

-- the read at the number 3 gives what the write at the number 1 wrote: the one at 4 comes after it
first_write : IsWrittenAt writes_records the_slot 1 5
first_write = (_, seen_at 16384 0 0x1000001, 0, (1, lit< tt, refl), refl, refl, refl, refl)

content : IsContent writes_records the_slot 3 5
content = content_of writes_records the_slot 1 3 refl 5 first_write (lit< tt)

all_allowed : AllByRecursion (λ x. IsReadAllowed (usable_of 1) no_cells writes_records x x.answer) writes_records
all_allowed = (tt, (tt, (tt, (tt, (inl content, (tt, (tt, (tt, tt))))))))

pub contents : AreContents (usable_of 1) no_cells writes_records
contents = each (λ x. IsReadAllowed (usable_of 1) no_cells writes_records x x.answer) writes_records all_allowed

pub seen : IsSeenInOrder no_cells writes_records
seen = seen_by_line writes_records refl

pub follow : lines_follow writes_records ≡ true
follow = refl
