-- The worked run with a plain partition: its registers and slots.
use Rattle.std.proofs.Common.{◌≡◌, ℕ, true, List, [], ◌∷◌, refl, arith, rules, inl, inr, lit≤}
use Rattle.pa_slot.specs.declared.word.SlotName.{SlotName}
use Rattle.pa_buckets.specs.Table.{rows}
use Rattle.pa_trace.specs.declared.script.Op.TheVariants as ops
use Rattle.pa_trace.specs.Limits.{IsWithinLimits}
use Rattle.pa_record.specs.declared.entry.Answer.TheVariants as answers
use Rattle.pa_record.specs.declared.history.CellEntry.{CellEntry}
use Rattle.pa_rules.specs.declared.register.Register.TheVariants.{Empty, Own, Ref, Freed}
use Rattle.pa_rules.specs.Played.{marks_of}
use Rattle.pa_rules.specs.Cells.{history_at}
use Rattle.pa_rules.specs.Registers.{Regs, Facts, with, no_regs, Row, AreRegisters, facts_with}
use Rattle.pa_rules.specs.Sizes.{slot_size_for, usable_of}
use Rattle.pa_examples.specs.Worked.{seen_at}
use Rattle.pa_examples.specs.WorkedPlain.{plain_trace, plain_records, plain_history, PlainRunIsRegistered}
use Rattle.pa_examples.proofs.worked.OneFill.{the_slot}
use Rattle.pa_examples.proofs.worked.Slots.{Worded, are_worded, worded_slots}

abbrev cells : ℕ → List CellEntry
cells = history_at (plain_history ∷ [])

abbrev facts : Facts
facts = facts_with (usable_of 3) plain_records cells

-- the slot that is counted
abbrev counted : SlotName
counted = record { start = 2113536; born = 1 }

-- the registers after the lines that change them
abbrev after_made : Regs
after_made = with (no_regs 0) 0 (Own the_slot)

abbrev after_free : Regs
after_free = with after_made 0 Freed

abbrev after_other : Regs
after_other = with after_free 2 (Own counted)

abbrev after_copy : Regs
after_copy = with after_other 3 (Ref counted)

abbrev after_again : Regs
after_again = with after_copy 0 (Own the_slot)

abbrev after_give : Regs
after_give = with after_again 0 Empty

abbrev after_take : Regs
after_take = with after_give 4 (Own the_slot)

made : Row facts (ops.Alloc 0 1 8) (no_regs 0) (answers.Made (seen_at 16384 0 0) 8) after_made
unfolding slot_size_for rows
made = inr (inl (lit≤ tt, seen_at 16384 0 0, refl, λ k. refl))

uncounted : Row facts (ops.Copy 0 1) after_made answers.Uncounted after_made
uncounted = (refl, λ k. refl)

written : Row facts (ops.Write 0 5) after_made (answers.Done (seen_at 16384 0 0x1000001)) after_made
written = (seen_at 16384 0 0x1000001, refl, λ k. refl, inr (refl, refl))

freed : Row facts (ops.Free 0) after_made (answers.Done (seen_at 16384 0 0x2000001)) after_free
freed = (seen_at 16384 0 0x2000001, refl, refl, λ k. refl)

made_other : Row facts (ops.Alloc 2 0 8) after_free (answers.Made (seen_at 2113536 1 0) 8) after_other
unfolding slot_size_for rows
made_other = inr (inl (lit≤ tt, seen_at 2113536 1 0, refl, λ k. refl))

copied : Row facts (ops.Copy 2 3) after_other (answers.Done (seen_at 2113536 1 0x1000001)) after_copy
copied = (seen_at 2113536 1 0x1000001, refl, refl, λ k. refl)

made_again : Row facts (ops.Alloc 0 1 8) after_copy (answers.Made (seen_at 16384 0 0x3000000) 8) after_again
unfolding slot_size_for rows
made_again = inr (inl (lit≤ tt, seen_at 16384 0 0x3000000, refl, λ k. refl))

given : Row facts (ops.Swap 0 0) after_again (answers.Swapped 0) after_give
given = (0, _, refl, refl, refl, λ k. refl)

taken : Row facts (ops.Swap 0 4) after_give (answers.Swapped 1) after_take
taken = (1, _, refl, refl, refl, λ k. refl)

uncounted_again : Row facts (ops.Copy 4 1) after_take answers.Uncounted after_take
uncounted_again = (refl, λ k. refl)

filled : Row facts (ops.Copy 4 2) after_take answers.Filled after_take
filled = (refl, λ k. refl)

registers : AreRegisters (usable_of 3) cells plain_records
registers = (
  _,
  (
    after_made,
    made,
    (
      after_made,
      uncounted,
      (
        after_made,
        written,
        (
          after_free,
          freed,
          (
            after_other,
            made_other,
            (
              after_copy,
              copied,
              (
                after_again,
                made_again,
                (
                  after_give,
                  given,
                  (
                    after_take,
                    taken,
                    (
                      after_take,
                      uncounted_again,
                      (after_take, filled, refl),
                    ),
                  ),
                ),
              ),
            ),
          ),
        ),
      ),
    ),
  ),
)

-- the words of the two slots
abbrev words : List Worded
words =
    record { slot = the_slot; words = 0x1000001 ∷ 0x2000001 ∷ 0x3000000 ∷ 0x4000001 ∷ [] }
    ∷ record { slot = counted; words = 0x1000001 ∷ 0x2000003 ∷ [] }
    ∷ []

worded : are_worded (marks_of plain_records) words ≡ true
worded = refl

limits : IsWithinLimits plain_trace
limits = record { version = (omega arith, omega arith); head = search rules; lines = search rules; few = search rules }

pub plain_run_is_registered : PlainRunIsRegistered
plain_run_is_registered = record {
  limits = limits;
  lines = refl;
  registers = registers;
  slots = worded_slots (marks_of plain_records) words worded;
}
