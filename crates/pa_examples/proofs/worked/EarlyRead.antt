-- The registers of the worked run with an early read, and what was read.
use Rattle.std.proofs.Common.{◌≡◌, ℕ, take, drop, refl, arith, inl, inr, lit<, lit≤}
use Rattle.std.specs.List.{AllByRecursion}
use Rattle.pa_slot.specs.Titles.{poison}
use Rattle.pa_buckets.specs.Table.{rows}
use Rattle.pa_trace.specs.declared.script.Op.TheVariants as ops
use Rattle.pa_record.specs.declared.entry.Answer.TheVariants as answers
use Rattle.pa_rules.specs.declared.register.Register.TheVariants.{Empty, Own, Ref, Freed}
use Rattle.pa_rules.specs.declared.played.Played.{Played}
use Rattle.pa_rules.specs.Registers.{Regs, Facts, with, no_regs, Row, AreRegisters, facts_with}
use Rattle.pa_rules.specs.Contents.{HasRegs, IsNextFree, IsBeingFreed, IsReadAllowed, AreContents}
use Rattle.pa_rules.specs.Sizes.{slot_size_for, usable_of}
use Rattle.pa_examples.specs.Worked.{seen_at, of_one}
use Rattle.pa_examples.specs.WorkedEarly.{early_read_records}
use Rattle.pa_examples.proofs.worked.Lists.{each}
use Rattle.pa_examples.proofs.worked.OneFill.{the_slot}
use Rattle.pa_examples.proofs.worked.Early.{cells}

abbrev facts : Facts
facts = facts_with (usable_of 1) early_read_records cells

-- the registers of the first thread after its lines
abbrev after_made : Regs
after_made = with (no_regs 0) 0 (Own the_slot)

abbrev after_copy : Regs
after_copy = with after_made 1 (Ref the_slot)

abbrev after_give : Regs
after_give = with after_copy 1 Empty

abbrev after_back : Regs
after_back = with after_give 2 (Ref the_slot)

abbrev after_free : Regs
after_free = with after_back 0 Freed

-- the registers of the second thread after its lines
abbrev after_take : Regs
after_take = with (no_regs 1) 0 (Ref the_slot)

abbrev after_pass : Regs
after_pass = with after_take 0 Empty

made : Row facts (ops.Alloc 0 0 8) (no_regs 0) (answers.Made (seen_at 16384 0 0) 8) after_made
unfolding slot_size_for rows
made = inr (inl (lit≤ tt, seen_at 16384 0 0, refl, λ k. refl))

copied : Row facts (ops.Copy 0 1) after_made (answers.Done (seen_at 16384 0 0x1000001)) after_copy
copied = (seen_at 16384 0 0x1000001, refl, refl, λ k. refl)

given : Row facts (ops.Swap 0 1) after_copy (answers.Swapped 0) after_give
given = (0, _, refl, refl, refl, λ k. refl)

taken : Row facts (ops.Swap 0 0) (no_regs 1) (answers.Swapped 1) after_take
taken = (1, _, refl, refl, refl, λ k. refl)

read : Row facts (ops.Read 0 0) after_take (answers.Value (seen_at 16384 0 0x2000003) poison) after_take
read = (λ k. refl, inr (lit< tt, seen_at 16384 0 0x2000003, poison, refl, inl (refl, refl)))

passed : Row facts (ops.Swap 1 0) after_take (answers.Swapped 0) after_pass
passed = (0, _, refl, refl, refl, λ k. refl)

back : Row facts (ops.Swap 1 2) after_give (answers.Swapped 1) after_back
back = (1, _, refl, refl, refl, λ k. refl)

freed : Row facts (ops.Free 0) after_back (answers.Done (seen_at 16384 0 0x2000003)) after_free
freed = (seen_at 16384 0 0x2000003, refl, refl, λ k. refl)

pub registers : AreRegisters (usable_of 1) cells early_read_records
registers = (
  _,
  (
    after_made,
    made,
    (
      after_copy,
      copied,
      (
        after_give,
        given,
        (
          after_take,
          taken,
          (
            after_take,
            read,
            (
              after_pass,
              passed,
              (
                after_back,
                back,
                (after_free, freed, refl),
              ),
            ),
          ),
        ),
      ),
    ),
  ),
)

-- the free, and the read that finds poison before it
abbrev the_free : Played
the_free = record of_one { line = 10; thread = 0; phase = 2; op = ops.Free 0; answer = answers.Done (seen_at 16384 0 0x2000003) }

abbrev the_read : Played
the_read = record of_one { line = 7; thread = 1; phase = 2; op = ops.Read 0 0; answer = answers.Value (seen_at 16384 0 0x2000003) poison }

has_regs : HasRegs (usable_of 1) cells early_read_records the_read after_take
has_regs = (
  take 4 early_read_records,
  drop 5 early_read_records,
  _,
  refl,
  (
    after_made,
    made,
    (
      after_copy,
      copied,
      (
        after_give,
        given,
        (after_take, taken, refl),
      ),
    ),
  ),
  refl,
)

is_next : IsNextFree early_read_records the_slot 2 the_free
is_next = (2, ((7, lit< tt, refl), seen_at 16384 0 0x2000003, 0, refl, refl, refl, refl), lit≤ tt, λ m z is least. least)

other_thread : ◌≡◌ {A = ℕ} 0 1 → ⊥
other_thread e = omega arith

being_freed : IsBeingFreed (usable_of 1) cells early_read_records the_read the_slot 2
being_freed = ((0, 0, after_take, refl, has_regs, refl), the_free, is_next, other_thread, refl)

all_allowed : AllByRecursion (λ x. IsReadAllowed (usable_of 1) cells early_read_records x x.answer) early_read_records
all_allowed = (tt, (tt, (tt, (tt, (inr (refl, being_freed), (tt, (tt, (tt, tt))))))))

pub contents : AreContents (usable_of 1) cells early_read_records
contents = each (λ x. IsReadAllowed (usable_of 1) cells early_read_records x x.answer) early_read_records all_allowed
