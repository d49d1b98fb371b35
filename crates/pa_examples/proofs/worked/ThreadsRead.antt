-- The registers of the worked run of two threads, and what they read.
use Rattle.std.proofs.Common.{◌≡◌, ℕ, take, drop, refl, arith, inl, inr, lit<, lit≤}
use Rattle.std.specs.List.{AllByRecursion}
use Rattle.pa_slot.specs.Titles.{poison}
use Rattle.pa_buckets.specs.Table.{rows}
use Rattle.pa_trace.specs.declared.script.Op.TheVariants as ops
use Rattle.pa_record.specs.declared.entry.Answer.TheVariants as answers
use Rattle.pa_rules.specs.declared.register.Register.TheVariants.{Empty, Own, Ref, Freed, Cleared}
use Rattle.pa_rules.specs.declared.played.Played.{Played}
use Rattle.pa_rules.specs.Registers.{Regs, Facts, with, no_regs, Row, AreRegisters, facts_with}
use Rattle.pa_rules.specs.Contents.{HasRegs, IsNextFree, IsBeingFreed, IsReadAllowed, AreContents}
use Rattle.pa_rules.specs.Sizes.{slot_size_for, usable_of}
use Rattle.pa_examples.specs.Worked.{seen_at, two_threads_records, of_one}
use Rattle.pa_examples.proofs.worked.Lists.{each}
use Rattle.pa_examples.proofs.worked.OneFill.{the_slot}
use Rattle.pa_examples.proofs.worked.Threads.{cells}

abbrev facts : Facts
facts = facts_with (usable_of 1) two_threads_records cells

-- the registers of the first thread after its lines
abbrev after_made : Regs
after_made = with (no_regs 0) 0 (Own the_slot)

abbrev after_copy : Regs
after_copy = with after_made 1 (Ref the_slot)

abbrev after_give : Regs
after_give = with after_copy 1 Empty

abbrev after_free : Regs
after_free = with after_give 0 Freed

-- the registers of the second thread after its lines
abbrev pub after_take : Regs
after_take = with (no_regs 1) 0 (Ref the_slot)

abbrev after_reset : Regs
after_reset = with after_take 0 Cleared

made : Row facts (ops.Alloc 0 0 8) (no_regs 0) (answers.Made (seen_at 16384 0 0) 8) after_made
unfolding slot_size_for rows
made = inr (inl (lit≤ tt, seen_at 16384 0 0, refl, λ k. refl))

copied : Row facts (ops.Copy 0 1) after_made (answers.Done (seen_at 16384 0 0x1000001)) after_copy
copied = (seen_at 16384 0 0x1000001, refl, refl, λ k. refl)

given : Row facts (ops.Swap 0 1) after_copy (answers.Swapped 0) after_give
given = (0, _, refl, refl, refl, λ k. refl)

freed : Row facts (ops.Free 0) after_give (answers.Done (seen_at 16384 0 0x2000003)) after_free
freed = (seen_at 16384 0 0x2000003, refl, refl, λ k. refl)

taken : Row facts (ops.Swap 0 0) (no_regs 1) (answers.Swapped 1) after_take
taken = (1, _, refl, refl, refl, λ k. refl)

read_held : Row facts (ops.Read 0 0) after_take (answers.Value (seen_at 16384 0 0x2000003) poison) after_take
read_held = (λ k. refl, inr (lit< tt, seen_at 16384 0 0x2000003, poison, refl, inl (refl, refl)))

read_freed : Row facts (ops.Read 0 0) after_take (answers.Dangling (seen_at 16384 0 0x3000002) poison) after_take
read_freed = (λ k. refl, inr (lit< tt, seen_at 16384 0 0x3000002, poison, refl, inr (refl, refl)))

reset : Row facts (ops.Reset 0) after_take (answers.Done (seen_at 16384 0 0x3000002)) after_reset
reset = (seen_at 16384 0 0x3000002, refl, refl, λ k. refl)

pub registers : AreRegisters (usable_of 1) cells two_threads_records
registers = (
  _,
  (
    after_made,
    made,
    (
      after_copy,
      copied,
      (
        after_give,
        given,
        (
          after_free,
          freed,
          (
            after_take,
            taken,
            (
              after_take,
              read_held,
              (
                after_take,
                read_freed,
                (after_reset, reset, refl),
              ),
            ),
          ),
        ),
      ),
    ),
  ),
)

-- the free, and the read that finds poison while the free is under way
abbrev the_free : Played
the_free = record of_one { line = 6; thread = 0; phase = 2; op = ops.Free 0; answer = answers.Done (seen_at 16384 0 0x2000003) }

abbrev the_read : Played
the_read = record of_one { line = 8; thread = 1; phase = 2; op = ops.Read 0 0; answer = answers.Value (seen_at 16384 0 0x2000003) poison }

pub has_regs : HasRegs (usable_of 1) cells two_threads_records the_read after_take
has_regs = (
  take 5 two_threads_records,
  drop 6 two_threads_records,
  _,
  refl,
  (
    after_made,
    made,
    (
      after_copy,
      copied,
      (
        after_give,
        given,
        (
          after_free,
          freed,
          (after_take, taken, refl),
        ),
      ),
    ),
  ),
  refl,
)

is_next : IsNextFree two_threads_records the_slot 2 the_free
is_next = (2, ((3, lit< tt, refl), seen_at 16384 0 0x2000003, 0, refl, refl, refl, refl), lit≤ tt, λ m z is least. least)

other_thread : ◌≡◌ {A = ℕ} 0 1 → ⊥
other_thread e = omega arith

being_freed : IsBeingFreed (usable_of 1) cells two_threads_records the_read the_slot 2
being_freed = ((0, 0, after_take, refl, has_regs, refl), the_free, is_next, other_thread, refl)

all_allowed : AllByRecursion (λ x. IsReadAllowed (usable_of 1) cells two_threads_records x x.answer) two_threads_records
all_allowed = (tt, (tt, (tt, (tt, (tt, (inr (refl, being_freed), (refl, (tt, tt))))))))

pub contents : AreContents (usable_of 1) cells two_threads_records
contents = each (λ x. IsReadAllowed (usable_of 1) cells two_threads_records x x.answer) two_threads_records all_allowed
