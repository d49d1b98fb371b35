-- The records of the worked run of direct maps: its registers, slots and contents.
use Rattle.std.proofs.Common.{◌≡◌, ℕ, true, List, [], ◌∷◌, refl, rules, inl, inr, lit≤}
use Rattle.pa_slot.specs.declared.word.SlotName.{SlotName}
use Rattle.pa_slot.specs.Run.{Slots}
use Rattle.pa_buckets.specs.Table.{rows}
use Rattle.pa_trace.specs.Rules.{rules_of}
use Rattle.pa_rules.specs.declared.register.Register.TheVariants.{Own, Ref, Freed, Cleared}
use Rattle.pa_rules.specs.Played.{marks_of, AreLines}
use Rattle.pa_rules.specs.Cells.{AreCells}
use Rattle.pa_rules.specs.Registers.{Regs, with, no_regs, AreRegisters}
use Rattle.pa_rules.specs.Contents.{IsReadAllowed, AreContents}
use Rattle.pa_rules.specs.Seen.{IsSeenInOrder}
use Rattle.pa_rules.specs.Sizes.{slot_size_for, usable_of}
use Rattle.pa_examples.specs.Worked.{seen_at, direct_map_trace, direct_map_records}
use Rattle.pa_examples.proofs.worked.Lists.{each, lines_follow}
use Rattle.pa_examples.proofs.worked.Slots.{Worded, are_worded, worded_slots}
use Rattle.pa_examples.proofs.worked.Alone.{no_cells, no_cell_used, seen_by_line}

-- the three slots, by the entries of the pool that took their super page
abbrev pub slot_by : ℕ → SlotName
slot_by born = record { start = 16384; born = born }

pub lines : AreLines (rules_of direct_map_trace) direct_map_trace.lines direct_map_records
lines = refl

pub cells : AreCells no_cells direct_map_records
cells = no_cell_used direct_map_records refl

-- the registers after each line
abbrev after_made : Regs
after_made = with (no_regs 0) 0 (Own (slot_by 0))

abbrev after_free : Regs
after_free = with after_made 0 Freed

abbrev after_second : Regs
after_second = with after_free 0 (Own (slot_by 2))

abbrev after_copy : Regs
after_copy = with after_second 1 (Ref (slot_by 2))

abbrev after_second_free : Regs
after_second_free = with after_copy 0 Freed

abbrev after_reset : Regs
after_reset = with after_second_free 1 Cleared

abbrev after_third : Regs
after_third = with after_reset 2 (Own (slot_by 5))

large : usable_of 1 2000000 ≡ 2002936
unfolding slot_size_for rows
large = refl

pub registers : AreRegisters (usable_of 1) no_cells direct_map_records
unfolding slot_size_for rows
registers = (
  _,
  (
    after_made,
    inr (inl (lit≤ tt, seen_at 16384 0 0, refl, λ k. refl)),
    (
      after_free,
      (seen_at 16384 0 0x1000001, refl, refl, λ k. refl),
      (
        after_second,
        inr (inl (lit≤ tt, seen_at 16384 2 0, refl, λ k. refl)),
        (
          after_copy,
          (seen_at 16384 2 0x1000001, refl, refl, λ k. refl),
          (
            after_second_free,
            (seen_at 16384 2 0x2000003, refl, refl, λ k. refl),
            (
              after_second_free,
              inr (inr (lit≤ tt, 3, refl, λ k. refl)),
              (
                after_reset,
                (seen_at 16384 2 0x3000002, refl, refl, λ k. refl),
                (after_third, inr (inl (lit≤ tt, seen_at 16384 5 0, refl, λ k. refl)), refl),
              ),
            ),
          ),
        ),
      ),
    ),
  ),
)

-- the words of the slots
abbrev pub words : List Worded
words =
    record { slot = slot_by 0; words = 0x1000001 ∷ 0x2000000 ∷ [] }
    ∷ record { slot = slot_by 2; words = 0x1000001 ∷ 0x2000003 ∷ 0x3000002 ∷ 0x4000000 ∷ [] }
    ∷ record { slot = slot_by 5; words = 0x1000001 ∷ [] }
    ∷ []

pub worded : are_worded (marks_of direct_map_records) words ≡ true
worded = refl

pub slots : Slots (marks_of direct_map_records)
slots = worded_slots (marks_of direct_map_records) words worded

-- nothing was read
pub contents : AreContents (usable_of 1) no_cells direct_map_records
contents = each (λ x. IsReadAllowed (usable_of 1) no_cells direct_map_records x x.answer) direct_map_records (search rules)

pub seen : IsSeenInOrder no_cells direct_map_records
seen = seen_by_line direct_map_records refl

pub follow : lines_follow direct_map_records ≡ true
follow = refl
