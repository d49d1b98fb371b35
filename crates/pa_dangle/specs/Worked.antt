-- Marks that were worked out by hand: a slot that is freed while a raw_ptr points to it, read and reset through that raw_ptr, issued
-- again and freed with no raw_ptr.
use Rattle.std.specs.Prelude.{ℕ, List, [], ◌∷◌, Option, Some, None}
use Rattle.pa_slot.specs.declared.word.Step.{Step}
use Rattle.pa_slot.specs.declared.word.Step.TheVariants.{Issue, Copy, Reset, Free}
use Rattle.pa_slot.specs.Run.{Mark, Slots}
use Rattle.pa_dangle.specs.Uses.{IsUseOf, OwnLines}

-- a mark of the slot that starts at byte 16,384
abbrev pub worked_mark : ℕ → ℕ → Option Step → Mark
worked_mark line found step = record { line = line; slot = record { start = 16384; born = 0 }; found = found; step = step }

-- line 4: the look before the free, while one raw_ptr points to the slot
abbrev pub early_look : Mark
early_look = worked_mark 4 0x2000003 None

-- line 5: the free, while one raw_ptr points to the slot
abbrev pub kept_free : Mark
kept_free = worked_mark 5 0x2000003 (Some Free)

-- line 6: the read of the freed slot, to which the raw_ptr still points
abbrev pub read_after : Mark
read_after = worked_mark 6 0x3000002 None

-- line 7: the reset of that raw_ptr, which returns the slot
abbrev pub last_reset : Mark
last_reset = worked_mark 7 0x3000002 (Some Reset)

-- line 9: the look at the next object, to which no raw_ptr points
abbrev pub next_look : Mark
next_look = worked_mark 9 0x5000001 None

-- line 10: the free of that object, which returns the slot at once
abbrev pub plain_free : Mark
plain_free = worked_mark 10 0x5000001 (Some Free)

-- the nine marks, of lines 2 to 10: the slot is issued and copied first, and issued again on line 8
abbrev pub worked_marks : List Mark
worked_marks =
    worked_mark 2 0 (Some Issue)
    ∷ worked_mark 3 0x1000001 (Some Copy)
    ∷ early_look
    ∷ kept_free
    ∷ read_after
    ∷ last_reset
    ∷ worked_mark 8 0x4000000 (Some Issue)
    ∷ next_look
    ∷ plain_free
    ∷ []

-- The law of uses can be met: the steps of each slot are one run here, the read and the reset are uses of what the first free left, the
-- returning reset too, the looks before that free and in the next life are of none, and nothing is a use of what the other free left.
pub record WorkedUses : Type 0 where
  pub slots : Slots worked_marks
  pub lines : OwnLines worked_marks
  pub read : IsUseOf worked_marks kept_free read_after
  pub reset : IsUseOf worked_marks kept_free last_reset
  pub early : (f : Mark) → IsUseOf worked_marks f early_look → ⊥
  pub next : (f : Mark) → IsUseOf worked_marks f next_look → ⊥
  pub plain : (u : Mark) → IsUseOf worked_marks plain_free u → ⊥
