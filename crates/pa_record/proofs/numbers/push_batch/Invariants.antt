use Rattle.std.proofs.Common.{◌≡◌, ◌+◌, ◌*◌, ◌++◌, ◌∷◌, length, take}
use Rattle.std.specs.List.{flat_map}
use Rattle.arrayvec.specs.ArrayVec.{array_vec_len}
use Rattle.pa_record.specs.Numbers.{numbered_numbers}
use Rattle.pa_record.proofs.numbers.push_batch.Given as goal

-- the slots so far come after the length
abbrev pub invariant-loop-slot : goal.invariant-loop-slot
invariant-loop-slot l = record {
  pushed : l.numbers.items ≡ l.fn.numbers.items ++ length l.slots ∷ flat_map numbered_numbers (take l.slot-index l.slots);
  grown : array_vec_len l.numbers ≡ array_vec_len l.fn.numbers + 1 + 3 * l.slot-index;
}
