use Rattle.pa_buckets.proofs.Facts.{IsRow-of, IsRow_1-of, slot_of-rises, slot_of-rises_2}
use Rattle.pa_buckets.proofs.laws.rows_have_bounds.Goals as goal

pub returns : goal.returns
returns c = record {
  bounds = IsRow-of;
  bounds_1 = IsRow_1-of;
  rising = slot_of-rises;
  rising_2 = slot_of-rises_2;
}
