use Rattle.pa_region.specs.Hands.{left_after, given_after}
use Rattle.pa_region.specs.Marks.{parcel_of}
use Rattle.pa_region.proofs.region.Region.hand.Given as goal

abbrev pub ghosts-hand_as : goal.ghosts-hand_as
ghosts-hand_as a = record {
  left = left_after (parcel_of a._items.now a._budget a._marks.now);
  right = given_after (parcel_of a._items.now a._budget a._marks.now);
}
