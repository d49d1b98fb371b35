use Rattle.std.proofs.Common.{arith}
use Rattle.pa_buckets.specs.declared.spans.State.TheVariants as state
use Rattle.pa_record.specs.Spans.{is_in}
use Rattle.pa_place.proofs.Listing.{none_listed}
use Rattle.pa_place.proofs.lists.Lists.new.Goals as goal

pub returns : goal.returns
returns c = record {
  empty = rw c.in_ok-empty.ensures.items (none_listed (is_in state.Empty));
  ring = let k = c.in_ok-empty.ensures.capacity in omega arith;
  active = c.in_ok-active.ensures state.Active;
  decommitted = c.in_ok-decommitted.ensures state.Decommitted;
}
