use Rattle.pa_buckets.specs.declared.spans.State.TheVariants as state
use Rattle.pa_place.proofs.lists.Lists.reserve.Goals as goal

pub returns-in_err-reserve_at-clause-filed : goal.returns-in_err-reserve_at-clause-filed
returns-in_err-reserve_at-clause-filed c = λ ss h. record {
  empty = h.empty;
  ring = h.ring;
  active = c.reserve_at.ensures.listed state.Active ss h.active;
  decommitted = h.decommitted;
}

pub returns-clause-filed : goal.returns-clause-filed
returns-clause-filed c = λ ss h. record {
  empty = h.empty;
  ring = h.ring;
  active = c.reserve_at.ensures.listed state.Active ss h.active;
  decommitted = c.reserve_at-2.ensures.listed state.Decommitted ss h.decommitted;
}
