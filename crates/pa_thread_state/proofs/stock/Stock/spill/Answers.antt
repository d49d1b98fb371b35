use Rattle.std.proofs.Common.{◌≡◌, ◌-◌, ◌/◌, sym, subst, arith}
use Rattle.pa_slot.proofs.Outcomes.{any_err}
use Rattle.pa_buckets.specs.Bands.{limit_of}
use Rattle.pa_rules.specs.Sizes.{HasClass}
use Rattle.pa_thread_state.specs.Stopping.{StopsTail}
use Rattle.pa_thread_state.proofs.Fronts.{can_spill}
use Rattle.pa_thread_state.proofs.Refused.{stopped_is_back}
use Rattle.pa_thread_state.proofs.stock.Stock.spill.Goals as goal

pub list-requires-clause-can : goal.list-requires-clause-can
list-requires-clause-can g c =
    let limit = c.cache_limit.ensures.limit in
    let some = c.requires.some in
    let keep = c.saturating_sub-keep.ensures in
    can_spill c.slots_stay_seen.ensures c.args.line c.args.handle.now c.args.class c.saturating_sub-keep.result _ c.args.self.now
    c.give_tail.new.self c.requires.back c.requires.class
    (omega arith) c.in_ok-give_tail.ensures.gives c.placed.ensures.well

pub list-requires-clause-class : goal.list-requires-clause-class
list-requires-clause-class g c =
    subst (λ v. HasClass v c.args.class) (sym c.in_ok-give_tail.ensures.gives.version) c.requires.real

pub returns-in_err-give_tail-clause-stops : goal.returns-in_err-give_tail-clause-stops
returns-in_err-give_tail-clause-stops g c =
    let limit = c.cache_limit.ensures.limit in
    let keep = c.saturating_sub-keep.ensures in
    let at : c.saturating_sub-keep.result ≡ limit_of c.args.class / 2 - 1 = omega arith in
    any_err c.from_residual.result _
    (subst (λ k. StopsTail c.args.line c.args.handle.now.partition c.args.class k c.args.self.now c.give_tail.new.self) at
    c.in_err-give_tail.ensures.stops)

pub returns-in_err-give_tail-clause-back : goal.returns-in_err-give_tail-clause-back
returns-in_err-give_tail-clause-back g c =
    any_err c.from_residual.result _
    (stopped_is_back c.slots_stay_seen.ensures c.args.line c.args.handle.now.partition c.args.class c.saturating_sub-keep.result
    c.args.handle.now c.args.self.now c.give_tail.new.self c.requires.back c.in_err-give_tail.ensures.stops)
