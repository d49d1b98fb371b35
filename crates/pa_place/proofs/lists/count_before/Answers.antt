use Rattle.std.proofs.Common.{◌≡◌, ◌+◌, ◌-◌, ◌/◌, ◌<◌, length, arith, Some}
use Rattle.std.specs.Prelude.{slice_get, slice_index_or}
use Rattle.std.proofs.lemmas.Option.{slice_get-get_or}
use Rattle.pa_place.proofs.Turns.{turns_below, turns_above}
use Rattle.pa_place.proofs.lists.count_before.Goals as goal
use Rattle.pa_lists.proofs.Indexed.{at_in, element_at}

pub turn_at-requires : goal.turn_at-requires
turn_at-requires c =
    let ids = c.args.list.now in
    let more = c.search-test.true in
    let high = c.search.invariant.high in
    let m = c.search.low + (c.search.high - c.search.low) / 2 in
    let within : m < length ids = omega arith in
    c.requires.order.within (slice_index_or ids m 0) (at_in ids m (slice_index_or ids m 0) (slice_get-get_or ids m 0 within))

pub search-preserved-then-turn_at-turn : goal.search-preserved-then-turn_at-turn
search-preserved-then-turn_at-turn c =
    let inv = c.search.invariant in
    let ids = c.args.list.now in
    let ss = c.args.spans.now in
    let high = inv.high in
    let more = c.search-test.true in
    let m = c.search.low + (c.search.high - c.search.low) / 2 in
    let within : m < length ids = omega arith in
    let i = slice_index_or ids m 0 in
    let here : slice_get ids m ≡ Some i = slice_get-get_or ids m 0 within in
    let (v, e) = element_at ss i (c.requires.order.within i (at_in ids m i here)) in
    let turn = c.turn_at.ensures v e in
    let less = c.if-turn_at-turn.true in
    record {
      before = turns_below ss c.args.turn ids m i v c.requires.order here e (omega arith);
      after = inv.after;
      low = omega arith;
      high = inv.high;
    }

pub search-preserved : goal.search-preserved
search-preserved c =
    let inv = c.search.invariant in
    let ids = c.args.list.now in
    let ss = c.args.spans.now in
    let high = inv.high in
    let more = c.search-test.true in
    let m = c.search.low + (c.search.high - c.search.low) / 2 in
    let within : m < length ids = omega arith in
    let i = slice_index_or ids m 0 in
    let here : slice_get ids m ≡ Some i = slice_get-get_or ids m 0 within in
    let (v, e) = element_at ss i (c.requires.order.within i (at_in ids m i here)) in
    let turn = c.turn_at.ensures v e in
    let more' = c.if-turn_at-turn.false in
    record {
      before = inv.before;
      after = turns_above ss c.args.turn ids m i v c.requires.order here e (omega arith);
      low = omega arith;
      high = omega arith;
    }
