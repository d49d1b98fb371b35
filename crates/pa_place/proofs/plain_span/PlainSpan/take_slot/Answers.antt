use Rattle.std.proofs.Common.{arith, ap}
use Rattle.pa_record.specs.Spans.{Span}
use Rattle.pa_place.proofs.Bounds.{front_length, few_slots, served_number, served_low}
use Rattle.pa_place.proofs.plain_span.PlainSpan.take_slot.Goals as goal
use Rattle.pa_record.proofs.Taking.{free_allocated}

pub take_front-number-requires-clause-some : goal.take_front-number-requires-clause-some
take_front-number-requires-clause-some c = rw c.make_front.ensures (front_length c.args.self.now c.requires.counted c.requires.some)

pub take_front-number-requires-clause-fits : goal.take_front-number-requires-clause-fits
take_front-number-requires-clause-fits c =
    let e = ap (λ (s : Span). s.allocated) c.make_front.ensures in
    let f = free_allocated c.args.self.now in
    let few = few_slots c.args.self.now.class c.requires.counted.class in
    let some = c.requires.some in
    omega arith

pub title-requires-clause-low : goal.title-requires-clause-low
title-requires-clause-low c =
    served_low c.args.self.now c.make_front.new.self c.take_front-number.new.self c.make_front.ensures c.take_front-number.ensures.after
    c.requires.low

pub title-requires-clause-number : goal.title-requires-clause-number
title-requires-clause-number c =
    served_number c.args.self.now c.make_front.new.self c.take_front-number.new.self c.take_front-number.result c.make_front.ensures
    c.take_front-number.ensures.front c.take_front-number.ensures.after
    c.requires.counted c.requires.some
