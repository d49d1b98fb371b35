use Rattle.pa_shelf.proofs.Provisioning.{take_had, slot_is}
use Rattle.pa_shelf.proofs.shelf.Shelf.to_cut.Goals as goal

pub read_meta-span-requires-clause-raw : goal.read_meta-span-requires-clause-raw
read_meta-span-requires-clause-raw c =
    let (r, s, b) = c.requires.able in (take_had c.args.own.now.view c.args.self.now c.args.at r s b).raw

pub read_meta-span-requires-clause-record : goal.read_meta-span-requires-clause-record
read_meta-span-requires-clause-record c =
    let (r, s, b) = c.requires.able in
    let h = take_had c.args.own.now.view c.args.self.now c.args.at r s b in (h.span, h.recorded)

pub new_slots-requires : goal.new_slots-requires
new_slots-requires c =
    let (r, s, b) = c.requires.able in let l = c.args.self.now in
    let y = c.read_meta-span.new.seat in let z = c.args.own.now in (
      y.view,
      l,
      r,
      s,
      slot_is y z l c.args.at r s c.read_meta-span.result c.first_of-first.result b c.read_meta-span.ensures.seat
          c.read_meta-span.ensures.span (c.first_of-first.ensures z.view r s b),
    )

pub returns-clause-cut : goal.returns-clause-cut
returns-clause-cut c r s b =
    let l = c.args.self.now in
    let y = c.read_meta-span.new.seat in let z = c.args.own.now in
    c.new_slots.ensures y.view l r s
    (slot_is y z l c.args.at r s c.read_meta-span.result c.first_of-first.result b c.read_meta-span.ensures.seat
    c.read_meta-span.ensures.span (c.first_of-first.ensures z.view r s b))
