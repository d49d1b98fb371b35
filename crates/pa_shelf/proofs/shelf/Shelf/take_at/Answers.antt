use Rattle.std.proofs.Common.{subst}
use Rattle.pa_region.specs.Shares.{Share}
use Rattle.pa_shelf.specs.Moving.{Rewritten}
use Rattle.pa_shelf.proofs.Provisioning.{take_had, slot_is, take_is}
use Rattle.pa_shelf.proofs.Rewriting.{rewritten_on}
use Rattle.pa_shelf.proofs.shelf.Shelf.take_at.Goals as goal

pub read_meta-span-requires-clause-raw : goal.read_meta-span-requires-clause-raw
read_meta-span-requires-clause-raw c =
    let (r, s, b) = c.requires.able in (take_had c.args.own.now.view c.args.self.now c.args.at r s b.slot).raw

pub read_meta-span-requires-clause-record : goal.read_meta-span-requires-clause-record
read_meta-span-requires-clause-record c =
    let (r, s, b) = c.requires.able in
    let h = take_had c.args.own.now.view c.args.self.now c.args.at r s b.slot in (h.span, h.recorded)

pub provided-ready-requires-clause-able : goal.provided-ready-requires-clause-able
provided-ready-requires-clause-able c =
    let (r, s, b) = c.requires.able in let l = c.args.self.now in
    let y = c.read_meta-span.new.seat in let z = c.args.own.now in let x = c.read_meta-span.result in let t = c.first_of-first.result in
    let slot = slot_is y z l c.args.at r s x t b.slot c.read_meta-span.ensures.seat c.read_meta-span.ensures.span
    (c.first_of-first.ensures z.view r s b.slot) in
    (l, r, s, take_is y z l x t r s c.read_meta-span.ensures.seat b.held slot)

pub take_off-requires-clause-ready : goal.take_off-requires-clause-ready
take_off-requires-clause-ready c =
    let (r, s, b) = c.requires.able in let l = c.args.self.now in
    let y = c.read_meta-span.new.seat in let z = c.args.own.now in let x = c.read_meta-span.result in let t = c.first_of-first.result in
    let slot = slot_is y z l c.args.at r s x t b.slot c.read_meta-span.ensures.seat c.read_meta-span.ensures.span
    (c.first_of-first.ensures z.view r s b.slot) in
    (r, s, c.provided-ready.ensures.ready l r s (take_is y z l x t r s c.read_meta-span.ensures.seat b.held slot))

pub returns-clause-title : goal.returns-clause-title
returns-clause-title c r s b =
    let l = c.args.self.now in
    let y = c.read_meta-span.new.seat in let z = c.args.own.now in let x = c.read_meta-span.result in let t = c.first_of-first.result in
    let slot = slot_is y z l c.args.at r s x t b.slot c.read_meta-span.ensures.seat c.read_meta-span.ensures.span
    (c.first_of-first.ensures z.view r s b.slot) in
    c.take_off.ensures.title r s (c.provided-ready.ensures.ready l r s (take_is y z l x t r s c.read_meta-span.ensures.seat b.held slot))

pub returns-clause-shown : goal.returns-clause-shown
returns-clause-shown c r s b =
    let l = c.args.self.now in
    let y = c.read_meta-span.new.seat in let z = c.args.own.now in let x = c.read_meta-span.result in let t = c.first_of-first.result in
    let slot = slot_is y z l c.args.at r s x t b.slot c.read_meta-span.ensures.seat c.read_meta-span.ensures.span
    (c.first_of-first.ensures z.view r s b.slot) in
    c.take_off.ensures.shown r s (c.provided-ready.ensures.ready l r s (take_is y z l x t r s c.read_meta-span.ensures.seat b.held slot))

pub returns-clause-rest : goal.returns-clause-rest
returns-clause-rest c =
    rewritten_on c.args.own.now.view c.provided-ready.new.own.view c.take_off.new.own.view
    (subst (λ (z : Share). Rewritten z.view c.provided-ready.new.own.view) c.read_meta-span.ensures.seat c.provided-ready.ensures.rest)
    c.take_off.ensures.rest
