use Rattle.std.proofs.Common.{◌∙◌, ap, arith, inr}
use Rattle.pa_slot.specs.Titles.{content_at}
use Rattle.pa_region.specs.declared.view.View.{View}
use Rattle.pa_region.specs.Shares.{byte_word_count}
use Rattle.pa_region.specs.Loads.{after_read}
use Rattle.pa_quarantine.proofs.Filling.{look_user, look_stake, look_last, look_own, place_offset}
use Rattle.pa_quarantine.proofs.leave.read.Goals as goal

pub placed-requires : goal.placed-requires
placed-requires c =
    let user = look_user c.looks_leave.ensures c.args.title c.look-found.result.0 c.args.seat.now.view c.look-found.new.seat.view
    c.look-found.ensures.view c.requires.able.1 c.requires.able.0 in
    omega arith

pub load-requires-clause-able : goal.load-requires-clause-able
load-requires-clause-able c =
    let place = place_offset
    (byte_word_count c.look-found.new.seat.region) c.args.title c.args.place c.placed.ensures.well c.requires.place in (
      place.1,
      inr (
        c.args.title,
        place.2,
        look_user c.looks_leave.ensures c.args.title c.look-found.result.0 c.args.seat.now.view c.look-found.new.seat.view
            c.look-found.ensures.view c.requires.able.1 c.requires.able.0,
        look_stake c.looks_leave.ensures c.args.title c.look-found.result.0 c.args.seat.now.view c.look-found.new.seat.view
            c.look-found.ensures.view c.requires.able.1,
      ),
    )

pub returns-clause-view : goal.returns-clause-view
returns-clause-view c =
    let place = place_offset
    (byte_word_count c.look-found.new.seat.region) c.args.title c.args.place c.placed.ensures.well c.requires.place in
    let user = look_user c.looks_leave.ensures c.args.title c.look-found.result.0 c.args.seat.now.view c.look-found.new.seat.view
    c.look-found.ensures.view c.requires.able.1 c.requires.able.0 in
    (c.load.ensures.told.read c.args.title c.args.place place.0 c.requires.place user).0
    ∙ ap (λ (v : View). after_read c.args.title c.args.place c.load.result v) c.look-found.ensures.view

pub returns-clause-freed : goal.returns-clause-freed
returns-clause-freed c low =
    let place = place_offset
    (byte_word_count c.look-found.new.seat.region) c.args.title c.args.place c.placed.ensures.well c.requires.place in
    let user = look_user c.looks_leave.ensures c.args.title c.look-found.result.0 c.args.seat.now.view c.look-found.new.seat.view
    c.look-found.ensures.view c.requires.able.1 c.requires.able.0 in
    (c.load.ensures.told.read c.args.title c.args.place place.0 c.requires.place user).1.1 c.look-found.result.0
    (look_last c.looks_leave.ensures c.args.title c.look-found.result.0 c.args.seat.now.view c.look-found.new.seat.view
    c.look-found.ensures.view c.requires.able.1) low
    (ap (λ (v : View). v.since.handed) c.look-found.ensures.view)

pub returns-clause-own : goal.returns-clause-own
returns-clause-own c own =
    let place = place_offset
    (byte_word_count c.look-found.new.seat.region) c.args.title c.args.place c.placed.ensures.well c.requires.place in
    let user = look_user c.looks_leave.ensures c.args.title c.look-found.result.0 c.args.seat.now.view c.look-found.new.seat.view
    c.look-found.ensures.view c.requires.able.1 c.requires.able.0 in
    (c.load.ensures.told.read c.args.title c.args.place place.0 c.requires.place user).1.0
    (look_own c.looks_leave.ensures c.args.title c.look-found.result.0 c.args.seat.now.view c.look-found.new.seat.view
    c.look-found.ensures.view c.requires.able.1 own)
    ∙ ap (λ (v : View). content_at v.words c.args.title c.args.place) c.look-found.ensures.view
