use Rattle.std.proofs.Common.{◌≡◌, ap, sym, ◌∙◌, arith}
use Rattle.pa_slot.specs.declared.title.Title.{Title}
use Rattle.pa_buckets.specs.Table.{slot_of}
use Rattle.pa_buckets.specs.Bands.{limit_of}
use Rattle.pa_buckets.proofs.Facts.{sixteen_bytes}
use Rattle.pa_test_region.proofs.CacheRows.{limit_of-0, row_new, row_next}
use Rattle.pa_test_region.proofs.cache.put_next.Goals as goal

pub push-requires-clause-few : goal.push-requires-clause-few
push-requires-clause-few c =
    let limit : limit_of c.args.cache.now.class ≡ 64 = ap limit_of c.requires.row.class ∙ limit_of-0 in
    let count = c.requires.row.count in
    let few = c.requires.few in
    omega arith

pub push-requires-clause-size : goal.push-requires-clause-size
push-requires-clause-size c = ap (λ (t : Title). t.len) c.slot.ensures ∙ sym (ap slot_of c.requires.row.class ∙ sixteen_bytes)

pub push-requires-clause-new : goal.push-requires-clause-new
push-requires-clause-new c = row_new c.args.number c.args.seat.now.view c.args.cache.now c.slot.result c.requires.row c.slot.ensures

pub returns-clause-row : goal.returns-clause-row
returns-clause-row c =
    row_next c.args.number c.args.seat.now.view c.push.new.seat.view c.args.cache.now c.push.new.self c.slot.result
    c.requires.row c.slot.ensures
    c.push.ensures.relinked c.push.ensures.list c.push.ensures.class c.push.ensures.front
