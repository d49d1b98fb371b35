use Rattle.std.proofs.Common.{List, ap, ◌∙◌, subst, arith, rules}
use Rattle.pa_slot.specs.declared.title.Title.{Title}
use Rattle.pa_buckets.proofs.Facts.{IsRow-of}
use Rattle.pa_place.specs.declared.placed.Placed.{Placed}
use Rattle.pa_player.specs.Calls.{IsFillTold}
use Rattle.pa_player.specs.Changes.{asked_in}
use Rattle.pa_player.proofs.Placing.{filled_told, unfilled_told}
use Rattle.pa_player.proofs.alloc.Player+Told+O.fill.Goals as goal

pub fill-requires-clause-some : goal.fill-requires-clause-some
fill-requires-clause-some g c = let row = IsRow-of c.args.class c.fill_count-want.ensures.bound in
    omega (arith, row.some_fill, c.fill_count-want.ensures.count)

pub fill-requires-clause-few : goal.fill-requires-clause-few
fill-requires-clause-few g c = let row = IsRow-of c.args.class c.fill_count-want.ensures.bound in
    omega (arith, row.few_fill, c.fill_count-want.ensures.count)

pub returns-then-is_empty-clause-fills : goal.returns-then-is_empty-clause-fills
returns-then-is_empty-clause-fills g c =
    let p = c.args.self.now in
    let q = c.args.partition in
    let placed : Placed = record { pool = c.in_ok-asked.asked; titles = c.fill.new.titles } in
    let tells = c.in_ok-tell_asked.ensures.asked
    ∙ ap (λ (z : List Title). asked_in q 1 z placed.pool (record p { heap = record { pool = c.fill.new.pool; roots = c.fill.new.self } }))
    c.as_slice.ensures.value in
    unfilled_told q c.args.class c.fill_count-want.result c.unwrap-pool.result c.in_ok-entry.entry p c.tell_asked.new.self
    c.refused.new.self c.fill.new.pool c.fill.new.self placed
    c.fill_count-want.ensures.count c.in_ok-asked.ensures.filled c.in_ok-asked.ensures.others tells
    (search rules) c.unwrap-pool.ensures c.in_ok-entry.ensures.place c.in_ok-entry.ensures.after

pub returns-clause-fills : goal.returns-clause-fills
returns-clause-fills g c =
    let p = c.args.self.now in
    let q = c.args.partition in
    let placed : Placed = record { pool = c.in_ok-asked.asked; titles = c.fill.new.titles } in
    let tells = c.in_ok-tell_asked.ensures.asked
    ∙ ap (λ (z : List Title). asked_in q 1 z placed.pool (record p { heap = record { pool = c.fill.new.pool; roots = c.fill.new.self } }))
    c.as_slice.ensures.value in
    filled_told q c.args.at c.args.class c.fill_count-want.result p c.tell_asked.new.self c.tell_fill.new.self c.fill.new.pool
    c.fill.new.self placed
    c.fill_count-want.ensures.count c.in_ok-asked.ensures.filled c.in_ok-asked.ensures.others tells (search rules)
    (subst (λ (z : List Title). IsFillTold q c.args.at c.args.class placed.pool z c.tell_asked.new.self c.tell_fill.new.self)
    c.as_slice-2.ensures.value c.in_ok-tell_fill.ensures.told)
