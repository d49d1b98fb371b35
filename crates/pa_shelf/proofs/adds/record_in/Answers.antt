use Rattle.std.proofs.Common.{◌∷◌, ◌++◌, []}
use Rattle.pa_records.proofs.Storing.{stored_same}
use Rattle.pa_shelf.proofs.Adding.{can_stand, added_unused, added_stored}
use Rattle.pa_shelf.proofs.adds.record_in.Goals as goal

pub put-requires-clause-stays : goal.put-requires-clause-stays
put-requires-clause-stays g c =
    can_stand (g.S.SpanStore.spans c.args.store.now c.args.at) c.new_record.result c.args.class c.new_record.ensures c.requires.outside
    c.requires.zero

pub returns-clause-stored : goal.returns-clause-stored
returns-clause-stored g c ss t st added =
    let spans = g.S.SpanStore.spans in let has = g.S.SpanStore.has in
    let before = c.args.store.now in let after = c.put.new.store in
    stored_same (spans after) (has before) (has after) (ss ++ t ∷ []) (λ u h. (c.put.ensures.has u).1 h) (λ u h. (c.put.ensures.has u).0 h)
    (added_stored (spans before) (spans after)
    (has before) ss t c.args.at c.args.class c.new_record.result st c.requires.has added c.new_record.ensures
    c.put.ensures.span)

pub returns-clause-unused : goal.returns-clause-unused
returns-clause-unused g c unused u h =
    let spans = g.S.SpanStore.spans in let has = g.S.SpanStore.has in
    let before = c.args.store.now in let after = c.put.new.store in
    added_unused (spans before) (spans after)
    (has before) c.args.at c.args.class c.new_record.result c.new_record.ensures c.put.ensures.span unused u
    ((c.put.ensures.has u).0 h)
