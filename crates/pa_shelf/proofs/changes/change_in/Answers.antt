use Rattle.pa_record.specs.Spans.{put}
use Rattle.pa_record.specs.Root.{in_state}
use Rattle.pa_records.proofs.Storing.{stored_same}
use Rattle.pa_shelf.proofs.Moves.{change_stored, change_unused}
use Rattle.pa_shelf.proofs.changes.change_in.Goals as goal

pub returns-clause-stored : goal.returns-clause-stored
returns-clause-stored g c ss s t st among is_for =
    let spans = g.S.SpanStore.spans in let has = g.S.SpanStore.has in
    let before = c.args.store.now in let mid = c.put.new.store in let after = c.enter.new.store in
    stored_same (spans after) (has before) (has after) (put (in_state c.args.to c.args.lists.now.turn t) ss)
    (λ u h. (c.enter.ensures.has u).1 ((c.put.ensures.has u).1 h)) (λ u h. (c.put.ensures.has u).0 ((c.enter.ensures.has u).0 h))
    (change_stored c.args.lists.now (spans before) (spans mid) (spans after)
    (has before) ss s t c.args.at c.args.span c.args.to st among is_for
    c.put.ensures.span c.enter.ensures.entered)

pub returns-clause-unused : goal.returns-clause-unused
returns-clause-unused g c ss s t st among is_for unused u h =
    let spans = g.S.SpanStore.spans in let has = g.S.SpanStore.has in
    let before = c.args.store.now in let mid = c.put.new.store in let after = c.enter.new.store in
    change_unused c.args.lists.now (spans before) (spans mid) (spans after)
    (has before) ss s t c.args.at c.args.span c.args.to st among is_for
    c.put.ensures.span c.enter.ensures.entered c.requires.used unused u ((c.put.ensures.has u).0 ((c.enter.ensures.has u).0 h))
