use Rattle.pa_record.specs.Spans.{put}
use Rattle.pa_record.specs.Root.{in_state}
use Rattle.pa_records.proofs.Storing.{enters_stored, stored_same}
use Rattle.pa_records.proofs.laws.entered_is_stored.Goals as goal

pub returns : goal.returns
returns g c ss s to st among moved =
    let before = c.args.before.now in let after = c.args.after.now in let l = c.args.lists.now in
    stored_same (g.S.SpanStore.spans after) (g.S.SpanStore.has before) (g.S.SpanStore.has after) (put (in_state to l.turn s) ss)
    (λ u. (c.requires u).1) (λ u. (c.requires u).0)
    (enters_stored l (g.S.SpanStore.spans before) (g.S.SpanStore.spans after) (g.S.SpanStore.has before) ss s to st among moved)
