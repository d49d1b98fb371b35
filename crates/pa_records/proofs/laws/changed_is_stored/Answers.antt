use Rattle.pa_records.proofs.Storing.{put_is_stored, stored_same}
use Rattle.pa_record.specs.Spans.{put}
use Rattle.pa_records.proofs.laws.changed_is_stored.Goals as goal

pub returns : goal.returns
returns g c ss s t st among new =
    let before = c.args.before.now in let after = c.args.after.now in
    stored_same (g.S.SpanStore.spans after) (g.S.SpanStore.has before) (g.S.SpanStore.has after) (put t ss) (λ u. (c.requires u).1)
    (λ u. (c.requires u).0)
    (put_is_stored (g.S.SpanStore.spans before) (g.S.SpanStore.spans after) (g.S.SpanStore.has before) ss s t st among new)
