use Rattle.pa_records.proofs.Neighbours.{stored_is_recorded}
use Rattle.pa_records.proofs.laws.stored_is_recorded.Goals as goal

pub returns : goal.returns
returns g c ss st = stored_is_recorded c.args.lists.now (g.S.SpanStore.spans c.args.store.now)
    (g.S.SpanStore.has c.args.store.now) ss c.requires st
