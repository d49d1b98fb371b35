use Rattle.pa_spans.proofs.Beginning.{new_lists_stand}
use Rattle.pa_spans.proofs.laws.lists_begin.Goals as goal

pub returns : goal.returns
returns g c = new_lists_stand (g.S.SpanStore.spans c.args.store.now) (g.S.SpanStore.has c.args.store.now) c.requires.none c.requires.outside
