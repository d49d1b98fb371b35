use Rattle.std.proofs.Common.{ℕ, inl}
use Rattle.pa_spans.specs.Lists.{StaysListed}
use Rattle.pa_spans.proofs.Staying.{stays, put_listed}
use Rattle.pa_spans.proofs.lists.SpanLists.put.Goals as goal

pub returns-clause-stand : goal.returns-clause-stand
returns-clause-stand g c =
    let spans = g.S.SpanStore.spans c.args.store.now in let after = g.S.SpanStore.spans c.set.new.self in
    let each : (u : ℕ) → StaysListed (spans u) (after u) =
    put_listed spans after c.args.at c.args.span c.set.ensures.span c.requires.stays in
    stays c.args.self.now spans after (g.S.SpanStore.has c.args.store.now) (g.S.SpanStore.has c.set.new.self) c.requires.stand (record {
      on = λ u h. ((c.set.ensures.has u).1 h, each u);
      back = λ u h. inl ((c.set.ensures.has u).0 h, each u);
      none = λ h. c.requires.stand.some ((c.set.ensures.has 0).0 h);
    })
