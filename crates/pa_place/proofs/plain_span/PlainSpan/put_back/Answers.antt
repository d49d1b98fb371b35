use Rattle.std.proofs.Common.{◌∙◌, sym, ap, length, arith}
use Rattle.pa_record.specs.Spans.{Span}
use Rattle.pa_place.proofs.Bounds.{few_slots}
use Rattle.pa_place.proofs.CameBack.{list_length}
use Rattle.pa_place.proofs.plain_span.PlainSpan.put_back.Goals as goal

pub put_front-requires-clause-few : goal.put_front-requires-clause-few
put_front-requires-clause-few c =
    let i = c.self.inside in
    let h = c.requires.counted in
    let long = sym (list_length i.returned.items i.kept_from i.provisioned) ∙ ap (λ (s : Span). length s.free) c.self.view_is in
    let listed = h.listed in
    let made = h.made in
    let most = h.most in
    let few = few_slots c.args.self.now.class h.class in
    let some = c.requires.some in
    omega (arith, long, listed, made, most, few, some)
