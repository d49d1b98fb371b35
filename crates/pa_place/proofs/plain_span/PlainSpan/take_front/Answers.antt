use Rattle.std.proofs.Common.{◌≡◌, ◌<◌, ◌-◌, ◌++◌, ◌∷◌, ◌+◌, [], sym, ◌∙◌, ap, length, arith}
use Rattle.pa_record.specs.Spans.{Span}
use Rattle.pa_place.proofs.CameBack.{list_length, numbers_step}
use Rattle.pa_place.proofs.plain_span.PlainSpan.take_front.Goals as goal
use Rattle.pa_lists.specs.Numbers.{numbers}

pub returns-in-None-clause-front : goal.returns-in-None-clause-front
returns-in-None-clause-front c =
    let i = c.self.inside in
    let from = i.kept_from in
    let to = i.provisioned in
    let q = ap (λ (s : Span). s.free) c.self.view_is in
    let none : i.returned.items ≡ [] = c.in-None.ensures.none in
    let after : c.take_front.new.self.items ≡ [] = sym c.in-None.ensures.items ∙ none in
    let long = sym (list_length i.returned.items from to) ∙ ap length q in
    let back = ap length none in
    let some = c.requires.some in
    let low : from < to = omega (arith, long, back, some) in
    sym q ∙ ap (λ xs. xs ++ numbers from (to - from)) none ∙ numbers_step from to low ∙
    ap (λ xs. from ∷ (xs ++ numbers (from + 1) (to - (from + 1)))) (sym after)
