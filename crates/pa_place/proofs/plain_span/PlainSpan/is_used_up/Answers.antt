use Rattle.std.proofs.Common.{◌∙◌, ap}
use Rattle.std.proofs.lemmas.Bool.{both_ways}
use Rattle.pa_record.specs.Spans.{Span}
use Rattle.pa_place.proofs.CameBack.{none_back}
use Rattle.pa_place.proofs.plain_span.PlainSpan.is_used_up.Goals as goal

pub returns-else-is_empty : goal.returns-else-is_empty
returns-else-is_empty c =
    let i = c.self.inside in
    let free = ap (λ (s : Span). s.free) c.self.view_is in (
      λ yes. absurd (both_ways _ c.if-is_empty.false yes),
      λ none. c.is_empty.ensures.1 (none_back i.returned.items i.kept_from i.provisioned (free ∙ none)),
    )
