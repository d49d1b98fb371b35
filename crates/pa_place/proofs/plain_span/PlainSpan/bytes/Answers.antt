use Rattle.std.proofs.Common.{arith, ap}
use Rattle.pa_buckets.specs.declared.spans.SpanShape.{SpanShape}
use Rattle.pa_place.proofs.Bounds.{few_bytes}
use Rattle.pa_place.proofs.plain_span.PlainSpan.bytes.Goals as goal

pub overflow_mul-result : goal.overflow_mul-result
overflow_mul-result c =
    let low = few_bytes c.self.inside.class c.span_of.ensures.bound in
    let e = ap (λ (s : SpanShape). s.pages) c.span_of.ensures.shape in
    omega arith
