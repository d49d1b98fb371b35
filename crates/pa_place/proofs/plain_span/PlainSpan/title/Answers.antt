use Rattle.std.proofs.Common.{◌*◌, ◌<◌, arith, ap, sym, subst}
use Rattle.pa_buckets.specs.Table.{slots_of}
use Rattle.pa_record.specs.Spans.{Span}
use Rattle.pa_place.specs.Served.{IsLow}
use Rattle.pa_place.proofs.Bounds.{slot_inside, few_bytes}
use Rattle.pa_place.proofs.plain_span.PlainSpan.title.Goals as goal
use Rattle.pa_record.proofs.SpanSteps.{size_some}

pub overflow_mul-result : goal.overflow_mul-result
overflow_mul-result c =
    let below = subst (λ (s : Span). c.args.number < slots_of s.class) (sym c.self.view_is) c.requires.number in
    let inside = slot_inside c.self.inside.class c.args.number c.slot_size-len.ensures.bound below in
    let few = few_bytes c.self.inside.class c.slot_size-len.ensures.bound in
    let e = ap (λ n. n * c.args.number) c.slot_size-len.ensures.size in
    omega arith

pub overflow_add-result : goal.overflow_add-result
overflow_add-result c =
    let below = subst (λ (s : Span). c.args.number < slots_of s.class) (sym c.self.view_is) c.requires.number in
    let low = subst (λ (s : Span). IsLow s) (sym c.self.view_is) c.requires.low in
    let inside = slot_inside c.self.inside.class c.args.number c.slot_size-len.ensures.bound below in
    let some = size_some c.self.inside.class c.slot_size-len.ensures.bound in
    let e = ap (λ n. n * c.args.number) c.slot_size-len.ensures.size in
    omega arith
