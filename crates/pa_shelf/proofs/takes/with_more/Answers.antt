use Rattle.std.proofs.Common.{◌≡◌, ℕ, ◌≤◌, min, ap, arith}
use Rattle.pa_buckets.specs.declared.spans.SpanShape.{SpanShape}
use Rattle.pa_buckets.specs.Table.{slots_of}
use Rattle.pa_shelf.proofs.Fitting.{are_small}
use Rattle.pa_shelf.proofs.takes.with_more.Goals as goal

at_most : (a b n : ℕ) → n ≡ min a b → n ≤ b
at_most a b n is = omega arith

pub overflow_add-needed-2 : goal.overflow_add-needed-2
overflow_add-needed-2 c =
    let class = c.args.span.class in let n = c.from-provisioned.result in
    let e = c.from-provisioned.ensures in let more = c.requires.more in
    let p = (are_small class 0 n c.slot_size-size.ensures.bound (omega arith) (omega arith)).product in
    rw c.slot_size-size.ensures.size (omega arith)

pub overflow_mul-pages : goal.overflow_mul-pages
overflow_mul-pages c =
    let class = c.args.span.class in let n = c.from-provisioned.result in let m = c.from.result in
    let e = c.from-provisioned.ensures in let more = c.requires.more in let f = c.from.ensures in let low = c.requires.committed in
    let p = (are_small class m n c.slot_size-size.ensures.bound (omega arith) (omega arith)).pages in
    rw (c.max-pages.ensures, c.slot_size-size.ensures.size) (omega arith)

pub nonzero_div-pages : goal.nonzero_div-pages
nonzero_div-pages c =
    let class = c.args.span.class in let n = c.from-provisioned.result in
    let e = c.from-provisioned.ensures in let more = c.requires.more in
    let p = (are_small class 0 n c.slot_size-size.ensures.bound (omega arith) (omega arith)).some in
    rw c.slot_size-size.ensures.size (omega arith)

pub overflow_cast-result : goal.overflow_cast-result
overflow_cast-result c =
    let class = c.args.span.class in let n = c.from-provisioned.result in
    let e = c.from-provisioned.ensures in let more = c.requires.more in
    let few = (are_small class 0 n c.slot_size-size.ensures.bound (omega arith) (omega arith)).few in
    let most : c.span_of.result.slots ≡ slots_of class = ap (λ (x : SpanShape). x.slots) c.span_of.ensures.shape in
    let less = at_most _ _ c.min-slots.result c.min-slots.ensures in
    omega arith

pub overflow_cast-result-2 : goal.overflow_cast-result-2
overflow_cast-result-2 c =
    let class = c.args.span.class in let n = c.from-provisioned.result in let m = c.from.result in
    let e = c.from-provisioned.ensures in let more = c.requires.more in let f = c.from.ensures in let low = c.requires.committed in
    let p = (are_small class m n c.slot_size-size.ensures.bound (omega arith) (omega arith)).pages in
    rw (c.max-pages.ensures, c.slot_size-size.ensures.size) (omega arith)
