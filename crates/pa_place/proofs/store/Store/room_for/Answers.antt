use Rattle.std.proofs.Common.{◌≡◌, ap, arith, sym, Some}
use Rattle.pa_buckets.specs.declared.spans.SpanShape.{SpanShape}
use Rattle.pa_buckets.proofs.Facts.{IsRow-of}
use Rattle.pa_record.specs.Root.{current}
use Rattle.pa_place.specs.Store.{root_of}
use Rattle.pa_place.proofs.store.Store.room_for.Goals as goal

pub overflow_add-self : goal.overflow_add-self
overflow_add-self c =
    let b = IsRow-of c.args.class c.span_of.ensures.bound in
    let few = b.few_pages in
    let e = ap (λ (s : SpanShape). s.pages) c.span_of.ensures.shape in
    let now : current (root_of c.args.self.now) ≡ Some c.in_ok-at.field-0.now =
    sym (rw c.deref.ensures.value at c.in_ok-at.ensures.value) in
    let page = (c.requires.sound.pages c.in_ok-at.field-0.now now).1 in
    omega arith
