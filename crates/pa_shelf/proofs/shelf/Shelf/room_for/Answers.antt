use Rattle.std.proofs.Common.{◌≡◌, ◌∙◌, ap, arith, sym, length, Some}
use Rattle.std.specs.Prelude.{◌-◌, slice_get}
use Rattle.pa_buckets.specs.declared.spans.SpanShape.{SpanShape}
use Rattle.pa_buckets.proofs.Facts.{IsRow-of}
use Rattle.pa_shelf.specs.Shelves.{ShelfParts}
use Rattle.pa_shelf.proofs.shelf.Shelf.room_for.Goals as goal

pub overflow_add-self-inside : goal.overflow_add-self-inside
overflow_add-self-inside c =
    let few = (IsRow-of c.args.class c.span_of.ensures.bound).few_pages in
    let e = ap (λ (s : SpanShape). s.pages) c.span_of.ensures.shape in
    let l = c.args.self.now in
    let now : slice_get l.supers (length l.supers - 1) ≡ Some c.in_ok-at.field-0.now =
    sym (ap (λ (p : ShelfParts). slice_get p.supers (length p.supers - 1)) c.self.view_is) ∙
    sym (rw c.deref.ensures.value at c.in_ok-at.ensures.value) in
    let page = c.requires c.in_ok-at.field-0.now now in
    let same = ap (λ (p : ShelfParts). p.page) c.self.view_is in
    omega arith
