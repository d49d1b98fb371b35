use Rattle.std.proofs.Common.{◌≡◌, ◌+◌, ◌-◌, ◌*◌, ◌/◌, ◌<◌, ◌≤◌, ◌++◌, max, min, arith, sym, ◌∙◌, ap, subst}
use Rattle.pa_buckets.specs.declared.spans.SpanShape.{SpanShape}
use Rattle.pa_buckets.specs.Table.{slot_of, slots_of}
use Rattle.pa_record.specs.Spans.{Span, more_pages, more_slots}
use Rattle.pa_record.specs.Sound.{IsCounted}
use Rattle.pa_place.proofs.Bounds.{HasRoom, has_room}
use Rattle.pa_place.proofs.CameBack.{provisioned_is}
use Rattle.pa_place.proofs.plain_span.PlainSpan.provision.Goals as goal
use Rattle.pa_lists.specs.Numbers.{numbers}

room : (i v : Span) → i ≡ v → IsCounted v → v.provisioned < slots_of v.class → HasRoom i
room i v e h below = subst HasRoom (sym e) (has_room v h below)

pub overflow_add-needed : goal.overflow_add-needed
overflow_add-needed c = let r = room _ _ c.self.view_is c.requires.counted c.requires.more in let p = r.slots in omega arith

pub overflow_mul-needed : goal.overflow_mul-needed
overflow_mul-needed c = let r = room _ _ c.self.view_is c.requires.counted c.requires.more in let p = r.product in
    rw c.slot_size-size.ensures.size (omega arith)

pub overflow_add-needed-2 : goal.overflow_add-needed-2
overflow_add-needed-2 c = let r = room _ _ c.self.view_is c.requires.counted c.requires.more in let p = r.product in
    rw c.slot_size-size.ensures.size (omega arith)

pub overflow_add-self-inside : goal.overflow_add-self-inside
overflow_add-self-inside c = let r = room _ _ c.self.view_is c.requires.counted c.requires.more in let p = r.committed in omega arith

pub overflow_mul-pages : goal.overflow_mul-pages
overflow_mul-pages c = let r = room _ _ c.self.view_is c.requires.counted c.requires.more in let p = r.pages in
    rw (c.max-pages.ensures, c.slot_size-size.ensures.size) (omega arith)

pub nonzero_div-pages : goal.nonzero_div-pages
nonzero_div-pages c = let r = room _ _ c.self.view_is c.requires.counted c.requires.more in let p = r.some in
    rw c.slot_size-size.ensures.size (omega arith)

pub returns : goal.returns
returns c =
    let i = c.self.inside in
    let v = c.args.self.now in
    let size = c.slot_size-size.result in
    let pages = c.max-pages.result in
    let slots = c.min-slots.result in
    let xs = i.returned.items in
    let before : i.provisioned ≡ v.provisioned = ap (λ (s : Span). s.provisioned) c.self.view_is in
    let sized : size ≡ slot_of v.class = c.slot_size-size.ensures.size ∙ ap (λ (s : Span). slot_of s.class) c.self.view_is in
    let is : v.free ≡ xs ++ numbers i.kept_from (v.provisioned - i.kept_from) = sym (ap (λ (s : Span). s.free) c.self.view_is) ∙
    ap (λ n. xs ++ numbers i.kept_from (n - i.kept_from)) before in
    let low : i.kept_from ≤ v.provisioned = subst (λ n. i.kept_from ≤ n) before c.self.invariant.low in
    let more : pages ≡ more_pages v = c.max-pages.ensures ∙
    ap (λ k. max (i.committed + 1) ((k * (i.provisioned + 1) + 4095) / 4096)) c.slot_size-size.ensures.size ∙
    ap more_pages c.self.view_is in
    let most : c.span_of.result.slots ≡ slots_of v.class = ap (λ (s : SpanShape). s.slots) c.span_of.ensures.shape ∙
    ap (λ (s : Span). slots_of s.class) c.self.view_is in
    let all : slots ≡ more_slots v =
    c.min-slots.ensures ∙ ap (λ k. min (4096 * k / size) c.span_of.result.slots) more
    ∙ ap (λ k. min (4096 * more_pages v / k) c.span_of.result.slots) sized ∙ ap (min (4096 * more_pages v / slot_of v.class)) most in
    let made : c.max-self-inside.result ≡ max v.made slots = c.max-self-inside.ensures ∙
    ap (λ (s : Span). max s.made slots) c.self.view_is in
    ap (λ (s : Span). record s {
      committed = pages;
      provisioned = slots;
      made = c.max-self-inside.result;
      free = xs ++
          numbers i.kept_from (slots - i.kept_from);
    }) c.self.view_is
    ∙ provisioned_is v xs i.kept_from pages slots c.max-self-inside.result is low c.requires.none more all made
