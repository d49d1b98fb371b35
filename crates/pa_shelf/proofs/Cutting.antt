-- The slots that are cut before a take, by the record of the span.
use Rattle.std.proofs.Common.{◌≡◌, ℕ, ◌+◌, ◌-◌, ◌*◌, ◌<◌, ◌≤◌, inl, inr, max, length, sym, ◌∙◌, ap, arith}
use Rattle.std.proofs.Math.Nat.{mul-le-mul_left}
use Rattle.pa_slot.specs.declared.title.Title.{Title}
use Rattle.pa_buckets.specs.Table.{slot_of, slots_of}
use Rattle.pa_record.specs.Spans.{Span, title_at, more_slots}
use Rattle.pa_record.specs.Root.{Root}
use Rattle.pa_record.proofs.SpanSteps.{list_cases}
use Rattle.pa_region.specs.declared.view.View.{View}
use Rattle.pa_spans.specs.declared.span.Span.{Span as SpanRecord}
use Rattle.pa_shelf.specs.declared.cuts.NewSlots.{NewSlots}
use Rattle.pa_shelf.specs.Cutting.{count_cut, cut_before}
use Rattle.pa_shelf.specs.Shelves.{ShelfParts}
use Rattle.pa_shelf.specs.Taking.{slot_beside, slots_more, with_more, HasSlotOf}
use Rattle.pa_shelf.proofs.Provisioning.{used_up, more_is, span_inside}
use Rattle.pa_shelf.proofs.Returning.{record_is}

-- how many were made
made_is : (v : View) (l : ShelfParts) (x : SpanRecord) (t : Title) (r : Root) (s : Span) → HasSlotOf v l x t r s → x.made ≡ s.made
made_is v l x t r s b =
    ap (λ (y : SpanRecord). y.made) (record_is v l r s t.start x b.at.shown.kept b.at.among b.at.here b.read)

-- the first one that wasn't made starts in the region
pub made_inside : (v : View) (l : ShelfParts) (x : SpanRecord) (t : Title) (r : Root) (s : Span) → HasSlotOf v l x t r s →
    t.start < 2097152 * 2048 →
    t.start + t.len * x.made < 2097152 * 2048
made_inside v l x t r s b small =
    let made = made_is v l x t r s b in
    let most = (b.at.sound.spans s b.at.among).counted.most in
    let size : t.len ≡ slot_of s.class = ap (λ (z : Title). z.len) b.first in
    let up : t.len * x.made ≤ t.len * slots_of s.class = mul-le-mul_left t.len (omega arith) in
    let same : t.len * slots_of s.class ≡ slot_of s.class * slots_of s.class = ap (λ n. n * slots_of s.class) size in
    let inside = span_inside v l x t r s b small in
    omega arith

-- how many are cut: none if the list isn't empty
no_cut : (v : View) (l : ShelfParts) (x : SpanRecord) (t : Title) (r : Root) (s : Span) → HasSlotOf v l x t r s →
    x.allocated < x.provisioned →
    0 ≡ count_cut s.free s
no_cut v l x t r s b some =
    let e = record_is v l r s t.start x b.at.shown.kept b.at.among b.at.here b.read in
    let a : x.allocated ≡ s.allocated = ap (λ (y : SpanRecord). y.allocated) e in
    let p : x.provisioned ≡ s.provisioned = ap (λ (y : SpanRecord). y.provisioned) e in
    let listed = (b.at.sound.spans s b.at.among).counted.listed in
    elim (list_cases s.free) [
      | inl none ↦ let zero = ap length none in absurd (omega arith)
      | inr other ↦ sym (ap (λ xs. count_cut xs s) other.2)
    ]

past : (a b n : ℕ) → n ≡ max a b → n - a ≡ b - a
past a b n is = omega arith

more_cut : (v : View) (l : ShelfParts) (x y : SpanRecord) (t : Title) (r : Root) (s : Span) → HasSlotOf v l x t r s →
    x.provisioned ≤ x.allocated →
    y ≡ with_more t.start x → y.made - x.made ≡ count_cut s.free s
more_cut v l x y t r s b all y_is =
    let u = used_up v l x t r s b all in
    past x.made (slots_more x) y.made (ap (λ (z : SpanRecord). z.made) y_is)
    ∙ (ap (λ n. n - x.made) (more_is x s u.is)
    ∙ (ap (λ n. more_slots s - n) (made_is v l x t r s b) ∙ sym (ap (λ xs. count_cut xs s) u.none)))

-- the new slots from `first` on, `count` of them
abbrev pub new_of : Title → ℕ → NewSlots
new_of first count = record { first = first; count = count }

first_new : (v : View) (l : ShelfParts) (x : SpanRecord) (t : Title) (r : Root) (s : Span) → HasSlotOf v l x t r s →
    slot_beside t x.made ≡ title_at s s.made
first_new v l x t r s b = ap (slot_beside t) (made_is v l x t r s b) ∙ ap (λ (z : Title). slot_beside z s.made) b.first

cut_with : (v : View) (l : ShelfParts) (x : SpanRecord) (t : Title) (r : Root) (s : Span) (count : ℕ) → HasSlotOf v l x t r s →
    count ≡ count_cut s.free s → new_of (slot_beside t x.made) count ≡ cut_before s
cut_with v l x t r s count b is =
    ap (λ (z : Title). new_of z count) (first_new v l x t r s b) ∙ ap (new_of (title_at s s.made)) is

pub cut_listed : (v : View) (l : ShelfParts) (x : SpanRecord) (t : Title) (r : Root) (s : Span) → HasSlotOf v l x t r s →
    x.allocated < x.provisioned →
    new_of (slot_beside t x.made) 0 ≡ cut_before s
cut_listed v l x t r s b some = cut_with v l x t r s 0 b (no_cut v l x t r s b some)

pub cut_more : (v : View) (l : ShelfParts) (x y : SpanRecord) (t : Title) (r : Root) (s : Span) → HasSlotOf v l x t r s →
    x.provisioned ≤ x.allocated →
    y ≡ with_more t.start x → new_of (slot_beside t x.made) (y.made - x.made) ≡ cut_before s
cut_more v l x y t r s b all y_is = cut_with v l x t r s (y.made - x.made) b (more_cut v l x y t r s b all y_is)
