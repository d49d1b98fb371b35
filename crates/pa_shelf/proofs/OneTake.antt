-- One take: the span that is found for it has a slot.
use Rattle.std.proofs.Common.{◌≡◌, ℕ, ◌+◌, ◌<◌, inl, inr, Bool, if◌then◌else◌, Option, Some, None, refl, sym, ◌∙◌, ap, subst}
use Rattle.std.specs.Prelude.{Contains, nat_le}
use Rattle.std.proofs.lemmas.Bool.{cases_Bool, leb-true}
use Rattle.std.proofs.lemmas.List.Elements.{Contains-push}
use Rattle.pa_lists.proofs.Members.{of_some, not_some}
use Rattle.pa_buckets.specs.Table.{pages_of, slots_of}
use Rattle.pa_record.specs.declared.taken.SuperPage.{SuperPage}
use Rattle.pa_record.specs.Spans.{Span, listed}
use Rattle.pa_record.specs.Root.{Root, Found, current, new_span, with_span, at_page, found_or_new, span_for, taken_from}
use Rattle.pa_record.specs.Sound.{IsSound}
use Rattle.pa_record.proofs.Filling.{listed_is, usable_less, with_span_sound, some_slots}
use Rattle.pa_region.specs.declared.view.View.{View}
use Rattle.pa_shelf.specs.Adding.{found_start, found_root}
use Rattle.pa_shelf.specs.Shelves.{ShelfParts, ShowsRoot}
use Rattle.pa_shelf.specs.Taking.{HasSlotAt, TakesAreInParts, take_of}

-- the span is one of a sound root, and has a slot
pub record HasSlot (f : Found) : Type 0 where
  pub sound : IsSound f.root
  pub among : Contains f.root.spans f.span
  pub less : f.span.allocated < slots_of f.span.class

in_new : (class : ℕ) (r : Root) (o : Option SuperPage) (f : Found) → IsSound r → class < 170 → current r ≡ o → at_page class r o ≡ Some f →
    HasSlot f
in_new class r None f sound real now e = absurd (not_some f e)
in_new class r (Some a) f sound real now e = elim (cases_Bool (nat_le (r.page + pages_of class) 127)) [
  | inl fits ↦
      let s = new_span class a r.page in
      let g : Found = record { span = s; root = with_span s r } in
      let same = of_some g f (sym (ap (λ (b : Bool). if b then Some g else None) fits) ∙ e) in
      subst HasSlot same (record {
        sound = with_span_sound r class a sound real now (leb-true _ _ fits);
        among = Contains-push r.spans s;
        less = some_slots class real;
      })
  | inr full ↦
      let s = new_span class a r.page in
      let g : Found = record { span = s; root = with_span s r } in
      absurd (not_some f (sym (ap (λ (b : Bool). if b then Some g else None) full) ∙ e))
]

in_found : (class : ℕ) (r : Root) (o : Option Span) (f : Found) → IsSound r → class < 170 → listed class r.spans ≡ o →
    found_or_new class r o ≡ Some f → HasSlot f
in_found class r None f sound real is e = in_new class r (current r) f sound real refl e
in_found class r (Some s) f sound real is e =
    let u = listed_is class r.spans s is in
    let g : Found = record { span = s; root = r } in
    subst HasSlot (of_some g f e) (record { sound = sound; among = u.among; less = usable_less s (sound.spans s u.among) u.left })

pub found_ready : (class : ℕ) (r : Root) (f : Found) → IsSound r → class < 170 → span_for class r ≡ Some f → HasSlot f
found_ready class r f sound real is = in_found class r (listed class r.spans) f sound real refl is

-- a slot is taken from the span that was found, at its start
taken_at : (v : View) (l : ShelfParts) (at : ℕ) (r : Root) (o : Option Found) → ((f : Found) → o ≡ Some f → HasSlot f) →
    found_start o ≡ Some at →
    ShowsRoot v l (found_root o r) → (s : Span) × HasSlotAt v l at (found_root o r) s × (take_of s (found_root o r) ≡ taken_from o r)
taken_at v l at r None ready e shown = absurd (not_some at e)
taken_at v l at r (Some f) ready e shown =
    let h = ready f refl in
    (f.span, record { sound = h.sound; shown = shown; among = h.among; here = of_some f.span.place at e; less = h.less }, refl)

none_taken : (r : Root) (o : Option Found) → found_start o ≡ None → taken_from o r ≡ record { root = r; title = None }
none_taken r None e = refl
none_taken r (Some f) e = absurd (not_some f.span.place (sym e))

pub takes_are_in_parts : TakesAreInParts
takes_are_in_parts = record {
  found = λ v l class at r sound real e shown.
      taken_at v l at r (span_for class r) (λ f is. found_ready class r f sound real is) e shown;
  none = λ class r e. none_taken r (span_for class r) e;
}
