-- Where the first slot stands of a fill that asked the pool: at the first payload page of the super page that it got.
use Rattle.std.proofs.Common.{◌≡◌, ℕ, zero, suc, ◌+◌, ◌-◌, ◌*◌, true, false, List, [], ◌∷◌, get_or, Option, Some, None, refl, ap, subst, arith, inl, inr}
use Rattle.std.specs.Prelude.{nat_le, IsNone}
use Rattle.std.proofs.lemmas.Bool.{cases_Bool}
use Rattle.pa_slot.specs.declared.title.Title.{Title}
use Rattle.pa_layout.specs.Pages.{page_place, super_page_at}
use Rattle.pa_buckets.specs.Table.{pages_of, slot_of}
use Rattle.pa_record.specs.declared.taken.SuperPage.{SuperPage}
use Rattle.pa_record.specs.Spans.{Span, title_at, more_slots, with_free, listed}
use Rattle.pa_record.specs.Root.{Root, Filled, new_span, at_page, found_or_new, span_for, front_taken, taken_from, one_take, and_then, takes, opened}
use Rattle.pa_lists.proofs.Members.{not_some, of_some}
use Rattle.pa_record.proofs.Filling.{opened_current}
use Rattle.pa_lists.specs.Numbers.{numbers}

pub not_cons : {A : Type 0} (x : A) (xs : List A) → [] ≡ x ∷ xs → ⊥
not_cons x xs e = cc

-- the first of several slots is that of the first take
first_took : (r : Root) (o : Option Title) (further : Root → Filled) (t : Title) (ts : List Title) →
    (and_then (record { root = r; title = o }) further).titles ≡ t ∷ ts → o ≡ Some t
first_took r None further t ts e = absurd (not_cons t ts e)
first_took r (Some u) further t ts e = ap Some (ap (λ zs. get_or zs 0 u) e)

-- the front of a span that was provisioned from its start on
front_start : (k : ℕ) (s : Span) (r : Root) (t : Title) → (front_taken (numbers 0 k) s r).title ≡ Some t → t.start ≡ s.place
front_start zero s r t e = absurd (not_some t e)
front_start (suc k) s r t e =
    let at : s.place + slot_of s.class * 0 ≡ t.start = ap (λ (z : Title). z.start) (of_some (title_at s 0) t e) in
    omega arith

new_start : (class : ℕ) (r : Root) (at : SuperPage) (t : Title) → (taken_from (at_page class r (Some at)) r).title ≡ Some t →
    t.start ≡ page_place at.number r.page
new_start class r at t e = elim (cases_Bool (nat_le (r.page + pages_of class) 127)) [
  | inl room ↦ front_start (more_slots (new_span class at r.page) - 0) (with_free (new_span class at r.page)) _ t (rw room at e)
  | inr full ↦ absurd (not_some t (rw full at e))
]

none_listed : (class : ℕ) (r : Root) (o : Option Span) → IsNone (found_or_new class r o) → o ≡ None
none_listed class r None none = refl
none_listed class r (Some s) none = let no : true ≡ false = none in absurd cc

pub first_start : (class want first entry : ℕ) (r : Root) (t : Title) (ts : List Title) → IsNone (span_for class r) →
    (takes class want (opened first entry r)).titles ≡ t ∷ ts →
    t.start ≡ page_place first 1
first_start class zero first entry r t ts none e = absurd (not_cons t ts e)
first_start class (suc want) first entry r t ts none e =
    let new = opened first entry r in
    let took = first_took (one_take class new).root (one_take class new).title (takes class want) t ts e in
    let listed_none : listed class r.spans ≡ None = none_listed class r (listed class r.spans) none in
    let fresh : (taken_from (at_page class new (Some (record { number = first; born = entry }))) new).title ≡ Some t =
    subst (λ o. (taken_from (at_page class new o) new).title ≡ Some t) (opened_current first entry r)
    (subst (λ o. (taken_from (found_or_new class new o) new).title ≡ Some t) listed_none took) in
    new_start class new (record { number = first; born = entry }) t fresh

pub page_super : (first : ℕ) → super_page_at (page_place first 1) ≡ first
page_super first = omega arith
