-- A span in place of another in a list.
use Rattle.std.proofs.Common.{◌≡◌, ℕ, ◌+◌, true, false, List, [], ◌∷◌, refl, sym, ◌∙◌, ap, subst, arith, ◌⊎◌, inl, inr}
use Rattle.std.specs.Prelude.{Contains, AllPairs, sum_by}
use Rattle.std.proofs.lemmas.Bool.{cases_Bool, and_parts, and_from, eqb-true, eq-eqb, both_ways}
use Rattle.std.proofs.lemmas.List.Sums.{sum_by-cons}
use Rattle.pa_record.specs.Spans.{Span, same_place, put}
use Rattle.pa_lists.proofs.Members.{not_in_none, first_in, later_in, in_cases}
use Rattle.pa_lists.proofs.Pairs.{pairs_cons, pairs_tail, pairs_head}

-- the spans are in different places
abbrev pub IsElsewhere : Span → Span → Type 0
IsElsewhere s t = same_place s t ≡ false

pub place_tells : (s t : Span) → same_place s t ≡ true → (s.place ≡ t.place) × (s.born ≡ t.born)
place_tells s t h = let (p, q) = and_parts _ _ h in (eqb-true _ _ p, eqb-true _ _ q)

pub place_from : (s t : Span) → s.place ≡ t.place → s.born ≡ t.born → same_place s t ≡ true
place_from s t p q = and_from _ _ (eq-eqb _ _ p) (eq-eqb _ _ q)

pub place_self : (s : Span) → same_place s s ≡ true
place_self s = place_from s s refl refl

pub place_sym : (s t : Span) → same_place s t ≡ true → same_place t s ≡ true
place_sym s t h = let (p, q) = place_tells s t h in place_from t s (sym p) (sym q)

pub place_trans : (s t u : Span) → same_place s t ≡ true → same_place t u ≡ true → same_place s u ≡ true
place_trans s t u h k =
    let (p, q) = place_tells s t h in
    let (p', q') = place_tells t u k in
    place_from s u (p ∙ p') (q ∙ q')

-- a span elsewhere than one is elsewhere than a span in the same place
pub elsewhere : (s t u : Span) → same_place s t ≡ true → same_place t u ≡ false → same_place s u ≡ false
elsewhere s t u h k = elim (cases_Bool (same_place s u)) [
  | inl same ↦ absurd (both_ways _ k (place_trans t s u (place_sym s t h) same))
  | inr other ↦ other
]

pub elsewhere_sym : (s t : Span) → same_place s t ≡ false → same_place t s ≡ false
elsewhere_sym s t k = elim (cases_Bool (same_place t s)) [
  | inl same ↦ absurd (both_ways _ k (place_sym t s same))
  | inr other ↦ other
]

-- who is in the list after it: s, or who was there elsewhere
pub put_cases : (s u : Span) (ts : List Span) → AllPairs IsElsewhere ts → Contains (put s ts) u → (u ≡ s) ⊎
    (Contains ts u × (same_place u s ≡ false))
put_cases s u [] h among = absurd (not_in_none u among)
put_cases s u (t ∷ ts) h among = elim (cases_Bool (same_place t s)) [
  | inl same ↦ elim (in_cases s u ts (rw same at among)) [
    | inl e ↦ inl (sym e)
    | inr rest ↦
        let far : same_place t u ≡ false = pairs_head IsElsewhere t u ts h rest in
        inr (later_in t u ts rest, elsewhere_sym s u (elsewhere s t u (place_sym t s same) far))
  ]
  | inr other ↦ elim (in_cases t u (put s ts) (rw other at among)) [
    | inl e ↦ inr (subst (λ z. Contains (t ∷ ts) z) e (first_in t ts), subst (λ z. same_place z s ≡ false) e other)
    | inr rest ↦ elim (put_cases s u ts (pairs_tail IsElsewhere t ts h) rest) [
      | inl e ↦ inl e
      | inr (old, far) ↦ inr (later_in t u ts old, far)
    ]
  ]
]

-- a span that was elsewhere stays
pub put_keeps : (s u : Span) (ts : List Span) → Contains ts u → same_place u s ≡ false → Contains (put s ts) u
put_keeps s u [] among far = absurd (not_in_none u among)
put_keeps s u (t ∷ ts) among far = elim (cases_Bool (same_place t s)) [
  | inl same ↦ elim (in_cases t u ts among) [
    | inl e ↦ absurd (both_ways _ far (subst (λ z. same_place z s ≡ true) e same))
    | inr rest ↦ rw same (later_in s u ts rest)
  ]
  | inr other ↦ elim (in_cases t u ts among) [
    | inl e ↦ rw other (subst (λ z. Contains (t ∷ put s ts) z) e (first_in t (put s ts)))
    | inr rest ↦ rw other (later_in t u (put s ts) (put_keeps s u ts rest far))
  ]
]

-- if a span was in the place of s, s is there
pub put_there : (s t : Span) (ts : List Span) → Contains ts t → same_place t s ≡ true → Contains (put s ts) s
put_there s t [] among same = absurd (not_in_none t among)
put_there s t (u ∷ ts) among same = elim (cases_Bool (same_place u s)) [
  | inl here ↦ rw here (first_in s ts)
  | inr other ↦ elim (in_cases u t ts among) [
    | inl e ↦ absurd (both_ways _ other (subst (λ z. same_place z s ≡ true) (sym e) same))
    | inr rest ↦ rw other (later_in u s (put s ts) (put_there s t ts rest same))
  ]
]

-- the places stay different
pub put_elsewhere : (s : Span) (ts : List Span) → AllPairs IsElsewhere ts → AllPairs IsElsewhere (put s ts)
put_elsewhere s [] h = h
put_elsewhere s (t ∷ ts) h = elim (cases_Bool (same_place t s)) [
  | inl same ↦ rw same
      (pairs_cons IsElsewhere s ts
      (λ u among. elsewhere s t u (place_sym t s same) (pairs_head IsElsewhere t u ts h among))
      (pairs_tail IsElsewhere t ts h))
  | inr other ↦ rw other
      (pairs_cons IsElsewhere t (put s ts)
      (λ u among. elim (put_cases s u ts (pairs_tail IsElsewhere t ts h) among) [
        | inl e ↦ subst (λ z. same_place t z ≡ false) (sym e) other
        | inr (old, far) ↦ pairs_head IsElsewhere t u ts h old
      ])
      (put_elsewhere s ts (pairs_tail IsElsewhere t ts h)))
]

-- one place has one span
pub one_span : (s t : Span) (ts : List Span) → AllPairs IsElsewhere ts → Contains ts s → Contains ts t → same_place s t ≡ true → s ≡ t
one_span s t [] h first second same = absurd (not_in_none s first)
one_span s t (u ∷ ts) h first second same = elim (in_cases u s ts first) [
  | inl e ↦ elim (in_cases u t ts second) [
    | inl f ↦ sym e ∙ f
    | inr rest ↦ absurd (both_ways _ (subst (λ z. same_place z t ≡ false) e (pairs_head IsElsewhere u t ts h rest)) same)
  ]
  | inr before ↦ elim (in_cases u t ts second) [
    | inl f ↦ absurd (both_ways _ (subst (λ z. same_place z s ≡ false) f (pairs_head IsElsewhere u s ts h before)) (place_sym s t same))
    | inr rest ↦ one_span s t ts (pairs_tail IsElsewhere u ts h) before rest same
  ]
]

-- a sum over the list loses what t counted and gains what s counts
pub put_sum : (f : Span → ℕ) (s t : Span) (ts : List Span) → AllPairs IsElsewhere ts → Contains ts t → same_place t s ≡ true →
    sum_by f (put s ts) + f t ≡ sum_by f ts + f s
put_sum f s t [] h among same = absurd (not_in_none t among)
put_sum f s t (u ∷ ts) h among same = elim (cases_Bool (same_place u s)) [
  | inl here ↦
      let e : u ≡ t = one_span u t (u ∷ ts) h (first_in u ts) among (place_trans u s t here (place_sym t s same)) in
      let left = sum_by-cons f s ts in
      let right = sum_by-cons f u ts in
      let g : f u ≡ f t = ap f e in
      rw here (omega arith)
  | inr other ↦ elim (in_cases u t ts among) [
    | inl e ↦ absurd (both_ways _ other (subst (λ z. same_place z s ≡ true) (sym e) same))
    | inr rest ↦
        let left = sum_by-cons f u (put s ts) in
        let right = sum_by-cons f u ts in
        let ih = put_sum f s t ts (pairs_tail IsElsewhere u ts h) rest same in
        rw other (omega arith)
  ]
]
