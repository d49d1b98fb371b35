-- The span in which a slot lies, by a binary search over spans in order.
use Rattle.std.proofs.Common.{◌≡◌, ◌∙◌, ap, get_or, ℕ, zero, suc, ◌+◌, ◌<◌, ◌≤◌, Bool, true, false, List, [], ◌∷◌, refl, sym, subst, arith, ◌⊎◌, inl, inr, Some, None}
use Rattle.std.specs.Prelude.{AllPairs, slice_get, find}
use Rattle.std.proofs.lemmas.Bool.{cases_Bool, both_ways, and_parts, or_cases, or_left, or_right, and_from, eqb-true, eq-eqb, leb-true, ltb-true, lt-ltb, cases_lt}
use Rattle.std.proofs.lemmas.Option.{slice_get_within, get_or_from_slice_get}
use Rattle.pa_slot.specs.declared.word.SlotName.{SlotName}
use Rattle.pa_record.specs.Spans.{Span, bytes_of, holds}
use Rattle.pa_lists.proofs.Members.{of_some, not_some}
use Rattle.pa_place.specs.Order.{IsBefore, starts_after, IsCut}

-- two members by their places
pub pairs_at : {A : Type 0} (R : A → A → Type 0) (xs : List A) (i j : ℕ) (x y : A) → AllPairs R xs → i < j → slice_get xs i ≡ Some x →
    slice_get xs j ≡ Some y → R x y
pairs_at R xs i j x y h less e f =
    let at = h i j x less (slice_get_within xs j y f) in
    let left = subst (λ z. R z (get_or xs j x)) (get_or_from_slice_get xs i x x e) at in
    subst (λ z. R x z) (get_or_from_slice_get xs j y x f) left

-- what stands first is found
pub find_first : {A : Type 0} (test : A → Bool) (xs : List A) (k : ℕ) (x : A) → slice_get xs k ≡ Some x → test x ≡ true →
    ((i : ℕ) (y : A) → i < k → slice_get xs i ≡ Some y → test y ≡ false) →
    find test xs ≡ Some x
find_first test [] k x e hit h = absurd (not_some x e)
find_first test (z ∷ xs) zero x e hit h = let f = of_some z x e in rw f (rw hit refl)
find_first test (z ∷ xs) (suc k) x e hit h =
    let miss : test z ≡ false = h 0 z (omega arith) refl in
    rw miss (find_first test xs k x e hit (λ i y less f. h (suc i) y (omega arith) f))

pub find_nothing : {A : Type 0} (test : A → Bool) (xs : List A) → ((i : ℕ) (y : A) → slice_get xs i ≡ Some y → test y ≡ false) →
    find test xs ≡ None
find_nothing test [] h = refl
find_nothing test (z ∷ xs) h = let miss : test z ≡ false = h 0 z refl in rw miss (find_nothing test xs (λ i y f. h (suc i) y f))

-- what a test says
after_tells : (name : SlotName) (s : Span) → starts_after name s ≡ true → (name.born < s.born) ⊎
    ((name.born ≡ s.born) × (name.start < s.place))
after_tells name s h = elim (or_cases _ _ h) [
  | inl later ↦ inl (ltb-true _ _ later)
  | inr same ↦ let (p, q) = and_parts _ _ same in inr (eqb-true _ _ p, ltb-true _ _ q)
]

after_from : (name : SlotName) (s : Span) → ((name.born < s.born) ⊎ ((name.born ≡ s.born) × (name.start < s.place))) →
    starts_after name s ≡ true
after_from name s (inl later) = or_left _ _ (lt-ltb _ _ later)
after_from name s (inr (same, less)) = or_right _ _ (and_from _ _ (eq-eqb _ _ same) (lt-ltb _ _ less))

record IsHeld (name : SlotName) (s : Span) : Type 0 where
  born : s.born ≡ name.born
  from : s.place ≤ name.start
  to : name.start < s.place + bytes_of s

held_tells : (name : SlotName) (s : Span) → holds name s ≡ true → IsHeld name s
held_tells name s h =
    let (p, q) = and_parts _ _ h in
    let (l, u) = and_parts _ _ q in
    record { born = eqb-true _ _ p; from = leb-true _ _ l; to = ltb-true _ _ u }

-- a span that starts after the slot doesn't hold it
after_misses : (name : SlotName) (s : Span) → starts_after name s ≡ true → holds name s ≡ false
after_misses name s h = elim (cases_Bool (holds name s)) [
  | inr miss ↦ miss
  | inl hit ↦
      let k = held_tells name s hit in
      let a = k.born in let b = k.from in
      elim (after_tells name s h) [
        | inl later ↦ absurd (omega arith)
        | inr same ↦ absurd (let p = same.1 in omega arith)
      ]
]

-- nor does one before another that doesn't start after it
before_misses : (name : SlotName) (u v : Span) → IsBefore u v → starts_after name v ≡ false → holds name u ≡ false
before_misses name u v before not_after = elim (cases_Bool (holds name u)) [
  | inr miss ↦ miss
  | inl hit ↦
      let k = held_tells name u hit in
      let a = k.born in let b = k.from in let c = k.to in
      elim before [
        | inl sooner ↦ absurd (both_ways _ not_after (after_from name v (inl (omega arith))))
        | inr same ↦
            let p = same.0 in let q = same.1 in
            absurd (both_ways _ not_after (after_from name v (inr (omega arith, omega arith))))
      ]
]

-- a span that holds a slot doesn't start after it, and a search of ordered spans for the slot finds that span
held_not_after : (name : SlotName) (v : Span) → holds name v ≡ true → starts_after name v ≡ false
held_not_after name v hit = elim (cases_Bool (starts_after name v)) [
  | inl after ↦ absurd (both_ways _ (after_misses name v after) hit)
  | inr not_after ↦ not_after
]

pub held_found : (name : SlotName) (ss : List Span) (at : ℕ) (v : Span) → AllPairs IsBefore ss → slice_get ss at ≡ Some v →
    holds name v ≡ true → find (holds name) ss ≡ Some v
held_found name ss at v order e hit =
    find_first (holds name) ss at v e hit
    (λ i y less f. before_misses name y v (pairs_at IsBefore ss i at y v order less f e) (held_not_after name v hit))

-- if the last span that doesn't start after a slot doesn't hold the slot, a search of the ordered spans finds none
pub none_held : (name : SlotName) (ss : List Span) (at : ℕ) (v : Span) → AllPairs IsBefore ss → IsCut name ss (at + 1) →
    slice_get ss at ≡ Some v → holds name v ≡ false →
    find (holds name) ss ≡ None
none_held name ss at v order cut e miss = find_nothing (holds name) ss (λ i y f. elim (order_of i at) [
  | inl less ↦ before_misses name y v (pairs_at IsBefore ss i at y v order less f e) (cut.before at v (omega arith) e)
  | inr (inl same) ↦ subst (λ z. holds name z ≡ false) (of_some v y (sym e ∙ sym (ap (slice_get ss) same) ∙ f)) miss
  | inr (inr more) ↦ after_misses name y (cut.after i y (omega arith) f)
])
  where
    order_of : (i j : ℕ) → (i < j) ⊎ ((i ≡ j) ⊎ (j < i))
    order_of i j = elim (cases_lt i j) [
      | inl less ↦ inl less
      | inr more ↦ elim (cases_lt j i) [ inl less ↦ inr (inr less) | inr more' ↦ inr (inl (omega arith)) ]
    ]

pub none_before : (name : SlotName) (ss : List Span) → IsCut name ss 0 → find (holds name) ss ≡ None
none_before name ss cut = find_nothing (holds name) ss (λ i y f. after_misses name y (cut.after i y (omega arith) f))

-- a step of the search
pub after_stays : (name : SlotName) (s t : Span) → IsBefore s t → starts_after name s ≡ true → starts_after name t ≡ true
after_stays name s t (inl sooner) h = after_from name t (elim (after_tells name s h) [
  | inl later ↦ inl (omega arith)
  | inr same ↦ inl (let p = same.0 in omega arith)
])
after_stays name s t (inr (same, less)) h = after_from name t (elim (after_tells name s h) [
  | inl later ↦ inl (omega arith)
  | inr here ↦ inr (let p = here.0 in omega arith, let q = here.1 in omega arith)
])

pub not_after_stays : (name : SlotName) (s t : Span) → IsBefore s t → starts_after name t ≡ false → starts_after name s ≡ false
not_after_stays name s t before h = elim (cases_Bool (starts_after name s)) [
  | inl after ↦ absurd (both_ways _ h (after_stays name s t before after))
  | inr not_after ↦ not_after
]

pub cut_from : (name : SlotName) (ss : List Span) (m : ℕ) (v : Span) → AllPairs IsBefore ss → slice_get ss m ≡ Some v →
    starts_after name v ≡ true →
    (i : ℕ) (s : Span) → m ≤ i → slice_get ss i ≡ Some s → starts_after name s ≡ true
cut_from name ss m v order e hit i s more f = elim (cases_lt m i) [
  | inl less ↦ after_stays name v s (pairs_at IsBefore ss m i v s order less e f) hit
  | inr no_less ↦
      let same : m ≡ i = omega arith in
      subst (λ z. starts_after name z ≡ true) (of_some v s (sym e ∙ ap (slice_get ss) same ∙ f)) hit
]

pub cut_to : (name : SlotName) (ss : List Span) (m : ℕ) (v : Span) → AllPairs IsBefore ss → slice_get ss m ≡ Some v →
    starts_after name v ≡ false →
    (i : ℕ) (s : Span) → i < m + 1 → slice_get ss i ≡ Some s → starts_after name s ≡ false
cut_to name ss m v order e miss i s less f = elim (cases_lt i m) [
  | inl below ↦ not_after_stays name s v (pairs_at IsBefore ss i m s v order below f e) miss
  | inr no_below ↦
      let same : m ≡ i = omega arith in
      subst (λ z. starts_after name z ≡ false) (of_some v s (sym e ∙ ap (slice_get ss) same ∙ f)) miss
]
