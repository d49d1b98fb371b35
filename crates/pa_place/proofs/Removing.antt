-- A member of a list that is removed at the place of the first that passes a test.
use Rattle.std.proofs.Common.{◌≡◌, ◌∙◌, ℕ, zero, suc, ◌+◌, ◌<◌, Bool, true, false, cond, List, [], ◌∷◌, eqb, ◌&&◌, refl, sym, ap, subst, arith, inl, inr, Some, None}
use Rattle.std.specs.Prelude.{Contains, position, remove}
use Rattle.std.specs.List.{position_from}
use Rattle.std.proofs.lemmas.Bool.{cases_Bool, and_parts, and_from, eqb-true, eq-eqb}
use Rattle.std.proofs.lemmas.Iterator.Adapters.{position_from-zero}
use Rattle.pa_slot.specs.declared.title.Title.{Title}
use Rattle.pa_slot.specs.declared.word.SlotName.{SlotName}
use Rattle.pa_record.specs.Spans.{name_of}
use Rattle.pa_record.specs.Root.{without_map}
use Rattle.pa_lists.proofs.Members.{not_in_none, in_cases, of_some, not_some}

-- the list without the first that passes
abbrev pub without_first : {A : Type 0} → (A → Bool) → List A → List A
without_first test [] = []
without_first test (x ∷ xs) = cond (test x) xs (x ∷ without_first test xs)

later_places : {A : Type 0} (test : A → Bool) (n k : ℕ) (xs : List A) → k < n → position_from test n xs ≡ Some k → ⊥
later_places test n k [] less e = not_some k e
later_places test n k (x ∷ xs) less e = elim (cases_Bool (test x)) [
  | inl hit ↦ let same = of_some n k (rw hit at e) in omega arith
  | inr miss ↦ later_places test (n + 1) k xs (omega arith) (rw miss at e)
]

removed_from : {A : Type 0} (test : A → Bool) (n k : ℕ) (xs : List A) → position_from test n xs ≡ Some (n + k) →
    remove xs k ≡ without_first test xs
removed_from test n k [] e = absurd (not_some (n + k) e)
removed_from test n zero (x ∷ xs) e = elim (cases_Bool (test x)) [
  | inl hit ↦ rw hit refl
  | inr miss ↦ absurd (later_places test (n + 1) (n + 0) xs (omega arith) (rw miss at e))
]
removed_from test n (suc k) (x ∷ xs) e = elim (cases_Bool (test x)) [
  | inl hit ↦ let same = of_some n (n + suc k) (rw hit at e) in absurd (omega arith)
  | inr miss ↦
      let f : n + suc k ≡ n + 1 + k = omega arith in
      rw miss (ap (λ ys. x ∷ ys) (removed_from test (n + 1) k xs (subst (λ i. position_from test (n + 1) xs ≡ Some i) f (rw miss at e))))
]

pub removed_first : {A : Type 0} (test : A → Bool) (k : ℕ) (xs : List A) → position test xs ≡ Some k → remove xs k ≡ without_first test xs
removed_first test k xs e =
    let f : k ≡ 0 + k = omega arith in
    let g : position_from test 0 xs ≡ Some k = sym (position_from-zero test xs) ∙ e in
    removed_from test 0 k xs (subst (λ i. position_from test 0 xs ≡ Some i) f g)

none_from : {A : Type 0} (test : A → Bool) (n : ℕ) (xs : List A) → position_from test n xs ≡ None → xs ≡ without_first test xs
none_from test n [] e = refl
none_from test n (x ∷ xs) e = elim (cases_Bool (test x)) [
  | inl hit ↦ absurd (not_some n (sym (rw hit at e)))
  | inr miss ↦ rw miss (ap (λ ys. x ∷ ys) (none_from test (n + 1) xs (rw miss at e)))
]

pub none_removed_first : {A : Type 0} (test : A → Bool) (xs : List A) → position test xs ≡ None → xs ≡ without_first test xs
none_removed_first test xs e = none_from test 0 xs (sym (position_from-zero test xs) ∙ e)

-- the direct map of a name
abbrev pub is_named : SlotName → Title → Bool
is_named name t = eqb t.start name.start && eqb t.born name.born

pub without_map_is : (name : SlotName) (ts : List Title) → without_first (is_named name) ts ≡ without_map name ts
without_map_is name [] = refl
without_map_is name (t ∷ ts) = elim (cases_Bool (is_named name t)) [
  | inl hit ↦ rw hit refl
  | inr miss ↦ rw miss (ap (λ xs. t ∷ xs) (without_map_is name ts))
]

-- a member by its place, and none if none passes
none_passes_from : {A : Type 0} (test : A → Bool) (n : ℕ) (xs : List A) (x : A) → position_from test n xs ≡ None → Contains xs x →
    test x ≡ false
none_passes_from test n [] x e among = absurd (not_in_none x among)
none_passes_from test n (y ∷ xs) x e among = elim (cases_Bool (test y)) [
  | inl hit ↦ absurd (not_some n (sym (rw hit at e)))
  | inr miss ↦ elim (in_cases y x xs among) [
    | inl same ↦ subst (λ z. test z ≡ false) same miss
    | inr rest ↦ none_passes_from test (n + 1) xs x (rw miss at e) rest
  ]
]

pub none_passes : {A : Type 0} (test : A → Bool) (xs : List A) (x : A) → position test xs ≡ None → Contains xs x → test x ≡ false
none_passes test xs x e among = none_passes_from test 0 xs x (sym (position_from-zero test xs) ∙ e) among

pub named_tells : (name : SlotName) (t : Title) → is_named name t ≡ true → name_of t ≡ name
named_tells name t h =
    let (p, q) = and_parts _ _ h in
    named t.start name.start t.born name.born (eqb-true _ _ p) (eqb-true _ _ q)
  where
    named : (s u b d : ℕ) → s ≡ u → b ≡ d →
        (let x : SlotName = record { start = s; born = b } in let y : SlotName = record { start = u; born = d } in x ≡ y)
    named s u b d e f = rw (e, f) refl

pub named_from : (name : SlotName) (t : Title) → name_of t ≡ name → is_named name t ≡ true
named_from name t e = and_from _ _ (eq-eqb _ _ (ap (λ (x : SlotName). x.start) e)) (eq-eqb _ _ (ap (λ (x : SlotName). x.born) e))
