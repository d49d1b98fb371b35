-- Sums over places of which some have a span, and sums over the spans.
use Rattle.std.proofs.Common.{◌≡◌, ◌≢◌, ◌⊎◌, ℕ, zero, suc, ◌+◌, inl, inr, Bool, ◌==◌, if◌then◌else◌, List, map, [], ◌∷◌, ◌++◌, refl, sym, ◌∙◌, ap, arith}
use Rattle.std.specs.Prelude.{AllPairs, Contains, sum_by}
use Rattle.std.proofs.lemmas.Bool.Decides.{eqb_tells}
use Rattle.std.proofs.lemmas.List.Sums.{sum_by-cons}
use Rattle.pa_lists.proofs.Joined.{map_in}
use Rattle.pa_lists.proofs.Members.{not_in_none, first_in, later_in, in_cases}
use Rattle.pa_lists.proofs.Pairs.{pairs_head, pairs_tail}
use Rattle.pa_lists.specs.Numbers.{numbers}

-- sums of what is equal at each member
pub sum_alike : {A : Type 0} (f g : A → ℕ) (xs : List A) → ((x : A) → Contains xs x → f x ≡ g x) → sum_by f xs ≡ sum_by g xs
sum_alike f g [] same = refl
sum_alike f g (x ∷ xs) same =
    let rest = sum_alike f g xs (λ y among. same y (later_in x y xs among)) in
    let here = same x (first_in x xs) in
    let a = sum_by-cons f x xs in let b = sum_by-cons g x xs in
    omega arith

pub sum_none : {A : Type 0} (f : A → ℕ) (xs : List A) → ((x : A) → Contains xs x → f x ≡ 0) → sum_by f xs ≡ 0
sum_none f [] none = refl
sum_none f (x ∷ xs) none =
    let rest = sum_none f xs (λ y among. none y (later_in x y xs among)) in
    let here = none x (first_in x xs) in
    let a = sum_by-cons f x xs in
    omega arith

-- a function but at one place
abbrev pub but_at : ℕ → (ℕ → ℕ) → ℕ → ℕ
but_at p h q = if q == p then 0 else h q

pub but_there : (p : ℕ) (h : ℕ → ℕ) (q : ℕ) → q ≡ p → but_at p h q ≡ 0
but_there p h q e = elim (eqb_tells q p) [
  | inl t ↦ ap (λ (b : Bool). if b then 0 else h q) t.0
  | inr t ↦ absurd (t.1 e)
]

pub but_else : (p : ℕ) (h : ℕ → ℕ) (q : ℕ) → q ≢ p → but_at p h q ≡ h q
but_else p h q other = elim (eqb_tells q p) [
  | inl t ↦ absurd (other t.1)
  | inr t ↦ ap (λ (b : Bool). if b then 0 else h q) t.0
]

sum_but : (h : ℕ → ℕ) (ps : List ℕ) (p : ℕ) → AllPairs ◌≢◌ ps → Contains ps p → sum_by h ps ≡ h p + sum_by (but_at p h) ps
sum_but h [] p once among = absurd (not_in_none p among)
sum_but h (x ∷ xs) p once among =
    let a = sum_by-cons h x xs in let b = sum_by-cons (but_at p h) x xs in
    elim (in_cases x p xs among) [
      | inl e ↦
          let here : h x ≡ h p = ap h e in
          let none = but_there p h x e in
          let rest = sum_alike (but_at p h) h xs (λ q inside. but_else p h q
          (λ same. pairs_head ◌≢◌ x q xs once inside (e ∙ sym same))) in
          omega arith
      | inr later ↦
          let here = but_else p h x (pairs_head ◌≢◌ x p xs once later) in
          let rest = sum_but h xs p (pairs_tail ◌≢◌ x xs once) later in
          omega arith
    ]

-- Each member of the second list is in a place of the first of its own, and its number is there. Other places have 0.
pub record ArePlaced {S : Type 0} (place : S → ℕ) (g : S → ℕ) (h : ℕ → ℕ) (ps : List ℕ) (ss : List S) : Type 0 where
  pub once : AllPairs ◌≢◌ ps
  pub apart : AllPairs ◌≢◌ (map place ss)
  pub here : (s : S) → Contains ss s → Contains ps (place s) × (h (place s) ≡ g s)
  pub each : (p : ℕ) → Contains ps p → (h p ≡ 0) ⊎ ((s : S) × Contains ss s × (place s ≡ p))

-- sums over members and over their places are equal
pub sums_placed : {S : Type 0} (place : S → ℕ) (g : S → ℕ) (h : ℕ → ℕ) (ps : List ℕ) (ss : List S) → ArePlaced place g h ps ss →
    sum_by h ps ≡ sum_by g ss
sums_placed place g h ps [] are = sum_none h ps (λ p among. elim (are.each p among) [
  | inl none ↦ none
  | inr some ↦ let (s, inside, is) = some in absurd (not_in_none s inside)
])
sums_placed {S} place g h ps (s ∷ ss) are =
    let first = are.here s (first_in s ss) in
    let far : (t : S) → Contains ss t → place t ≢ place s = λ t among same.
    pairs_head ◌≢◌ (place s) (place t) (map place ss) are.apart (map_in place ss t among) (sym same) in
    let rest = sums_placed place g (but_at (place s) h) ps ss (record {
      once = are.once;
      apart = pairs_tail ◌≢◌ (place s) (map place ss) are.apart;
      here = λ t among. let old = are.here t (later_in s t ss among) in (old.0, but_else (place s) h (place t) (far t among) ∙ old.1);
      each = λ p among. elim (eqb_tells p (place s)) [
        | inl t ↦ inl (but_there (place s) h p t.1)
        | inr t ↦ elim (are.each p among) [
          | inl none ↦ inl (but_else (place s) h p t.1 ∙ none)
          | inr some ↦ let (z, inside, is) = some in elim (in_cases s z ss inside) [
            | inl e ↦ absurd (t.1 (sym is ∙ sym (ap place e)))
            | inr later ↦ inr (z, later, is)
          ]
        ]
      ];
    }) in
    let split = sum_but h ps (place s) are.once first.0 in
    let a = sum_by-cons g s ss in
    let here = first.1 in
    omega arith

-- numbers in a row, in two parts
pub numbers_parts : (from a b : ℕ) → numbers from (a + b) ≡ numbers from a ++ numbers (from + a) b
numbers_parts from zero b =
    let e : 0 + b ≡ b = omega arith in
    let f : from ≡ from + 0 = omega arith in
    ap (numbers from) e ∙ ap (λ n. numbers n b) f
numbers_parts from (suc a) b =
    let e : suc a + b ≡ suc (a + b) = omega arith in
    let f : from + 1 + a ≡ from + suc a = omega arith in
    ap (λ n. numbers from n) e
    ∙ (ap (λ (ns : List ℕ). from ∷ ns) (numbers_parts (from + 1) a b) ∙ ap (λ n. from ∷ numbers (from + 1) a ++ numbers n b) f)
