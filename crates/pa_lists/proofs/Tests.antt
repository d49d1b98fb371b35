-- Truth values, and numbers below one more.
use Rattle.std.proofs.Common.{ℕ, inl, inr, arith, subst, ◌≡◌, ◌+◌, ◌<◌, suc, sym, ap, ◌*◌, ◌%◌, ◌∙◌, Bool, true, refl, false, ◌&&◌, Result, Ok, Err}
use Rattle.std.proofs.lemmas.Bool.{cases_lt}
use Rattle.std.proofs.lemmas.Nat.{mul-mod_first}
use Rattle.std.specs.Prelude.{OnOk, Result, IfOk, IfErr, Ok, Err}

-- one place more
pub met_more : (P : ℕ → Type 0) (n : ℕ) → ((j : ℕ) → j < n → P j) → P n → (j : ℕ) → j < n + 1 → P j
met_more P n here at j less = elim (cases_lt j n) [
  | inl below ↦ here j below
  | inr more ↦ let e : n ≡ j = omega arith in subst P e at
]

pub one_more : (t : ℕ) → t + 1 ≡ suc t
one_more t = omega arith

-- a multiple of a number of whole words is of whole words
pub times_whole : (x n : ℕ) → x % 8 ≡ 0 → (x * n) % 8 ≡ 0
times_whole x n e = let none : (0 * n) % 8 ≡ 0 = omega arith in sym (mul-mod_first x n 8) ∙ ap (λ k. (k * n) % 8) e ∙ none

-- if two tests are met together, each of them is
pub both_true : (a b : Bool) → (a && b) ≡ true → (a ≡ true) × (b ≡ true)
both_true true b e = (refl, e)
both_true false b e = absurd cc

-- numbers that aren't one
pub greater_apart : (a b : ℕ) → b < a → a ≡ b → ⊥
greater_apart a b less same = omega arith

pub on_ok : {X E : Type 0} (r : Result X E) (P Q : Type 0) → OnOk r P → (P → Q) → OnOk r Q
on_ok (Ok x) P Q p f = f p
on_ok (Err e) P Q p f = tt

-- what follows of an answer and of an error follows
pub either : {A E : Type 0} (r : Result A E) (P : A → Type 0) (Q : E → Type 0) (T : Type 0) → IfOk r P → IfErr r Q → ((a : A) → P a → T) →
    ((e : E) → Q e → T) → T
either (Ok a) P Q T ok err f g = f a ok
either (Err e) P Q T ok err f g = g e err
