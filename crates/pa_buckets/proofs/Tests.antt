-- A test or an equation that holds of every class because it computes.
use Rattle.std.proofs.Common.{◌≡◌, ℕ, ◌+◌, ◌-◌, ◌<◌, ◌≤◌, Bool, true, eqb, leb, subst, arith}
use Rattle.std.proofs.lemmas.Bool.{agree_below, agree_below_at, eqb-true, leb-true}

-- a test that is true at each number below n
abbrev pub true_below : (ℕ → Bool) → ℕ → Bool
true_below p n = agree_below p (λ _. true) n

pub each_below : (p : ℕ → Bool) (n : ℕ) → true_below p n ≡ true → (k : ℕ) → k < n → p k ≡ true
each_below p n computes k below = agree_below_at p (λ _. true) n k computes below

-- two numbers that are equal at each class
pub equal_below : (f g : ℕ → ℕ) (n : ℕ) → true_below (λ k. eqb (f k) (g k)) n ≡ true → (k : ℕ) → k < n → f k ≡ g k
equal_below f g n computes k below = eqb-true (f k) (g k) (each_below (λ i. eqb (f i) (g i)) n computes k below)

-- a number that is at most another at each class
pub at_most_below : (f g : ℕ → ℕ) (n : ℕ) → true_below (λ k. leb (f k) (g k)) n ≡ true → (k : ℕ) → k < n → f k ≤ g k
at_most_below f g n computes k below = leb-true (f k) (g k) (each_below (λ i. leb (f i) (g i)) n computes k below)

-- two numbers that are equal at each class from one on
pub equal_from : (f g : ℕ → ℕ) (from n : ℕ) → true_below (λ k. eqb (f (k + from)) (g (k + from))) n ≡ true →
    (c : ℕ) → from ≤ c → c < n + from → f c ≡ g c
equal_from f g from n computes c low high =
    let P : ℕ → Type 0 = λ k. f k ≡ g k in
    let back : c - from + from ≡ c = omega arith in
    subst P back (equal_below (λ k. f (k + from)) (λ k. g (k + from)) n computes (c - from) (omega arith))

pub at_most_from : (f g : ℕ → ℕ) (from n : ℕ) → true_below (λ k. leb (f (k + from)) (g (k + from))) n ≡ true →
    (c : ℕ) → from ≤ c → c < n + from → f c ≤ g c
at_most_from f g from n computes c low high =
    let P : ℕ → Type 0 = λ k. f k ≤ g k in
    let back : c - from + from ≡ c = omega arith in
    subst P back (at_most_below (λ k. f (k + from)) (λ k. g (k + from)) n computes (c - from) (omega arith))
