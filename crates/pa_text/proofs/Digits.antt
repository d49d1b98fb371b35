-- Numbers that have one to five digits.
use Rattle.std.proofs.Common.{◌≡◌, ℕ, ◌+◌, ◌/◌, ◌%◌, ◌<◌, ◌≤◌, [], ◌∷◌, ◌++◌, List, ap, ◌∙◌, arith}
use Rattle.std.specs.Fmt.{decimal}
use Rattle.std.proofs.lemmas.Fmt.{decimal_digit, decimal_step}

pub one : (n : ℕ) → n < 10 → decimal n ≡ (48 + n % 10) ∷ []
one n less = decimal_digit n less ∙ ap (λ d. (48 + d) ∷ []) (omega arith)

-- the last digit comes after those of a tenth of the number
digit_more : (n : ℕ) (ds : List ℕ) → 10 ≤ n → n < 100000 → decimal (n / 10) ≡ ds → decimal n ≡ ds ++ (48 + n % 10) ∷ []
digit_more n ds more few e = decimal_step n more (omega arith) ∙ ap (λ xs. xs ++ (48 + n % 10) ∷ []) e

pub two : (n : ℕ) → 10 ≤ n → n < 100 → decimal n ≡ (48 + n / 10 % 10) ∷ (48 + n % 10) ∷ []
two n more few = digit_more n ((48 + n / 10 % 10) ∷ []) more (omega arith) (one (n / 10) (omega arith))

pub three : (n : ℕ) → 100 ≤ n → n < 1000 → decimal n ≡ (48 + n / 100 % 10) ∷ (48 + n / 10 % 10) ∷ (48 + n % 10) ∷ []
three n more few =
    let a : n / 100 ≡ n / 10 / 10 = omega arith in
    rw a (digit_more n ((48 + n / 10 / 10 % 10) ∷ (48 + n / 10 % 10) ∷ []) (omega arith) (omega arith)
    (two (n / 10) (omega arith) (omega arith)))

pub four : (n : ℕ) → 1000 ≤ n → n < 10000 →
    decimal n ≡ (48 + n / 1000 % 10) ∷ (48 + n / 100 % 10) ∷ (48 + n / 10 % 10) ∷ (48 + n % 10) ∷ []
four n more few =
    let a : n / 100 ≡ n / 10 / 10 = omega arith in
    let b : n / 1000 ≡ n / 10 / 100 = omega arith in
    rw (a, b) (digit_more n ((48 + n / 10 / 100 % 10) ∷ (48 + n / 10 / 10 % 10) ∷ (48 + n / 10 % 10) ∷ []) (omega arith) (omega arith)
    (three (n / 10) (omega arith) (omega arith)))

pub five : (n : ℕ) → 10000 ≤ n → n < 100000 →
    decimal n ≡ (48 + n / 10000 % 10) ∷ (48 + n / 1000 % 10) ∷ (48 + n / 100 % 10) ∷ (48 + n / 10 % 10) ∷ (48 + n % 10) ∷ []
five n more few =
    let a : n / 100 ≡ n / 10 / 10 = omega arith in
    let b : n / 1000 ≡ n / 10 / 100 = omega arith in
    let d : n / 10000 ≡ n / 10 / 1000 = omega arith in
    rw (a, b, d)
    (digit_more n ((48 + n / 10 / 1000 % 10) ∷ (48 + n / 10 / 100 % 10) ∷ (48 + n / 10 / 10 % 10) ∷ (48 + n / 10 % 10) ∷ []) (omega arith)
    (omega arith)
    (four (n / 10) (omega arith) (omega arith)))
