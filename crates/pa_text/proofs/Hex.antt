-- Hexadecimal digits by the crate hex, which writes the bytes of a number with the highest first.
use Rattle.std.proofs.Common.{◌≡◌, ℕ, zero, suc, ◌+◌, ◌*◌, ◌/◌, ◌%◌, ◌^◌, ◌<◌, ◌==◌, Bool, true, ◌&&◌, inl, inr, List, [], ◌∷◌, ◌++◌, slice_index, refl, sym, ap, ◌∙◌, arith}
use Rattle.std.proofs.lemmas.Bool.{and_parts, cases_lt, eqb-true}
use Rattle.std.proofs.Math.Nat.{div-div-eq-div-mul, div-one, pow-suc, pow-succ'}
use Rattle.std.proofs.lemmas.Nat.{mul-pow, pow-add}
use Rattle.std.specs.Int.{w32, w64, bytes_high_first, byte_at, to_be_bytes}
use Rattle.hex.specs.Hex.{encode_lower, encode_with, lower_digits}
use Rattle.pa_text.specs.Hex.{hex, hex_digit}

-- the test whether the first n digits of the crate's table are ours
abbrev all_agree : ℕ → Bool
all_agree zero = true
all_agree (suc n) = (slice_index lower_digits n == hex_digit n) && all_agree n

-- a digit below n that passed the test
agree_at : (n d : ℕ) → all_agree n ≡ true → d < n → slice_index lower_digits d ≡ hex_digit d
agree_at zero d h lt = absurd (omega arith)
agree_at (suc n) d h lt =
    let parts = and_parts (slice_index lower_digits n == hex_digit n) (all_agree n) h in
    elim (cases_lt d n) [
      | inl below ↦ agree_at n d parts.1 below
      | inr top ↦
          let e : d ≡ n = omega arith in
          rw e (eqb-true (slice_index lower_digits n) (hex_digit n) parts.0)
    ]

-- each digit of the crate's table is ours
lower_digit : (d : ℕ) → d < 16 → slice_index lower_digits d ≡ hex_digit d
lower_digit d lt = agree_at 16 d refl lt

-- what is above k digits, without its lowest digit
above_next : (k n : ℕ) → n / 16 ^ suc k ≡ n / 16 ^ k / 16
above_next k n = ap (λ m. n / m) (pow-suc 16 k) ∙ sym (div-div-eq-div-mul n (16 ^ k) 16)

-- dividing by 16 before the other digits are dropped leaves the same
above_first : (k n : ℕ) → n / 16 / 16 ^ k ≡ n / 16 ^ suc k
above_first k n = div-div-eq-div-mul n 16 (16 ^ k) ∙ ap (λ m. n / m) (sym (pow-succ' 16 k))

-- one more digit comes first
hex_front : (k n : ℕ) → hex (suc k) n ≡ hex_digit (n / 16 ^ k % 16) ∷ hex k n
unfolding hex
hex_front zero n = ap (λ m. hex_digit (m % 16) ∷ []) (sym (div-one n))
hex_front (suc k) n =
    ap (λ xs. xs ++ hex_digit (n % 16) ∷ []) (hex_front k (n / 16))
    ∙ ap (λ m. hex_digit (m % 16) ∷ hex (suc k) n) (above_first k n)

-- two more digits come first
hex_two_in_front : (k n : ℕ)
    → hex (suc (suc k)) n ≡ hex_digit (n / 16 ^ k / 16 % 16) ∷ hex_digit (n / 16 ^ k % 16) ∷ hex k n
hex_two_in_front k n =
    hex_front (suc k) n ∙ ap (λ xs. hex_digit (n / 16 ^ suc k % 16) ∷ xs) (hex_front k n)
    ∙ ap (λ m. hex_digit (m % 16) ∷ hex_digit (n / 16 ^ k % 16) ∷ hex k n) (above_next k n)

-- a byte has the place of two digits
two_places : (k : ℕ) → 256 ^ k ≡ 16 ^ (2 * k)
two_places k =
    let e : 2 * k ≡ k + k = omega arith in
    mul-pow 16 16 k ∙ sym (pow-add 16 k k) ∙ ap (λ m. 16 ^ m) (sym e)

-- the byte above k bytes
byte_above : (k n : ℕ) → byte_at k n ≡ n / 16 ^ (2 * k) % 256
byte_above zero n = ap (λ m. m % 256) (sym (div-one n))
byte_above (suc k) n = ap (λ m. n / m % 256) (two_places (suc k))

-- the two digits of a byte are the lower two digits of what it is the lowest byte of
two_digits : (m b : ℕ) (rest : List ℕ) → b ≡ m % 256
    → slice_index lower_digits (b / 16) ∷ slice_index lower_digits (b % 16) ∷ rest
    ≡ hex_digit (m / 16 % 16) ∷ hex_digit (m % 16) ∷ rest
two_digits m b rest e =
    let high : b / 16 ≡ m / 16 % 16 = omega arith in
    let low : b % 16 ≡ m % 16 = omega arith in
    ap (λ c. c ∷ slice_index lower_digits (b % 16) ∷ rest) (lower_digit (b / 16) (omega arith) ∙ ap hex_digit high)
    ∙ ap (λ c. hex_digit (m / 16 % 16) ∷ c ∷ rest) (lower_digit (b % 16) (omega arith) ∙ ap hex_digit low)

-- k bytes are twice as many digits
bytes_digits : (k n : ℕ) → encode_with lower_digits (bytes_high_first k n) ≡ hex (2 * k) n
unfolding encode_with hex
bytes_digits zero n = refl
bytes_digits (suc k) n =
    let e : 2 * suc k ≡ suc (suc (2 * k)) = omega arith in
    two_digits (n / 16 ^ (2 * k)) (byte_at k n) (encode_with lower_digits (bytes_high_first k n)) (byte_above k n)
    ∙ ap (λ xs. hex_digit (n / 16 ^ (2 * k) / 16 % 16) ∷ hex_digit (n / 16 ^ (2 * k) % 16) ∷ xs) (bytes_digits k n)
    ∙ sym (hex_two_in_front (2 * k) n) ∙ ap (λ m. hex m n) (sym e)

-- a word is sixteen digits
pub word_digits : (n : ℕ) → encode_lower (to_be_bytes w64 n) ≡ hex 16 n
word_digits n = bytes_digits 8 n

-- the start of a slot is eight digits
pub start_digits : (n : ℕ) → encode_lower (to_be_bytes w32 n) ≡ hex 8 n
start_digits n = bytes_digits 4 n
