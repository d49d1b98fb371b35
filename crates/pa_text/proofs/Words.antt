-- Sixteen hexadecimal digits at the start of bytes: what is read is what is printed, and what is printed is read.
use Rattle.std.proofs.Common.{◌≡◌, ℕ, zero, suc, ◌+◌, ◌-◌, ◌*◌, ◌/◌, ◌%◌, ◌^◌, ◌<◌, ◌≤◌, Bool, true, false, cond, leb, ◌&&◌, List, [], ◌∷◌, ◌++◌, Option, Some, None, refl, sym, ap, subst, ◌∙◌, append_assoc, pow-suc, inl, inr, arith}
use Rattle.std.specs.Option.{IfNone}
use Rattle.std.proofs.lemmas.Bool.{cases_lt, lt-ltb, le-ltb, leb-true, le-leb, lt-leb, and_parts, and_from, and_right}
use Rattle.std.proofs.Math.Nat.{pow-le-pow_right, zero-lt-suc}
use Rattle.pa_text.specs.Hex.{hex, hex_digit}
use Rattle.pa_text.specs.Reading.{◌>>=◌, is_digit, hex_value, hex_at, hexes_at}

-- the value of a step that gave one
pub some_bind : {A B : Type 0} (o : Option A) (f : A → Option B) (y : B) → (o >>= f) ≡ Some y → (x : A) × (o ≡ Some x) × (f x ≡ Some y)
some_bind None f y e = absurd cc
some_bind (Some x) f y e = (x, refl, e)

-- ---- one digit

low_digit : (d : ℕ) → d < 10 → hex_digit d ≡ 48 + d
low_digit d lt = rw (lt-ltb d 10 lt) refl

high_digit : (d : ℕ) → 10 ≤ d → hex_digit d ≡ 87 + d
high_digit d le = rw (le-ltb d 10 le) refl

-- the digit that was read is the one that is printed for its value
letter_takes : (c d : ℕ) (b : Bool) → (leb 97 c && leb c 102) ≡ b → cond b (Some (c - 87)) None ≡ Some d → (c ≡ hex_digit d) × (d < 16)
letter_takes c d true same e =
    let p = and_parts (leb 97 c) (leb c 102) same in
    let low = leb-true 97 c p.0 in
    let top = leb-true c 102 p.1 in
    let is : c - 87 ≡ d = cc in
    (sym (high_digit d (omega arith) ∙ omega arith), omega arith)
letter_takes c d false same e = absurd cc

value_cases : (c d : ℕ) (b : Bool) → is_digit c ≡ b → cond b (Some (c - 48)) (cond (leb 97 c && leb c 102) (Some (c - 87)) None) ≡ Some d →
    (c ≡ hex_digit d) × (d < 16)
value_cases c d true same e =
    let p = and_parts (leb 48 c) (leb c 57) same in
    let low = leb-true 48 c p.0 in
    let top = leb-true c 57 p.1 in
    let is : c - 48 ≡ d = cc in
    (sym (low_digit d (omega arith) ∙ omega arith), omega arith)
value_cases c d false same e = letter_takes c d (leb 97 c && leb c 102) refl e

value_takes : (c d : ℕ) → hex_value c ≡ Some d → (c ≡ hex_digit d) × (d < 16)
value_takes c d e = value_cases c d (is_digit c) refl e

-- the digit that is printed for a value is read as that value
value_again : (d : ℕ) → d < 16 → hex_value (hex_digit d) ≡ Some d
value_again d lt =
    elim (cases_lt d 10) [
      | inl low ↦
          ap hex_value (low_digit d low)
          ∙ rw (and_from (leb 48 (48 + d)) (leb (48 + d) 57) (le-leb 48 (48 + d) (omega arith)) (le-leb (48 + d) 57 (omega arith)))
          (ap (λ (n : ℕ). Some n) (omega arith))
      | inr high ↦
          ap hex_value (high_digit d high)
          ∙ rw (
            and_right (leb 48 (87 + d)) (leb (87 + d) 57) (lt-leb (87 + d) 57 (omega arith)),
            and_from (leb 97 (87 + d)) (leb (87 + d) 102) (le-leb 97 (87 + d) (omega arith)) (le-leb (87 + d) 102 (omega arith)),
          ) (ap (λ (n : ℕ). Some n) (omega arith))
    ]

-- the leading digit
hex_takes : (bytes : List ℕ) (x : ℕ × List ℕ) → hex_at bytes ≡ Some x → (bytes ≡ hex_digit x.0 ∷ x.1) × (x.0 < 16)
hex_takes [] x e = absurd cc
hex_takes (c ∷ cs) x e =
    let b = some_bind (hex_value c) (λ digit. Some (digit, cs)) x e in
    let t = value_takes c b.0 b.1 in
    let pair : ◌≡◌ {A = ℕ × List ℕ} (b.0, cs) x = cc in
    subst (λ (y : ℕ × List ℕ). (c ∷ cs ≡ hex_digit y.0 ∷ y.1) × (y.0 < 16)) pair (ap (λ (z : ℕ). z ∷ cs) t.0, t.1)

hex_again : (d : ℕ) (rest : List ℕ) → d < 16 → hex_at (hex_digit d ∷ rest) ≡ Some (d, rest)
hex_again d rest lt = rw (value_again d lt) refl

-- ---- that many digits

-- one more digit is at the end
pub hex_end : (k n d : ℕ) → d < 16 → hex (suc k) (16 * n + d) ≡ hex k n ++ hex_digit d ∷ []
unfolding hex
hex_end k n d lt =
    let high : (16 * n + d) / 16 ≡ n = omega arith in
    let low : (16 * n + d) % 16 ≡ d = omega arith in
    rw (high, low) refl

-- what is read is that many digits of a number that has no more
pub hexes_take : (k : ℕ) (bytes : List ℕ) (x : ℕ × List ℕ) → hexes_at k bytes ≡ Some x → (bytes ≡ hex k x.0 ++ x.1) × (x.0 < 16 ^ k)
unfolding hexes_at
hexes_take zero bytes x e =
    let none : (bytes ≡ hex 0 0 ++ bytes) × (0 < 16 ^ 0) = (unfold hex in refl, omega arith) in
    let pair : ◌≡◌ {A = ℕ × List ℕ} (0, bytes) x = cc in
    subst (λ (y : ℕ × List ℕ). (bytes ≡ hex 0 y.0 ++ y.1) × (y.0 < 16 ^ 0)) pair none
hexes_take (suc k) bytes x e =
    let a = some_bind (hexes_at k bytes) (λ front. hex_at front.1 >>= λ digit. Some (16 * front.0 + digit.0, digit.1)) x e in
    let b = some_bind (hex_at a.0.1) (λ digit. Some (16 * a.0.0 + digit.0, digit.1)) x a.2 in
    let t = hexes_take k bytes a.0 a.1 in
    let u = hex_takes a.0.1 b.0 b.1 in
    let parts : bytes ≡ hex (suc k) (16 * a.0.0 + b.0.0) ++ b.0.1 =
    t.0 ∙ ap (λ (y : List ℕ). hex k a.0.0 ++ y) u.0 ∙ sym (append_assoc (hex k a.0.0) (hex_digit b.0.0 ∷ []) b.0.1)
    ∙ sym (ap (λ (y : List ℕ). y ++ b.0.1) (hex_end k a.0.0 b.0.0 u.1)) in
    let small : 16 * a.0.0 + b.0.0 < 16 ^ suc k = omega (arith, pow-suc 16 k, t.1, u.1) in
    let pair : ◌≡◌ {A = ℕ × List ℕ} (16 * a.0.0 + b.0.0, b.0.1) x = cc in
    subst (λ (y : ℕ × List ℕ). (bytes ≡ hex (suc k) y.0 ++ y.1) × (y.0 < 16 ^ suc k)) pair (parts, small)

-- that many digits of a number that has no more are read as that number
pub hexes_again : (k n : ℕ) (rest : List ℕ) → n < 16 ^ k → hexes_at k (hex k n ++ rest) ≡ Some (n, rest)
unfolding hexes_at hex
hexes_again zero n rest lt = let none : 0 ≡ n = omega arith in ap (λ (m : ℕ). Some (m, rest)) none
hexes_again (suc k) n rest lt =
    let front = hexes_again k (n / 16) (hex_digit (n % 16) ∷ rest) (omega (arith, pow-suc 16 k)) in
    let regrouped = append_assoc (hex k (n / 16)) (hex_digit (n % 16) ∷ []) rest in
    let last = hex_again (n % 16) rest (omega arith) in
    let whole : 16 * (n / 16) + n % 16 ≡ n = omega arith in
    rw (regrouped, front, last, whole) refl

-- what does not begin with that many digits does not begin with more
pub hexes_none : (k j : ℕ) (bytes : List ℕ) → hexes_at k bytes ≡ None → hexes_at (j + k) bytes ≡ None
unfolding hexes_at
hexes_none k zero bytes e = let same : 0 + k ≡ k = omega arith in rw same e
hexes_none k (suc j) bytes e =
    let step : suc j + k ≡ suc (j + k) = omega arith in
    rw (step, hexes_none k j bytes e) refl

-- ---- what the reader of bytes answers

-- before the first digit
pub hexes_first : (bytes : List ℕ) → hexes_at 0 bytes ≡ Some (0, bytes)
unfolding hexes_at
hexes_first bytes = refl

-- one digit more
pub hexes_more : (k value digit : ℕ) (bytes rest after : List ℕ) → hexes_at k bytes ≡ Some (value, rest) →
    hex_at rest ≡ Some (digit, after) → hexes_at (k + 1) bytes ≡ Some (16 * value + digit, after)
unfolding hexes_at
hexes_more k value digit bytes rest after e f =
    let step : k + 1 ≡ suc k = omega arith in
    rw (step, e, f) refl

-- no digit more
pub hexes_stop : (k value : ℕ) (bytes rest : List ℕ) → hexes_at k bytes ≡ Some (value, rest) → hex_at rest ≡ None →
    hexes_at (k + 1) bytes ≡ None
unfolding hexes_at
hexes_stop k value bytes rest e f =
    let step : k + 1 ≡ suc k = omega arith in
    rw (step, e, f) refl

-- the digits so far leave room for one more
pub hexes_small : (k value : ℕ) (bytes rest : List ℕ) → hexes_at k bytes ≡ Some (value, rest) → k < 16 → value < 1152921504606846976
hexes_small k value bytes rest e lt =
    let below : k ≤ 15 = omega arith in
    let most : 16 ^ k ≤ 16 ^ 15 = pow-le-pow_right (zero-lt-suc 15) below in
    omega (arith, (hexes_take k bytes (value, rest) e).1, most)

-- what is read is the sixteen digits of a word
pub word_found : (value : ℕ) (bytes rest : List ℕ) → hexes_at 16 bytes ≡ Some (value, rest) → (value < 18446744073709551616) ×
    (bytes ≡ hex 16 value ++ rest)
word_found value bytes rest e = let t = hexes_take 16 bytes (value, rest) e in (t.1, t.0)

-- if nothing is read no word's digits come first
pub word_none : (k value : ℕ) (bytes rest : List ℕ) → hexes_at k bytes ≡ Some (value, rest) → hex_at rest ≡ None → k < 16
    → (n : ℕ) (more : List ℕ) → n < 18446744073709551616 → bytes ≡ hex 16 n ++ more → ⊥
word_none k value bytes rest e none lt n more small parts =
    let stuck : hexes_at (k + 1) bytes ≡ None = hexes_stop k value bytes rest e none in
    let least : 15 - k + (k + 1) ≡ 16 = omega arith in
    let last : hexes_at 16 bytes ≡ None = subst (λ (m : ℕ). hexes_at m bytes ≡ None) least (hexes_none (k + 1) (15 - k) bytes stuck) in
    let read : hexes_at 16 bytes ≡ Some (n, more) = ap (λ (y : List ℕ). hexes_at 16 y) parts ∙ hexes_again 16 n more small in
    cc

-- what holds in any case holds if nothing was read
pub when_none : {A : Type 0} (r : Option A) (P : Type 0) → P → IfNone r P
when_none None P h = h
when_none (Some x) P h = tt
