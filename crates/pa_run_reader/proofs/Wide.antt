-- Digits read one after the other.
use Rattle.std.proofs.Common.{◌≡◌, ℕ, ◌+◌, ◌-◌, ◌*◌, ◌^◌, ◌<◌, ◌≤◌, List, [], ◌∷◌, Some, None, inl, inr, refl, sym, ap, subst, ◌∙◌, arith}
use Rattle.std.proofs.lemmas.Bool.{cases_Bool, lt-ltb, le-ltb}
use Rattle.pa_text.specs.Reading.{is_digit, digit_at, digits_from, hex_at, hexes_at}
use Rattle.pa_text.proofs.Numbers.{digit_first, digit_last}
use Rattle.pa_text.proofs.Words.{hexes_take, hexes_none, hexes_stop}
use Rattle.pa_run_reader.specs.Reading.{narrowed}

-- the number doesn't get less by further digits
pub digits_grow : (bytes : List ℕ) (n : ℕ) → n ≤ (digits_from n bytes).0
unfolding digits_from
digits_grow [] n = omega arith
digits_grow (c ∷ cs) n =
    elim (cases_Bool (is_digit c)) [
      | inl one ↦ let more = digits_grow cs (10 * n + (c - 48)) in rw one (omega (arith, more))
      | inr none ↦ rw none (omega arith)
    ]

-- one digit more
pub goes_on : (value d first : ℕ) (rest after bytes : List ℕ) → digit_at rest ≡ Some (d, after)
    → digits_from value rest ≡ digits_from first bytes → digits_from (10 * value + d) after ≡ digits_from first bytes
goes_on value d first rest after bytes e same = sym (digit_first value d rest after e) ∙ same

-- a number that has more than 64 bits so far isn't read
pub too_wide : (value d first : ℕ) (rest after bytes : List ℕ) → digit_at rest ≡ Some (d, after)
    → digits_from value rest ≡ digits_from first bytes → 18446744073709551616 ≤ 10 * value + d → narrowed (digits_from first bytes) ≡ None
too_wide value d first rest after bytes e same large =
    let all = goes_on value d first rest after bytes e same in
    let grown = digits_grow after (10 * value + d) in
    let top : 18446744073709551616 ≤ (digits_from first bytes).0 =
    subst (λ (x : ℕ × List ℕ). 18446744073709551616 ≤ x.0) all (omega (arith, grown)) in
    rw (le-ltb (digits_from first bytes).0 18446744073709551616 top) refl

-- at the end
pub all_read : (value first : ℕ) (rest bytes : List ℕ) → digit_at rest ≡ None → digits_from value rest ≡ digits_from first bytes
    → value < 18446744073709551616 → narrowed (digits_from first bytes) ≡ Some (value, rest)
all_read value first rest bytes e same small =
    let last : digits_from first bytes ≡ (value, rest) = sym same ∙ digit_last value rest e in
    ap narrowed last ∙ rw (lt-ltb value 18446744073709551616 small) refl

-- if one of the digits is none
pub hexes_end : (count k value : ℕ) (bytes rest : List ℕ) → hexes_at k bytes ≡ Some (value, rest) → hex_at rest ≡ None → k < count →
    hexes_at count bytes ≡ None
hexes_end count k value bytes rest e none lt =
    let least : (count - (k + 1)) + (k + 1) ≡ count = omega arith in
    subst (λ (m : ℕ). hexes_at m bytes ≡ None) least (hexes_none (k + 1) (count - (k + 1)) bytes (hexes_stop k value bytes rest e none))

-- that many digits write no more
pub hexes_bound : (k value : ℕ) (bytes rest : List ℕ) → hexes_at k bytes ≡ Some (value, rest) → value < 16 ^ k
hexes_bound k value bytes rest e = (hexes_take k bytes (value, rest) e).1

pub hexes_all : (count k value : ℕ) (bytes rest : List ℕ) → hexes_at k bytes ≡ Some (value, rest) → k ≡ count →
    hexes_at count bytes ≡ Some (value, rest)
hexes_all count k value bytes rest e same = subst (λ (m : ℕ). hexes_at m bytes ≡ Some (value, rest)) same e
