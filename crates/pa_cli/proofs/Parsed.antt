-- What std parses from a numeral.
use Rattle.std.proofs.Common.{◌≡◌, ◌∙◌, ℕ, ◌+◌, ◌-◌, ◌*◌, ◌<◌, ◌≤◌, List, [], ◌∷◌, ◌++◌, Result, Ok, Err, IfSome, IfNone, refl, sym, ap, subst, arith}
use Rattle.std.specs.List.{AllByRecursion}
use Rattle.std.specs.Char.{digit_value}
use Rattle.std.specs.Result.{OkIff, result_ok}
use Rattle.std.specs.Str.Parse.{AllDigits, digits_value, digits_value_after, without_leading_plus, ParsesUnsigned}
use Rattle.std.specs.Str.Parse.{IsNumeral as Parses}
use Rattle.std.proofs.lemmas.List.{append-nil}
use Rattle.std.proofs.lemmas.Bool.{lt-ltb, le-ltb, ne_eqb}
use Rattle.pa_text.specs.Numeral.{IsDigit, value_after, IsNumeral}
use Rattle.pa_text.specs.Reading.{BeginsWith}
use Rattle.pa_text.proofs.Numerals.{one_value}

-- the value of a digit
digit_is : (d : ℕ) → IsDigit d → digit_value d ≡ d - 48
digit_is d h = rw (le-ltb d 48 h.0, lt-ltb d 58 (omega (arith, h.1))) refl

all_digits : (ds : List ℕ) → AllByRecursion IsDigit ds → AllDigits 10 ds
all_digits [] h = tt
all_digits (d ∷ ds) h = (omega (arith, digit_is d h.0, h.0.0, h.0.1), all_digits ds h.1)

value_is : (n : ℕ) (ds : List ℕ) → AllByRecursion IsDigit ds → digits_value_after 10 n ds ≡ value_after n ds
value_is n [] h = refl
value_is n (d ∷ ds) h =
    let same : n * 10 + digit_value d ≡ 10 * n + (d - 48) = omega (arith, digit_is d h.0) in
    ap (λ (m : ℕ). digits_value_after 10 m ds) same ∙ value_is (10 * n + (d - 48)) ds h.1

-- a digit isn't preceded by a sign
no_plus : (d : ℕ) (ds : List ℕ) → IsDigit d → without_leading_plus (d ∷ ds) ≡ d ∷ ds
no_plus d ds h = rw (ne_eqb d 43 (λ same. omega (arith, h.0, same))) refl

-- std parses a numeral to its number, if that has 64 bits
pub numeral_parsed : {E : Type 0} (text : List ℕ) (n : ℕ) (r : Result ℕ E) → IsNumeral n text → ParsesUnsigned 64 10 text r
    → OkIff r (n < 18446744073709551616) n
numeral_parsed [] n r h parsed = absurd (h.written refl)
numeral_parsed (d ∷ ds) n (Ok x) h parsed =
    let whole = no_plus d ds h.digits.0 in
    let value : digits_value 10 (without_leading_plus (d ∷ ds)) ≡ n = ap (digits_value 10) whole ∙ value_is 0 (d ∷ ds) h.digits ∙ h.value in
    (omega (arith, value, parsed.0.1), parsed.1 ∙ value)
numeral_parsed (d ∷ ds) n (Err e) h parsed = λ small.
    let whole = no_plus d ds h.digits.0 in
    let value : digits_value 10 (without_leading_plus (d ∷ ds)) ≡ n = ap (digits_value 10) whole ∙ value_is 0 (d ∷ ds) h.digits ∙ h.value in
    parsed (subst (λ (ds : List ℕ). Parses 10 ds) (sym whole) (omega arith, all_digits (d ∷ ds) h.digits), omega (arith, value, small))

-- a number with nothing after it is the whole text
whole_numeral : (bytes rest : List ℕ) (n : ℕ) → BeginsWith bytes n rest → rest ≡ [] → IsNumeral n bytes
whole_numeral bytes rest n h none =
    subst (IsNumeral n) (sym (h.parts ∙ ap (λ (x : List ℕ). h.digits ++ x) none ∙ append-nil h.digits)) h.numeral

-- what is parsed from a whole text
parsed_some : {E : Type 0} (text : List ℕ) (n : ℕ) (r : Result ℕ E) → IsNumeral n text → OkIff r (n < 18446744073709551616) n
    → IfSome (result_ok r) (λ k. IsNumeral k text)
parsed_some text n (Ok x) h parsed = subst (λ (k : ℕ). IsNumeral k text) (sym parsed.1) h
parsed_some text n (Err e) h parsed = tt

parsed_none : {E : Type 0} (text : List ℕ) (n : ℕ) (r : Result ℕ E) → IsNumeral n text → OkIff r (n < 18446744073709551616) n
    → IfNone (result_ok r) ((k : ℕ) → IsNumeral k text → k ≤ 18446744073709551615 → ⊥)
parsed_none text n (Ok x) h parsed = tt
parsed_none text n (Err e) h parsed = λ k other small. parsed (omega (arith, one_value k n text other h, small))

-- the word's bytes, as they are read and as they are parsed
pub key_found : {E : Type 0} (text bytes shown rest : List ℕ) (n : ℕ) (r : Result ℕ E) → bytes ≡ text → shown ≡ text →
    BeginsWith bytes n rest → rest ≡ []
    → ParsesUnsigned 64 10 shown r → IfSome (result_ok r) (λ k. IsNumeral k text)
key_found text bytes shown rest n r same as_text h none parsed =
    let numeral : IsNumeral n text = subst (IsNumeral n) same (whole_numeral bytes rest n h none) in
    parsed_some text n r numeral (numeral_parsed text n r numeral (subst (λ (x : List ℕ). ParsesUnsigned 64 10 x r) as_text parsed))

pub key_none : {E : Type 0} (text bytes shown rest : List ℕ) (n : ℕ) (r : Result ℕ E) → bytes ≡ text → shown ≡ text →
    BeginsWith bytes n rest → rest ≡ []
    → ParsesUnsigned 64 10 shown r → IfNone (result_ok r) ((k : ℕ) → IsNumeral k text → k ≤ 18446744073709551615 → ⊥)
key_none text bytes shown rest n r same as_text h none parsed =
    let numeral : IsNumeral n text = subst (IsNumeral n) same (whole_numeral bytes rest n h none) in
    parsed_none text n r numeral (numeral_parsed text n r numeral (subst (λ (x : List ℕ). ParsesUnsigned 64 10 x r) as_text parsed))
