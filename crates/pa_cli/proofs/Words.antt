-- Words that spell a number.
use Rattle.std.proofs.Common.{◌≡◌, ◌∙◌, ℕ, List, [], ap, sym, subst, Option, Some, None}
use Rattle.std.proofs.lemmas.List.{append-nil}
use Rattle.pa_text.specs.Numeral.{IsNumeral}
use Rattle.pa_text.specs.Reading.{BeginsWith, number_at}
use Rattle.pa_text.proofs.Numerals.{begins_read}

-- a numeral begins with its number, and nothing comes after it
numeral_begins : (n : ℕ) (text : List ℕ) → IsNumeral n text → BeginsWith text n []
numeral_begins n text h = record {
  digits = text;
  numeral = h;
  parts = sym (append-nil text);
  stop = tt;
}

-- what comes after the number that was read
abbrev rest_of : Option (ℕ × List ℕ) → List ℕ
rest_of None = []
rest_of (Some x) = x.1

-- nothing comes after the number that a numeral begins with
numeral_whole : (text rest : List ℕ) (m n : ℕ) → BeginsWith text m rest → IsNumeral n text → rest ≡ []
numeral_whole text rest m n begins h =
    let first : Some (m, rest) ≡ number_at text = sym (begins_read text m rest begins) in
    ap rest_of (first ∙ begins_read text n [] (numeral_begins n text h))

-- a text with a number and more after it is no numeral
pub no_numeral : (text bytes rest : List ℕ) (m : ℕ) → bytes ≡ text → BeginsWith bytes m rest → (rest ≡ [] → ⊥) →
    (n : ℕ) → IsNumeral n text → ⊥
no_numeral text bytes rest m same begins more n h = more (numeral_whole bytes rest m n begins (subst (IsNumeral n) (sym same) h))

-- a text that doesn't begin with a number is no numeral
pub never_numeral : (text bytes : List ℕ) → bytes ≡ text → ((n : ℕ) (rest : List ℕ) → BeginsWith bytes n rest → ⊥) →
    (n : ℕ) → IsNumeral n text → ⊥
never_numeral text bytes same none n h = none n [] (numeral_begins n bytes (subst (IsNumeral n) (sym same) h))
