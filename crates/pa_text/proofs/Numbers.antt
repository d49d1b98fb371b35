-- Reading digits one after the other, with a value that stops growing.
use Rattle.std.proofs.Common.{◌≡◌, ℕ, ◌+◌, ◌-◌, ◌*◌, ◌<◌, ◌≤◌, Bool, true, false, cond, List, [], ◌∷◌, Option, Some, None, Result, Ok, Err, ◌⊎◌, inl, inr, refl, sym, ap, ◌∙◌, arith}
use Rattle.std.proofs.lemmas.Bool.{lt-ltb, le-ltb, cases_lt}
use Rattle.std.specs.Result.{OkIff, result_ok}
use Rattle.pa_text.specs.Reading.{is_digit, fit, digit_at, digits_from}
use Rattle.pa_lists.proofs.Options.{if_some}

pub cond_is_none : {A : Type 0} (b : Bool) (x : A) → ◌≡◌ {A = Option A} (cond b (Some x) None) None → b ≡ false
cond_is_none true x e = absurd cc
cond_is_none false x e = refl

-- the leading digit is read first
pub digit_first : (n d : ℕ) (bytes rest : List ℕ) → digit_at bytes ≡ Some (d, rest) → digits_from n bytes ≡ digits_from (10 * n + d) rest
unfolding digits_from
digit_first n d [] rest e = absurd cc
digit_first n d (c ∷ cs) rest e =
    let t = if_some (is_digit c) (c - 48, cs) (d, rest) e in
    rw t.0 (cc (ap (λ (x : ℕ × List ℕ). digits_from (10 * n + x.0) x.1) t.1))

-- if no digit comes first the number ends
pub digit_last : (n : ℕ) (bytes : List ℕ) → digit_at bytes ≡ None → digits_from n bytes ≡ (n, bytes)
unfolding digits_from
digit_last n [] e = refl
digit_last n (c ∷ cs) e = rw (cond_is_none (is_digit c) (c - 48, cs) e) refl

-- the value is the number, or both have more than 32 bits
abbrev pub StandsFor : ℕ → ℕ → Type 0
StandsFor value n = (value ≡ n) ⊎ ((4294967296 ≤ value) × (4294967296 ≤ n))

-- the digits read so far spell a number of which this is the value, and the rest is still to be read
pub record ReadsOn (value : ℕ) (rest : List ℕ) (first : ℕ) (bytes : List ℕ) : Type 0 where
  pub number : ℕ
  pub stands : StandsFor value number
  pub small : value < 42949672960
  pub goes_on : digits_from number rest ≡ digits_from first bytes

-- one digit more
pub reads_on : (value d first : ℕ) (rest after bytes : List ℕ) → digit_at rest ≡ Some (d, after) → d < 10 → value < 4294967296
    → ReadsOn value rest first bytes → ReadsOn (10 * value + d) after first bytes
reads_on value d first rest after bytes e low small read = record {
  number = 10 * read.number + d;
  stands = elim read.stands [ inl same ↦ inl (ap (λ n. 10 * n + d) same) | inr past ↦ absurd (omega arith) ];
  small = omega arith;
  goes_on = sym (digit_first read.number d rest after e) ∙ read.goes_on;
}

-- one digit more, of a number that has more than 32 bits
pub skips_on : (value d first : ℕ) (rest after bytes : List ℕ) → digit_at rest ≡ Some (d, after) → 4294967296 ≤ value →
    ReadsOn value rest first bytes → ReadsOn value after first bytes
skips_on value d first rest after bytes e large read = record {
  number = 10 * read.number + d;
  stands = elim read.stands [ inl same ↦ inr (large, omega arith) | inr past ↦ inr (large, omega arith) ];
  small = read.small;
  goes_on = sym (digit_first read.number d rest after e) ∙ read.goes_on;
}

-- what the value represents is handed on alike
fit_stands : (value n : ℕ) → StandsFor value n → fit value ≡ fit n
fit_stands value n (inl same) = ap fit same
fit_stands value n (inr past) = rw (le-ltb value 4294967296 past.0, le-ltb n 4294967296 past.1) refl

-- at the end
pub reads_all : (value first : ℕ) (rest bytes : List ℕ) → digit_at rest ≡ None → ReadsOn value rest first bytes →
    (fit value ≡ fit (digits_from first bytes).0) × (rest ≡ (digits_from first bytes).1)
reads_all value first rest bytes e read =
    let all : digits_from first bytes ≡ (read.number, rest) = sym read.goes_on ∙ digit_last read.number rest e in
    (fit_stands value read.number read.stands ∙ sym (ap (λ (x : ℕ × List ℕ). fit x.0) all), sym (ap (λ (x : ℕ × List ℕ). x.1) all))

-- a conversion to 32 bits hands on what fits
pub fit_is : {E : Type 0} (value : ℕ) (r : Result ℕ E) → OkIff r (value < 4294967296) value → result_ok r ≡ fit value
fit_is value (Ok x) h = rw (lt-ltb value 4294967296 h.0) (ap (λ (n : ℕ). Some n) h.1)
fit_is value (Err e) h = rw (le-ltb value 4294967296 (elim (cases_lt value 4294967296) [ inl lt ↦ absurd (h lt) | inr le ↦ le ])) refl

-- the first digit is the number so far
pub reads_first : (first : ℕ) (bytes : List ℕ) → first < 10 → ReadsOn first bytes first bytes
reads_first first bytes small = record { number = first; stands = inl refl; small = omega arith; goes_on = refl }
