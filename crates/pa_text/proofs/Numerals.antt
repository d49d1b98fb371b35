-- What is read at the start of bytes is a numeral, a numeral there is read, and a number has one numeral.
use Rattle.std.proofs.Common.{◌≡◌, ℕ, zero, suc, ◌+◌, ◌-◌, ◌*◌, ◌/◌, ◌%◌, ◌<◌, ◌≤◌, Bool, true, false, cond, eqb, ◌&&◌, List, [], ◌∷◌, ◌++◌, length, take, drop, Option, Some, None, is_some, Bor, inl, inr, refl, sym, ap, subst, ◌∙◌, arith}
use Rattle.std.specs.List.{AllByRecursion}
use Rattle.std.specs.Option.{option_map, IfSome, IfNone}
use Rattle.std.proofs.lemmas.Option.{some_pair_parts}
use Rattle.std.proofs.lemmas.Bool.{le-leb, leb-true, and_from, and_parts, ne_eqb, and_left, and_right, cases_Bool, cases_eq, cases_lt}
use Rattle.std.proofs.lemmas.List.{take-append-drop, length-append, length-drop, nil_from_length}
use Rattle.std.specs.Fmt.{decimal}
use Rattle.std.proofs.lemmas.Fmt.{decimal_by_steps}
use Rattle.pa_text.specs.Numeral.{IsDigit, value_after, IsNumeral}
use Rattle.pa_text.specs.Reading.{is_digit, fit, fitted, IsStop, BeginsWith, digit_at, digits_from, number_at}
use Rattle.pa_text.proofs.Numbers.{digit_first, digit_last}

abbrev pub AreDigits : List ℕ → Type 0
AreDigits ds = AllByRecursion IsDigit ds

digit_true : (d : ℕ) → IsDigit d → is_digit d ≡ true
digit_true d h = and_from _ _ (le-leb 48 d h.0) (le-leb d 57 h.1)

digit_from : (d : ℕ) → is_digit d ≡ true → IsDigit d
digit_from d e = let p = and_parts _ _ e in (leb-true 48 d p.0, leb-true d 57 p.1)

-- if a stop comes first there is no digit
stop_none : (bytes : List ℕ) → IsStop bytes → digit_at bytes ≡ None
stop_none [] h = refl
stop_none (c ∷ cs) h = rw h refl

-- a digit at the start is read
digit_some : (d : ℕ) (rest : List ℕ) → IsDigit d → digit_at (d ∷ rest) ≡ Some (d - 48, rest)
digit_some d rest h = rw (digit_true d h) refl

-- ---- the leading digits

-- what was taken: digits, all that come first
pub record TakesDigits (n : ℕ) (bytes : List ℕ) (v : ℕ) (rest : List ℕ) : Type 0 where
  digits : List ℕ
  all : AreDigits digits
  parts : bytes ≡ digits ++ rest
  stop : IsStop rest
  value : value_after n digits ≡ v

digits_take : (n : ℕ) (bytes : List ℕ) → TakesDigits n bytes (digits_from n bytes).0 (digits_from n bytes).1
unfolding digits_from
digits_take n [] = record { digits = []; all = tt; parts = refl; stop = tt; value = refl }
digits_take n (c ∷ cs) =
    elim (cases_Bool (is_digit c)) [
      | inl one ↦
          let t = digits_take (10 * n + (c - 48)) cs in
          let made : TakesDigits n (c ∷ cs) (digits_from (10 * n + (c - 48)) cs).0 (digits_from (10 * n + (c - 48)) cs).1 =
          record {
            digits = c ∷ t.digits;
            all = (digit_from c one, t.all);
            parts = ap (λ (x : List ℕ). c ∷ x) t.parts;
            stop = t.stop;
            value = t.value;
          } in
          rw one made
      | inr none ↦
          let made : TakesDigits n (c ∷ cs) n (c ∷ cs) = record { digits = []; all = tt; parts = refl; stop = none; value = refl } in
          rw none made
    ]

digits_again : (n : ℕ) (ds rest : List ℕ) → AreDigits ds → IsStop rest → digits_from n (ds ++ rest) ≡ (value_after n ds, rest)
digits_again n [] rest all stop = digit_last n rest (stop_none rest stop)
digits_again n (d ∷ ds) rest all stop = digit_first n (d - 48) (d ∷ ds ++ rest) (ds ++ rest) (digit_some d (ds ++ rest) all.0) ∙
    digits_again (10 * n + (d - 48)) ds rest all.1 stop

-- ---- numbers

pub number_again : (n : ℕ) (ds rest : List ℕ) → IsNumeral n ds → IsStop rest → number_at (ds ++ rest) ≡ Some (n, rest)
unfolding number_at
number_again n [] rest h stop = absurd (h.written refl)
number_again n (d ∷ ds) rest h stop =
    let first = digit_some d (ds ++ rest) h.digits.0 in
    let alone : (eqb (d - 48) 0 && is_some (digit_at (ds ++ rest))) ≡ false =
    elim (cases_eq d 48) [
      | inl zero' ↦ let none : ds ≡ [] = h.canonical ds (ap (λ (x : ℕ). x ∷ ds) zero') in
          rw (none, stop_none rest stop) (and_right (eqb (d - 48) 0) false refl)
      | inr other ↦ and_left (eqb (d - 48) 0) (is_some (digit_at (ds ++ rest)))
          (ne_eqb (d - 48) 0 (λ same. other (omega (arith, h.digits.0.0))))
    ] in
    let value : value_after (d - 48) ds ≡ n = ap (λ (x : ℕ). value_after x ds) (omega arith) ∙ h.value in
    rw (first, alone, digits_again (d - 48) ds rest h.digits.1 stop) (ap (λ (x : ℕ). Some (x, rest)) value)

-- what a test before a step lets through
unless_some : {A : Type 0} (b : Bool) (x y : A) → cond b None (Some x) ≡ Some y → (b ≡ false) × (x ≡ y)
unless_some true x y e = absurd cc
unless_some false x y e = (refl, cc)

none_from_some : {A : Type 0} (o : Option A) → is_some o ≡ false → o ≡ None
none_from_some None e = refl
none_from_some (Some x) e = absurd cc

-- a `0` at the start that is read comes before no digit
alone_stops : (c : ℕ) (cs : List ℕ) → (eqb (c - 48) 0 && is_some (digit_at cs)) ≡ false → c ≡ 48 → digit_at cs ≡ None
alone_stops c cs test zero' = none_from_some (digit_at cs) (sym (ap (λ (x : ℕ). eqb (x - 48) 0 && is_some (digit_at cs)) zero') ∙ test)

-- a digit that comes before a stop is no digit
no_digits : (ds rest : List ℕ) → AreDigits ds → digit_at (ds ++ rest) ≡ None → ds ≡ []
no_digits [] rest all e = refl
no_digits (d ∷ ds) rest all e = let one = digit_some d (ds ++ rest) all.0 in absurd cc

pub number_takes : (bytes : List ℕ) (n : ℕ) (rest : List ℕ) → number_at bytes ≡ Some (n, rest) → BeginsWith bytes n rest
unfolding number_at
number_takes [] n rest e = absurd cc
number_takes (c ∷ cs) n rest e =
    elim (cases_Bool (is_digit c)) [
      | inl one ↦
          let step : cond (eqb (c - 48) 0 && is_some (digit_at cs)) None (Some (digits_from (c - 48) cs)) ≡ Some (n, rest) = rw one at e in
          let t = unless_some _ _ _ step in
          let taken = digits_take (c - 48) cs in
          let made : BeginsWith (c ∷ cs) (digits_from (c - 48) cs).0 (digits_from (c - 48) cs).1 = record {
            digits = c ∷ taken.digits;
            numeral = record {
              digits = (digit_from c one, taken.all);
              written = λ none. absurd cc;
              canonical = λ others same.
                  let zero' : c ≡ 48 = cc in
                  let tail : taken.digits ≡ others = cc in
                  sym tail ∙ no_digits taken.digits (digits_from (c - 48) cs).1 taken.all
                  (sym (ap digit_at taken.parts) ∙ alone_stops c cs t.0 zero');
              value = ap (λ (x : ℕ). value_after x taken.digits) (omega arith) ∙ taken.value;
            };
            parts = ap (λ (x : List ℕ). c ∷ x) taken.parts;
            stop = taken.stop;
          } in
          subst (λ (x : ℕ × List ℕ). BeginsWith (c ∷ cs) x.0 x.1) t.1 made
      | inr none ↦
          let step : None ≡ Some (n, rest) = rw none at e in absurd cc
    ]

-- ---- a number has one numeral

pub value_append : (n : ℕ) (a b : List ℕ) → value_after n (a ++ b) ≡ value_after (value_after n a) b
value_append n [] b = refl
value_append n (c ∷ cs) b = value_append (10 * n + (c - 48)) cs b

-- as many digits, that write one number, are the same digits
same_digits : (m n : ℕ) (a b : List ℕ) → AreDigits a → AreDigits b → length a ≡ length b → value_after m a ≡ value_after n b → (m ≡ n) ×
    (a ≡ b)
same_digits m n [] [] da db len e = (e, refl)
same_digits m n [] (d ∷ b) da db len e = absurd (omega arith)
same_digits m n (c ∷ a) [] da db len e = absurd (omega arith)
same_digits m n (c ∷ a) (d ∷ b) da db len e =
    let t = same_digits (10 * m + (c - 48)) (10 * n + (d - 48)) a b da.1 db.1 (omega arith) e in
    let head : c ≡ d = omega (arith, t.0, da.0.0, da.0.1, db.0.0, db.0.1) in
    (omega (arith, t.0, da.0.0, da.0.1, db.0.0, db.0.1), ap (λ (x : ℕ). x ∷ a) head ∙ ap (λ (x : List ℕ). d ∷ x) t.1)

value_grows : (n : ℕ) (ds : List ℕ) → n ≤ value_after n ds
value_grows n [] = omega arith
value_grows n (d ∷ ds) = omega (arith, value_grows (10 * n + (d - 48)) ds)

AreDigits-drop : (k : ℕ) (ds : List ℕ) → AreDigits ds → AreDigits (drop k ds)
AreDigits-drop zero ds h = h
AreDigits-drop (suc k) [] h = tt
AreDigits-drop (suc k) (d ∷ ds) h = AreDigits-drop k ds h.1

AreDigits-take : (k : ℕ) (ds : List ℕ) → AreDigits ds → AreDigits (take k ds)
AreDigits-take zero ds h = tt
AreDigits-take (suc k) [] h = tt
AreDigits-take (suc k) (d ∷ ds) h = (h.0, AreDigits-take k ds h.1)

-- zeros before further digits are no numeral
no_zeros : (front back : List ℕ) → 0 ≡ value_after 0 front → AreDigits front → ((rest : List ℕ) → front ++ back ≡ 48 ∷ rest → rest ≡ []) →
    (back ≡ [] → ⊥) → front ≡ []
no_zeros [] back e all canonical some' = refl
no_zeros (c ∷ cs) back e all canonical some' =
    let head : c ≡ 48 = omega (arith, e, value_grows (10 * 0 + (c - 48)) cs, all.0.0) in
    let none = canonical (cs ++ back) (ap (λ (x : ℕ). x ∷ cs ++ back) head) in
    absurd (some' (nil_from_length back (omega (arith, ap length none, length-append cs back))))

-- of two numerals of a number none is longer
not_longer : (n : ℕ) (a b : List ℕ) → IsNumeral n a → IsNumeral n b → length a ≤ length b → a ≡ b
not_longer n a b ha hb le =
    let k : ℕ = length b - length a in
    let split : take k b ++ drop k b ≡ b = take-append-drop k b in
    let as_long : length a ≡ length (drop k b) = omega (arith, length-drop k b) in
    let value : value_after 0 a ≡ value_after (value_after 0 (take k b)) (drop k b) = ha.value ∙ sym hb.value ∙
    ap (value_after 0) (sym split) ∙ value_append 0 (take k b) (drop k b) in
    let t = same_digits 0 (value_after 0 (take k b)) a (drop k b) ha.digits (AreDigits-drop k b hb.digits) as_long value in
    let none = no_zeros (take k b) (drop k b) t.0 (AreDigits-take k b hb.digits) (λ rest e. hb.canonical rest (sym split ∙ e))
    (λ e. ha.written (t.1 ∙ e)) in
    t.1 ∙ sym (ap (λ (x : List ℕ). x ++ drop k b) none) ∙ split

pub one_numeral : (n : ℕ) (a b : List ℕ) → IsNumeral n a → IsNumeral n b → a ≡ b
one_numeral n a b ha hb =
    elim (cases_lt (length a) (length b)) [
      | inl lt ↦ not_longer n a b ha hb (omega arith)
      | inr le ↦ sym (not_longer n b a hb ha le)
    ]

pub one_value : (m n : ℕ) (text : List ℕ) → IsNumeral m text → IsNumeral n text → m ≡ n
one_value m n text hm hn = sym hm.value ∙ hn.value

-- ---- a number is printed by its numeral

one_digit : (n : ℕ) → n < 10 → IsNumeral n ((48 + n) ∷ [])
one_digit n lt = record {
  digits = ((omega arith, omega arith), tt);
  written = λ e. cc;
  canonical = λ rest e. let none : [] ≡ rest = cc in sym none;
  value = omega arith;
}

digits_push : (ds : List ℕ) (d : ℕ) → AreDigits ds → IsDigit d → AreDigits (ds ++ d ∷ [])
digits_push [] d h hd = (hd, tt)
digits_push (c ∷ ds) d h hd = (h.0, digits_push ds d h.1 hd)

-- a numeral of at least 1 does not begin with a `0`
no_zero_front : (m d : ℕ) (ds rest : List ℕ) → 1 ≤ m → IsNumeral m ds → ds ++ d ∷ [] ≡ 48 ∷ rest → ⊥
no_zero_front m d [] rest some' h e = h.written refl
no_zero_front m d (c ∷ ds) rest some' h e =
    let head : c ≡ 48 = cc in
    let none : ds ≡ [] = h.canonical ds (ap (λ (x : ℕ). x ∷ ds) head) in
    let value : value_after 0 (c ∷ []) ≡ m = ap (λ (x : List ℕ). value_after 0 (c ∷ x)) (sym none) ∙ h.value in
    omega (arith, value, head)

filled : (ds : List ℕ) (d : ℕ) → ds ++ d ∷ [] ≡ [] → ⊥
filled [] d e = cc
filled (c ∷ ds) d e = cc

one_digit_more : (n : ℕ) (ds : List ℕ) → 10 ≤ n → IsNumeral (n / 10) ds → IsNumeral n (ds ++ (48 + n % 10) ∷ [])
one_digit_more n ds large h =
    let more : 1 ≤ n / 10 = omega arith in record {
      digits = digits_push ds (48 + n % 10) h.digits (omega arith, omega arith);
      written = λ e. filled ds (48 + n % 10) e;
      canonical = λ rest e. absurd (no_zero_front (n / 10) (48 + n % 10) ds rest more h e);
      value = value_append 0 ds ((48 + n % 10) ∷ []) ∙ omega (arith, h.value);
    }

pub decimal_numeral : (n : ℕ) → n < 18446744073709551616 → IsNumeral n (decimal n)
decimal_numeral n lt = decimal_by_steps (λ m ds. IsNumeral m ds) one_digit one_digit_more n lt

-- ---- what the reader of bytes answers

-- a number that comes first is what is read
pub begins_read : (bytes : List ℕ) (n : ℕ) (rest : List ℕ) → BeginsWith bytes n rest → number_at bytes ≡ Some (n, rest)
begins_read bytes n rest h = ap number_at h.parts ∙ number_again n h.digits rest h.numeral h.stop

found_in : (bytes : List ℕ) (o : Option (ℕ × List ℕ)) (value : Option ℕ) (rest : List ℕ) → number_at bytes ≡ o
    → Some (value, rest) ≡ option_map fitted o → (n : ℕ) × BeginsWith bytes n rest × (value ≡ fit n)
found_in bytes None value rest same e = absurd cc
found_in bytes (Some x) value rest same e =
    let parts = some_pair_parts value (fit x.0) rest x.1 e in
    (x.0, number_takes bytes x.0 rest (same ∙ ap (λ (r : List ℕ). Some (x.0, r)) (sym parts.1)), parts.0)

pub is_found : (bytes : List ℕ) (value : Option ℕ) (rest : List ℕ) → Some (value, rest) ≡ option_map fitted (number_at bytes) → (n : ℕ) ×
    BeginsWith bytes n rest × (value ≡ fit n)
is_found bytes value rest e = found_in bytes (number_at bytes) value rest refl e

pub is_none : (bytes : List ℕ) → None ≡ option_map fitted (number_at bytes) → (n : ℕ) (rest : List ℕ) → BeginsWith bytes n rest → ⊥
is_none bytes e n rest h = let same : ◌≡◌ {A = Option (Option ℕ × List ℕ)} None (Some (fit n, rest)) = e ∙
    ap (option_map fitted) (begins_read bytes n rest h) in absurd cc

pub answers_found : (bytes : List ℕ) (r : Option (Option ℕ × Bor (List ℕ)))
    → option_map {U = Option ℕ × List ℕ} (λ x. (x.0, x.1.now)) r ≡ option_map fitted (number_at bytes)
    → IfSome r (λ x. (n : ℕ) × BeginsWith bytes n x.1.now × (x.0 ≡ fit n))
answers_found bytes None e = tt
answers_found bytes (Some x) e = is_found bytes x.0 x.1.now e

pub answers_none : (bytes : List ℕ) (r : Option (Option ℕ × Bor (List ℕ)))
    → option_map {U = Option ℕ × List ℕ} (λ x. (x.0, x.1.now)) r ≡ option_map fitted (number_at bytes)
    → IfNone r ((n : ℕ) (rest : List ℕ) → BeginsWith bytes n rest → ⊥)
answers_none bytes None e = is_none bytes e
answers_none bytes (Some x) e = tt
