-- Words with numbers: what is read is spelled so, what is spelled so is read, and numbers are handed on as they fit.
use Rattle.std.proofs.Common.{◌≡◌, ℕ, ◌<◌, Bool, true, false, cond, eqb, List, [], ◌++◌, codes, length, take, drop, Option, Some, None, Result, Ok, Err, refl, sym, ap, subst, ◌∙◌}
use Rattle.std.specs.Prelude.{nat_eq}
use Rattle.std.specs.Cmp.Lexicographic.{pointwise}
use Rattle.std.proofs.lemmas.Bool.{eqb-true}
use Rattle.std.proofs.lemmas.List.{append-nil, append_assoc, nil_from_length}
use Rattle.pa_text.specs.Numeral.{IsNumeral}
use Rattle.pa_text.specs.Hex.{hex}
use Rattle.pa_text.specs.Reading.{IsStop, BeginsWith, fit, number_at, hexes_at}
use Rattle.pa_text.proofs.Fronts.{front_parts, front_found}
use Rattle.pa_text.proofs.Numerals.{number_takes, number_again, begins_read}
use Rattle.pa_text.proofs.Words.{hexes_take, hexes_again}
use Rattle.pa_trace.specs.declared.field.LineFault.{LineFault}
use Rattle.pa_trace.specs.declared.field.LineFault.TheVariants.{Outside}
use Rattle.pa_trace.specs.Reading.{◌>>=◌, or_outside, behind, hand_on, number_in, word_in, field_in, ended, one_in, two_in, field_and_word_in}

-- the value of a step that did not fail
pub bind_ok : {A B : Type 0} (r : Result A LineFault) (f : A → Result B LineFault) (y : B) → (r >>= f) ≡ Ok y → (x : A) × (r ≡ Ok x) ×
    (f x ≡ Ok y)
bind_ok (Ok x) f y e = (x, refl, e)
bind_ok (Err d) f y e = absurd cc

if_ok : {A : Type 0} (b : Bool) (d : LineFault) (x y : A) → cond b (Ok x) (Err d) ≡ Ok y → (b ≡ true) × (x ≡ y)
if_ok true d x y e = (refl, cc)
if_ok false d x y e = absurd cc

-- ---- a word at the start

pub behind_takes : (word bytes rest : List ℕ) → behind word bytes ≡ Ok rest → bytes ≡ word ++ rest
unfolding behind
behind_takes word bytes rest e =
    let t = if_ok (pointwise nat_eq (take (length word) bytes) word) Outside (drop (length word) bytes) rest e in
    front_parts word bytes t.0 ∙ ap (λ (x : List ℕ). word ++ x) t.1

pub behind_again : (word rest : List ℕ) → behind word (word ++ rest) ≡ Ok rest
unfolding behind
behind_again word rest =
    let front = front_found word (word ++ rest) rest refl in
    rw (front.0, front.1) refl

-- ---- the number at the start, with its value whatever its length

unfoldable pub field_at : List ℕ → List ℕ → Result (ℕ × List ℕ) LineFault
field_at word bytes = do
  rest ← behind word bytes
  or_outside (number_at rest)

or_outside_ok : {A : Type 0} (o : Option A) (x : A) → or_outside o ≡ Ok x → o ≡ Some x
or_outside_ok None x e = absurd cc
or_outside_ok (Some y) x e = cc

-- a word, a numeral and what follows it
pub record TakesField (word bytes : List ℕ) (n : ℕ) (rest : List ℕ) : Type 0 where
  pub numeral : List ℕ
  pub spelled : IsNumeral n numeral
  pub parts : bytes ≡ word ++ numeral ++ rest
  pub stop : IsStop rest

pub field_takes : (word bytes : List ℕ) (x : ℕ × List ℕ) → field_at word bytes ≡ Ok x → TakesField word bytes x.0 x.1
unfolding field_at
field_takes word bytes x e =
    let b = bind_ok (behind word bytes) (λ rest. or_outside (number_at rest)) x e in
    let t = number_takes b.0 x.0 x.1 (or_outside_ok (number_at b.0) x b.2) in
    record {
      numeral = t.digits;
      spelled = t.numeral;
      parts = behind_takes word bytes b.0 b.1 ∙ ap (λ (y : List ℕ). word ++ y) t.parts ∙ sym (append_assoc word t.digits x.1);
      stop = t.stop;
    }

pub field_again : (word : List ℕ) (n : ℕ) (i rest : List ℕ) → IsNumeral n i → IsStop rest →
    field_at word (word ++ (i ++ rest)) ≡ Ok (n, rest)
unfolding field_at
field_again word n i rest h stop = rw (behind_again word (i ++ rest), number_again n i rest h stop) refl

-- ---- one or two words with numbers

pub ended_ok : (bytes : List ℕ) (u : Unit {0}) → ended bytes ≡ Ok u → bytes ≡ []
ended_ok bytes u e = nil_from_length bytes (eqb-true _ _ (if_ok (eqb (length bytes) 0) Outside tt u e).0)

unfoldable pub one_at : List ℕ → List ℕ → Result ℕ LineFault
one_at bytes first = do
  a ← field_at first bytes
  end ← ended a.1
  Ok a.0

unfoldable pub two_at : List ℕ → List ℕ → List ℕ → Result (ℕ × ℕ) LineFault
two_at bytes first second = do
  a ← field_at first bytes
  b ← field_at second a.1
  end ← ended b.1
  Ok (a.0, b.0)

pub ok_is : {A : Type 0} (x y : A) → ◌≡◌ {A = Result A LineFault} (Ok x) (Ok y) → x ≡ y
ok_is x y e = cc

pub join_one : (bytes w i r : List ℕ) → bytes ≡ w ++ i ++ r → r ≡ [] → bytes ≡ w ++ i
join_one bytes w i r e none = e ∙ ap (λ (x : List ℕ). w ++ i ++ x) none ∙ append-nil (w ++ i)

pub one_takes : (bytes w : List ℕ) (n : ℕ) → one_at bytes w ≡ Ok n → (i : List ℕ) × IsNumeral n i × (bytes ≡ w ++ i)
unfolding one_at
one_takes bytes w n e =
    let a = bind_ok (field_at w bytes) (λ a. ended a.1 >>= λ end. Ok a.0) n e in
    let z = bind_ok (ended a.0.1) (λ end. Ok a.0.0) n a.2 in
    let t = field_takes w bytes a.0 a.1 in (
      t.numeral,
      subst (λ (k : ℕ). IsNumeral k t.numeral) (ok_is a.0.0 n z.2) t.spelled,
      join_one bytes w t.numeral a.0.1 t.parts (ended_ok a.0.1 z.0 z.1),
    )

pub one_again : (w : List ℕ) (n : ℕ) (i : List ℕ) → IsNumeral n i → one_at (w ++ i) w ≡ Ok n
unfolding one_at
one_again w n i h =
    let at_end : field_at w (w ++ i) ≡ Ok (n, []) = ap (λ (x : List ℕ). field_at w (w ++ x)) (sym (append-nil i)) ∙
    field_again w n i [] h tt in
    rw at_end refl

join_two : (bytes v i r w j s : List ℕ) → bytes ≡ v ++ i ++ r → r ≡ w ++ j ++ s → s ≡ [] → bytes ≡ v ++ i ++ w ++ j
join_two bytes v i r w j s e f none = e ∙ ap (λ (x : List ℕ). v ++ i ++ x) (join_one r w j s f none) ∙ simp append_assoc

pub two_takes : (bytes v w : List ℕ) (x : ℕ × ℕ) → two_at bytes v w ≡ Ok x → (i j : List ℕ) × IsNumeral x.0 i × IsNumeral x.1 j ×
    (bytes ≡ v ++ i ++ w ++ j)
unfolding two_at
two_takes bytes v w x e =
    let a = bind_ok (field_at v bytes) (λ a. field_at w a.1 >>= λ b. ended b.1 >>= λ end. Ok (a.0, b.0)) x e in
    let b = bind_ok (field_at w a.0.1) (λ b. ended b.1 >>= λ end. Ok (a.0.0, b.0)) x a.2 in
    let z = bind_ok (ended b.0.1) (λ end. Ok (a.0.0, b.0.0)) x b.2 in
    let t = field_takes v bytes a.0 a.1 in
    let u = field_takes w a.0.1 b.0 b.1 in
    let same = ok_is (a.0.0, b.0.0) x z.2 in (
      t.numeral,
      u.numeral,
      subst (λ (k : ℕ × ℕ). IsNumeral k.0 t.numeral) same t.spelled,
      subst (λ (k : ℕ × ℕ). IsNumeral k.1 u.numeral) same u.spelled,
      join_two bytes v t.numeral a.0.1 w u.numeral b.0.1 t.parts u.parts (ended_ok b.0.1 z.0 z.1),
    )

pub two_again : (v w : List ℕ) (m n : ℕ) (i j : List ℕ) → ((x : List ℕ) → IsStop (w ++ x)) → IsNumeral m i → IsNumeral n j →
    two_at (v ++ i ++ w ++ j) v w ≡ Ok (m, n)
unfolding two_at
two_again v w m n i j stop hi hj =
    let first : field_at v (v ++ i ++ w ++ j) ≡ Ok (m, w ++ j) = ap (field_at v) (simp append_assoc) ∙
    field_again v m i (w ++ j) hi (stop j) in
    let second : field_at w (w ++ j) ≡ Ok (n, []) = ap (λ (x : List ℕ). field_at w (w ++ x)) (sym (append-nil j)) ∙
    field_again w n j [] hj tt in
    rw (first, second) refl

-- ---- a word with a number, a space, and sixteen digits

word_takes : (bytes : List ℕ) (x : ℕ × List ℕ) → word_in bytes ≡ Ok x → (bytes ≡ hex 16 x.0 ++ x.1) × (x.0 < 18446744073709551616)
unfolding word_in
word_takes bytes x e = hexes_take 16 bytes x (or_outside_ok (hexes_at 16 bytes) x e)

word_again : (value : ℕ) (rest : List ℕ) → value < 18446744073709551616 → word_in (hex 16 value ++ rest) ≡ Ok (value, rest)
unfolding word_in
word_again value rest lt = ap or_outside (hexes_again 16 value rest lt)

unfoldable pub field_and_word_at : List ℕ → List ℕ → Result (ℕ × ℕ) LineFault
field_and_word_at bytes first = do
  a ← field_at first bytes
  rest ← behind (codes " ") a.1
  value ← word_in rest
  end ← ended value.1
  Ok (a.0, value.0)

join_word : (bytes v i r t h z : List ℕ) → bytes ≡ v ++ i ++ r → r ≡ codes " " ++ t → t ≡ h ++ z → z ≡ [] → bytes ≡ v ++ i ++ codes " " ++ h
join_word bytes v i r t h z e f g none =
    e ∙ ap (λ (x : List ℕ). v ++ i ++ x) (f ∙ ap (λ (x : List ℕ). codes " " ++ x) (g ∙ ap (λ (x : List ℕ). h ++ x) none ∙ append-nil h)) ∙
    sym (append_assoc (v ++ i) (codes " ") h)

pub field_and_word_takes : (bytes v : List ℕ) (x : ℕ × ℕ) → field_and_word_at bytes v ≡ Ok x
    → (i : List ℕ) × IsNumeral x.0 i × (x.1 < 18446744073709551616) × (bytes ≡ v ++ i ++ codes " " ++ hex 16 x.1)
unfolding field_and_word_at
field_and_word_takes bytes v x e =
    let a = bind_ok (field_at v bytes)
    (λ a. behind (codes " ") a.1 >>= λ rest. word_in rest >>= λ value. ended value.1 >>= λ end. Ok (a.0, value.0)) x e in
    let b = bind_ok (behind (codes " ") a.0.1) (λ rest. word_in rest >>= λ value. ended value.1 >>= λ end. Ok (a.0.0, value.0)) x a.2 in
    let w = bind_ok (word_in b.0) (λ value. ended value.1 >>= λ end. Ok (a.0.0, value.0)) x b.2 in
    let z = bind_ok (ended w.0.1) (λ end. Ok (a.0.0, w.0.0)) x w.2 in
    let t = field_takes v bytes a.0 a.1 in
    let u = word_takes b.0 w.0 w.1 in
    let same = ok_is (a.0.0, w.0.0) x z.2 in
    let parts = join_word bytes v t.numeral a.0.1 b.0 (hex 16 w.0.0) w.0.1 t.parts (behind_takes (codes " ") a.0.1 b.0 b.1) u.0
    (ended_ok w.0.1 z.0 z.1) in (
      t.numeral,
      subst (λ (k : ℕ × ℕ). IsNumeral k.0 t.numeral) same t.spelled,
      subst (λ (k : ℕ × ℕ). k.1 < 18446744073709551616) same u.1,
      subst (λ (k : ℕ × ℕ). bytes ≡ v ++ t.numeral ++ codes " " ++ hex 16 k.1) same parts,
    )

pub field_and_word_again : (v : List ℕ) (n value : ℕ) (i : List ℕ) → IsNumeral n i → value < 18446744073709551616 →
    field_and_word_at (v ++ i ++ codes " " ++ hex 16 value) v ≡ Ok (n, value)
unfolding field_and_word_at
field_and_word_again v n value i hi lt =
    let h : List ℕ = hex 16 value in
    let first : field_at v (v ++ i ++ codes " " ++ h) ≡ Ok (n, codes " " ++ h) = ap (field_at v) (simp append_assoc) ∙
    field_again v n i (codes " " ++ h) hi refl in
    let second : word_in h ≡ Ok (value, []) = ap word_in (sym (append-nil h)) ∙ word_again value [] lt in
    rw (first, behind_again (codes " ") h, second) refl

-- ---- what is handed on of the numbers

pub number_some : (bytes : List ℕ) (value : Option ℕ) (rest : List ℕ) → ((n : ℕ) × BeginsWith bytes n rest × (value ≡ fit n)) →
    number_in bytes ≡ Ok (value, rest)
unfolding number_in
number_some bytes value rest h = ap hand_on (begins_read bytes h.0 rest h.1) ∙ ap (λ (v : Option ℕ). Ok (v, rest)) (sym h.2)

none_in : (bytes : List ℕ) (o : Option (ℕ × List ℕ)) → number_at bytes ≡ o → ((n : ℕ) (rest : List ℕ) → BeginsWith bytes n rest → ⊥) →
    hand_on o ≡ Err Outside
none_in bytes None same none = refl
none_in bytes (Some x) same none = absurd (none x.0 x.1 (number_takes bytes x.0 x.1 same))

pub number_none : (bytes : List ℕ) → ((n : ℕ) (rest : List ℕ) → BeginsWith bytes n rest → ⊥) → number_in bytes ≡ Err Outside
unfolding number_in
number_none bytes none = none_in bytes (number_at bytes) refl none

-- a number and the bytes after it
abbrev pub handed : ℕ × List ℕ → Result (Option ℕ × List ℕ) LineFault
handed x = Ok (fit x.0, x.1)

hand_on_is : (o : Option (ℕ × List ℕ)) → hand_on o ≡ (or_outside o >>= handed)
hand_on_is None = refl
hand_on_is (Some x) = refl

pub number_handed : (bytes : List ℕ) → number_in bytes ≡ (or_outside (number_at bytes) >>= handed)
unfolding number_in
number_handed bytes = hand_on_is (number_at bytes)

field_cases : (r : Result (List ℕ) LineFault) → (r >>= λ rest. number_in rest) ≡ ((r >>= λ rest. or_outside (number_at rest)) >>= handed)
field_cases (Ok rest) = number_handed rest
field_cases (Err e) = refl

pub field_handed : (word bytes : List ℕ) → field_in word bytes ≡ (field_at word bytes >>= handed)
unfolding field_in field_at
field_handed word bytes = field_cases (behind word bytes)

-- the numbers of a line, each as it fits
abbrev pub one_handed : ℕ → Result (Option ℕ) LineFault
one_handed n = Ok (fit n)

abbrev pub two_handed : ℕ × ℕ → Result (Option ℕ × Option ℕ) LineFault
two_handed x = Ok (fit x.0, fit x.1)

end_one : (n : ℕ) (r : Result (Unit {0}) LineFault) → (r >>= λ end. Ok (fit n)) ≡ ((r >>= λ end. Ok n) >>= one_handed)
end_one n (Ok u) = refl
end_one n (Err e) = refl

go_one : (r : Result (ℕ × List ℕ) LineFault) →
    ((r >>= handed) >>= λ a. ended a.1 >>= λ end. Ok a.0) ≡ ((r >>= λ a. ended a.1 >>= λ end. Ok a.0) >>= one_handed)
go_one (Ok a) = end_one a.0 (ended a.1)
go_one (Err e) = refl

pub one_is : (bytes v : List ℕ) → one_in bytes v ≡ (one_at bytes v >>= one_handed)
unfolding one_in one_at
one_is bytes v = rw field_handed (go_one (field_at v bytes))

end_two : (m n : ℕ) (r : Result (Unit {0}) LineFault) → (r >>= λ end. Ok (fit m, fit n)) ≡ ((r >>= λ end. Ok (m, n)) >>= two_handed)
end_two m n (Ok u) = refl
end_two m n (Err e) = refl

go_two : (m : ℕ) (r : Result (ℕ × List ℕ) LineFault) →
    ((r >>= handed) >>= λ b. ended b.1 >>= λ end. Ok (fit m, b.0)) ≡ ((r >>= λ b. ended b.1 >>= λ end. Ok (m, b.0)) >>= two_handed)
go_two m (Ok b) = end_two m b.0 (ended b.1)
go_two m (Err e) = refl

two_cases : (w : List ℕ) (r : Result (ℕ × List ℕ) LineFault) →
    ((r >>= handed) >>= λ a. field_in w a.1 >>= λ b. ended b.1 >>= λ end. Ok (a.0, b.0)) ≡
    ((r >>= λ a. field_at w a.1 >>= λ b. ended b.1 >>= λ end. Ok (a.0, b.0)) >>= two_handed)
two_cases w (Ok a) = rw field_handed (go_two a.0 (field_at w a.1))
two_cases w (Err e) = refl

pub two_is : (bytes v w : List ℕ) → two_in bytes v w ≡ (two_at bytes v w >>= two_handed)
unfolding two_in two_at
two_is bytes v w = ap (λ (r : Result (Option ℕ × List ℕ) LineFault). r >>= λ a. field_in w a.1 >>= λ b. ended b.1 >>= λ end. Ok (a.0, b.0))
    (field_handed v bytes) ∙ two_cases w (field_at v bytes)

abbrev pub word_handed : ℕ × ℕ → Result (Option ℕ × ℕ) LineFault
word_handed x = Ok (fit x.0, x.1)

end_word : (m n : ℕ) (r : Result (Unit {0}) LineFault) → (r >>= λ end. Ok (fit m, n)) ≡ ((r >>= λ end. Ok (m, n)) >>= word_handed)
end_word m n (Ok u) = refl
end_word m n (Err e) = refl

word_last : (m : ℕ) (r : Result (ℕ × List ℕ) LineFault) →
    (r >>= λ value. ended value.1 >>= λ end. Ok (
      fit m,
      value.0,
    )) ≡ ((r >>= λ value. ended value.1 >>= λ end. Ok (m, value.0)) >>= word_handed)
word_last m (Ok x) = end_word m x.0 (ended x.1)
word_last m (Err e) = refl

word_rest : (m : ℕ) (r : Result (List ℕ) LineFault) → (r >>= λ rest. word_in rest >>= λ value. ended value.1 >>= λ end. Ok
    (fit m, value.0)) ≡ ((r >>= λ rest. word_in rest >>= λ value. ended value.1 >>= λ end. Ok (m, value.0)) >>= word_handed)
word_rest m (Ok rest) = word_last m (word_in rest)
word_rest m (Err e) = refl

word_cases : (r : Result (ℕ × List ℕ) LineFault) →
    ((r >>= handed) >>= λ a. behind (codes " ") a.1 >>= λ rest. word_in rest >>= λ value. ended value.1 >>= λ end. Ok (a.0, value.0))
    ≡ ((r >>= λ a. behind (codes " ") a.1 >>= λ rest. word_in rest >>= λ value. ended value.1 >>= λ end. Ok (a.0, value.0)) >>= word_handed)
word_cases (Ok a) = word_rest a.0 (behind (codes " ") a.1)
word_cases (Err e) = refl

pub field_and_word_is : (bytes v : List ℕ) → field_and_word_in bytes v ≡ (field_and_word_at bytes v >>= word_handed)
unfolding field_and_word_in field_and_word_at
field_and_word_is bytes v = ap (λ (r : Result (Option ℕ × List ℕ) LineFault). r >>= λ a. behind (codes " ") a.1 >>= λ rest. word_in rest
    >>= λ value. ended value.1 >>= λ end. Ok (a.0, value.0)) (field_handed v bytes) ∙ word_cases (field_at v bytes)

-- what the reader of sixteen digits returns is what is read
pub word_some : (bytes : List ℕ) (value : ℕ) (rest : List ℕ) → value < 18446744073709551616 → bytes ≡ hex 16 value ++ rest →
    word_in bytes ≡ Ok (value, rest)
word_some bytes value rest lt parts = ap word_in parts ∙ word_again value rest lt

word_none_in : (bytes : List ℕ) (r : Result (ℕ × List ℕ) LineFault) → word_in bytes ≡ r → ((e : LineFault) → r ≡ Err e → e ≡ Outside)
    → ((n : ℕ) (rest : List ℕ) → n < 18446744073709551616 → bytes ≡ hex 16 n ++ rest → ⊥) → r ≡ Err Outside
word_none_in bytes (Ok x) same outside none = let t = word_takes bytes x same in absurd (none x.0 x.1 t.1 t.0)
word_none_in bytes (Err e) same outside none = ap (λ (d : LineFault). Err d) (outside e refl)

outside_is : {A : Type 0} (o : Option A) (e : LineFault) → or_outside o ≡ Err e → e ≡ Outside
outside_is None e same = cc
outside_is (Some x) e same = absurd cc

pub word_none : (bytes : List ℕ) → ((n : ℕ) (rest : List ℕ) → n < 18446744073709551616 → bytes ≡ hex 16 n ++ rest → ⊥) →
    word_in bytes ≡ Err Outside
unfolding word_in
word_none bytes none = word_none_in bytes (word_in bytes) refl (λ e same. outside_is (hexes_at 16 bytes) e same) none
