-- Three words with numbers, and what follows them: what is read is spelled so, and what is spelled so is read.
use Rattle.std.proofs.Common.{◌≡◌, ℕ, List, [], ◌++◌, Option, Result, Ok, Err, refl, sym, ap, subst, ◌∙◌}
use Rattle.std.proofs.lemmas.List.{append-nil, append_assoc}
use Rattle.pa_text.specs.Numeral.{IsNumeral}
use Rattle.pa_text.specs.Reading.{IsStop, fit}
use Rattle.pa_trace.specs.declared.field.LineFault.{LineFault}
use Rattle.pa_trace.specs.Reading.{◌>>=◌, ended, field_in, fields_in, three_in}
use Rattle.pa_trace.proofs.Fields.{bind_ok, ok_is, ended_ok, field_at, field_takes, field_again, handed, field_handed}

unfoldable pub fields_at : List ℕ → List ℕ → List ℕ → List ℕ → Result (ℕ × ℕ × ℕ × List ℕ) LineFault
fields_at bytes first second third = do
  a ← field_at first bytes
  b ← field_at second a.1
  c ← field_at third b.1
  Ok (a.0, b.0, c.0, c.1)

unfoldable pub three_at : List ℕ → List ℕ → List ℕ → List ℕ → Result (ℕ × ℕ × ℕ) LineFault
three_at bytes first second third = do
  x ← fields_at bytes first second third
  end ← ended x.3
  Ok (x.0, x.1, x.2)

-- ---- what is read is spelled so

join_three : (bytes v i r w j s y k z : List ℕ) → bytes ≡ v ++ i ++ r → r ≡ w ++ j ++ s → s ≡ y ++ k ++ z →
    bytes ≡ v ++ i ++ w ++ j ++ y ++ k ++ z
join_three bytes v i r w j s y k z e f g =
    e ∙ ap (λ (x : List ℕ). v ++ i ++ x) (f ∙ ap (λ (x : List ℕ). w ++ j ++ x) g) ∙ simp append_assoc

pub fields_take : (bytes v w y : List ℕ) (x : ℕ × ℕ × ℕ × List ℕ) → fields_at bytes v w y ≡ Ok x
    → (i j k : List ℕ) × IsNumeral x.0 i × IsNumeral x.1 j × IsNumeral x.2 k × (bytes ≡ v ++ i ++ w ++ j ++ y ++ k ++ x.3)
unfolding fields_at
fields_take bytes v w y x e =
    let a = bind_ok (field_at v bytes) (λ a. field_at w a.1 >>= λ b. field_at y b.1 >>= λ c. Ok (a.0, b.0, c.0, c.1)) x e in
    let b = bind_ok (field_at w a.0.1) (λ b. field_at y b.1 >>= λ c. Ok (a.0.0, b.0, c.0, c.1)) x a.2 in
    let c = bind_ok (field_at y b.0.1) (λ c. Ok (a.0.0, b.0.0, c.0, c.1)) x b.2 in
    let t = field_takes v bytes a.0 a.1 in
    let u = field_takes w a.0.1 b.0 b.1 in
    let s = field_takes y b.0.1 c.0 c.1 in
    subst (λ (k : ℕ × ℕ × ℕ × List ℕ). (l m n : List ℕ) × IsNumeral k.0 l × IsNumeral k.1 m × IsNumeral k.2 n
    × (bytes ≡ v ++ l ++ w ++ m ++ y ++ n ++ k.3)) (ok_is (a.0.0, b.0.0, c.0.0, c.0.1) x c.2) (
      t.numeral,
      u.numeral,
      s.numeral,
      t.spelled,
      u.spelled,
      s.spelled,
      join_three bytes v t.numeral a.0.1 w u.numeral b.0.1 y s.numeral c.0.1 t.parts u.parts s.parts,
    )

pub three_takes : (bytes v w y : List ℕ) (x : ℕ × ℕ × ℕ) → three_at bytes v w y ≡ Ok x
    → (i j k : List ℕ) × IsNumeral x.0 i × IsNumeral x.1 j × IsNumeral x.2 k × (bytes ≡ v ++ i ++ w ++ j ++ y ++ k)
unfolding three_at
three_takes bytes v w y x e =
    let a = bind_ok (fields_at bytes v w y) (λ a. ended a.3 >>= λ end. Ok (a.0, a.1, a.2)) x e in
    let z = bind_ok (ended a.0.3) (λ end. Ok (a.0.0, a.0.1, a.0.2)) x a.2 in
    let t = fields_take bytes v w y a.0 a.1 in
    let front : List ℕ = v ++ t.0 ++ w ++ t.1 ++ y ++ t.2 in
    subst (λ (k : ℕ × ℕ × ℕ). (l m n : List ℕ) × IsNumeral k.0 l × IsNumeral k.1 m × IsNumeral k.2 n
    × (bytes ≡ v ++ l ++ w ++ m ++ y ++ n)) (ok_is (a.0.0, a.0.1, a.0.2) x z.2)
    (t.0, t.1, t.2, t.3, t.4, t.5, t.6 ∙ ap (λ (r : List ℕ). front ++ r) (ended_ok a.0.3 z.0 z.1) ∙ append-nil front)

-- ---- what is spelled so is read

pub fields_again : (v w y : List ℕ) (m n p : ℕ) (i j k rest : List ℕ) → ((x : List ℕ) → IsStop (w ++ x)) →
    ((x : List ℕ) → IsStop (y ++ x)) → IsStop rest → IsNumeral m i → IsNumeral n j → IsNumeral p k
    → fields_at (v ++ i ++ w ++ j ++ y ++ k ++ rest) v w y ≡ Ok (m, n, p, rest)
unfolding fields_at
fields_again v w y m n p i j k rest stop_w stop_y stop hi hj hk =
    let first : field_at v (v ++ i ++ w ++ j ++ y ++ k ++ rest) ≡ Ok (m, w ++ (j ++ (y ++ (k ++ rest)))) = ap (field_at v)
    (simp append_assoc) ∙ field_again v m i (w ++ (j ++ (y ++ (k ++ rest)))) hi (stop_w (j ++ (y ++ (k ++ rest)))) in
    let second : field_at w (w ++ (j ++ (y ++ (k ++ rest)))) ≡ Ok (n, y ++ (k ++ rest)) =
    field_again w n j (y ++ (k ++ rest)) hj (stop_y (k ++ rest)) in
    let third : field_at y (y ++ (k ++ rest)) ≡ Ok (p, rest) = field_again y p k rest hk stop in
    rw (first, second, third) refl

pub three_again : (v w y : List ℕ) (m n p : ℕ) (i j k : List ℕ) → ((x : List ℕ) → IsStop (w ++ x)) → ((x : List ℕ) → IsStop (y ++ x)) →
    IsNumeral m i → IsNumeral n j → IsNumeral p k
    → three_at (v ++ i ++ w ++ j ++ y ++ k) v w y ≡ Ok (m, n, p)
unfolding three_at
three_again v w y m n p i j k stop_w stop_y hi hj hk =
    let at_end : fields_at (v ++ i ++ w ++ j ++ y ++ k) v w y ≡ Ok (m, n, p, []) =
    ap (λ (x : List ℕ). fields_at x v w y) (sym (append-nil (v ++ i ++ w ++ j ++ y ++ k)))
    ∙ fields_again v w y m n p i j k [] stop_w stop_y tt hi hj hk in
    rw at_end refl

-- ---- what is handed on of the numbers

abbrev pub fields_handed : ℕ × ℕ × ℕ × List ℕ → Result (Option ℕ × Option ℕ × Option ℕ × List ℕ) LineFault
fields_handed x = Ok (fit x.0, fit x.1, fit x.2, x.3)

abbrev pub three_handed : ℕ × ℕ × ℕ → Result (Option ℕ × Option ℕ × Option ℕ) LineFault
three_handed x = Ok (fit x.0, fit x.1, fit x.2)

go_three : (m n : ℕ) (r : Result (ℕ × List ℕ) LineFault) →
    ((r >>= handed) >>= λ c. Ok (fit m, fit n, c.0, c.1)) ≡ ((r >>= λ c. Ok (m, n, c.0, c.1)) >>= fields_handed)
go_three m n (Ok c) = refl
go_three m n (Err e) = refl

three_last : (m : ℕ) (y : List ℕ) (r : Result (ℕ × List ℕ) LineFault)
    → ((r >>= handed) >>= λ b. field_in y b.1 >>= λ c. Ok (fit m, b.0, c.0, c.1)) ≡
    ((r >>= λ b. field_at y b.1 >>= λ c. Ok (m, b.0, c.0, c.1)) >>= fields_handed)
three_last m y (Ok b) = rw field_handed (go_three m b.0 (field_at y b.1))
three_last m y (Err e) = refl

three_cases : (w y : List ℕ) (r : Result (ℕ × List ℕ) LineFault)
    → ((r >>= handed) >>= λ a. field_in w a.1 >>= λ b. field_in y b.1 >>= λ c. Ok (a.0, b.0, c.0, c.1)) ≡
    ((r >>= λ a. field_at w a.1 >>= λ b. field_at y b.1 >>= λ c. Ok (a.0, b.0, c.0, c.1)) >>= fields_handed)
three_cases w y (Ok a) = ap (λ (r : Result (Option ℕ × List ℕ) LineFault). r >>= λ b. field_in y b.1 >>= λ c. Ok
    (fit a.0, b.0, c.0, c.1)) (field_handed w a.1) ∙ three_last a.0 y (field_at w a.1)
three_cases w y (Err e) = refl

pub fields_are : (bytes v w y : List ℕ) → fields_in bytes v w y ≡ (fields_at bytes v w y >>= fields_handed)
unfolding fields_in fields_at
fields_are bytes v w y = ap (λ (r : Result (Option ℕ × List ℕ) LineFault). r >>= λ a. field_in w a.1 >>= λ b. field_in y b.1 >>= λ c. Ok
    (a.0, b.0, c.0, c.1)) (field_handed v bytes) ∙ three_cases w y (field_at v bytes)

end_three : (m n k : ℕ) (r : Result (Unit {0}) LineFault) →
    (r >>= λ end. Ok (fit m, fit n, fit k)) ≡ ((r >>= λ end. Ok (m, n, k)) >>= three_handed)
end_three m n k (Ok u) = refl
end_three m n k (Err e) = refl

three_ended : (r : Result (ℕ × ℕ × ℕ × List ℕ) LineFault) → ((r >>= fields_handed) >>= λ x. ended x.3 >>= λ end. Ok (x.0, x.1, x.2)) ≡
    ((r >>= λ x. ended x.3 >>= λ end. Ok (x.0, x.1, x.2)) >>= three_handed)
three_ended (Ok x) = end_three x.0 x.1 x.2 (ended x.3)
three_ended (Err e) = refl

pub three_is : (bytes v w y : List ℕ) → three_in bytes v w y ≡ (three_at bytes v w y >>= three_handed)
unfolding three_in three_at
three_is bytes v w y = rw fields_are (three_ended (fields_at bytes v w y))
