-- Pieces that are taken out of what an actor holds: one piece, or a range of raw bytes.
use Rattle.std.proofs.Common.{◌≡◌, ℕ, ◌+◌, ◌-◌, ◌<◌, ◌≤◌, Bool, true, false, ◌&&◌, List, [], ◌∷◌, refl, ◌∙◌, ap, arith, ◌⊎◌, inl, inr, eqb, cond}
use Rattle.std.specs.Prelude.{nat_le, nat_lt}
use Rattle.std.proofs.lemmas.List.Sums.{sum_by-cons, sum_by-le-sum_by}
use Rattle.std.proofs.lemmas.Bool.{cases_lt}
use Rattle.std.proofs.lemmas.Bool.Decides.{eqb_tells}
use Rattle.pa_slot.specs.declared.title.Title.{Title}
use Rattle.pa_slot.specs.declared.title.OwnState.{OwnState}
use Rattle.pa_slot.specs.Titles.{same_title, same_state}
use Rattle.pa_slot.specs.Holdings.{Piece, RawPiece, FreePiece, OwnPiece, RefPiece, Thing, RawByte, FreeTitle, OwnOf, OwnAs, SealedOwn, RefOf, one, amount, held_in}
use Rattle.pa_slot.proofs.Same.{title_tells, title_self, state_tells}
use Rattle.pa_machine.proofs.Totals.{amount_seal}

-- the pieces without the first that counts as the thing
abbrev pub taken_out : Thing → List Piece → List Piece
taken_out x [] = []
taken_out x (p ∷ ps) = cond (eqb (amount x p) 0) (p ∷ taken_out x ps) ps

-- What is taken out is one piece, which counts as the thing.
pub record IsTakenOut (x : Thing) (ps : List Piece) : Type 0 where
  pub piece : Piece
  pub counts : 0 < amount x piece
  pub left : (y : Thing) → held_in (taken_out x ps) y + amount y piece ≡ held_in ps y

pub is_taken_out : (x : Thing) (ps : List Piece) → 0 < held_in ps x → IsTakenOut x ps
is_taken_out x [] has = absurd (omega arith)
is_taken_out x (p ∷ ps) has = elim (eqb_tells (amount x p) 0) [
  | inl none ↦
      let here = sum_by-cons (amount x) p ps in
      let none1 = none.1 in
      let again = is_taken_out x ps (omega arith) in
      record {
        piece = again.piece;
        counts = again.counts;
        left = λ y.
            let l = again.left y in
            let a = sum_by-cons (amount y) p (taken_out x ps) in
            let b = sum_by-cons (amount y) p ps in
            rw none.0 (omega arith);
      }
  | inr some ↦ record {
    piece = p;
    counts = elim (cases_lt 0 (amount x p)) [ inl y ↦ y | inr n ↦ absurd (some.1 (omega arith)) ];
    left = λ y. let b = sum_by-cons (amount y) p ps in rw some.0 (omega arith);
  }
]

pub only_free : (t : Title) (p : Piece) → 0 < amount (FreeTitle t) p → p ≡ FreePiece t
only_free t (RawPiece start len) has = absurd (omega arith)
only_free t (FreePiece u) has =
    elim (title_tells u t) [
      | inl y ↦ ap FreePiece y.1
      | inr n ↦
          absurd (let h : 0 < one (same_title u t) = has in let z = ap one n.0 in omega arith)
    ]
only_free t (OwnPiece sealed u a) has = absurd (omega arith)
only_free t (RefPiece u) has = absurd (omega arith)

pub only_ref : (t : Title) (p : Piece) → 0 < amount (RefOf t) p → p ≡ RefPiece t
only_ref t (RawPiece start len) has = absurd (omega arith)
only_ref t (FreePiece u) has = absurd (omega arith)
only_ref t (OwnPiece sealed u a) has = absurd (omega arith)
only_ref t (RefPiece u) has =
    elim (title_tells u t) [
      | inl y ↦ ap RefPiece y.1
      | inr n ↦
          absurd (let h : 0 < one (same_title u t) = has in let z = ap one n.0 in omega arith)
    ]

pub only_own : (t : Title) (a : OwnState) (p : Piece) → 0 < amount (OwnAs t a) p → (sealed : Bool) × (p ≡ OwnPiece sealed t a)
only_own t a (RawPiece start len) has = absurd (omega arith)
only_own t a (FreePiece u) has = absurd (omega arith)
only_own t a (RefPiece u) has = absurd (omega arith)
only_own t a (OwnPiece sealed u b) has = elim (title_tells u t) [
  | inl y ↦ elim (state_tells b a) [
    | inl z ↦ (sealed, ap (λ (v : Title). OwnPiece sealed v b) y.1 ∙ ap (λ (c : OwnState). OwnPiece sealed t c) z.1)
    | inr n ↦ absurd (let h : 0 < one (same_title u t && same_state b a) = has in let k : same_title u t &&
        same_state b a ≡ false = rw (y.0, n.0) refl in let e = ap one k in omega arith)
  ]
  | inr n ↦ absurd (let h : 0 < one (same_title u t && same_state b a) = has in let k : same_title u t &&
      same_state b a ≡ false = rw n.0 refl in let e = ap one k in omega arith)
]

-- ---- sealed Owns

-- a title's sealed Owns are among its Owns
few_sealed : (t : Title) (ps : List Piece) → held_in ps (SealedOwn t) ≤ held_in ps (OwnOf t)
few_sealed t ps = sum_by-le-sum_by (amount (SealedOwn t)) (amount (OwnOf t)) ps (amount_seal t)

-- if that piece is the only Own of its title among these, it is sealed as they are
pub only_sealed : (t : Title) (a : OwnState) (found sealed : Bool) (ps left : List Piece) →
    ((y : Thing) → held_in left y + amount y (OwnPiece found t a) ≡ held_in ps y) →
    held_in ps (OwnOf t) ≤ 1 → held_in ps (SealedOwn t) ≡ one sealed → found ≡ sealed
only_sealed t a true true ps left out few is = refl
only_sealed t a false false ps left out few is = refl
only_sealed t a true false ps left out few is =
    let e = out (SealedOwn t) in
    let here : amount (SealedOwn t) (OwnPiece true t a) ≡ 1 = rw (title_self t) refl in
    absurd (omega arith)
only_sealed t a false true ps left out few is =
    let e = out (SealedOwn t) in
    let none : amount (SealedOwn t) (OwnPiece false t a) ≡ 0 = rw (title_self t) refl in
    let o = out (OwnOf t) in
    let here : amount (OwnOf t) (OwnPiece false t a) ≡ 1 = rw (title_self t) refl in
    let among = few_sealed t left in
    absurd (omega arith)

-- ---- raw bytes

-- a byte is in a raw piece or not
pub raw_cases : (b start len : ℕ) →
    ((start ≤ b) × (b < start + len) × (amount (RawByte b) (RawPiece start len) ≡ 1)) ⊎
    (((start ≤ b) × (b < start + len) → ⊥) × (amount (RawByte b) (RawPiece start len) ≡ 0))
raw_cases b start len = elim (cases_lt b start) [
  | inl below ↦ inr (λ h. let low = h.0 in omega arith, let e : nat_le start b ≡ false = grind arith in rw e refl)
  | inr from ↦
      let e : nat_le start b ≡ true = grind arith in
      elim (cases_lt b (start + len)) [
        | inl inside ↦ let f : nat_lt b (start + len) ≡ true = grind arith in inl (from, inside, rw (e, f) refl)
        | inr past ↦ let f : nat_lt b (start + len) ≡ false = grind arith in inr (λ h. let high = h.1 in omega arith, rw (e, f) refl)
      ]
]

-- what is left of a raw piece below a range, and after it
abbrev left_below : ℕ → ℕ → ℕ → Piece
left_below a b m = RawPiece b (m - ((b + m) - a))

abbrev left_behind : ℕ → ℕ → ℕ → Piece
left_behind e b m = RawPiece (b + (e - b)) (m - (e - b))

-- the pieces without the raw bytes of the range
abbrev pub cut_out : ℕ → ℕ → List Piece → List Piece
cut_out a e [] = []
cut_out a e (RawPiece b m ∷ ps) = left_below a b m ∷ left_behind e b m ∷ cut_out a e ps
cut_out a e (FreePiece t ∷ ps) = FreePiece t ∷ cut_out a e ps
cut_out a e (OwnPiece sealed t s ∷ ps) = OwnPiece sealed t s ∷ cut_out a e ps
cut_out a e (RefPiece t ∷ ps) = RefPiece t ∷ cut_out a e ps

both_parts : (a e c b m : ℕ) → a ≤ e → ((a ≤ c) × (c < e) → ⊥) →
    amount (RawByte c) (left_below a b m) + amount (RawByte c) (left_behind e b m) ≡ amount (RawByte c) (RawPiece b m)
both_parts a e c b m order out = elim (raw_cases c b m) [
  | inl y ↦ let y0 = y.0 in let y1 = y.1 in let y2 = y.2 in elim (cases_lt c a) [
    | inl low ↦ elim (raw_cases c b (m - ((b + m) - a))) [
      | inl l ↦ elim (raw_cases c (b + (e - b)) (m - (e - b))) [
        | inl r ↦ let r0 = r.0 in absurd (omega arith)
        | inr r ↦ let l2 = l.2 in let r1 = r.1 in omega arith
      ]
      | inr l ↦ absurd (l.0 (omega arith, omega arith))
    ]
    | inr high ↦ elim (cases_lt c e) [
      | inl inside ↦ absurd (out (high, inside))
      | inr past ↦ elim (raw_cases c b (m - ((b + m) - a))) [
        | inl l ↦ let l1 = l.1 in absurd (omega arith)
        | inr l ↦ elim (raw_cases c (b + (e - b)) (m - (e - b))) [
          | inl r ↦ let r2 = r.2 in let l1 = l.1 in omega arith
          | inr r ↦ absurd (r.0 (omega arith, omega arith))
        ]
      ]
    ]
  ]
  | inr n ↦ elim (raw_cases c b (m - ((b + m) - a))) [
    | inl l ↦ let l0 = l.0 in let l1 = l.1 in absurd (n.0 (omega arith, omega arith))
    | inr l ↦ elim (raw_cases c (b + (e - b)) (m - (e - b))) [
      | inl r ↦ let r0 = r.0 in let r1 = r.1 in absurd (n.0 (omega arith, omega arith))
      | inr r ↦ let n1 = n.1 in let l1 = l.1 in let r1 = r.1 in omega arith
    ]
  ]
]

no_parts : (a e c b m : ℕ) → a ≤ c → c < e →
    (amount (RawByte c) (left_below a b m) ≡ 0) × (amount (RawByte c) (left_behind e b m) ≡ 0)
no_parts a e c b m low high = (
  elim (raw_cases c b (m - ((b + m) - a))) [ inl l ↦ let l0 = l.0 in let l1 = l.1 in absurd (omega arith) | inr l ↦ l.1 ],
  elim (raw_cases c (b + (e - b)) (m - (e - b))) [ inl r ↦ let r0 = r.0 in absurd (omega arith) | inr r ↦ r.1 ],
)

-- bytes outside are held as before
cut_outside : (a e c : ℕ) → a ≤ e → ((a ≤ c) × (c < e) → ⊥) → (ps : List Piece) →
    held_in (cut_out a e ps) (RawByte c) ≡ held_in ps (RawByte c)
cut_outside a e c order out [] = refl
cut_outside a e c order out (RawPiece b m ∷ ps) =
    let again = cut_outside a e c order out ps in
    let p = both_parts a e c b m order out in
    let x = sum_by-cons (amount (RawByte c)) (left_below a b m) (left_behind e b m ∷ cut_out a e ps) in
    let y = sum_by-cons (amount (RawByte c)) (left_behind e b m) (cut_out a e ps) in
    let z = sum_by-cons (amount (RawByte c)) (RawPiece b m) ps in
    omega arith
cut_outside a e c order out (FreePiece t ∷ ps) =
    let again = cut_outside a e c order out ps in
    omega (arith, sum_by-cons (amount (RawByte c)) (FreePiece t) (cut_out a e ps), sum_by-cons (amount (RawByte c)) (FreePiece t) ps)
cut_outside a e c order out (OwnPiece sealed t s ∷ ps) =
    let again = cut_outside a e c order out ps in
    omega (
      arith,
      sum_by-cons (amount (RawByte c)) (OwnPiece sealed t s) (cut_out a e ps),
      sum_by-cons (amount (RawByte c)) (OwnPiece sealed t s) ps,
    )
cut_outside a e c order out (RefPiece t ∷ ps) =
    let again = cut_outside a e c order out ps in
    omega (arith, sum_by-cons (amount (RawByte c)) (RefPiece t) (cut_out a e ps), sum_by-cons (amount (RawByte c)) (RefPiece t) ps)

-- bytes inside aren't held any more
cut_inside : (a e c : ℕ) → a ≤ c → c < e → (ps : List Piece) → held_in (cut_out a e ps) (RawByte c) ≡ 0
cut_inside a e c low high [] = refl
cut_inside a e c low high (RawPiece b m ∷ ps) =
    let again = cut_inside a e c low high ps in
    let p = no_parts a e c b m low high in
    let p0 = p.0 in
    let p1 = p.1 in
    let x = sum_by-cons (amount (RawByte c)) (left_below a b m) (left_behind e b m ∷ cut_out a e ps) in
    let y = sum_by-cons (amount (RawByte c)) (left_behind e b m) (cut_out a e ps) in
    omega arith
cut_inside a e c low high (FreePiece t ∷ ps) =
    let again = cut_inside a e c low high ps in
    omega (arith, sum_by-cons (amount (RawByte c)) (FreePiece t) (cut_out a e ps))
cut_inside a e c low high (OwnPiece sealed t s ∷ ps) =
    let again = cut_inside a e c low high ps in
    omega (arith, sum_by-cons (amount (RawByte c)) (OwnPiece sealed t s) (cut_out a e ps))
cut_inside a e c low high (RefPiece t ∷ ps) =
    let again = cut_inside a e c low high ps in
    omega (arith, sum_by-cons (amount (RawByte c)) (RefPiece t) (cut_out a e ps))

-- no byte: a title, or a handle to one
abbrev IsNoByte : Thing → Type 0
IsNoByte x = (b m : ℕ) → amount x (RawPiece b m) ≡ 0

-- titles and handles are held as before
cut_others : (a e : ℕ) (x : Thing) → IsNoByte x → (ps : List Piece) → held_in (cut_out a e ps) x ≡ held_in ps x
cut_others a e x none [] = refl
cut_others a e x none (RawPiece b m ∷ ps) =
    let again = cut_others a e x none ps in
    let p = none b m in
    let q = none b (m - ((b + m) - a)) in
    let r = none (b + (e - b)) (m - (e - b)) in
    let u = sum_by-cons (amount x) (left_below a b m) (left_behind e b m ∷ cut_out a e ps) in
    let v = sum_by-cons (amount x) (left_behind e b m) (cut_out a e ps) in
    let w = sum_by-cons (amount x) (RawPiece b m) ps in
    omega arith
cut_others a e x none (FreePiece t ∷ ps) =
    let again = cut_others a e x none ps in
    omega (arith, sum_by-cons (amount x) (FreePiece t) (cut_out a e ps), sum_by-cons (amount x) (FreePiece t) ps)
cut_others a e x none (OwnPiece sealed t s ∷ ps) =
    let again = cut_others a e x none ps in
    omega (arith, sum_by-cons (amount x) (OwnPiece sealed t s) (cut_out a e ps), sum_by-cons (amount x) (OwnPiece sealed t s) ps)
cut_others a e x none (RefPiece t ∷ ps) =
    let again = cut_others a e x none ps in
    omega (arith, sum_by-cons (amount x) (RefPiece t) (cut_out a e ps), sum_by-cons (amount x) (RefPiece t) ps)

-- if each byte of the range is held once, the range is gone and all else is as before
pub cut_out_has : (a n : ℕ) (ps : List Piece) → ((c : ℕ) → a ≤ c → c < a + n → held_in ps (RawByte c) ≡ 1) →
    (y : Thing) → held_in (cut_out a (a + n) ps) y + amount y (RawPiece a n) ≡ held_in ps y
cut_out_has a n ps once (RawByte c) = elim (raw_cases c a n) [
  | inl y ↦ let y2 = y.2 in let gone = cut_inside a (a + n) c y.0 y.1 ps in let had = once c y.0 y.1 in omega arith
  | inr m ↦ let m1 = m.1 in let same = cut_outside a (a + n) c (omega arith) m.0 ps in omega arith
]
cut_out_has a n ps once (FreeTitle t) = let e = cut_others a (a + n) (FreeTitle t) (λ b m. refl) ps in omega arith
cut_out_has a n ps once (OwnOf t) = let e = cut_others a (a + n) (OwnOf t) (λ b m. refl) ps in omega arith
cut_out_has a n ps once (OwnAs t s) = let e = cut_others a (a + n) (OwnAs t s) (λ b m. refl) ps in omega arith
cut_out_has a n ps once (SealedOwn t) = let e = cut_others a (a + n) (SealedOwn t) (λ b m. refl) ps in omega arith
cut_out_has a n ps once (RefOf t) = let e = cut_others a (a + n) (RefOf t) (λ b m. refl) ps in omega arith
