-- What each step does to a slot's being live or quarantined.
use Rattle.std.proofs.Common.{◌≡◌, ℕ, ◌<◌, Bool, true, not, ◌&&◌, refl, sym, ◌∙◌, ap, arith, inl, inr}
use Rattle.std.specs.Prelude.{◌==◌}
use Rattle.std.proofs.lemmas.Bool.{cases_eq, eq-eqb, ne_eqb, eqb-true, and_parts, true≢false}
use Rattle.pa_slot.specs.declared.word.Step.TheVariants.{Issue, Copy, Reset, Free, Write}
use Rattle.pa_slot.specs.Count.{stepped, held_of, refs_of}
use Rattle.pa_slot.specs.Run.{IsLive, IsQuarantined}
use Rattle.pa_slot.proofs.Arith.{stepped_is}
use Rattle.pa_rules.proofs.Running.{Balances, one_if}
use Rattle.pa_slot.specs.Kinds.{issues, frees, enters, leaves}

-- ---- live

abbrev pub is_live : ℕ → Bool
is_live w = held_of w == 1

live_some : (w : ℕ) → held_of w ≡ 1 → one_if (is_live w) ≡ 1
live_some w e = rw (eq-eqb (held_of w) 1 e) refl

live_none : (w : ℕ) → held_of w ≡ 0 → one_if (is_live w) ≡ 0
live_none w e = rw (ne_eqb (held_of w) 1 (λ f. omega arith)) refl

live_same : (v w : ℕ) → held_of v ≡ held_of w → one_if (is_live v) ≡ one_if (is_live w)
live_same v w e = ap (λ h. one_if (h == 1)) e

pub live_balances : Balances issues frees (λ w. one_if (is_live w))
live_balances Issue u can =
    let (refs, held, free, unheld) = stepped_is Issue u can in
    let a = live_none u (omega arith) in
    let b = live_some (stepped Issue u) (omega arith) in
    omega arith
live_balances Copy u can = let (refs, held, some) = stepped_is Copy u can in let a = live_same (stepped Copy u) u (omega arith) in
    omega arith
live_balances Reset u can = let (refs, held) = stepped_is Reset u can in let a = live_same (stepped Reset u) u (omega arith) in omega arith
live_balances Free u can =
    let (refs, free, held) = stepped_is Free u can in
    let a = live_some u held in
    let b = live_none (stepped Free u) free in
    omega arith
live_balances Write u can = let (refs, held, some, none) = stepped_is Write u can in let a = live_same (stepped Write u) u held in
    omega arith

-- a word that passes is live
pub live_is : (w : ℕ) → is_live w ≡ true → IsLive w
live_is w e = eqb-true (held_of w) 1 e

-- is_live is true of each live word
pub is_live_of : (w : ℕ) → IsLive w → is_live w ≡ true
is_live_of w e = eq-eqb (held_of w) 1 e

-- ---- quarantined

abbrev pub is_quarantined : ℕ → Bool
is_quarantined w = (held_of w == 0) && not (refs_of w == 0)

-- each quarantined word passes
pub is_quarantined_of : (w : ℕ) → IsQuarantined w → is_quarantined w ≡ true
is_quarantined_of w (held, some) = rw (eq-eqb (held_of w) 0 held, ne_eqb (refs_of w) 0 (λ e. omega arith)) refl

quarantined_some : (w : ℕ) → held_of w ≡ 0 → 0 < refs_of w → one_if (is_quarantined w) ≡ 1
quarantined_some w held some = ap one_if (is_quarantined_of w (held, some))

quarantined_held : (w : ℕ) → (held_of w ≡ 0 → ⊥) → one_if (is_quarantined w) ≡ 0
quarantined_held w held = rw (ne_eqb (held_of w) 0 held) refl

quarantined_none : (w : ℕ) → held_of w ≡ 0 → refs_of w ≡ 0 → one_if (is_quarantined w) ≡ 0
quarantined_none w held none = rw (eq-eqb (held_of w) 0 held, eq-eqb (refs_of w) 0 none) refl

leaving : (w : ℕ) → held_of w ≡ 0 → refs_of w ≡ 1 → one_if (leaves Reset w) ≡ 1
leaving w held one = rw (eq-eqb (held_of w) 0 held, eq-eqb (refs_of w) 1 one) refl

staying : (w : ℕ) → held_of w ≡ 0 → (refs_of w ≡ 1 → ⊥) → one_if (leaves Reset w) ≡ 0
staying w held more = rw (eq-eqb (held_of w) 0 held, ne_eqb (refs_of w) 1 more) refl

holding : (w : ℕ) → (held_of w ≡ 0 → ⊥) → one_if (leaves Reset w) ≡ 0
holding w held = rw (ne_eqb (held_of w) 0 held) refl

pub quarantined_balances : Balances enters leaves (λ w. one_if (is_quarantined w))
quarantined_balances Issue u can =
    let (refs, held, free, unheld) = stepped_is Issue u can in
    let a = quarantined_none u (omega arith) (omega arith) in
    let b = quarantined_held (stepped Issue u) (λ e. omega arith) in
    omega arith
quarantined_balances Copy u can =
    let (refs, held, some) = stepped_is Copy u can in
    elim (cases_eq (held_of u) 0) [
      | inl e ↦
          let a = quarantined_some u e (omega arith) in
          let b = quarantined_some (stepped Copy u) (omega arith) (omega arith) in
          omega arith
      | inr e ↦
          let a = quarantined_held u e in
          let b = quarantined_held (stepped Copy u) (λ f. e (omega arith)) in
          omega arith
    ]
quarantined_balances Reset u can =
    let (refs, held) = stepped_is Reset u can in
    let some = can.0 in
    elim (cases_eq (held_of u) 0) [
      | inl e ↦ elim (cases_eq (refs_of u) 1) [
        | inl f ↦
            let a = quarantined_some u e (omega arith) in
            let b = quarantined_none (stepped Reset u) (omega arith) (omega arith) in
            let c = leaving u e f in
            omega arith
        | inr f ↦
            let a = quarantined_some u e (omega arith) in
            let b = quarantined_some (stepped Reset u) (omega arith) (omega arith) in
            let c = staying u e f in
            omega arith
      ]
      | inr e ↦
          let a = quarantined_held u e in
          let b = quarantined_held (stepped Reset u) (λ f. e (omega arith)) in
          let c = holding u e in
          omega arith
    ]
quarantined_balances Free u can =
    let (refs, free, held) = stepped_is Free u can in
    let a = quarantined_held u (λ e. omega arith) in
    elim (cases_eq (refs_of u) 0) [
      | inl e ↦
          let b = quarantined_none (stepped Free u) free (omega arith) in
          let c : one_if (enters Free u) ≡ 0 = rw (eq-eqb (refs_of u) 0 e) refl in
          omega arith
      | inr e ↦
          let b = quarantined_some (stepped Free u) free (omega arith) in
          let c : one_if (enters Free u) ≡ 1 = rw (ne_eqb (refs_of u) 0 e) refl in
          omega arith
    ]
quarantined_balances Write u can =
    let (refs, held, some, none) = stepped_is Write u can in
    let a = quarantined_held u (λ e. omega arith) in
    let b = quarantined_held (stepped Write u) (λ e. omega arith) in
    omega arith

-- a word of which is_quarantined is true is quarantined
pub quarantined_is : (w : ℕ) → is_quarantined w ≡ true → IsQuarantined w
quarantined_is w e =
    let (a, b) = and_parts (held_of w == 0) (not (refs_of w == 0)) e in
    (eqb-true (held_of w) 0 a, some (refs_of w) b)
  where
    some : (n : ℕ) → not (n == 0) ≡ true → 0 < n
    some n h = elim (cases_eq n 0) [
      | inl none ↦ absurd (true≢false (sym h ∙ ap not (eq-eqb n 0 none)))
      | inr more ↦ omega arith
    ]
