-- What a counted step leaves its seat with.
use Rattle.std.proofs.Common.{◌≡◌, ℕ, ◌+◌, Bool, refl, sym, subst, arith, ◌⊎◌, inl, inr}
use Rattle.pa_slot.specs.declared.title.Title.{Title}
use Rattle.pa_slot.specs.declared.title.OwnState.{OwnState}
use Rattle.pa_slot.specs.declared.word.Step.{Step}
use Rattle.pa_slot.specs.declared.word.Step.TheVariants.{Issue, Copy, Reset, Free, Write}
use Rattle.pa_slot.specs.Count.{CanStep, stepped}
use Rattle.pa_slot.specs.Run.{IsFree}
use Rattle.pa_slot.specs.Holdings.{FreeTitle, held_in}
use Rattle.pa_machine.specs.Events.{returned_at}
use Rattle.pa_slot.proofs.Arith.{stepped_is}
use Rattle.pa_machine.proofs.Amounts.{returned_cases}
use Rattle.pa_region.specs.declared.view.View.{View}
use Rattle.pa_region.specs.Views.{held_of_view, free_of}
use Rattle.pa_region.specs.Moves.{moved, after_count}
use Rattle.pa_region.proofs.Pieces.{HasPiece, lost_by, gained_by, moved_changes, frees_have}
use Rattle.pa_slot.specs.Run.{IsReturning}
use Rattle.pa_machine.proofs.Amounts.{free_self}
use Rattle.pa_region.specs.Shares.{Share, IsStepMade}

-- a reset or a free
abbrev pub IsRelease : Step → Type 0
IsRelease step = (step ≡ Reset) ⊎ (step ≡ Free)

-- a release that is enabled is a returning step if and only if the word after it is free
returns_free : (step : Step) (word : ℕ) → IsRelease step → CanStep step word → IsReturning step word → IsFree (stepped step word)
returns_free step word (inl e) can r = go (subst (λ (s : Step). CanStep s word) e can) (subst (λ (s : Step). IsReturning s word) e r)
  where
    go : CanStep Reset word → IsReturning Reset word → IsFree (stepped step word)
    go can r = let s = stepped_is Reset word can in let a = s.0 in let b = s.1 in let p = r.0 in let q = r.1 in
        subst (λ (k : Step). IsFree (stepped k word)) (sym e) (omega arith, omega arith)
returns_free step word (inr e) can r = go (subst (λ (s : Step). CanStep s word) e can) (subst (λ (s : Step). IsReturning s word) e r)
  where
    go : CanStep Free word → IsReturning Free word → IsFree (stepped step word)
    go can r = let s = stepped_is Free word can in let a = s.0 in let b = s.1 in let p = r.0 in let q = r.1 in
        subst (λ (k : Step). IsFree (stepped k word)) (sym e) (omega arith, omega arith)

-- a release that leaves a free word returned the title
free_returns : (step : Step) (word : ℕ) → IsRelease step → CanStep step word → IsFree (stepped step word) → IsReturning step word
free_returns step word (inl e) can f =
    subst (λ (s : Step). IsReturning s word) (sym e)
    (go (subst (λ (s : Step). CanStep s word) e can) (subst (λ (s : Step). IsFree (stepped s word)) e f))
  where
    go : CanStep Reset word → IsFree (stepped Reset word) → IsReturning Reset word
    go can f = let s = stepped_is Reset word can in let a = s.0 in let b = s.1 in let p = f.0 in let q = f.1 in (omega arith, omega arith)
free_returns step word (inr e) can f =
    subst (λ (s : Step). IsReturning s word) (sym e)
    (go (subst (λ (s : Step). CanStep s word) e can) (subst (λ (s : Step). IsFree (stepped s word)) e f))
  where
    go : CanStep Free word → IsFree (stepped Free word) → IsReturning Free word
    go can f = let s = stepped_is Free word can in let a = s.0 in let b = s.1 in let c = s.2 in let p = f.0 in let q = f.1 in
        (omega arith, omega arith)

-- how many times the seat holds the title free after a release
frees_after : (step : Step) (t : Title) (word : ℕ) (v : View) → IsRelease step → HasPiece step t v →
    free_of (after_count step t word v) t ≡ free_of v t + held_in (returned_at (stepped step word) t) (FreeTitle t)
frees_after step t word v release has =
    let moves = moved_changes step t word v has in
    let before = frees_have v t in
    let after = frees_have (after_count step t word v) t in
    let now : held_of_view (after_count step t word v) (FreeTitle t) ≡ held_of_view (moved step t word v) (FreeTitle t) = refl in
    let e = go step release moves.sealed moves.state (held_of_view (moved step t word v) (FreeTitle t)) (moves.changes (FreeTitle t)) in
    omega arith
  where
    go : (s : Step) → IsRelease s → (sealed : Bool) (a : OwnState) (n : ℕ) →
        n + held_in (lost_by s t sealed a) (FreeTitle t) ≡ held_of_view v (FreeTitle t) + held_in (gained_by s t sealed (stepped step word))
        (FreeTitle t) →
        n ≡ held_of_view v (FreeTitle t) + held_in (returned_at (stepped step word) t) (FreeTitle t)
    go Issue r sealed a n e = elim r [ inl x ↦ absurd (cc) | inr x ↦ absurd (cc) ]
    go Copy r sealed a n e = elim r [ inl x ↦ absurd (cc) | inr x ↦ absurd (cc) ]
    go Reset r sealed a n e = omega arith
    go Free r sealed a n e = omega arith
    go Write r sealed a n e = elim r [ inl x ↦ absurd (cc) | inr x ↦ absurd (cc) ]

-- a title that can be released isn't free
busy_word : (step : Step) (word : ℕ) → IsRelease step → CanStep step word → IsFree word → ⊥
busy_word step word (inl e) can f = let c : CanStep Reset word = subst (λ (s : Step). CanStep s word) e can in let p = f.1 in let q = c.0 in
    absurd (omega arith)
busy_word step word (inr e) can f = let c : CanStep Free word = subst (λ (s : Step). CanStep s word) e can in let p = f.0 in let q = c.0 in
    absurd (omega arith)

-- after a returning step the seat holds the title free, once
pub returned_holds : (step : Step) (t : Title) (word : ℕ) (before after : Share) → IsRelease step → HasPiece step t before.view →
    IsStepMade step t word before after →
    IsReturning step word → free_of after.view t ≡ 1
returned_holds step t word before after release has made r =
    let f = frees_after step t word before.view release has in
    let none = made.found.taken (busy_word step word release made.enabled) in
    elim (returned_cases (stepped step word) t) [
      | inl y ↦
          let g : held_in (returned_at (stepped step word) t) (FreeTitle t) ≡ 1 = rw y.1 (free_self t) in
          rw made.view (omega arith)
      | inr n ↦ absurd (n.0 (returns_free step word release made.enabled r))
    ]

-- after any other release it doesn't
pub kept_holds : (step : Step) (t : Title) (word : ℕ) (before after : Share) → IsRelease step → HasPiece step t before.view →
    IsStepMade step t word before after →
    (IsReturning step word → ⊥) → free_of after.view t ≡ 0
kept_holds step t word before after release has made other =
    let f = frees_after step t word before.view release has in
    let none = made.found.taken (busy_word step word release made.enabled) in
    elim (returned_cases (stepped step word) t) [
      | inl y ↦ absurd (other (free_returns step word release made.enabled y.0))
      | inr n ↦
          let g : held_in (returned_at (stepped step word) t) (FreeTitle t) ≡ 0 = rw n.1 refl in
          rw made.view (omega arith)
    ]
