-- The core that words and views show, when one view changes: its actor loses and gains what the view does.
use Rattle.std.proofs.Common.{◌≡◌, ℕ, zero, suc, ◌+◌, ◌<◌, List, [], ◌∷◌, length, map, set, get_or, refl, sym, ◌∙◌, ap, subst, arith, inl, inr}
use Rattle.std.proofs.lemmas.Bool.Decides.{eqb_tells}
use mathlib.Core.Option.{some, some-injective, some-ne-none}
use lib.ListN.{get_elem?}
use Rattle.pa_slot.specs.Holdings.{Piece, Thing, held_in}
use Rattle.pa_machine.specs.Events.{HasActor, held_by, IsAfter, of_actor}
use Rattle.pa_machine.proofs.Parts.{Changes}
use Rattle.pa_machine.proofs.Totals.{of_actor_here, of_actor_apart}
use Rattle.pa_region.specs.declared.view.View.{View}
use Rattle.pa_region.specs.Views.{pieces_of, held_of_view, byte_words, shown}

module _ {A B : Type 0} where
  -- what is at a place of a list that is mapped
  pub map_at : (f : A → B) (xs : List A) (i : ℕ) (x : A) (d : B) → get_elem? xs i ≡ some x → get_or (map f xs) i d ≡ f x
  map_at f [] i x d e = absurd (some-ne-none x (sym e))
  map_at f (y ∷ ys) zero x d e = ap f (some-injective y x e)
  map_at f (y ∷ ys) (suc i) x d e = map_at f ys i x d e

  -- the places beside one that changes
  map_beside : (f : A → B) (xs : List A) (i j : ℕ) (y : A) (d : B) → (j ≡ i → ⊥) → get_or (map f (set xs i y)) j d ≡ get_or (map f xs) j d
  map_beside f [] i j y d ne = refl
  map_beside f (x ∷ xs) zero zero y d ne = absurd (ne refl)
  map_beside f (x ∷ xs) zero (suc j) y d ne = refl
  map_beside f (x ∷ xs) (suc i) zero y d ne = refl
  map_beside f (x ∷ xs) (suc i) (suc j) y d ne = map_beside f xs i j y d (λ e. ne (ap suc e))

  map_length : (f : A → B) (xs : List A) (i : ℕ) (y : A) → length (map f (set xs i y)) ≡ length (map f xs)
  map_length f [] i y = refl
  map_length f (x ∷ xs) zero y = refl
  map_length f (x ∷ xs) (suc i) y = ap suc (map_length f xs i y)

  map_below : (f : A → B) (xs : List A) (i : ℕ) (x : A) → get_elem? xs i ≡ some x → i < length (map f xs)
  map_below f [] i x e = absurd (some-ne-none x (sym e))
  map_below f (y ∷ ys) zero x e = omega arith
  map_below f (y ∷ ys) (suc i) x e = let again = map_below f ys i x e in omega arith

  -- a member that is mapped to the same
  pub map_same : (f : A → B) (xs : List A) (i : ℕ) (x y : A) → get_elem? xs i ≡ some x → f y ≡ f x → map f (set xs i y) ≡ map f xs
  map_same f [] i x y e same = refl
  map_same f (z ∷ zs) zero x y e same = ap (λ b. b ∷ map f zs) (same ∙ sym (ap f (some-injective z x e)))
  map_same f (z ∷ zs) (suc i) x y e same = ap (λ bs. f z ∷ bs) (map_same f zs i x y e same)

module _ {A : Type 0} where
  -- the member that was put at a place is there, and the others stay
  pub put_there : (xs : List A) (i : ℕ) (x y : A) → get_elem? xs i ≡ some x → get_elem? (set xs i y) i ≡ some y
  put_there [] i x y e = absurd (some-ne-none x (sym e))
  put_there (z ∷ zs) zero x y e = refl
  put_there (z ∷ zs) (suc i) x y e = put_there zs i x y e

  pub put_beside : (xs : List A) (i j : ℕ) (y : A) → (j ≡ i → ⊥) → get_elem? (set xs i y) j ≡ get_elem? xs j
  put_beside [] i j y ne = refl
  put_beside (x ∷ xs) zero zero y ne = absurd (ne refl)
  put_beside (x ∷ xs) zero (suc j) y ne = refl
  put_beside (x ∷ xs) (suc i) zero y ne = refl
  put_beside (x ∷ xs) (suc i) (suc j) y ne = put_beside xs i j y (λ e. ne (ap suc e))

-- the core has the view's actor, which holds what the view holds
pub shown_actor : (words : List ℕ) (views : List View) (i : ℕ) (v : View) → get_elem? views i ≡ some v → HasActor (shown words views) i
shown_actor words views i v at_i = map_below pieces_of views i v at_i

pub shown_held : (words : List ℕ) (views : List View) (i : ℕ) (v : View) → get_elem? views i ≡ some v → (x : Thing) →
    held_by (shown words views) i x ≡ held_of_view v x
shown_held words views i v at_i x = ap (λ ps. held_in ps x) (map_at pieces_of views i v [] at_i)

-- what actor k holds when these views are shown
abbrev get_held : List View → ℕ → Thing → ℕ
get_held vs k x = held_in (get_or (map pieces_of vs) k []) x

-- what a view loses and gains, its actor does in the core that is shown
pub is_after : (words after : List ℕ) (views : List View) (i : ℕ) (v w : View) (lost gained : List Piece) → get_elem? views i ≡ some v →
    Changes (held_of_view v) lost gained (held_of_view w) →
    IsAfter (shown words views) i lost gained (byte_words after) (shown after (set views i w))
is_after words after views i v w lost gained at_i c = record {
  words = refl;
  holdings = (
    map_length pieces_of views i w,
    λ actor x below. elim (eqb_tells actor i) [
      | inl y ↦ subst (λ (k : ℕ). get_held (set views i w) k x + held_in (of_actor i lost k) x ≡ get_held views k x + held_in
          (of_actor i gained k) x) (sym y.1) (here x)
      | inr n ↦
          let same : get_held (set views i w) actor x ≡ get_held views actor x =
          ap (λ ps. held_in ps x) (map_beside pieces_of views i actor w [] n.1) in
          let a = of_actor_apart i actor lost x n.1 in
          let b = of_actor_apart i actor gained x n.1 in
          omega arith
    ],
  );
}
  where
    here : (x : Thing) → get_held (set views i w) i x + held_in (of_actor i lost i) x ≡ get_held views i x + held_in (of_actor i gained i) x
    here x =
        let now = shown_held after (set views i w) i w (put_there views i v w at_i) x in
        let was = shown_held words views i v at_i x in
        let a = of_actor_here i lost x in
        let b = of_actor_here i gained x in
        let change = c x in
        omega arith
