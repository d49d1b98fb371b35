-- What all actors together hold, when one or two of them gain and lose pieces.
use Rattle.std.proofs.Common.{◌≡◌, ℕ, zero, suc, ◌+◌, ◌-◌, ◌<◌, ◌≤◌, true, false, List, [], ◌∷◌, length, get_or, refl, sym, ◌∙◌, arith, inl, inr}
use Rattle.std.specs.List.{sum_by}
use Rattle.std.proofs.lemmas.List.Sums.{sum_by-cons, get_or-le-sum_by, sum_by-le-sum_by}
use Rattle.std.proofs.lemmas.Bool.{cases_lt}
use Rattle.std.proofs.lemmas.Bool.Decides.{eqb_tells}
use Rattle.pa_slot.specs.declared.title.Title.{Title}
use Rattle.pa_slot.specs.declared.title.OwnState.{OwnState}
use Rattle.pa_slot.specs.Holdings.{Piece, RawPiece, FreePiece, OwnPiece, RefPiece, Thing, OwnOf, OwnAs, SealedOwn, amount, held_in, held_by_all}
use Rattle.pa_machine.specs.Events.{State, Exchanges, of_actor, held_by, total_of}
use Rattle.pa_machine.proofs.Sums.{spread-one, sum-exchange}
use Rattle.pa_slot.proofs.Same.{title_tells, state_tells}

pub of_actor_here : (a : ℕ) (ps : List Piece) (x : Thing) → held_in (of_actor a ps a) x ≡ held_in ps x
of_actor_here a ps x = elim (eqb_tells a a) [ inl y ↦ rw y.0 refl | inr n ↦ absurd (n.1 refl) ]

pub of_actor_apart : (a i : ℕ) (ps : List Piece) (x : Thing) → (i ≡ a → ⊥) → held_in (of_actor a ps i) x ≡ 0
of_actor_apart a i ps x ne = elim (eqb_tells a i) [ inl y ↦ absurd (ne (sym y.1)) | inr n ↦ rw n.0 refl ]

-- the sums over all actors change by what one actor loses and one gains
pub total_exchanged : (before after : List (List Piece)) (from to : ℕ) (lost gained : List Piece) →
    Exchanges before (of_actor from lost) (of_actor to gained) after → from < length before → to < length before →
    (x : Thing) → held_by_all after x + held_in lost x ≡ held_by_all before x + held_in gained x
total_exchanged before after from to lost gained e has_from has_to x =
    let sums = sum-exchange (λ ps. held_in ps x) [] before after (λ i. held_in (of_actor from lost i) x)
    (λ i. held_in (of_actor to gained i) x) e.0 (λ i below. e.1 i x below) in
    let out = spread-one before (λ i. held_in (of_actor from lost i) x) from (held_in lost x) (of_actor_here from lost x)
    (λ i ne. of_actor_apart from i lost x ne) has_from in
    let back = spread-one before (λ i. held_in (of_actor to gained i) x) to (held_in gained x) (of_actor_here to gained x)
    (λ i ne. of_actor_apart to i gained x ne) has_to in
    omega arith

-- past the end of a list there is the default
pub get_or_past : {A : Type 0} (xs : List A) (i : ℕ) (d : A) → length xs ≤ i → get_or xs i d ≡ d
get_or_past [] i d l = refl
get_or_past (x ∷ xs) zero d l = absurd (omega arith)
get_or_past (x ∷ xs) (suc i) d l = get_or_past xs i d (omega arith)

-- what one actor holds, all hold together
pub held_part : (s : State) (actor : ℕ) (x : Thing) → held_by s actor x ≤ total_of s x
held_part s actor x =
    elim (cases_lt actor (length s.holdings)) [
      | inl below ↦ get_or-le-sum_by (λ ps. held_in ps x) s.holdings actor [] below
      | inr past ↦ let e = get_or_past s.holdings actor [] past in rw e (omega arith)
    ]

-- what is true of the amounts of each piece is true of their sums
sum-two : {A : Type 0} (f g h : A → ℕ) → ((x : A) → f x + g x ≤ h x) → (xs : List A) → sum_by f xs + sum_by g xs ≤ sum_by h xs
sum-two f g h each [] = omega arith
sum-two f g h each (x ∷ xs) =
    let again = sum-two f g h each xs in
    let here = each x in
    omega (arith, sum_by-cons f x xs, sum_by-cons g x xs, sum_by-cons h x xs)

-- A title's Owns in one state are among its Owns, those in two states too, and the sealed ones.
pub record IsTally (total : Thing → ℕ) : Type 0 where
  pub part : (t : Title) (a : OwnState) → total (OwnAs t a) ≤ total (OwnOf t)
  pub two : (t : Title) (a b : OwnState) → (a ≡ b → ⊥) → total (OwnAs t a) + total (OwnAs t b) ≤ total (OwnOf t)
  pub seal : (t : Title) → total (SealedOwn t) ≤ total (OwnOf t)

amount_two : (t : Title) (a b : OwnState) → (a ≡ b → ⊥) → (p : Piece) → amount (OwnAs t a) p + amount (OwnAs t b) p ≤ amount (OwnOf t) p
amount_two t a b ne (RawPiece start len) = omega arith
amount_two t a b ne (FreePiece u) = omega arith
amount_two t a b ne (RefPiece u) = omega arith
amount_two t a b ne (OwnPiece sealed u c) =
    elim (title_tells u t) [
      | inl y ↦ rw y.0 (elim (state_tells c a) [
        | inl e ↦ elim (state_tells c b) [ inl f ↦ absurd (ne (sym e.1 ∙ f.1)) | inr m ↦ rw (e.0, m.0) (omega arith) ]
        | inr n ↦ elim (state_tells c b) [ inl f ↦ rw (n.0, f.0) (omega arith) | inr m ↦ rw (n.0, m.0) (omega arith) ]
      ])
      | inr n ↦ rw n.0 (omega arith)
    ]

pub amount_part : (t : Title) (a : OwnState) (p : Piece) → amount (OwnAs t a) p ≤ amount (OwnOf t) p
amount_part t a (RawPiece start len) = omega arith
amount_part t a (FreePiece u) = omega arith
amount_part t a (RefPiece u) = omega arith
amount_part t a (OwnPiece sealed u c) =
    elim (title_tells u t) [
      | inl y ↦ rw y.0 (elim (state_tells c a) [ inl e ↦ rw e.0 (omega arith) | inr m ↦ rw m.0 (omega arith) ])
      | inr n ↦ rw n.0 (omega arith)
    ]

pub amount_seal : (t : Title) (p : Piece) → amount (SealedOwn t) p ≤ amount (OwnOf t) p
amount_seal t (RawPiece start len) = omega arith
amount_seal t (FreePiece u) = omega arith
amount_seal t (RefPiece u) = omega arith
amount_seal t (OwnPiece true u c) = elim (title_tells u t) [ inl y ↦ rw y.0 (omega arith) | inr n ↦ rw n.0 (omega arith) ]
amount_seal t (OwnPiece false u c) = elim (title_tells u t) [ inl y ↦ rw y.0 (omega arith) | inr n ↦ rw n.0 (omega arith) ]

-- what an actor has of two amounts, the first of which is never more, differs no more than what all have
pub rest-le-sums : {A : Type 0} (f g : A → ℕ) (d : A) → ((x : A) → f x ≤ g x) → (xs : List A) (i : ℕ) → i < length xs →
    sum_by f xs + g (get_or xs i d) ≤ sum_by g xs + f (get_or xs i d)
rest-le-sums f g d each [] i below = absurd (omega arith)
rest-le-sums f g d each (x ∷ xs) zero below =
    let rest = sum_by-le-sum_by f g xs each in
    omega (arith, sum_by-cons f x xs, sum_by-cons g x xs)
rest-le-sums f g d each (x ∷ xs) (suc i) below =
    let again = rest-le-sums f g d each xs i (omega arith) in
    let here = each x in
    omega (arith, sum_by-cons f x xs, sum_by-cons g x xs)

pub tally_of : (holdings : List (List Piece)) → IsTally (held_by_all holdings)
tally_of holdings = record {
  part = λ t a. sum_by-le-sum_by (λ ps. held_in ps (OwnAs t a)) (λ ps. held_in ps (OwnOf t)) holdings
      (λ ps. sum_by-le-sum_by (amount (OwnAs t a)) (amount (OwnOf t)) ps (amount_part t a));
  two = λ t a b ne. sum-two (λ ps. held_in ps (OwnAs t a)) (λ ps. held_in ps (OwnAs t b)) (λ ps. held_in ps (OwnOf t))
      (λ ps. sum-two (amount (OwnAs t a)) (amount (OwnAs t b)) (amount (OwnOf t)) (amount_two t a b ne) ps) holdings;
  seal = λ t. sum_by-le-sum_by (λ ps. held_in ps (SealedOwn t)) (λ ps. held_in ps (OwnOf t)) holdings
      (λ ps. sum_by-le-sum_by (amount (SealedOwn t)) (amount (OwnOf t)) ps (amount_seal t));
}
