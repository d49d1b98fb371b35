-- The poisoning of a content word after the steps, and what it leaves steady.
use Rattle.std.proofs.Common.{◌≡◌, ℕ, zero, suc, ◌+◌, ◌<◌, ◌≤◌, Bool, true, false, ◌&&◌, List, [], ◌∷◌, set, refl, sym, ◌∙◌, ap, subst, arith, inl, inr}
use Rattle.std.specs.Prelude.{◌==◌}
use Rattle.std.proofs.lemmas.List.Sums.{sum_by-le-sum_by}
use Rattle.std.proofs.lemmas.Bool.Decides.{eqb_tells}
use mathlib.Core.Option.{some}
use lib.ListN.{get_elem?}
use Rattle.pa_slot.specs.declared.title.Title.{Title}
use Rattle.pa_slot.specs.declared.title.OwnState.{OwnState}
use Rattle.pa_slot.specs.declared.title.OwnState.TheVariants.{Clean, Dirty, Poisoned}
use Rattle.pa_slot.specs.Titles.{same_title, content_count, poison, progress}
use Rattle.pa_slot.specs.Holdings.{Thing, OwnPiece, OwnOf, OwnAs, RefOf, one, held_in}
use Rattle.pa_slot.proofs.Same.{title_tells, title_self, state_tells}
use Rattle.pa_machine.proofs.Parts.{Changes, own_none}
use Rattle.pa_machine.proofs.Totals.{IsTally}
use Rattle.pa_machine.proofs.Storing.{one_state}
use Rattle.pa_machine.proofs.Amounts.{own_self, state_here, state_apart}
use Rattle.pa_region.specs.declared.view.OwnTitle.{OwnTitle}
use Rattle.pa_region.specs.declared.view.View.{View}
use Rattle.pa_region.specs.Views.{least_stake}
use Rattle.pa_region.specs.History.{Done, content_of}
use Rattle.pa_region.specs.Moves.{is_own_of}
use Rattle.pa_region.specs.Stores.{poisoned_to, after_poison, own_to, GoesOn, CanPoison}
use Rattle.pa_region.specs.Waiting.{is_poisoned, poisoned_of}
use Rattle.pa_region.specs.Order.{Stamped, OneStep, Spoiled, spoiled, content_in, IsAlone}
use Rattle.pa_region.specs.Filled.{IsFilled, IsSteady, Filled}
use Rattle.pa_region.proofs.PoisonedOwns.{sum_changed, own_else, poisoned_within}
use Rattle.pa_region.proofs.ReadsSame.{each_set}
use Rattle.pa_region.proofs.StepsPart.{alone_none}

-- the poisoning after the steps, at its own word and beside it
spoiled_here : (t : Title) (j : ℕ) (steps : List OneStep) → content_in t j (Spoiled t j ∷ steps) ≡ poison
spoiled_here t j steps = elim (eqb_tells j j) [ inl y ↦ rw (title_self t, y.0) refl | inr n ↦ absurd (n.1 refl) ]

spoiled_beside : (t : Title) (j place : ℕ) (steps : List OneStep) → (j ≡ place → ⊥) →
    content_in t place (Spoiled t j ∷ steps) ≡ content_in t place steps
spoiled_beside t j place steps ne = elim (eqb_tells j place) [ inl y ↦ absurd (ne y.1) | inr n ↦ rw (title_self t, n.0) refl ]

spoiled_other : (t u : Title) (j place : ℕ) (steps : List OneStep) → same_title t u ≡ false →
    content_in u place (Spoiled t j ∷ steps) ≡ content_in u place steps
spoiled_other t u j place steps ne = rw ne refl

spoiled_more : (t : Title) (j : ℕ) (steps : List OneStep) → spoiled t (Spoiled t j ∷ steps) ≡ 1 + spoiled t steps
spoiled_more t j steps = rw (title_self t) refl

spoiled_same : (t u : Title) (j : ℕ) (steps : List OneStep) → same_title t u ≡ false → spoiled u (Spoiled t j ∷ steps) ≡ spoiled u steps
spoiled_same t u j steps ne = rw ne (omega arith)

-- the Own has one word more poisoned
filled_more : (steps : List OneStep) (t : Title) (value j : ℕ) → IsFilled steps t value j → IsFilled (Spoiled t j ∷ steps) t value (j + 1)
filled_more steps t value j f = record {
  many = let m = f.many in let s = spoiled_more t j steps in omega arith;
  poisoned = λ place below. elim (eqb_tells j place) [
    | inl y ↦ subst (λ (n : ℕ). content_in t n (Spoiled t j ∷ steps) ≡ poison) y.1 (spoiled_here t j steps)
    | inr n ↦ spoiled_beside t j place steps n.1 ∙ f.poisoned place (let ne = n.1 in less place j below ne)
  ];
  beyond = λ place above. spoiled_beside t j place steps (λ e. omega arith) ∙ f.beyond place (omega arith);
}
  where
    less : (place n : ℕ) → place < n + 1 → (n ≡ place → ⊥) → place < n
    less place n below ne = elim (eqb_tells n place) [ inl y ↦ absurd (ne y.1) | inr m ↦ omega arith ]

-- the part after the poisoning
pub filled_poisoned : (steps : List OneStep) (all : List Stamped) (history : Title → List Done) (total later : Thing → ℕ)
    (views after : List View) (t : Title) (j : ℕ) (sealed : Bool) (a : OwnState) →
    Filled steps all history total views → IsTally total → IsTally later → total (OwnOf t) ≤ 1 → 0 < total (OwnAs t a) → progress a ≡ j →
    j < content_count t →
    Changes total (OwnPiece sealed t a ∷ []) (OwnPiece sealed t (Poisoned (j + 1)) ∷ []) later →
    ((i : ℕ) (v : View) → get_elem? after i ≡ some v → IsSteady (Spoiled t j ∷ steps) v) →
    Filled (Spoiled t j ∷ steps) all history later after
filled_poisoned steps all history total later views after t j sealed a f tally after_tally few has many below changes each = record {
  logged = f.logged;
  placed = (((f.owned t a has).many ∙ many, below), f.placed);
  owned = λ u state there. elim (title_tells t u) [
    | inl y ↦ subst (λ (x : Title). 0 < later (OwnAs x state) →
        IsFilled (Spoiled t j ∷ steps) x (content_of (history x)) (progress state)) y.1 (here state) there
    | inr n ↦
        let c = changes (OwnAs u state) in let l = (own_none sealed t u a n.1).state state in
        let g = (own_none sealed t u (Poisoned (j + 1)) n.1).state state in
        let old = f.owned u state (omega arith) in
        record {
          many = spoiled_same t u j steps n.0 ∙ old.many;
          poisoned = λ place less. spoiled_other t u j place steps n.0 ∙ old.poisoned place less;
          beyond = λ place above. spoiled_other t u j place steps n.0 ∙ old.beyond place above;
        }
  ];
  left = λ u none. elim (title_tells t u) [
    | inl y ↦
        let gone : later (OwnOf t) ≡ 0 = subst (λ (x : Title). later (OwnOf x) ≡ 0) (sym y.1) none in
        let c = changes (OwnOf t) in let l = own_self sealed t a in let g = own_self sealed t (Poisoned (j + 1)) in
        let p = tally.part t a in
        absurd (omega arith)
    | inr n ↦
        let c = changes (OwnOf u) in let l = (own_none sealed t u a n.1).own in
        let g = (own_none sealed t u (Poisoned (j + 1)) n.1).own in
        let d = changes (RefOf u) in
        let old = f.left u (omega arith) in
        record {
          none = spoiled_same t u j steps n.0 ∙ old.none;
          poisoned = λ some_ref place less. spoiled_other t u j place steps n.0 ∙ old.poisoned (omega arith) place less;
        }
  ];
  each_view = each;
}
  where
    here : (state : OwnState) → 0 < later (OwnAs t state) → IsFilled (Spoiled t j ∷ steps) t (content_of (history t)) (progress state)
    here state there =
        let o = changes (OwnOf t) in let l = own_self sealed t a in let g = own_self sealed t (Poisoned (j + 1)) in
        let c = changes (OwnAs t (Poisoned (j + 1))) in let now = state_here sealed t (Poisoned (j + 1)) in
        let lost = lost_few in
        let same = one_state later t (Poisoned (j + 1)) state after_tally (omega arith) (omega arith) there in
        subst (λ (s : OwnState). IsFilled (Spoiled t j ∷ steps) t (content_of (history t)) (progress s)) same
        (filled_more steps t (content_of (history t)) j
        (subst (λ (n : ℕ). IsFilled steps t (content_of (history t)) n) many (f.owned t a has)))
      where
        lost_within : (s : OwnState) → 0 < total (OwnAs t s) →
            held_in (OwnPiece sealed t s ∷ []) (OwnAs t (Poisoned (j + 1))) ≤ total (OwnAs t (Poisoned (j + 1)))
        lost_within s there_before = elim (state_tells s (Poisoned (j + 1))) [
          | inl y ↦ let now : 0 < total (OwnAs t (Poisoned (j + 1))) = subst (λ (x : OwnState). 0 < total (OwnAs t x)) y.1 there_before in
              rw (y.1, state_here sealed t (Poisoned (j + 1))) (omega arith)
          | inr n ↦ rw (state_apart sealed t s (Poisoned (j + 1)) n.1) (omega arith)
        ]

        lost_few : held_in (OwnPiece sealed t a ∷ []) (OwnAs t (Poisoned (j + 1))) ≤ total (OwnAs t (Poisoned (j + 1)))
        lost_few = lost_within a has

-- an Own that has words poisoned is poisoned
begun : (v : View) (t : Title) (j : ℕ) → own_to v t (suc j) ≤ poisoned_of v t
begun v t j = sum_by-le-sum_by (λ (o : OwnTitle). one (same_title o.title t && (progress o.state == suc j)))
    (λ (o : OwnTitle). one (same_title o.title t && is_poisoned o.state)) v.owns
    (λ o. each (same_title o.title t) o.state)
  where
    zero_before : (n : ℕ) → one (0 == suc n) ≡ 0
    zero_before n = elim (eqb_tells 0 (suc n)) [ inl y ↦ let e = y.1 in absurd (omega arith) | inr m ↦ ap one m.0 ]

    each : (b : Bool) (a : OwnState) → one (b && (progress a == suc j)) ≤ one (b && is_poisoned a)
    each true Clean = let z = zero_before j in omega arith
    each true Dirty = let z = zero_before j in omega arith
    each true (Poisoned n) = small (n == suc j)
      where
        small : (c : Bool) → one c ≤ 1
        small true = omega arith
        small false = omega arith
    each false a = omega arith

-- of another title as many Owns are poisoned as before
beside_poisoned : (t u : Title) (j : ℕ) (v : View) → (t ≡ u → ⊥) → poisoned_of (after_poison t j v) u ≡ poisoned_of v u
beside_poisoned t u j v ne =
    sum_changed (λ (o : OwnTitle). one (same_title o.title u && is_poisoned o.state)) (is_own_of t) (poisoned_to (j + 1)) v.owns
    (λ o here. own_else t u (Poisoned (j + 1)) o ne here ∙ sym (own_else t u o.state o ne here))

-- the view that poisons finds the steps steady after it
poison_near : (steps : List OneStep) (t : Title) (j : ℕ) (v : View) → GoesOn j v → 0 < own_to v t j → spoiled t steps ≡ j →
    IsSteady steps v → (u : Title) →
    0 < poisoned_of (after_poison t j v) u → IsAlone (least_stake v.stakes) u steps
poison_near steps t zero v goes has many s u some_own = elim (title_tells t u) [
  | inl y ↦ subst (λ (x : Title). IsAlone (least_stake v.stakes) x steps) y.1 (alone_none (least_stake v.stakes) t steps many)
  | inr n ↦ let e = beside_poisoned t u zero v n.1 in let l = poisoned_within v u in absurd (omega arith)
]
poison_near steps t (suc j) v goes has many s u some_own = elim (title_tells t u) [
  | inl y ↦ let b = begun v t j in subst (λ (x : Title). IsAlone (least_stake v.stakes) x steps) y.1 (s.near t goes (omega arith))
  | inr n ↦ let e = beside_poisoned t u (suc j) v n.1 in s.near u goes (omega arith)
]

pub poison_steady : (steps : List OneStep) (t : Title) (j : ℕ) (views : List View) (i : ℕ) (v : View) → get_elem? views i ≡ some v →
    CanPoison t j v → spoiled t steps ≡ j →
    ((k : ℕ) (u : View) → get_elem? views k ≡ some u → IsSteady steps u) →
    (k : ℕ) (u : View) → get_elem? (set views i (after_poison t j v)) k ≡ some u → IsSteady (Spoiled t j ∷ steps) u
poison_steady steps t j views i v at_i can many each =
    each_set (IsSteady steps) (IsSteady (Spoiled t j ∷ steps)) views i v (after_poison t j v) at_i each
    (record {
      waits = λ u found is quiet. (each i v at_i).waits u found is quiet;
      near = λ u did some_own. poison_near steps t j v can.3 can.0 many (each i v at_i) u some_own;
    })
    (λ k u ne at_k s. record { waits = s.waits; near = s.near })
