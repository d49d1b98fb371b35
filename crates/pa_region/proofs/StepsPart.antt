-- The rule's part on steps with the poisonings: what an entry, and a step that logs nothing, leave of it.
use Rattle.std.proofs.Common.{◌≡◌, ℕ, ◌<◌, Bool, true, false, List, [], ◌∷◌, ◌++◌, Some, set, refl, sym, ◌∙◌, ap, subst, arith, inl, inr}
use Rattle.std.proofs.lemmas.Bool.{true≢false}
use mathlib.Core.Option.{some}
use lib.ListN.{get_elem?}
use Rattle.pa_slot.specs.declared.title.Title.{Title}
use Rattle.pa_slot.specs.declared.title.OwnState.{OwnState}
use Rattle.pa_slot.specs.Titles.{progress}
use Rattle.pa_slot.specs.Holdings.{Thing, OwnPiece, OwnOf, OwnAs, RefOf, held_in}
use Rattle.pa_slot.proofs.Same.{title_tells, state_tells}
use Rattle.pa_machine.proofs.Parts.{Changes, own_none}
use Rattle.pa_machine.proofs.Amounts.{own_self, state_apart}
use Rattle.pa_region.specs.declared.view.Entry.{Entry}
use Rattle.pa_region.specs.declared.view.Entry.TheVariants.{Looked}
use Rattle.pa_region.specs.declared.view.Stake.{Stake}
use Rattle.pa_region.specs.declared.view.View.{View}
use Rattle.pa_region.specs.Views.{least_stake}
use Rattle.pa_region.specs.History.{Done, content_of}
use Rattle.pa_region.specs.Moves.{noted}
use Rattle.pa_region.specs.Pairs.{last_entry, least_log}
use Rattle.pa_region.specs.Waiting.{poisoned_of}
use Rattle.pa_region.specs.Order.{Stamped, OneStep, Logged, Spoiled, is_free_of, spoiled, left_by, content_in, DoesNotFill, IsCalm, IsAlone, IsEntryInPlace}
use Rattle.pa_region.specs.Filled.{IsFilled, IsSteady, Filled}
use Rattle.pa_region.proofs.Entering.{least_noted}
use Rattle.pa_region.proofs.OrderPart.{ending}
use Rattle.pa_region.proofs.ReadsSame.{each_set}

-- a stake is alone with a title that has no poisoning without a free
pub alone_none : (r : ℕ) (t : Title) (steps : List OneStep) → spoiled t steps ≡ 0 → IsAlone r t steps
alone_none r t [] none = tt
alone_none r t (Logged m ∷ older) none = inl none
alone_none r t (Spoiled u place ∷ older) none = alone_none r t older (omega arith)

-- the step that logs the entry with the view's least stake
abbrev pub logging : Entry → View → OneStep
logging e v = Logged (record { stake = least_stake v.stakes; entry = e })

-- a view that logged an entry finds the steps steady
pub steady_here : (steps : List OneStep) (v w : View) (e : Entry) → w.stakes ≡ noted e v.stakes → w.since.poisoned ≡ false →
    IsSteady (logging e v ∷ steps) w
steady_here steps v w e stakes quiet = record {
  waits = λ t found is handed. inl (sym (ap least_stake stakes ∙ least_noted e v.stakes));
  near = λ t did some_own. absurd (true≢false (sym did ∙ quiet));
}

-- what another view's entry must be to it: not of its stake while it has poisoned an Own, and no issue or write of a title at which it
-- looked
pub record IsOthers (v u : View) (e : Entry) : Type 0 where
  pub fills : (t : Title) (found : ℕ) → last_entry (least_log u.stakes) ≡ Some (Looked t found) → u.since.handed ≡ false → DoesNotFill t e
  pub apart : (t : Title) → 0 < poisoned_of u t → least_stake v.stakes ≡ least_stake u.stakes → ⊥

pub steady_beside : (steps : List OneStep) (v u : View) (e : Entry) → IsOthers v u e → IsSteady steps u → IsSteady (logging e v ∷ steps) u
steady_beside steps v u e other s = record {
  waits = λ t found is handed. inr (other.fills t found is handed, s.waits t found is handed);
  near = λ t did some_own. inr (other.apart t some_own, s.near t did some_own);
}

-- a view with the same stakes, which did no more since its last entry
pub steady_same : (steps : List OneStep) (v w : View) → w.stakes ≡ v.stakes → (w.since.handed ≡ false → v.since.handed ≡ false) →
    (w.since.poisoned ≡ true → v.since.poisoned ≡ true) → ((t : Title) → 0 < poisoned_of w t → 0 < poisoned_of v t) → IsSteady steps v →
    IsSteady steps w
steady_same steps v w stakes handed did fewer s = record {
  waits = λ t found is quiet. subst (λ (ss : List Stake). IsCalm (least_stake ss) t steps) (sym stakes)
      (s.waits t found (ap (λ ss. last_entry (least_log ss)) (sym stakes) ∙ is) (handed quiet));
  near = λ t poisoned some_own. subst (λ (ss : List Stake). IsAlone (least_stake ss) t steps) (sym stakes)
      (s.near t (did poisoned) (fewer t some_own));
}

-- a view that handed something over, and has no poisoned Own
pub steady_handed : (steps : List OneStep) (v : View) → v.since.handed ≡ true → ((t : Title) → poisoned_of v t ≡ 0) → IsSteady steps v
steady_handed steps v handed none = record {
  waits = λ t found is quiet. absurd (true≢false (sym handed ∙ quiet));
  near = λ t did some_own. let z = none t in absurd (omega arith);
}

-- the Owns and Refs are those of before, but an Own may be in another state with as many poisoned words
pub record IsEased (total later : Thing → ℕ) : Type 0 where
  pub owned : (t : Title) (state : OwnState) → 0 < later (OwnAs t state) → (was : OwnState) × (progress was ≡ progress state) ×
      (0 < total (OwnAs t was))
  pub own : (t : Title) → later (OwnOf t) ≡ total (OwnOf t)
  pub ref : (t : Title) → later (RefOf t) ≡ total (RefOf t)

pub eased_same : (total later : Thing → ℕ) → ((x : Thing) → later x ≡ total x) → IsEased total later
eased_same total later same = record {
  owned = λ t state has. (state, refl, (let e = same (OwnAs t state) in omega arith));
  own = λ t. same (OwnOf t);
  ref = λ t. same (RefOf t);
}

pub eased_change : (total later : Thing → ℕ) (t : Title) (sealed : Bool) (from to : OwnState) →
    Changes total (OwnPiece sealed t from ∷ []) (OwnPiece sealed t to ∷ []) later →
    0 < total (OwnAs t from) → progress from ≡ progress to → IsEased total later
eased_change total later t sealed from to changes has many = record {
  owned = λ u state there. elim (title_tells t u) [
    | inl y ↦ elim (state_tells to state) [
      | inl z ↦ (from, many ∙ ap progress z.1, subst (λ (x : Title). 0 < total (OwnAs x from)) y.1 has)
      | inr n ↦
          let none : held_in (OwnPiece sealed t to ∷ []) (OwnAs u state) ≡ 0 =
          subst (λ (x : Title). held_in (OwnPiece sealed t to ∷ []) (OwnAs x state) ≡ 0) y.1 (state_apart sealed t to state n.1) in
          let c = changes (OwnAs u state) in
          (state, refl, omega arith)
    ]
    | inr n ↦
        let none = (own_none sealed t u to n.1).state state in
        let c = changes (OwnAs u state) in
        (state, refl, omega arith)
  ];
  own = λ u. elim (title_tells t u) [
    | inl y ↦ subst (λ (x : Title). later (OwnOf x) ≡ total (OwnOf x)) y.1
        (let a = own_self sealed t from in let b = own_self sealed t to in let c = changes (OwnOf t) in omega arith)
    | inr n ↦ let a = (own_none sealed t u from n.1).own in let b = (own_none sealed t u to n.1).own in
        let c = changes (OwnOf u) in omega arith
  ];
  ref = λ u. let c = changes (RefOf u) in omega arith;
}

-- a step that logs nothing and poisons nothing
pub filled_over : (steps : List OneStep) (all : List Stamped) (history : Title → List Done) (total later : Thing → ℕ)
    (views after : List View) → IsEased total later →
    Filled steps all history total views → ((i : ℕ) (v : View) → get_elem? after i ≡ some v → IsSteady steps v) →
    Filled steps all history later after
filled_over steps all history total later views after eased f each = record {
  logged = f.logged;
  placed = f.placed;
  owned = λ t state has.
      let was = eased.owned t state has in
      let old = f.owned t was.0 was.2 in
      subst (λ (n : ℕ). IsFilled steps t (content_of (history t)) n) was.1 old;
  left = λ t none.
      let old = f.left t (sym (eased.own t) ∙ none) in
      record { none = old.none; poisoned = λ some_ref. let e = eased.ref t in old.poisoned (omega arith) };
  each_view = each;
}

pub filled_same : (steps : List OneStep) (all : List Stamped) (history : Title → List Done) (total later : Thing → ℕ) (views : List View)
    (i : ℕ) (v w : View) →
    get_elem? views i ≡ some v → IsEased total later → w.stakes ≡ v.stakes → (w.since.handed ≡ false → v.since.handed ≡ false) →
    (w.since.poisoned ≡ true → v.since.poisoned ≡ true) → ((t : Title) → 0 < poisoned_of w t → 0 < poisoned_of v t) →
    Filled steps all history total views → Filled steps all history later (set views i w)
filled_same steps all history total later views i v w at_i eased stakes handed did fewer f =
    filled_over steps all history total later views (set views i w) eased f
    (each_set (IsSteady steps) (IsSteady steps) views i v w at_i f.each_view
    (steady_same steps v w stakes handed did fewer (f.each_view i v at_i)) (λ j u ne at_j s. s))

-- an entry that is no counted step: it frees nothing, and changes and fills no content
pub record IsNoCount (e : Entry) : Type 0 where
  pub frees : (t : Title) → is_free_of t e ≡ false
  pub keeps : (t : Title) (x : ℕ) → left_by t e x ≡ x
  pub fills : (t : Title) → DoesNotFill t e

-- the eighth part goes on with such an entry after the steps
pub filled_entry : (steps : List OneStep) (all : List Stamped) (history : Title → List Done) (total later : Thing → ℕ) (views : List View)
    (i : ℕ) (v w : View) (e : Entry) →
    get_elem? views i ≡ some v → w.stakes ≡ noted e v.stakes → w.since.poisoned ≡ false → IsNoCount e →
    IsEntryInPlace (least_stake v.stakes) e steps →
    ((j : ℕ) (u : View) → (j ≡ i → ⊥) → get_elem? views j ≡ some u → (t : Title) → 0 < poisoned_of u t →
    least_stake v.stakes ≡ least_stake u.stakes → ⊥) →
    IsEased total later → Filled steps all history total views → Filled (logging e v ∷ steps) (ending e v all) history later (set views i w)
filled_entry steps all history total later views i v w e at_i stakes quiet plain place apart eased f = record {
  logged = ap (λ (ms : List Stamped). ms ++ record { stake = least_stake v.stakes; entry = e } ∷ []) f.logged;
  placed = (place, f.placed);
  owned = λ t state has.
      let was = eased.owned t state has in
      let old = f.owned t was.0 was.2 in
      subst (λ (n : ℕ). IsFilled (logging e v ∷ steps) t (content_of (history t)) n) was.1
      (record {
        many = rw (plain.frees t) old.many;
        poisoned = λ place below. plain.keeps t (content_in t place steps) ∙ old.poisoned place below;
        beyond = λ place above. plain.keeps t (content_in t place steps) ∙ old.beyond place above;
      });
  left = λ t none.
      let old = f.left t (sym (eased.own t) ∙ none) in
      record {
        none = rw (plain.frees t) old.none;
        poisoned = λ some_ref place below. let r = eased.ref t in plain.keeps t (content_in t place steps) ∙
            old.poisoned (omega arith) place below;
      };
  each_view = each_set (IsSteady steps) (IsSteady (logging e v ∷ steps)) views i v w at_i f.each_view (steady_here steps v w e stakes quiet)
      (λ j u ne at_j s. steady_beside steps v u e (record { fills = λ t found is handed. plain.fills t; apart = apart j u ne at_j }) s);
}

-- no Own and no Ref changes
pub eased_titles : (total later : Thing → ℕ) → ((t : Title) (state : OwnState) → later (OwnAs t state) ≡ total (OwnAs t state)) →
    ((t : Title) → later (OwnOf t) ≡ total (OwnOf t)) →
    ((t : Title) → later (RefOf t) ≡ total (RefOf t)) → IsEased total later
eased_titles total later states owns refs =
    record { owned = λ t state has. (state, refl, (let e = states t state in omega arith)); own = owns; ref = refs }
