-- A counted step after the steps with the poisonings.
use Rattle.std.proofs.Common.{◌≡◌, ℕ, ◌+◌, ◌<◌, ◌≤◌, Bool, true, false, List, [], ◌∷◌, ◌++◌, refl, sym, ◌∙◌, ap, subst, arith, inl, inr}
use mathlib.Core.Option.{some}
use lib.ListN.{get_elem?}
use Rattle.pa_slot.specs.declared.title.Title.{Title}
use Rattle.pa_slot.specs.declared.title.OwnState.{OwnState}
use Rattle.pa_slot.specs.declared.title.OwnState.TheVariants.{Clean, Poisoned}
use Rattle.pa_slot.specs.declared.word.Step.{Step}
use Rattle.pa_slot.specs.declared.word.Step.TheVariants.{Issue, Copy, Reset, Free, Write}
use Rattle.pa_slot.specs.Titles.{same_title, content_count, progress}
use Rattle.pa_slot.specs.Holdings.{Thing, OwnPiece, OwnOf, OwnAs, RefOf, held_in}
use Rattle.pa_machine.specs.Events.{returned_at}
use Rattle.pa_slot.proofs.Same.{title_tells, title_self, state_tells}
use Rattle.pa_machine.proofs.Parts.{Changes, IsNoneOf}
use Rattle.pa_machine.proofs.Totals.{IsTally}
use Rattle.pa_machine.proofs.Amounts.{own_self, state_here, state_apart, returned_cases}
use Rattle.pa_region.specs.declared.view.Entry.TheVariants.{Counted}
use Rattle.pa_region.specs.declared.view.View.{View}
use Rattle.pa_region.specs.History.{Done, content_by, content_of}
use Rattle.pa_region.specs.Frees.{is_free}
use Rattle.pa_region.specs.Order.{Stamped, OneStep, Logged, spoiled, content_in, IsAlone, IsCountInPlace}
use Rattle.pa_region.specs.Filled.{IsFilled, IsLeft, IsSteady, Filled}
use Rattle.pa_region.proofs.Pieces.{lost_by, gained_by}
use Rattle.pa_region.proofs.LogPart.{history_by}

-- What a counted step needs of the steps. For an issue there is no Own. A copy has a Ref, or an Own. A free has the Own with
-- all words poisoned, and was alone with it. A write has one that isn't poisoned.
abbrev pub IsReady : Step → ℕ → Title → OwnState → List OneStep → (Thing → ℕ) → Type 0
IsReady Issue r t a steps total = total (OwnOf t) ≡ 0
IsReady Copy r t a steps total = 0 < total (OwnOf t) + total (RefOf t)
IsReady Reset r t a steps total = 0 < total (RefOf t)
IsReady Free r t a steps total = (a ≡ Poisoned (content_count t)) × (0 < total (OwnAs t a)) × (total (OwnOf t) ≡ 1) × IsAlone r t steps
IsReady Write r t a steps total = (progress a ≡ 0) × (0 < total (OwnAs t a)) × (total (OwnOf t) ≡ 1)

-- a counted step that has what it needs of the steps is in place
pub count_placed : (step : Step) (r : ℕ) (t : Title) (a : OwnState) (steps : List OneStep) (all : List Stamped)
    (history : Title → List Done) (total : Thing → ℕ) (views : List View) →
    Filled steps all history total views → IsReady step r t a steps total → IsCountInPlace step r t steps
count_placed Issue r t a steps all history total views f ready = (f.left t ready).none
count_placed Copy r t a steps all history total views f ready = tt
count_placed Reset r t a steps all history total views f ready = tt
count_placed Free r t a steps all history total views f ready = ((f.owned t a ready.1).many ∙ ap progress ready.0, ready.3)
count_placed Write r t a steps all history total views f ready = (f.owned t a ready.1).many ∙ ready.0

-- the entry after the steps, at its own title: whether it frees, and what it leaves
own_free : (step : Step) (t : Title) (found value : ℕ) (m : Stamped) (steps : List OneStep) → m.entry ≡ Counted t step found value →
    is_free step ≡ true →
    spoiled t (Logged m ∷ steps) ≡ 0
own_free step t found value m steps is free = rw (is, title_self t, free) refl

own_stays : (step : Step) (t : Title) (found value : ℕ) (m : Stamped) (steps : List OneStep) → m.entry ≡ Counted t step found value →
    is_free step ≡ false →
    spoiled t (Logged m ∷ steps) ≡ spoiled t steps
own_stays step t found value m steps is free = rw (is, title_self t, free) refl

own_content : (step : Step) (t : Title) (found value place : ℕ) (m : Stamped) (steps : List OneStep) →
    m.entry ≡ Counted t step found value →
    content_in t place (Logged m ∷ steps) ≡ content_by step value (content_in t place steps)
own_content step t found value place m steps is = rw (is, title_self t) refl

-- at another title
other_spoiled : (step : Step) (t u : Title) (found value : ℕ) (m : Stamped) (steps : List OneStep) → m.entry ≡ Counted t step found value →
    same_title t u ≡ false →
    spoiled u (Logged m ∷ steps) ≡ spoiled u steps
other_spoiled step t u found value m steps is ne = rw (is, ne) refl

other_content : (step : Step) (t u : Title) (found value place : ℕ) (m : Stamped) (steps : List OneStep) →
    m.entry ≡ Counted t step found value → same_title t u ≡ false →
    content_in u place (Logged m ∷ steps) ≡ content_in u place steps
other_content step t u found value place m steps is ne = rw (is, ne) refl

-- what is given back is no Own and no Ref
back_none : (left : ℕ) (t u : Title) (a : OwnState) →
    (held_in (returned_at left t) (OwnAs u a) ≡ 0) × (held_in (returned_at left t) (OwnOf u) ≡ 0) ×
    (held_in (returned_at left t) (RefOf u) ≡ 0)
back_none left t u a = elim (returned_cases left t) [ inl y ↦ rw y.1 (refl, refl, refl) | inr n ↦ rw n.1 (refl, refl, refl) ]

-- an Own that is clean after a change of the one Own, or of none
now_clean : (total later : Thing → ℕ) (t : Title) (state : OwnState) → IsTally later → later (OwnOf t) ≡ 1 → 0 < later (OwnAs t Clean) →
    0 < later (OwnAs t state) → Clean ≡ state
now_clean total later t state tally few clean has =
    elim (state_tells Clean state) [ inl y ↦ y.1 | inr n ↦ let two = tally.two t Clean state n.1 in absurd (omega arith) ]

module _ (t : Title) (found value left : ℕ) (sealed : Bool) (a : OwnState) (m : Stamped) (steps : List OneStep) (all : List Stamped)
    (history : Title → List Done) (total later : Thing → ℕ) (views : List View)
    (f : Filled steps all history total views) (tally : IsTally total) (after_tally : IsTally later) where
  -- the Own of the step's title after it
  own_after : (step : Step) (r : ℕ) → m.entry ≡ Counted t step found value → IsReady step r t a steps total →
      Changes total (lost_by step t sealed a) (gained_by step t sealed left) later →
      (state : OwnState) → 0 < later (OwnAs t state) →
      IsFilled (Logged m ∷ steps) t (content_of (record { step = step; value = value } ∷ history t)) (progress state)
  own_after Issue r is ready changes state has =
      let o = changes (OwnOf t) in let one_own = own_self false t Clean in
      let c = changes (OwnAs t Clean) in let one_clean = state_here false t Clean in
      let clean = now_clean total later t state after_tally (omega arith) (omega arith) has in
      subst (λ (s : OwnState). IsFilled (Logged m ∷ steps) t (content_of (record { step = Issue; value = value } ∷ history t)) (progress s))
      clean
      (record {
        many = own_stays Issue t found value m steps is refl ∙ (f.left t ready).none;
        poisoned = λ place below. absurd (omega arith);
        beyond = λ place above. own_content Issue t found value place m steps is;
      })
  own_after Copy r is ready changes state has =
      let c = changes (OwnAs t state) in
      let old = f.owned t state (omega arith) in
      record {
        many = own_stays Copy t found value m steps is refl ∙ old.many;
        poisoned = λ place below. own_content Copy t found value place m steps is ∙ old.poisoned place below;
        beyond = λ place above. own_content Copy t found value place m steps is ∙ old.beyond place above;
      }
  own_after Reset r is ready changes state has =
      let c = changes (OwnAs t state) in let b = (back_none left t t state).0 in
      let old = f.owned t state (omega arith) in
      record {
        many = own_stays Reset t found value m steps is refl ∙ old.many;
        poisoned = λ place below. own_content Reset t found value place m steps is ∙ old.poisoned place below;
        beyond = λ place above. own_content Reset t found value place m steps is ∙ old.beyond place above;
      }
  own_after Free r is ready changes state has =
      let o = changes (OwnOf t) in let one_own = own_self sealed t a in let b = (back_none left t t state).1 in
      let one_before = ready.2 in
      let part = after_tally.part t state in
      absurd (omega arith)
  own_after Write r is ready changes state has =
      let o = changes (OwnOf t) in let one_own = own_self sealed t a in let new_own = own_self sealed t Clean in
      let one_before = ready.2 in
      let c = changes (OwnAs t Clean) in let new_clean = state_here sealed t Clean in
      let lost : held_in (OwnPiece sealed t a ∷ []) (OwnAs t Clean) ≤ total (OwnAs t Clean) = elim (state_tells a Clean) [
        | inl y ↦ let has_one : 0 < total (OwnAs t Clean) = subst (λ (s : OwnState). 0 < total (OwnAs t s)) y.1 ready.1 in
            rw (y.1, state_here sealed t Clean) (omega arith)
        | inr n ↦ rw (state_apart sealed t a Clean n.1) (omega arith)
      ] in
      let clean = now_clean total later t state after_tally (omega arith) (omega arith) has in
      subst (λ (s : OwnState). IsFilled (Logged m ∷ steps) t (content_of (record { step = Write; value = value } ∷ history t)) (progress s))
      clean
      (record {
        many = own_stays Write t found value m steps is refl ∙ ((f.owned t a ready.1).many ∙ ready.0);
        poisoned = λ place below. absurd (omega arith);
        beyond = λ place above. own_content Write t found value place m steps is;
      })

  -- if no Own of the title is left after a counted step, each of its poisonings has a free after it, and with Refs its content is poison
  left_after_count : (step : Step) (r : ℕ) → m.entry ≡ Counted t step found value → IsReady step r t a steps total →
      Changes total (lost_by step t sealed a) (gained_by step t sealed left) later →
      later (OwnOf t) ≡ 0 → IsLeft (Logged m ∷ steps) t (later (RefOf t))
  left_after_count Issue r is ready changes none = let o = changes (OwnOf t) in let one_own = own_self false t Clean in
      absurd (omega arith)
  left_after_count Copy r is ready changes none =
      let o = changes (OwnOf t) in
      let old = f.left t (omega arith) in
      record {
        none = own_stays Copy t found value m steps is refl ∙ old.none;
        poisoned = λ some_ref place below. own_content Copy t found value place m steps is ∙ old.poisoned (omega arith) place below;
      }
  left_after_count Reset r is ready changes none =
      let o = changes (OwnOf t) in let b = (back_none left t t Clean).1 in
      let old = f.left t (omega arith) in
      record {
        none = own_stays Reset t found value m steps is refl ∙ old.none;
        poisoned = λ some_ref place below. own_content Reset t found value place m steps is ∙ old.poisoned ready place below;
      }
  left_after_count Free r is ready changes none = record {
    none = own_free Free t found value m steps is refl;
    poisoned = λ some_ref place below. own_content Free t found value place m steps is
        ∙ (f.owned t a ready.1).poisoned place (subst (λ (s : OwnState). place < progress s) (sym ready.0) below);
  }
  left_after_count Write r is ready changes none =
      let o = changes (OwnOf t) in let one_own = own_self sealed t a in let new_own = own_self sealed t Clean in
      let one_before = ready.2 in
      absurd (omega arith)

  -- the part after the step
  pub filled_counted : (step : Step) (r : ℕ) (after : List View) → m ≡ record { stake = r; entry = Counted t step found value } →
      IsReady step r t a steps total →
      Changes total (lost_by step t sealed a) (gained_by step t sealed left) later →
      ((u : Title) → (t ≡ u → ⊥) → IsNoneOf (lost_by step t sealed a) u) →
      ((u : Title) → (t ≡ u → ⊥) → IsNoneOf (gained_by step t sealed left) u) →
      ((i : ℕ) (v : View) → get_elem? after i ≡ some v → IsSteady (Logged m ∷ steps) v) →
      Filled (Logged m ∷ steps) (all ++ m ∷ []) (history_by step t value history) later after
  filled_counted step r after is ready changes lost gained each = record {
    logged = ap (λ (ms : List Stamped). ms ++ m ∷ []) f.logged;
    placed = (rw is (count_placed step r t a steps all history total views f ready), f.placed);
    owned = λ u state has. elim (title_tells t u) [
      | inl y ↦ subst (λ (x : Title). 0 < later (OwnAs x state) →
          IsFilled (Logged m ∷ steps) x (content_of (history_by step t value history x)) (progress state)) y.1
          (λ here. rw (title_self t) (own_after step r entry ready changes state here)) has
      | inr n ↦
          let c = changes (OwnAs u state) in let l = (lost u n.1).state state in let g = (gained u n.1).state state in
          let old = f.owned u state (omega arith) in
          rw n.0 (record {
            many = other_spoiled step t u found value m steps entry n.0 ∙ old.many;
            poisoned = λ place below. other_content step t u found value place m steps entry n.0 ∙ old.poisoned place below;
            beyond = λ place above. other_content step t u found value place m steps entry n.0 ∙ old.beyond place above;
          })
    ];
    left = λ u none. elim (title_tells t u) [
      | inl y ↦ subst (λ (x : Title). later (OwnOf x) ≡ 0 → IsLeft (Logged m ∷ steps) x (later (RefOf x))) y.1
          (left_after_count step r entry ready changes) none
      | inr n ↦
          let c = changes (OwnOf u) in let l = (lost u n.1).own in let g = (gained u n.1).own in
          let d = changes (RefOf u) in let lr = (lost u n.1).ref in let gr = (gained u n.1).ref in
          let old = f.left u (omega arith) in
          record {
            none = other_spoiled step t u found value m steps entry n.0 ∙ old.none;
            poisoned = λ some_ref place below. other_content step t u found value place m steps entry n.0 ∙
                old.poisoned (omega arith) place below;
          }
    ];
    each_view = each;
  }
    where
      entry : m.entry ≡ Counted t step found value
      entry = ap (λ (x : Stamped). x.entry) is
