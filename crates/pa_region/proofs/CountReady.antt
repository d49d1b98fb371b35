-- A counted step that a view may make is ready for the steps with the poisonings, and leaves them steady for each view.
use Rattle.std.proofs.Common.{◌≡◌, ℕ, ◌<◌, List, ◌∷◌, set, refl, sym, ◌∙◌, ap, subst, arith, inl, inr}
use mathlib.Core.Option.{some}
use lib.ListN.{get_elem?}
use Rattle.pa_slot.specs.declared.title.Title.{Title}
use Rattle.pa_slot.specs.declared.title.OwnState.{OwnState}
use Rattle.pa_slot.specs.declared.title.OwnState.TheVariants.{Clean, Poisoned}
use Rattle.pa_slot.specs.declared.word.Step.{Step}
use Rattle.pa_slot.specs.declared.word.Step.TheVariants.{Issue, Copy, Reset, Free, Write}
use Rattle.pa_slot.specs.Titles.{content_count, count_word, progress}
use Rattle.pa_slot.specs.Holdings.{FreeTitle, OwnOf, OwnAs, RefOf}
use Rattle.pa_machine.specs.Events.{total_of}
use Rattle.pa_machine.proofs.Parts.{free_or}
use Rattle.pa_machine.proofs.Happening.{few_owns}
use Rattle.pa_region.specs.declared.view.Entry.TheVariants.{Counted}
use Rattle.pa_region.specs.declared.view.View.{View}
use Rattle.pa_region.specs.Views.{byte_words, shown, least_stake, HasTitle}
use Rattle.pa_region.specs.Rule.{IsKept}
use Rattle.pa_region.specs.Moves.{CanCount, noted, value_of, after_count}
use Rattle.pa_region.specs.Order.{DoesNotFill}
use Rattle.pa_region.specs.Filled.{IsSteady}
use Rattle.pa_region.proofs.Pieces.{TakesOwn, held_within, frees_have, owns_have, refs_have, own_as_own, sealed_or_not, idle_owns}
use Rattle.pa_region.proofs.Bytes.{held_in_all}
use Rattle.pa_region.proofs.Found.{handle_held}
use Rattle.pa_region.proofs.MovedRest.{moved_stakes, entry_of}
use Rattle.pa_region.proofs.CountEvent.{state_is, own_held, open_state}
use Rattle.pa_region.proofs.ReadStep.{as_poisoned}
use Rattle.pa_region.proofs.ReadsCount.{others_keep}
use Rattle.pa_region.proofs.ReadsSame.{each_set}
use Rattle.pa_region.proofs.CountFilled.{IsReady}
use Rattle.pa_region.proofs.StepsPart.{logging, steady_here, steady_beside}
use Rattle.pa_region.proofs.StepsKept.{others_apart}

-- no Own is there of a title that is free
free_unowned : (t : Title) (words : List ℕ) (views : List View) (i : ℕ) (v : View) → IsKept words views → get_elem? views i ≡ some v →
    CanCount Issue t v →
    total_of (shown words views) (OwnOf t) ≡ 0
free_unowned t words views i v k at_i can =
    let word = k.holders.good.counted t (held_in_all words views i v t at_i (handle_held Issue t v can.0)) in
    let f = frees_have v t in
    let has = can.0 in
    let w = held_within words views i v at_i (FreeTitle t) in
    elim (free_or (count_word (byte_words words) t)) [
      | inl free ↦ let p = word.owns in let z = free.0 in omega arith
      | inr used ↦ let z = word.taken used in absurd (omega arith)
    ]

-- there is one Own of a title that a view has
one_own : (t : Title) (words : List ℕ) (views : List View) → IsKept words views → 0 < total_of (shown words views) (OwnOf t) →
    total_of (shown words views) (OwnOf t) ≡ 1
one_own t words views k has = let few = few_owns (shown words views) t k.holders.good has in omega arith

-- the step is ready
pub count_ready : (step : Step) (t : Title) (words : List ℕ) (views : List View) (i : ℕ) (v : View) (k : IsKept words views) →
    get_elem? views i ≡ some v → CanCount step t v →
    (a : OwnState) → TakesOwn step t a v → IsReady step (least_stake v.stakes) t a k.steps (total_of (shown words views))
count_ready Issue t words views i v k at_i can a takes = free_unowned t words views i v k at_i can
count_ready Copy t words views i v k at_i can a takes =
    let has = can.0 in
    let o = own_as_own v t Clean in let unsealed = (sealed_or_not v t Clean).0 in let on = owns_have v t in let rn = refs_have v t in
    let ow = held_within words views i v at_i (OwnOf t) in let rw1 = held_within words views i v at_i (RefOf t) in
    omega arith
count_ready Reset t words views i v k at_i can a takes =
    let has = can.0 in let rn = refs_have v t in let rw1 = held_within words views i v at_i (RefOf t) in omega arith
count_ready Free t words views i v k at_i can a takes =
    let n = content_count t in
    let has = can.0 in
    let o = own_as_own v t (Poisoned n) in let on = owns_have v t in let ow = held_within words views i v at_i (OwnOf t) in
    let w = held_within words views i v at_i (OwnAs t a) in
    let p = as_poisoned v t n in (
      state_is words views i v t a (Poisoned n) k at_i takes (own_held words views i v t (Poisoned n) at_i can.0),
      omega arith,
      one_own t words views k (omega arith),
      (k.filled.each_view i v at_i).near t can.3 (omega arith),
    )
count_ready Write t words views i v k at_i can a takes =
    let idle = idle_owns v t can.0.0 in
    let ow = held_within words views i v at_i (OwnOf t) in
    let w = held_within words views i v at_i (OwnAs t a) in
    let unfrozen = open_state words views i v t at_i can.0.1 in
    let same = state_is words views i v t a unfrozen.0 k at_i takes unfrozen.1.1 in (
      ap progress same ∙ elim unfrozen.1.0 [ inl y ↦ ap progress y | inr y ↦ ap progress y ],
      omega arith,
      one_own t words views k (omega arith),
    )

-- an entry of a step that is no issue and no write of a title doesn't fill it
no_fill : (step : Step) (t u : Title) (found value : ℕ) → (t ≡ u → (step ≡ Issue → ⊥) × (step ≡ Write → ⊥)) →
    DoesNotFill u (Counted t step found value)
no_fill Issue t u found value other = λ e. (other e).0 refl
no_fill Copy t u found value other = tt
no_fill Reset t u found value other = tt
no_fill Free t u found value other = tt
no_fill Write t u found value other = λ e. (other e).1 refl

-- each view finds the steps steady after it
pub count_steady : (step : Step) (t : Title) (words : List ℕ) (views : List View) (i : ℕ) (v : View) (k : IsKept words views) →
    get_elem? views i ≡ some v → CanCount step t v →
    (j : ℕ) (u : View) → get_elem? (set views i (after_count step t (count_word (byte_words words) t) v)) j ≡ some u →
    IsSteady (logging (entry_of step t (count_word (byte_words words) t) v) v ∷ k.steps) u
count_steady step t words views i v k at_i can =
    let word = count_word (byte_words words) t in
    let e = entry_of step t word v in
    each_set (IsSteady k.steps) (IsSteady (logging e v ∷ k.steps)) views i v (after_count step t word v) at_i k.filled.each_view
    (steady_here k.steps v (after_count step t word v) e (ap (noted e) (moved_stakes step t word v)) refl)
    (λ j u ne at_j s. steady_beside k.steps v u e (record {
      fills = λ x found is handed.
          let has = ((k.reads.each_view j u at_j).waits x found is handed).has in
          no_fill step t x word (value_of step t v)
          (λ same. others_keep step t words views i j v u k at_i at_j ne can (subst (λ (z : Title). HasTitle u z) (sym same) has));
      apart = others_apart words views i v k at_i can.1 j u ne at_j;
    }) s)
