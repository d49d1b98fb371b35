-- A free, of a slot of any length: the owner's content words become poison one after the other, and then it lets go.
use Rattle.std.proofs.Common.{◌≡◌, ℕ, zero, suc, ◌+◌, ◌<◌, ◌≤◌, Bool, [], ◌∷◌, set, sym, subst, arith}
use Rattle.pa_slot.specs.declared.word.Step.TheVariants.{Free}
use Rattle.pa_slot.specs.declared.title.Title.{Title}
use Rattle.pa_slot.specs.declared.title.OwnState.{OwnState}
use Rattle.pa_slot.specs.declared.title.OwnState.TheVariants.{Clean, Poisoned}
use Rattle.pa_machine.specs.declared.event.Event.TheVariants.{Count, Poison}
use Rattle.pa_slot.specs.Count.{CanStep, stepped}
use Rattle.pa_slot.specs.Titles.{content_count, content_place, count_place, count_word, progress, poison}
use Rattle.pa_slot.specs.Holdings.{OwnPiece, OwnAs}
use Rattle.pa_machine.specs.Events.{State, HasActor, Holds, IsSealedAs, returned_at}
use Rattle.pa_machine.specs.Trail.{IsGoodState}
use Rattle.pa_machine.proofs.Amounts.{state_here, word_written, word_unwritten}
use Rattle.pa_core_steps.specs.Turns.{IsTurn, poisons, FreesCanHappen}
use Rattle.pa_core_steps.proofs.Possible.{lose_own}
use Rattle.pa_core_steps.proofs.Turning.{turn_then, step_of, turn_good, turn_actor, turn_seal}
use Rattle.pa_machine.proofs.Holding.{own_title}

-- the next content word of an Own becomes poison
one_poisoned : (s : State) (actor : ℕ) (t : Title) (sealed : Bool) (a : OwnState) → IsGoodState s → HasActor s actor →
    Holds s actor (OwnAs t a) → IsSealedAs s actor t sealed →
    1 + progress a ≤ content_count t →
    (after : State) × IsTurn s actor t (OwnPiece sealed t a ∷ []) (OwnPiece sealed t (Poisoned (1 + progress a)) ∷ [])
    (count_word s.words t) (poisons 1 actor t) after
    × Holds after actor (OwnAs t (Poisoned (1 + progress a)))
one_poisoned s actor t sealed a good has own seal room =
    let r = step_of s actor t (OwnPiece sealed t a ∷ []) (OwnPiece sealed t (Poisoned (progress a + 1)) ∷ [])
    (content_place t (progress a)) poison (Poison actor t) good (own_title s actor t a own) (omega arith, omega arith)
    has (lose_own s actor t sealed a good own seal) (has, (a, own, omega arith))
    (λ after h. (a, sealed, own, seal, h)) in
    let e : progress a + 1 ≡ 1 + progress a = omega arith in
    let w = word_unwritten s.words t poison (progress a) (omega arith) in
    let g = r.1.gains (OwnAs t (Poisoned (progress a + 1))) in
    let one = state_here sealed t (Poisoned (progress a + 1)) in
    let some : Holds r.0 actor (OwnAs t (Poisoned (progress a + 1))) = omega arith in (
      r.0,
      subst (λ (v : ℕ). IsTurn s actor t (OwnPiece sealed t a ∷ []) (OwnPiece sealed t (Poisoned (1 + progress a)) ∷ []) v
          (poisons 1 actor t) r.0) w
          (subst (λ (k : ℕ). IsTurn s actor t (OwnPiece sealed t a ∷ []) (OwnPiece sealed t (Poisoned k) ∷ [])
          (count_word (set s.words (content_place t (progress a)) poison) t) (poisons 1 actor t) r.0) e r.1.turn),
      subst (λ (k : ℕ). Holds r.0 actor (OwnAs t (Poisoned k))) e some,
    )

-- content words of an Own become poison, from the first that isn't yet
poisoned : (n : ℕ) (s : State) (actor : ℕ) (t : Title) (sealed : Bool) (a : OwnState) → IsGoodState s → HasActor s actor →
    Holds s actor (OwnAs t a) → IsSealedAs s actor t sealed →
    suc n + progress a ≤ content_count t →
    (after : State) × IsTurn s actor t (OwnPiece sealed t a ∷ []) (OwnPiece sealed t (Poisoned (suc n + progress a)) ∷ [])
    (count_word s.words t) (poisons (suc n) actor t) after
    × Holds after actor (OwnAs t (Poisoned (suc n + progress a)))
poisoned zero s actor t sealed a good has own seal room = one_poisoned s actor t sealed a good has own seal room
poisoned (suc n) s actor t sealed a good has own seal room =
    let r = one_poisoned s actor t sealed a good has own seal (omega arith) in
    let mid = r.0 in
    let good2 = turn_good s mid actor t _ _ _ _ good r.1 in
    let has2 = turn_actor s mid actor t _ _ _ _ has r.1 in
    let seal2 = turn_seal s mid actor t sealed a (Poisoned (1 + progress a)) _ _ has r.1 seal in
    let q = poisoned n mid actor t sealed (Poisoned (1 + progress a)) good2 has2 r.2 seal2 (omega arith) in
    let e : suc n + (1 + progress a) ≡ suc (suc n) + progress a = omega arith in
    let turn = turn_then s mid q.0 actor t (OwnPiece sealed t a ∷ []) (OwnPiece sealed t (Poisoned (1 + progress a)) ∷ [])
    (OwnPiece sealed t (Poisoned (suc n + (1 + progress a))) ∷ []) _ _ (poisons 1 actor t) (poisons (suc n) actor t) good r.1 q.1 in (
      q.0,
      subst (λ (v : ℕ). IsTurn s actor t (OwnPiece sealed t a ∷ []) (OwnPiece sealed t (Poisoned (suc (suc n) + progress a)) ∷ []) v
          (poisons (suc (suc n)) actor t) q.0) r.1.word_left
          (subst (λ (k : ℕ). IsTurn s actor t (OwnPiece sealed t a ∷ []) (OwnPiece sealed t (Poisoned k) ∷ []) (count_word mid.words t)
          (poisons (suc (suc n)) actor t) q.0) e turn),
      subst (λ (k : ℕ). Holds q.0 actor (OwnAs t (Poisoned k))) e q.2,
    )

-- the holder of a clean Own can turn its first n content words to poison, one after the other, if there are n and n isn't 0
all_poisoned : (n : ℕ) (s : State) (actor : ℕ) (t : Title) (sealed : Bool) → IsGoodState s → HasActor s actor →
    Holds s actor (OwnAs t Clean) → IsSealedAs s actor t sealed → 0 < n → n ≤ content_count t →
    (after : State) × IsTurn s actor t (OwnPiece sealed t Clean ∷ []) (OwnPiece sealed t (Poisoned n) ∷ []) (count_word s.words t)
    (poisons n actor t) after
    × Holds after actor (OwnAs t (Poisoned n))
all_poisoned zero s actor t sealed good has own seal some room = absurd (omega arith)
all_poisoned (suc n) s actor t sealed good has own seal some room =
    let r = poisoned n s actor t sealed Clean good has own seal (omega arith) in
    let e : suc n + 0 ≡ suc n = omega arith in (
      r.0,
      subst (λ (k : ℕ). IsTurn s actor t (OwnPiece sealed t Clean ∷ []) (OwnPiece sealed t (Poisoned k) ∷ []) (count_word s.words t)
          (poisons (suc n) actor t) r.0) e r.1,
      subst (λ (k : ℕ). Holds r.0 actor (OwnAs t (Poisoned k))) e r.2,
    )

pub frees_can_happen : FreesCanHappen
frees_can_happen s actor t sealed good has own seal can =
    let held = own_title s actor t Clean own in
    let well = good.divided.well t held in
    let long = well.long in
    let n = content_count t in
    let r = all_poisoned n s actor t sealed good has own seal (omega arith) (omega arith) in
    let mid = r.0 in
    let good2 = turn_good s mid actor t _ _ _ _ good r.1 in
    let has2 = turn_actor s mid actor t _ _ _ _ has r.1 in
    let held2 = own_title mid actor t (Poisoned n) r.2 in
    let seal2 = turn_seal s mid actor t sealed Clean (Poisoned n) _ _ has r.1 seal in
    let word = r.1.word_left in
    let can2 = subst (λ (w : ℕ). CanStep Free w) (sym word) can in
    let q = step_of mid actor t (OwnPiece sealed t (Poisoned n) ∷ []) (returned_at (stepped Free (count_word mid.words t)) t)
    (count_place t) (stepped Free (count_word mid.words t)) (Count actor t Free)
    good2 held2 (omega arith, omega arith) has2 (lose_own mid actor t sealed (Poisoned n) good2 r.2 seal2) (has2, r.2, can2)
    (λ after h. (sealed, seal2, h)) in
    let left = word_written mid.words t (stepped Free (count_word mid.words t)) (good2.divided.well t held2) in
    let P : ℕ → Type 0 = λ w. IsTurn mid actor t (OwnPiece sealed t (Poisoned n) ∷ []) (returned_at (stepped Free w) t) (stepped Free w)
    (Count actor t Free ∷ []) q.0 in
    let step : P (count_word mid.words t) = subst (λ (v : ℕ). IsTurn mid actor t (OwnPiece sealed t (Poisoned n) ∷ [])
    (returned_at (stepped Free (count_word mid.words t)) t) v (Count actor t Free ∷ []) q.0) left q.1.turn in
    (q.0, record { mid = mid; between = OwnPiece sealed t (Poisoned n) ∷ []; prepares = r.1; steps = subst P word step })
