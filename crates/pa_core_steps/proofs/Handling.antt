-- A copy of a handle, and a reset of a raw_ptr: one step each.
use Rattle.std.proofs.Common.{◌≡◌, ℕ, [], ◌∷◌, get_or, set, ◌∙◌, ap, subst, arith, inl, inr}
use Rattle.pa_slot.specs.declared.word.Step.TheVariants.{Copy, Reset}
use Rattle.pa_slot.specs.declared.title.Title.{Title}
use Rattle.pa_slot.specs.declared.title.OwnState.TheVariants.{Clean}
use Rattle.pa_machine.specs.declared.event.Event.TheVariants.{Count}
use Rattle.pa_slot.specs.Count.{stepped}
use Rattle.pa_slot.specs.Titles.{content_place, count_place, count_word, HasContentFrom}
use Rattle.pa_slot.specs.Holdings.{RefPiece, IsTitleHeld}
use Rattle.pa_machine.specs.Events.{State, total_of, returned_at}
use Rattle.pa_machine.proofs.Amounts.{word_written, content_unwritten}
use Rattle.pa_core_steps.specs.Turns.{IsTurn, CopiesCanHappen, ResetsCanHappen}
use Rattle.pa_core_steps.proofs.Possible.{lose_nothing, lose_ref}
use Rattle.pa_core_steps.proofs.Turning.{step_of, turn_none}
use Rattle.pa_machine.proofs.Holding.{own_title, ref_title}

-- a step on the count word leaves the content
pub content_stays : (s after : State) (t : Title) (v : ℕ) → after.words ≡ set s.words (count_place t) v → (value : ℕ) →
    HasContentFrom s.words t 0 value → HasContentFrom after.words t 0 value
content_stays s after t v words value all i low below =
    ap (λ ws. get_or ws (content_place t i) 0) words ∙ (content_unwritten s.words t v i below ∙ all i low below)

pub copies_can_happen : CopiesCanHappen
copies_can_happen s actor t good has holds can =
    let held : IsTitleHeld (total_of s) t = elim holds [ inl own ↦ own_title s actor t Clean own.0 | inr ref ↦ ref_title s actor t ref ] in
    let v = stepped Copy (count_word s.words t) in
    let r = step_of s actor t [] (RefPiece t ∷ []) (count_place t) v (Count actor t Copy) good held (omega arith, omega arith) has
    (lose_nothing s actor) (has, holds, can) (λ after h. h) in
    let left = word_written s.words t v (good.divided.well t held) in (
      r.0,
      record {
        mid = s;
        between = [];
        prepares = turn_none s actor t [] good;
        steps = subst (λ (w : ℕ). IsTurn s actor t [] (RefPiece t ∷ []) w (Count actor t Copy ∷ []) r.0) left r.1.turn;
      },
      content_stays s r.0 t v r.1.words,
    )

pub resets_can_happen : ResetsCanHappen
resets_can_happen s actor t good has ref can =
    let held = ref_title s actor t ref in
    let v = stepped Reset (count_word s.words t) in
    let r = step_of s actor t (RefPiece t ∷ []) (returned_at v t) (count_place t) v (Count actor t Reset) good held
    (omega arith, omega arith) has (lose_ref s actor t ref) (has, ref, can) (λ after h. h) in
    let left = word_written s.words t v (good.divided.well t held) in (
      r.0,
      record {
        mid = s;
        between = RefPiece t ∷ [];
        prepares = turn_none s actor t (RefPiece t ∷ []) good;
        steps = subst (λ (w : ℕ). IsTurn s actor t (RefPiece t ∷ []) (returned_at v t) w (Count actor t Reset ∷ []) r.0) left r.1.turn;
      },
      content_stays s r.0 t v r.1.words,
    )
