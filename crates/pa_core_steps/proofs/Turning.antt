-- Turns on a title: one event of it, and turns that go one after the other.
use Rattle.std.proofs.Common.{◌≡◌, ℕ, ◌*◌, ◌≤◌, Bool, List, [], ◌∷◌, ◌++◌, length, get_or, set, refl, sym, ◌∙◌, ap, subst, arith}
use Rattle.std.proofs.lemmas.List.{get_or-set_other}
use Rattle.pa_slot.specs.declared.title.Title.{Title}
use Rattle.pa_slot.specs.declared.title.OwnState.{OwnState}
use Rattle.pa_machine.specs.declared.event.Event.{Event}
use Rattle.pa_slot.specs.Titles.{Covers, count_word}
use Rattle.pa_slot.specs.Holdings.{Piece, OwnPiece, Thing, SealedOwn, IsTitleHeld, held_in}
use Rattle.pa_machine.specs.Events.{State, HasActor, IsSealedAs, IsEnabled, Happens, IsAfter, of_actor, held_by, total_of}
use Rattle.pa_machine.specs.Trail.{IsGoodState}
use Rattle.pa_machine.proofs.Lasting.{run_start}
use Rattle.pa_machine.proofs.Parts.{IsWordOf, word_covered}
use Rattle.pa_machine.proofs.Totals.{of_actor_here}
use Rattle.pa_core_steps.specs.Turns.{IsTurn}
use Rattle.pa_core_steps.proofs.Joining.{run_one, run_join, run_good}
use Rattle.pa_core_steps.proofs.Exchanging.{exchanges_then}
use Rattle.pa_core_steps.proofs.Possible.{CanLose, after_of}

-- a turn after a turn, if the second loses what the first gained
pub turn_then : (s mid after : State) (actor : ℕ) (t : Title) (lost gained last : List Piece) (v w : ℕ) (es fs : List Event) →
    IsGoodState s →
    IsTurn s actor t lost gained v es mid → IsTurn mid actor t gained last w fs after → IsTurn s actor t lost last w (es ++ fs) after
turn_then s mid after actor t lost gained last v w es fs good a b = record {
  run = run_join s mid after es fs good a.run b.run;
  holdings = exchanges_then s.holdings mid.holdings after.holdings (of_actor actor lost) (of_actor actor gained) (of_actor actor gained)
      (of_actor actor last) (of_actor actor lost) (of_actor actor last) a.holdings b.holdings (λ k x. omega arith);
  word_left = b.word_left;
  others = λ q out. b.others q out ∙ a.others q out;
}

-- One event of an actor on a title: it is a turn, the actor has what it gained, and the words are these.
pub record IsStepOf (s : State) (actor : ℕ) (t : Title) (lost gained : List Piece) (p v : ℕ) (e : Event) (after : State) : Type 0 where
  pub turn : IsTurn s actor t lost gained (count_word (set s.words p v) t) (e ∷ []) after
  pub gains : (x : Thing) → held_in gained x ≤ held_by after actor x
  pub words : after.words ≡ set s.words p v

pub step_of : (s : State) (actor : ℕ) (t : Title) (lost gained : List Piece) (p v : ℕ) (e : Event) → IsGoodState s →
    IsTitleHeld (total_of s) t →
    IsWordOf t p → HasActor s actor → CanLose s actor lost → IsEnabled e s →
    ((after : State) → IsAfter s actor lost gained (set s.words p v) after → Happens e s after) →
    (after : State) × IsStepOf s actor t lost gained p v e after
step_of s actor t lost gained p v e good held place has out can happens =
    let r = after_of s actor lost gained (set s.words p v) has out in
    let after = r.0 in
    let well = good.divided.well t held in (
      after,
      record {
        turn = record {
          run = run_one s after e good can (happens after r.1);
          holdings = r.1.holdings;
          word_left = ap (λ ws. count_word ws t) r.1.words;
          others = λ q away. ap (λ ws. get_or ws q 0) r.1.words
              ∙ get_or-set_other s.words p q v 0
              (λ same. away (subst (λ (k : ℕ). Covers t (8 * k)) (sym same) (word_covered (length s.words) t p well place)));
        };
        gains = λ x.
            let h = r.1.holdings.1 actor x has in
            let a = of_actor_here actor lost x in
            let b = of_actor_here actor gained x in
            let o = out.1 x in
            omega arith;
        words = r.1.words;
      },
    )

-- what a turn leaves: a good core with as many actors
pub turn_good : (s after : State) (actor : ℕ) (t : Title) (lost gained : List Piece) (w : ℕ) (es : List Event) → IsGoodState s →
    IsTurn s actor t lost gained w es after → IsGoodState after
turn_good s after actor t lost gained w es good a = run_good s after es good a.run

pub turn_actor : (s after : State) (actor : ℕ) (t : Title) (lost gained : List Piece) (w : ℕ) (es : List Event) → HasActor s actor →
    IsTurn s actor t lost gained w es after → HasActor after actor
turn_actor s after actor t lost gained w es has a = let e = a.holdings.0 in omega arith

-- a turn that changes the state of an Own alone leaves it as sealed as it was
pub turn_seal : (s after : State) (actor : ℕ) (t : Title) (sealed : Bool) (a b : OwnState) (w : ℕ) (es : List Event) → HasActor s actor →
    IsTurn s actor t (OwnPiece sealed t a ∷ []) (OwnPiece sealed t b ∷ []) w es after → IsSealedAs s actor t sealed →
    IsSealedAs after actor t sealed
turn_seal s after actor t sealed a b w es has turn seal =
    let e = turn.holdings.1 actor (SealedOwn t) has in
    let l = of_actor_here actor (OwnPiece sealed t a ∷ []) (SealedOwn t) in
    let g = of_actor_here actor (OwnPiece sealed t b ∷ []) (SealedOwn t) in
    let same : held_in (OwnPiece sealed t a ∷ []) (SealedOwn t) ≡ held_in (OwnPiece sealed t b ∷ []) (SealedOwn t) = refl in
    omega arith

-- no event is a turn
pub turn_none : (s : State) (actor : ℕ) (t : Title) (both : List Piece) → IsGoodState s →
    IsTurn s actor t both both (count_word s.words t) [] s
turn_none s actor t both good = record {
  run = run_start s good;
  holdings = (refl, λ k x below. refl);
  word_left = refl;
  others = λ q out. refl;
}
