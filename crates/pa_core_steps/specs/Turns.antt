-- What can happen in the core: each enabled event, and the whole turn of an op on a title.
use Rattle.std.specs.Prelude.{◌≡◌, ℕ, zero, suc, ◌+◌, ◌*◌, ◌⊎◌, Bool, false, true, List, [], ◌∷◌, ◌++◌, slice_index}
use Rattle.pa_slot.specs.declared.word.Step.{Step}
use Rattle.pa_slot.specs.declared.word.Step.TheVariants.{Issue, Copy, Reset, Free, Write}
use Rattle.pa_slot.specs.declared.title.Title.{Title}
use Rattle.pa_slot.specs.declared.title.OwnState.TheVariants.{Clean}
use Rattle.pa_machine.specs.declared.event.Event.{Event}
use Rattle.pa_machine.specs.declared.event.Event.TheVariants.{Count, Sealed, Store, Poison}
use Rattle.pa_slot.specs.Count.{CanStep, stepped, refs_of}
use Rattle.pa_slot.specs.Titles.{Covers, content_count, count_word, HasContentFrom}
use Rattle.pa_slot.specs.Holdings.{Piece, FreePiece, OwnPiece, RefPiece, FreeTitle, OwnAs, RefOf}
use Rattle.pa_machine.specs.Events.{State, HasActor, Holds, IsSealedAs, IsEnabled, Happens, Exchanges, of_actor, returned_at}
use Rattle.pa_machine.specs.Trail.{IsGoodState, IsRunTo}

-- in a good core each enabled event can happen
abbrev pub EventsCanHappen : Type 0
EventsCanHappen = (e : Event) (s : State) → IsGoodState s → IsEnabled e s → (after : State) × Happens e s after

-- Two runs, the second of which begins where the first ends, make one. A run leaves a good core.
pub record RunsJoin : Type 0 where
  pub joined : (s mid after : State) (es fs : List Event) → IsGoodState s → IsRunTo s es mid →
      IsRunTo mid fs after → IsRunTo s (es ++ fs) after
  pub good : (s after : State) (es : List Event) → IsGoodState s → IsRunTo s es after → IsGoodState after

-- A turn of an actor on a title, which leaves this count word: a run, by which that actor lost and gained these pieces
-- and no other actor anything, and which changed no word outside the title.
pub record IsTurn (s : State) (actor : ℕ) (t : Title) (lost gained : List Piece) (word : ℕ) (events : List Event)
    (after : State) : Type 0 where
  pub run : IsRunTo s events after
  pub holdings : Exchanges s.holdings (of_actor actor lost) (of_actor actor gained) after.holdings
  pub word_left : count_word after.words t ≡ word
  pub others : (q : ℕ) → (Covers t (8 * q) → ⊥) → slice_index after.words q ≡ slice_index s.words q

-- that many of the next content words of an owner become poison
abbrev pub poisons : ℕ → ℕ → Title → List Event
poisons zero actor t = []
poisons (suc n) actor t = Poison actor t ∷ poisons n actor t

-- a value is stored to that many content words, from one on
abbrev pub stores : ℕ → ℕ → ℕ → Title → ℕ → List Event
stores zero i actor t value = []
stores (suc n) i actor t value = Store actor (t.start + 8 * i) value ∷ stores n (i + 1) actor t value

-- the event that issues a title to an actor, which gets a sealed Own if the Boolean is true
abbrev pub issue_event : Bool → ℕ → Title → Event
issue_event true actor t = Sealed actor t
issue_event false actor t = Count actor t Issue

-- An op's turn: first it prepares, which leaves the count word, and then it makes its step there, by this event.
pub record IsDone (s : State) (actor : ℕ) (t : Title) (step : Step) (event : Event) (lost gained : List Piece) (first : List Event)
    (after : State) : Type 0 where
  pub mid : State
  pub between : List Piece
  pub prepares : IsTurn s actor t lost between (count_word s.words t) first mid
  pub steps : IsTurn mid actor t between gained (stepped step (count_word s.words t)) (event ∷ []) after

-- what an actor gets by a step on the title's count word: the free title, if the step gave up the last handle
abbrev pub left_by : Step → State → Title → List Piece
left_by step s t = returned_at (stepped step (count_word s.words t)) t

-- an owner frees a slot of any length, whose content words become poison first, by a sealed Own or one that isn't
abbrev pub FreesCanHappen : Type 0
FreesCanHappen =
    (s : State) (actor : ℕ) (t : Title) (sealed : Bool) → IsGoodState s → HasActor s actor → Holds s actor (OwnAs t Clean) →
    IsSealedAs s actor t sealed → CanStep Free (count_word s.words t) →
    (after : State)
    × IsDone s actor t Free (Count actor t Free) (OwnPiece sealed t Clean ∷ []) (left_by Free s t) (poisons (content_count t) actor t) after

-- an owner writes a value to each content word of a slot to which no raw_ptr points, and its Own stays as sealed as it was
abbrev pub WritesCanHappen : Type 0
WritesCanHappen =
    (s : State) (actor : ℕ) (t : Title) (sealed : Bool) (value : ℕ) → IsGoodState s → HasActor s actor →
    Holds s actor (OwnAs t Clean) → IsSealedAs s actor t sealed →
    refs_of (count_word s.words t) ≡ 0 → CanStep Write (count_word s.words t) →
    (after : State)
    × IsDone s actor t Write (Count actor t Write) (OwnPiece sealed t Clean ∷ []) (OwnPiece sealed t Clean ∷ [])
    (stores (content_count t) 0 actor t value) after
    × HasContentFrom after.words t 0 value

-- a free slot is filled with zeros and issued, as a sealed Own or one that isn't
abbrev pub IssuesCanHappen : Type 0
IssuesCanHappen =
    (s : State) (actor : ℕ) (t : Title) (sealed : Bool) → IsGoodState s → HasActor s actor → Holds s actor (FreeTitle t) →
    CanStep Issue (count_word s.words t) →
    (after : State)
    × IsDone s actor t Issue (issue_event sealed actor t) (FreePiece t ∷ []) (OwnPiece sealed t Clean ∷ [])
    (stores (content_count t) 0 actor t 0) after
    × HasContentFrom after.words t 0 0

-- if all content words of the title have one value before, they have it after
abbrev pub KeepsContentOf : State → State → Title → Type 0
KeepsContentOf s after t = (value : ℕ) → HasContentFrom s.words t 0 value → HasContentFrom after.words t 0 value

-- an actor that has a clean Own that isn't sealed, or a Ref, of a slot gets one more Ref of it, and the content stays
abbrev pub CopiesCanHappen : Type 0
CopiesCanHappen =
    (s : State) (actor : ℕ) (t : Title) → IsGoodState s → HasActor s actor →
    (Holds s actor (OwnAs t Clean) × IsSealedAs s actor t false) ⊎ Holds s actor (RefOf t) →
    CanStep Copy (count_word s.words t) →
    (after : State) × IsDone s actor t Copy (Count actor t Copy) [] (RefPiece t ∷ []) [] after × KeepsContentOf s after t

-- an actor resets its Ref of a slot, gets the free slot if that was the last handle, and the content stays
abbrev pub ResetsCanHappen : Type 0
ResetsCanHappen =
    (s : State) (actor : ℕ) (t : Title) → IsGoodState s → HasActor s actor → Holds s actor (RefOf t) →
    CanStep Reset (count_word s.words t) →
    (after : State) × IsDone s actor t Reset (Count actor t Reset) (RefPiece t ∷ []) (left_by Reset s t) [] after
    × KeepsContentOf s after t
