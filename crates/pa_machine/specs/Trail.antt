-- Whole runs of the core, and what holds along each of them.
use Rattle.std.specs.Prelude.{◌≡◌, ℕ, ◌+◌, ◌<◌, List, [], ◌∷◌, true, Option, Some, None, if◌then◌else◌}
use Rattle.pa_slot.specs.declared.word.Step.{Step}
use Rattle.pa_slot.specs.declared.word.Step.TheVariants.{Issue, Copy, Reset, Free, Write}
use Rattle.pa_slot.specs.declared.title.Title.{Title}
use Rattle.pa_slot.specs.declared.title.OwnState.TheVariants.{Clean, Poisoned}
use Rattle.pa_machine.specs.declared.event.Event.{Event}
use Rattle.pa_machine.specs.declared.event.Event.TheVariants.{Count, Sealed, Store, Poison, Load, Hand, Cut, Uncut}
use Rattle.pa_machine.specs.declared.event.StepFault.{StepFault}
use Rattle.pa_machine.specs.declared.event.StepFault.TheVariants.{NotEnabled, OutOfMemory}
use Rattle.pa_slot.specs.Run.{IsReturning}
use Rattle.pa_slot.specs.Titles.{content_at, count_word, HasContentFrom, same_title}
use Rattle.pa_slot.specs.Holdings.{FreeTitle, OwnOf, OwnAs, RefOf}
use Rattle.pa_machine.specs.Good.{IsGood}
use Rattle.pa_machine.specs.Events.{State, held_by, total_of, IsSealedAs, IsEnabled, Happens, IsSameShape}

-- these are the states after the events, one after the other, and each event was enabled
abbrev pub Played : State → List Event → List State → Type 0
Played s [] [] = Unit {0}
Played s (e ∷ es) (after ∷ ss) = IsEnabled e s × Happens e s after × Played after es ss
Played s [] (after ∷ ss) = ⊥
Played s (e ∷ es) [] = ⊥

-- the last state of a run
abbrev pub end_of : State → List State → State
end_of s [] = s
end_of s (after ∷ ss) = end_of after ss

-- a state is good
abbrev pub IsGoodState : State → Type 0
IsGoodState s = IsGood s.words (total_of s)

-- The event is a returning step on the title's count word. The actor that made it
-- holds the title free after it, and no other actor does.
pub record IsReturnedBy (e : Event) (s after : State) (t : Title) : Type 0 where
  pub actor : ℕ
  pub step : Step
  pub event : e ≡ Count actor t step
  pub returning : IsReturning step (count_word s.words t)
  pub gets : held_by after actor (FreeTitle t) ≡ 1
  pub alone : (other : ℕ) → (other ≡ actor → ⊥) → held_by after other (FreeTitle t) ≡ 0

-- each title that was held as an Own or a Ref, and is free after the event, was returned by the event
abbrev pub OnlyReturns : Event → State → State → Type 0
OnlyReturns e s after =
    (t : Title) → 0 < total_of s (OwnOf t) + total_of s (RefOf t) → 0 < total_of after (FreeTitle t) → IsReturnedBy e s after t

-- in a good core, a Free of a sealed Own is a returning step
abbrev pub SealedFreesReturn : Type 0
SealedFreesReturn =
    (s : State) (actor : ℕ) (t : Title) → IsGoodState s → IsEnabled (Count actor t Free) s → IsSealedAs s actor t true →
    IsReturning Free (count_word s.words t)

-- the value that each title's content words had in common right after its last Issue or Write
abbrev pub noted : Event → State → (Title → ℕ) → Title → ℕ
noted (Count actor t Issue) after last u = if same_title t u then content_at after.words t 0 else last u
noted (Count actor t Copy) after last u = last u
noted (Count actor t Reset) after last u = last u
noted (Count actor t Free) after last u = last u
noted (Count actor t Write) after last u = if same_title t u then content_at after.words t 0 else last u
noted (Sealed actor t) after last u = if same_title t u then content_at after.words t 0 else last u
noted (Store actor at value) after last u = last u
noted (Poison actor t) after last u = last u
noted (Load actor at) after last u = last u
noted (Hand from to item) after last u = last u
noted (Cut actor t) after last u = last u
noted (Uncut actor t) after last u = last u

-- While a title's Own is clean, and beyond its poisoned words while there are Refs, the content words have that value.
pub record KeepsContent (s : State) (last : Title → ℕ) : Type 0 where
  pub clean : (t : Title) → 0 < total_of s (OwnAs t Clean) → HasContentFrom s.words t 0 (last t)
  pub beyond : (t : Title) (j : ℕ) → 0 < total_of s (RefOf t) → 0 < total_of s (OwnAs t (Poisoned j)) → HasContentFrom s.words t j (last t)

-- at every moment of a run: the state is good, each title's content is the one of its last Issue or Write, and a title
-- becomes free by a returning step alone
abbrev pub Lasts : State → List Event → List State → (Title → ℕ) → Type 0
Lasts s [] [] last = IsGoodState s × KeepsContent s last
Lasts s (e ∷ es) (after ∷ ss) last =
    IsGoodState s × KeepsContent s last × OnlyReturns e s after × Lasts after es ss (noted e after last)
Lasts s [] (after ∷ ss) last = ⊥
Lasts s (e ∷ es) [] last = ⊥

-- The events were enabled one after the other from the state `before`, and left the state `after`. Along them the core was
-- good, each content was that of its last Issue or Write, and a title became free by a returning step alone.
pub record IsRunTo (before : State) (events : List Event) (after : State) : Type 0 where
  pub states : List State
  pub played : Played before events states
  pub ends : after ≡ end_of before states
  pub shape : IsSameShape before after
  pub lasts : (last : Title → ℕ) → KeepsContent before last → Lasts before events states last

-- the events that may need memory: a copy, which makes one Ref more, and a cut, which makes a title
abbrev pub MayNeedMemory : Event → Type 0
MayNeedMemory (Count actor t step) = step ≡ Copy
MayNeedMemory (Sealed actor t) = ⊥
MayNeedMemory (Store actor at value) = ⊥
MayNeedMemory (Poison actor t) = ⊥
MayNeedMemory (Load actor at) = ⊥
MayNeedMemory (Hand from to item) = ⊥
MayNeedMemory (Cut actor t) = Unit {0}
MayNeedMemory (Uncut actor t) = ⊥

-- The reason for which an event was refused at a state: its condition fails there, or it holds there, the event may need memory and there
-- was none. There is no reason without an event.
abbrev pub IsRefusedFor : StepFault → Option Event → State → Type 0
IsRefusedFor NotEnabled None s = ⊥
IsRefusedFor OutOfMemory None s = ⊥
IsRefusedFor NotEnabled (Some e) s = IsEnabled e s → ⊥
IsRefusedFor OutOfMemory (Some e) s = IsEnabled e s × MayNeedMemory e
