-- The uses of a slot that was freed while raw_ptrs pointed to it. They are known by the marks of a run alone: the words that were found
-- and the steps that were made.
use Rattle.std.specs.Prelude.{◌≡◌, ◌≢◌, ℕ, ◌<◌, ◌≤◌, ◌↔◌, List, Some, Contains, AllPairs}
use Rattle.pa_slot.specs.declared.word.SlotName.{SlotName}
use Rattle.pa_slot.specs.declared.word.Step.{Step}
use Rattle.pa_slot.specs.declared.word.Step.TheVariants.{Free}
use Rattle.pa_slot.specs.Count.{number_of, refs_of, held_of}
use Rattle.pa_slot.specs.Run.{Mark, Slots, IsReturning, IsQuarantined}

-- a free that found raw_ptrs: the slot is kept
pub record IsKeptFree (f : Mark) : Type 0 where
  pub step : f.step ≡ Some Free
  pub held : held_of f.found ≡ 1
  pub refs : 0 < refs_of f.found

-- no step that returned slot s found a number above k and below m
abbrev pub NoneReturned : List Mark → SlotName → ℕ → ℕ → Type 0
NoneReturned ms s k m =
    (r : Mark) (p : Step) → Contains ms r → r.slot ≡ s → r.step ≡ Some p → IsReturning p r.found → k < number_of r.found →
    number_of r.found < m → ⊥

-- u is a use of what f freed: it found a number above f's, and no step between the two returned the slot
pub record IsUseOf (ms : List Mark) (f u : Mark) : Type 0 where
  pub freed : Contains ms f
  pub used : Contains ms u
  pub slot : u.slot ≡ f.slot
  pub kept : IsKeptFree f
  pub later : number_of f.found < number_of u.found
  pub waits : NoneReturned ms f.slot (number_of f.found) (number_of u.found)

-- no two marks have one line
abbrev pub OwnLines : List Mark → Type 0
OwnLines ms = AllPairs (λ (m n : Mark). m.line ≢ n.line) ms

-- If the steps of each slot are one run:
--   paired: a mark is a use of what some free left there if the word that it found is that of a quarantined slot, and only then
--   one: it is a use of one free only
--   last: and that free is the slot's last one below it
pub record UsesArePaired : Type 0 where
  pub paired : (ms : List Mark) (u : Mark) → Slots ms → OwnLines ms → Contains ms u →
      IsQuarantined u.found ↔ ((f : Mark) × IsUseOf ms f u)
  pub one : (ms : List Mark) (f g u : Mark) → Slots ms → OwnLines ms → IsUseOf ms f u → IsUseOf ms g u → f ≡ g
  pub last : (ms : List Mark) (f g u : Mark) → Slots ms → OwnLines ms → IsUseOf ms f u → Contains ms g → g.slot ≡ u.slot →
      g.step ≡ Some Free → number_of g.found < number_of u.found → number_of g.found ≤ number_of f.found
