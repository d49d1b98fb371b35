-- How single calls of a worker's seat change its thread state.
use Rattle.std.specs.Prelude.{◌≡◌, ℕ, ◌+◌, ◌<◌, ◌≤◌, Bool, true, false, ◌∷◌, length, Some, Contains, slice_set}
use Rattle.pa_slot.specs.declared.title.Title.{Title}
use Rattle.pa_slot.specs.declared.word.Step.{Step}
use Rattle.pa_slot.specs.declared.word.Step.TheVariants.{Copy, Write}
use Rattle.pa_slot.specs.Titles.{IsWellFormed}
use Rattle.pa_buckets.specs.Bands.{limit_of}
use Rattle.pa_slot.specs.declared.title.OwnState.TheVariants.{Clean, Dirty}
use Rattle.pa_slot.specs.Count.{CanStep}
use Rattle.pa_record.specs.declared.entry.Seen.{Seen}
use Rattle.pa_record.specs.Spans.{name_of}
use Rattle.pa_region.specs.declared.view.View.{View}
use Rattle.pa_region.specs.Views.{free_of, idle_of, own_as}
use Rattle.pa_region.specs.Moves.{IsFound, after_count, after_look}
use Rattle.pa_region.specs.Loads.{after_read}
use Rattle.pa_link.specs.Chains.{Relinked}
use Rattle.pa_quarantine.specs.Filling.{filled}
use Rattle.pa_cells.specs.declared.handle.Handle.{Handle}
use Rattle.pa_cells.specs.Handles.{HasSeenMade}
use Rattle.pa_rules.specs.Sizes.{HasClass}
use Rattle.pa_rules.specs.declared.register.Register.TheVariants.{Ref}
use Rattle.pa_rules.specs.Lists.{cache_place}
use Rattle.pa_op_specs.specs.Stocks.{StockRegister, StockValue, WorkerLists, titles_in}

-- each slot that the seat had seen made it has seen made then
abbrev pub StaysMade : (before after : StockValue) → Type 0
StaysMade before after = (h : Handle) → HasSeenMade h before.view → HasSeenMade h after.view

-- The seat looked at the handle's slot, and saw this.
pub record LooksAtSlot (h : Handle) (seen : Seen) (before after : StockValue) : Type 0 where
  pub slot : seen.slot ≡ name_of h.title
  pub after_is : after ≡ record before { view = after_look h.title seen.found.0 before.view }
  pub found : IsFound h.title seen.found.0 before.view

-- The seat looked at the handle's slot, and then read its content word number `place`.
pub record ReadsAt (h : Handle) (place : ℕ) (seen : Seen) (value : ℕ) (before after : StockValue) : Type 0 where
  pub slot : seen.slot ≡ name_of h.title
  pub after_is : after ≡ record before { view = after_read h.title place value (after_look h.title seen.found.0 before.view) }
  pub found : IsFound h.title seen.found.0 before.view

-- the thread state's seat has the handle's Own, and knows that no Ref of it is left
abbrev pub CanFill : Handle → StockValue → Type 0
CanFill h s = (0 < idle_of s.view h.title) × (0 < own_as s.view h.title Clean + own_as s.view h.title Dirty)

-- The seat wrote the value to the slot of its Own, and the step found this.
pub record WritesTo (h : Handle) (value : ℕ) (seen : Seen) (before after : StockValue) : Type 0 where
  pub slot : seen.slot ≡ name_of h.title
  pub after_is : after ≡ record before { view = after_count Write h.title seen.found.0 (filled h.title value before.view) }
  pub enabled : CanStep Write seen.found.0
  pub found : IsFound h.title seen.found.0 (filled h.title value before.view)

-- The seat let go of the handle of a register, by a reset or a free that found this when its view was `v`, and the register has
-- `instead`.
pub record LetsGo (step : Step) (h : Handle) (reg : ℕ) (instead : StockRegister) (v : View) (seen : Seen)
    (before after : StockValue) : Type 0 where
  pub slot : seen.slot ≡ name_of h.title
  pub after_is :
      after ≡ record before { view = after_count step h.title seen.found.0 v; registers = slice_set before.registers reg instead }
  pub found : IsFound h.title seen.found.0 v

-- The seat made another register a Ref of the handle's slot, by a step that found this.
pub record PointsTo (h : Handle) (to : ℕ) (seen : Seen) (before after : StockValue) : Type 0 where
  pub slot : seen.slot ≡ name_of h.title
  pub after_is :
      after ≡ record before { view = after_count Copy h.title seen.found.0 before.view; registers = slice_set before.registers to (Ref h) }
  pub found : IsFound h.title seen.found.0 before.view

-- the caches with this title at the front of the list of a partition and a class
abbrev pub put_in_front : ℕ → ℕ → Title → WorkerLists → WorkerLists
put_in_front p class t caches =
    record caches {
      lists = slice_set caches.lists (cache_place caches.version p class) (record { class = class; titles = t ∷ titles_in caches p class });
    }

-- The title became the front of the list of its partition and class, and a link was stored for it.
pub record BecomesFront (h : Handle) (class : ℕ) (before after : StockValue) : Type 0 where
  pub after_is : after ≡ record before { view = after.view; caches = put_in_front h.partition class h.title before.caches }
  pub relinked : Relinked before.view after.view

-- A title that can be put at the front of a list: it is free, well formed and on no list,
-- its slot was seen made for that list, and there is room.
pub record CanList (h : Handle) (class : ℕ) (s : StockValue) : Type 0 where
  pub class_is : h.class ≡ Some class
  pub free : 0 < free_of s.view h.title
  pub new : (p other : ℕ) → Contains (titles_in s.caches p other) h.title → ⊥
  pub made : HasSeenMade h s.view
  pub well : (words : ℕ) × IsWellFormed words h.title
  pub room : length (titles_in s.caches h.partition class) < limit_of class

-- A title that a step returned to its seat: it is free and on no list, and its slot was seen made.
pub record IsBack (h : Handle) (s : StockValue) : Type 0 where
  pub free : 0 < free_of s.view h.title
  pub new : (p class : ℕ) → Contains (titles_in s.caches p class) h.title → ⊥
  pub made : HasSeenMade h s.view

-- the slot can't go to a list as that is: it is a direct map's or of a class of another version,
-- or the list of its class is as long as it may be
abbrev pub NeedsRoot : Handle → StockValue → Type 0
NeedsRoot h s =
    (class : ℕ) → h.class ≡ Some class → HasClass s.caches.version class → limit_of class ≤ length (titles_in s.caches h.partition class)

-- The slot was put at the front of the list of its class, which had room, or nothing was done, and the slot needs the root.
abbrev pub IsPut : Bool → Handle → (before after : StockValue) → Type 0
IsPut true h before after =
    (class : ℕ) × (h.class ≡ Some class) × HasClass before.caches.version class ×
    (length (titles_in before.caches h.partition class) < limit_of class)
    × BecomesFront h class before after
IsPut false h before after = (after ≡ before) × NeedsRoot h before
