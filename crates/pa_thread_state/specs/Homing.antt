-- Where a slot goes that a step returned, if its list has no room for it: alone back to its root,
-- or to the front of its list after the list's tail went back.
use Rattle.std.specs.Prelude.{◌≡◌, ℕ, ◌-◌, ◌/◌, ◌<◌, ◌⊎◌, [], ◌∷◌, Option, Some, None}
use Rattle.pa_slot.specs.declared.title.Title.{Title}
use Rattle.pa_slot.specs.Titles.{IsWellFormed}
use Rattle.pa_buckets.specs.Bands.{limit_of}
use Rattle.pa_region.specs.declared.view.View.{View}
use Rattle.pa_region.specs.Views.{free_of, seen_of}
use Rattle.pa_region.specs.Hands.{left_after, given_after}
use Rattle.pa_rules.specs.Caches.{SameLists}
use Rattle.pa_rules.specs.Sizes.{HasClass}
use Rattle.pa_root.specs.Filling.{frees_parcel}
use Rattle.pa_root.specs.Handing.{GiveTakes, UnmapTakes}
use Rattle.pa_cells.specs.declared.handle.Handle.{Handle}
use Rattle.pa_op_specs.specs.Stocks.{StockValue, listed_in}
use Rattle.pa_thread_state.specs.Changes.{BecomesFront}
use Rattle.pa_thread_state.specs.Giving.{GivesTail}

-- What was entered for a title that came back to its root alone in a note: a slot of a class is given, a direct map unmapped.
abbrev pub ComesHome : Option ℕ → (r p line : ℕ) → (v after note : View) → Title → Type 0
ComesHome None r p line v after note t = UnmapTakes r p line v after note t
ComesHome (Some class) r p line v after note t = GiveTakes r p line v after note (t ∷ [])

-- the view of the seat without a free title
abbrev pub without_title : Title → View → View
without_title t v = left_after (frees_parcel (t ∷ [])) v

-- the note that has this free title and nothing else
abbrev pub note_of_title : Title → View → View
note_of_title t v = given_after (frees_parcel (t ∷ [])) v

-- The seat handed the slot's title over and lent its stake for what was entered. It holds each other title free as before, and has
-- seen the same number of each that it still holds free. The lists are as they were, each title at its number.
pub record GoesHome (line : ℕ) (h : Handle) (before after : StockValue) : Type 0 where
  pub comes : ComesHome h.class before.thread h.partition line (without_title h.title before.view) after.view
      (note_of_title h.title before.view) h.title
  pub same : after ≡ record before { view = after.view }
  pub frees : (t : Title) → (h.title ≡ t → ⊥) → free_of after.view t ≡ free_of before.view t
  pub numbers : (n : ℕ) (t : Title) → IsWellFormed n t → 0 < free_of after.view t → seen_of after.view t ≡ seen_of before.view t
  pub lists : SameLists (listed_in after) (listed_in before)

-- The tail of the slot's list went back to the root, and then the slot became the front of the list,
-- which has half the limit of its class then.
pub record Spills (line : ℕ) (h : Handle) (class : ℕ) (before after : StockValue) : Type 0 where
  pub between : StockValue
  pub gives : GivesTail line h.partition class (limit_of class / 2 - 1) before between
  pub front : BecomesFront h class between after

-- the slot's class keeps no list, if it has one and that is of the version
abbrev pub KeepsNoList : Handle → StockValue → Type 0
KeepsNoList h s = (class : ℕ) → h.class ≡ Some class → HasClass s.caches.version class → limit_of class ≡ 0

-- The slot is where it belongs. A direct map, or a slot of a class that keeps no list, as those of another version,
-- is in its root. Else its list spilled.
abbrev pub IsSettled : ℕ → Handle → (before after : StockValue) → Type 0
IsSettled line h before after =
    (KeepsNoList h before × GoesHome line h before after)
    ⊎ ((class : ℕ) × (h.class ≡ Some class) × HasClass before.caches.version class × (0 < limit_of class) ×
    Spills line h class before after)
