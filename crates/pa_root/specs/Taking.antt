-- Slots of a class that are taken from a root that is shown: what that needs, and what it leaves.
use Rattle.std.specs.Prelude.{◌≡◌, ℕ, ◌<◌, ◌⊎◌, List, [], Option, Some, None}
use Rattle.pa_slot.specs.declared.title.Title.{Title}
use Rattle.pa_region.specs.declared.view.View.{View}
use Rattle.pa_region.specs.Views.{free_of}
use Rattle.pa_record.specs.Spans.{Span, title_at, name_of}
use Rattle.pa_record.specs.Root.{Root, Found, span_for, one_take, takes, IsOut}
use Rattle.pa_record.specs.Sound.{IsSound, IsMade}
use Rattle.pa_shelf.specs.Cutting.{count_cut}
use Rattle.pa_shelf.specs.Moving.{Rewritten}
use Rattle.pa_shelf.specs.Shelves.{ShelfParts, ShowsRoot}
use Rattle.pa_root.specs.Keeping.{HasRest}
use Rattle.pa_root.specs.Cutting.{titles_beside, NoneSeen}
use Rattle.pa_root.specs.Filling.{CanCutAll, MakesMore, after_cuts}

-- the slots that are cut before one is taken from a span
abbrev pub titles_new_in : Span → List Title
titles_new_in s = titles_beside (title_at s s.made) 0 (count_cut s.free s)

-- the slots that are cut before one is taken from the span that was found, none if none was found
abbrev pub cut_for : Option Found → List Title
cut_for None = []
cut_for (Some f) = titles_new_in f.span

-- each slot that was made is held free, or is out of the root
abbrev pub HasMade : View → Root → Type 0
HasMade v r = (t : Title) → IsMade r t → (0 < free_of v t) ⊎ IsOut r (name_of t)

-- One slot of the class can be taken from a sound root that is shown: what is new then can be cut.
pub record CanTakeOne (class : ℕ) (v : View) (l : ShelfParts) (r : Root) : Type 0 where
  pub sound : IsSound r
  pub shown : ShowsRoot v l r
  pub has : HasMade v r
  pub able : CanCutAll (cut_for (span_for class r)) v

-- One take gave this slot, or none, and the root after it is shown. The slots that are new were cut, and nobody had seen a step on
-- them. Else only words changed.
pub record IsOneTaken (class : ℕ) (r : Root) (v w : View) (l : ShelfParts) (title : Option Title) : Type 0 where
  pub title_is : title ≡ (one_take class r).title
  pub shown : ShowsRoot w l (one_take class r).root
  pub cut : Rewritten (after_cuts (cut_for (span_for class r)) v) w
  pub unseen : NoneSeen w (cut_for (span_for class r))

-- Slots can be taken from a sound root that is shown: all other bytes of its super pages are raw.
pub record CanTakeSlots (v : View) (l : ShelfParts) (r : Root) : Type 0 where
  pub sound : IsSound r
  pub shown : ShowsRoot v l r
  pub has : HasMade v r
  pub rest : HasRest (record { view = v; journal = []; root = r })

-- `want` takes gave these slots, and the root after them is shown. The slots that are new were cut, each once, and nobody had seen a
-- step on them. Else only words changed.
pub record AreSlotsTaken (class want : ℕ) (r : Root) (v w : View) (l : ShelfParts) (titles : List Title) : Type 0 where
  pub new : List Title
  pub titles_are : titles ≡ (takes class want r).titles
  pub shown : ShowsRoot w l (takes class want r).root
  pub more : MakesMore r (takes class want r).root new
  pub cut : Rewritten (after_cuts new v) w
  pub unseen : NoneSeen w new
