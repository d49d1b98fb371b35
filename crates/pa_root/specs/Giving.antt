-- Slots that come back to a root.
use Rattle.std.specs.Prelude.{◌≡◌, ◌≢◌, ℕ, List, map, length, All, AllPairs, Contains}
use Rattle.pa_slot.specs.declared.title.Title.{Title}
use Rattle.pa_region.specs.declared.view.View.{View}
use Rattle.pa_region.specs.Lending.{Keeps}
use Rattle.pa_region.specs.Hands.{united}
use Rattle.pa_region.specs.Aware.{IsAware}
use Rattle.pa_record.specs.declared.root.RootAct.TheVariants.{Give}
use Rattle.pa_record.specs.Spans.{name_of}
use Rattle.pa_record.specs.Root.{IsOut}
use Rattle.pa_shelf.specs.Moving.{Rewritten}
use Rattle.pa_root.specs.Keeping.{RootState, IsRootSound}
use Rattle.pa_root.specs.Handing.{HasOnly, numbered_by, root_entry, HasSeenFill}
use Rattle.pa_root.specs.Laws.{HasEntryMore, after_entry}

-- A note with the view w comes to a sound root: it holds these titles and nothing else, each once, and has seen for each a fill
-- that names it. The root's seat takes it.
pub record CanComeBack (p : ℕ) (s : RootState) (w : View) (titles : List Title) : Type 0 where
  pub sound : IsRootSound p s
  pub aware : IsAware s.view
  pub note_aware : IsAware w
  pub both_aware : IsAware (united s.view w)
  pub long : length s.view.words ≡ length w.words
  pub has : HasOnly titles w
  pub once : AllPairs ◌≢◌ titles
  pub named : (t : Title) → Contains titles t → HasSeenFill p w t

-- Each of these titles is out of the root, and their names differ: no title is in two seats.
pub record AreAllOut (s : RootState) (titles : List Title) : Type 0 where
  pub out : All (IsOut s.root) (map name_of titles)
  pub once : AllPairs ◌≢◌ (map name_of titles)

-- if a note comes back to a sound root, each of its titles is out of that root, and none is there twice
abbrev pub WhatComesIsOut : Type 0
WhatComesIsOut = (p : ℕ) (s : RootState) (w : View) (titles : List Title) → CanComeBack p s w titles → AreAllOut s titles

-- A root is sound again with the entry that names the titles that came back, each at the number that the note had seen, once its seat
-- has written records and links, and has made the entry.
abbrev pub GivesKeep : Type 0
GivesKeep =
    (p line : ℕ) (s : RootState) (w y x : View) (titles : List Title) → CanComeBack p s w titles →
    Rewritten (united s.view w) y → IsAware y →
    IsAware x → Keeps y x → HasEntryMore p (root_entry line (Give (numbered_by w titles))) y x →
    IsRootSound p (after_entry x (root_entry line (Give (numbered_by w titles))) s)
