-- Direct maps that come back to a root.
use Rattle.std.specs.Prelude.{◌≡◌, ℕ, ◌+◌, ◌≤◌, ◌⊎◌, List, [], ◌∷◌, ◌++◌, length, Contains}
use Rattle.pa_slot.specs.declared.title.Title.{Title}
use Rattle.pa_layout.specs.Pages.{page_place, supers_for}
use Rattle.pa_region.specs.declared.view.View.{View}
use Rattle.pa_region.specs.Lists.{list_of}
use Rattle.pa_region.specs.Hands.{CanHand, left_after, given_after, united}
use Rattle.pa_region.specs.Lending.{Keeps}
use Rattle.pa_region.specs.Aware.{IsAware}
use Rattle.pa_record.specs.declared.numbered.Numbered.{Numbered}
use Rattle.pa_record.specs.declared.root.RootEntry.{RootEntry}
use Rattle.pa_record.specs.declared.root.RootAct.TheVariants.{Unmap}
use Rattle.pa_record.specs.Pool.{GaveRun}
use Rattle.pa_record.specs.Owned.{IsMapTaken}
use Rattle.pa_record.specs.Sound.{IsMapBy}
use Rattle.pa_record.specs.Spans.{name_of}
use Rattle.pa_pool.specs.Calls.{run_parcel}
use Rattle.pa_root.specs.Reading.{pools_seen}
use Rattle.pa_root.specs.Keeping.{RootState, IsRootSound}
use Rattle.pa_root.specs.Handing.{HasOnly, HasSeenMap, UnmapTakes, at_number_seen, root_entry}
use Rattle.pa_root.specs.Laws.{HasEntryMore, after_entry}
use Rattle.pa_root.specs.Filling.{HasRunOnly}
use Rattle.pa_root.specs.Uncutting.{IsUncut}

-- What a call that took a direct map back ensures: its entries, and that the journal has the root's.
pub record UnmapTells (r p line : ℕ) (v after note : View) (title : Title) (s s_now : RootState) : Type 0 where
  pub takes : UnmapTakes r p line v after note title
  pub journal : s_now.journal ≡ s.journal ++ root_entry line (Unmap takes.asked (at_number_seen note title)) ∷ []

-- a direct map of a sound root is in the super pages that its entry of the pool took
abbrev pub MapsStandInRuns : Type 0
MapsStandInRuns = (p : ℕ) (s : RootState) (t : Title) → IsRootSound p s → Contains s.root.maps t → IsMapTaken (pools_seen s.view) t

-- an entry of the journal says that the slot of this title came back
abbrev pub CameBackIn : List RootEntry → Title → Type 0
CameBackIn journal t =
    (e : RootEntry) × (asked : ℕ) × (slot : Numbered) × Contains journal e × (e.act ≡ Unmap asked slot) × (slot.slot ≡ name_of t)

-- A direct map that the journal of a sound root made is still mapped, or an entry of the journal says that it came back.
abbrev pub MapsStandOrCameBack : Type 0
MapsStandOrCameBack =
    (p : ℕ) (s : RootState) (t : Title) → IsRootSound p s → IsMapBy s.journal t → Contains s.root.maps t ⊎ CameBackIn s.journal t

-- A note with the view w comes to a sound root: it holds the title of a direct map and nothing else, and has seen the entry that
-- names it. The root's seat takes it.
pub record MapComesBack (p : ℕ) (s : RootState) (w : View) (t : Title) : Type 0 where
  pub sound : IsRootSound p s
  pub aware : IsAware s.view
  pub note_aware : IsAware w
  pub both_aware : IsAware (united s.view w)
  pub has : HasOnly (t ∷ []) w
  pub named : HasSeenMap p w t

-- If the title of a direct map comes back, the root still has it mapped. Had it uncut the title, its seat would hold no such title.
abbrev pub WhatComesIsMapped : Type 0
WhatComesIsMapped = (p : ℕ) (s : RootState) (w : View) (t : Title) → MapComesBack p s w t → Contains s.root.maps t

-- A note with the view w brings the title of a direct map that a sound root has, in the super pages from `first` on, and nothing
-- else. The root's seat takes it and uncuts the title: it has the view c then.
pub record IsCutBack (p first : ℕ) (s : RootState) (w c : View) (t : Title) : Type 0 where
  pub sound : IsRootSound p s
  pub aware : IsAware s.view
  pub note_aware : IsAware w
  pub both_aware : IsAware (united s.view w)
  pub long : length s.view.words ≡ length w.words
  pub has : HasOnly (t ∷ []) w
  pub mapped : Contains s.root.maps t
  pub start : t.start ≡ page_place first 1
  pub uncut : IsUncut t (united s.view w) c
  pub cut_aware : IsAware c

-- The super pages of a direct map that was uncut can be handed over as raw bytes with the lease of the entry that took them, with
-- floors of at most the index after that entry's.
pub record HandsBack (first : ℕ) (t : Title) (c : View) : Type 0 where
  pub can : CanHand (run_parcel first (supers_for t.len) t.born) c
  pub has : HasRunOnly first (supers_for t.len) (t.born + 1) t.born (given_after (run_parcel first (supers_for t.len) t.born) c)

-- once its title came back and was uncut, a direct map's super pages can be handed back
abbrev pub UnmapsHandBack : Type 0
UnmapsHandBack = (p first : ℕ) (s : RootState) (w c : View) (t : Title) → IsCutBack p first s w c t → HandsBack first t c

-- A root is sound with the entry that names the title that came back, at the number that the note had seen, once its seat has handed
-- the super pages over, has seen the pool's entry that gave them back, after those that it had seen, and has made the entry.
abbrev pub UnmapsKeep : Type 0
UnmapsKeep =
    (p line first asked : ℕ) (s : RootState) (w c x : View) (t : Title) (e : RootEntry) → IsCutBack p first s w c t →
    e ≡ root_entry line (Unmap asked (at_number_seen w t)) → length (list_of 4 s.view) ≤ asked →
    GaveRun (pools_seen x) asked (supers_for t.len) first →
    IsAware x → IsAware (left_after (run_parcel first (supers_for t.len) t.born) c) →
    Keeps (left_after (run_parcel first (supers_for t.len) t.born) c) x →
    HasEntryMore p e (left_after (run_parcel first (supers_for t.len) t.born) c) x →
    IsRootSound p (after_entry x e s)
