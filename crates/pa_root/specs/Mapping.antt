-- Direct maps that a root makes.
use Rattle.std.specs.Prelude.{◌≡◌, ℕ, ◌%◌, ◌≤◌, [], ◌∷◌, length}
use Rattle.pa_layout.specs.Pages.{supers_for}
use Rattle.pa_region.specs.declared.view.View.{View}
use Rattle.pa_region.specs.Views.{seen_of}
use Rattle.pa_region.specs.Lists.{list_of}
use Rattle.pa_region.specs.Hands.{left_after, united}
use Rattle.pa_region.specs.Cuts.{after_cut}
use Rattle.pa_region.specs.Lending.{Keeps}
use Rattle.pa_region.specs.Aware.{IsAware}
use Rattle.pa_record.specs.declared.root.RootEntry.{RootEntry}
use Rattle.pa_record.specs.declared.root.RootAct.TheVariants.{Map}
use Rattle.pa_record.specs.Pool.{FoundRun}
use Rattle.pa_record.specs.Spans.{name_of}
use Rattle.pa_pool.specs.Calls.{HasSeenTake}
use Rattle.pa_root.specs.Reading.{pools_seen}
use Rattle.pa_root.specs.Keeping.{RootState, IsRootSound}
use Rattle.pa_root.specs.Handing.{root_entry}
use Rattle.pa_root.specs.Laws.{HasEntryMore, after_entry}
use Rattle.pa_root.specs.Filling.{HasRunOnly, frees_parcel, GivesTitles}
use Rattle.pa_root.specs.Cutting.{map_beside}

-- A sound root takes in a note of the super pages for a direct map of this many bytes, which the pool gave for its partition by an
-- entry after those that its seat had seen. It cuts the direct map's title,
-- on which no seat has seen a step. Its seat has the view c then.
pub record IsCutForMap (p first entry len : ℕ) (s : RootState) (w c : View) : Type 0 where
  pub sound : IsRootSound p s
  pub aware : IsAware s.view
  pub both_aware : IsAware (united s.view w)
  pub long : length s.view.words ≡ length w.words
  pub has : HasRunOnly first (supers_for len) entry entry w
  pub found : FoundRun (pools_seen (united s.view w)) entry (supers_for len) first
  pub seen : HasSeenTake p entry first (supers_for len) (united s.view w)
  pub later : length (list_of 4 s.view) ≤ entry
  pub whole : len % 8 ≡ 0
  pub some : 16 ≤ len
  pub cut : c ≡ after_cut (map_beside first entry len) (united s.view w)
  pub cut_aware : IsAware c
  pub new : seen_of c (map_beside first entry len) ≡ 0

-- once the title of a direct map was cut, it can be handed over
abbrev pub MapsHandOut : Type 0
MapsHandOut =
    (p first entry len : ℕ) (s : RootState) (w c : View) → IsCutForMap p first entry len s w c →
    GivesTitles (map_beside first entry len ∷ []) c

-- A root is sound with the entry that names the title of a direct map,
-- once its seat has handed the title over and has made the entry.
abbrev pub MapsKeep : Type 0
MapsKeep =
    (p line first entry len : ℕ) (s : RootState) (w c x : View) (e : RootEntry) → IsCutForMap p first entry len s w c →
    e ≡ root_entry line (Map entry (name_of (map_beside first entry len)) len) →
    IsAware x → IsAware (left_after (frees_parcel (map_beside first entry len ∷ [])) c) →
    Keeps (left_after (frees_parcel (map_beside first entry len ∷ [])) c) x →
    HasEntryMore p e (left_after (frees_parcel (map_beside first entry len ∷ [])) c) x →
    IsRootSound p (after_entry x e s)
