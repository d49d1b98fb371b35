-- A fill of a root that is shown: its slots are taken, the new ones are cut, and all of them are handed over.
use Rattle.std.proofs.Common.{◌≡◌, ℕ, ◌<◌, List, Option, refl, sym, ◌∙◌, ap, subst, slice_index_or}
use Rattle.std.specs.Prelude.{All, Contains}
use Rattle.std.proofs.lemmas.List.Elements.{All-contains_itself}
use Rattle.pa_slot.specs.declared.title.Title.{Title}
use Rattle.pa_buckets.specs.Bands.{fill_of}
use Rattle.pa_region.specs.declared.view.View.{View}
use Rattle.pa_region.specs.Views.{free_of}
use Rattle.pa_region.specs.Hands.{left_after, given_after}
use Rattle.pa_region.specs.Aware.{IsAware}
use Rattle.pa_record.specs.declared.numbered.Numbered.{Numbered}
use Rattle.pa_record.specs.Sound.{IsSound}
use Rattle.pa_shelf.specs.Shelves.{ShelfParts, ShowsRoot}
use Rattle.pa_root.specs.Reading.{pools_seen}
use Rattle.pa_root.specs.Keeping.{RootState}
use Rattle.pa_root.specs.Handing.{numbered_by}
use Rattle.pa_root.specs.Filling.{GivesTitles, IsReadyFor, IsCutFor, ready_root, fill_taken, frees_parcel}
use Rattle.pa_root.specs.Steps.{IsTakenOut}
use Rattle.pa_root.specs.Taking.{CanTakeSlots, AreSlotsTaken}
use Rattle.pa_root.proofs.Handed.{handed_shown}
use Rattle.pa_root.proofs.Ready.{sound_ready, root_born}
use Rattle.pa_root.proofs.Seeing.{root_sound}
use Rattle.pa_root.proofs.Taken as taken
use Rattle.pa_record.specs.Sound.{least_after_all}

ready_sound : (p class : ℕ) (asked : Option ℕ) (s : RootState) (u : View) → IsReadyFor p class asked s u → IsSound (ready_root asked s u)
ready_sound p class asked s u ready =
    sound_ready (pools_seen u) (least_after_all 0 s.journal) asked s.root (root_sound p s ready.sound.journal)
    (root_born p s ready.sound.journal) ready.later

-- a root that is ready, and is shown, can give slots
pub can_start : (p class : ℕ) (asked : Option ℕ) (s : RootState) (u : View) (l : ShelfParts) → IsReadyFor p class asked s u →
    ShowsRoot u l (ready_root asked s u) → CanTakeSlots u l (ready_root asked s u)
can_start p class asked s u l ready shown = record {
  sound = ready_sound p class asked s u ready;
  shown = shown;
  has = ready.slots.titles.has;
  rest = record { raw = ready.slots.rest.raw; one = ready.slots.rest.one };
}

-- The slots of a fill were taken, and the seat has the view c then.
pub record HasTakenSlots (p class : ℕ) (asked : Option ℕ) (s : RootState) (u c : View) (l : ShelfParts) (titles : List Title) : Type 0 where
  pub ready : IsReadyFor p class asked s u
  pub aware : IsAware c
  pub are : AreSlotsTaken class (fill_of class) (ready_root asked s u) u c l titles

module _ (p class : ℕ) (asked : Option ℕ) (s : RootState) (u c : View) (l : ShelfParts) (titles : List Title)
    (h : HasTakenSlots p class asked s u c l titles) where
  cut_for : IsCutFor p class asked s u c h.are.new
  cut_for = record { ready = h.ready; more = h.are.more; cut = h.are.cut; aware = h.aware; new = h.are.unseen }

  free_there : (t : Title) → Contains titles t → 0 < free_of c t
  free_there t among = taken.taken_free p class asked s u c h.are.new cut_for t (subst (λ ts. Contains ts t) h.are.titles_are among)

  pub slots_given : GivesTitles titles c
  slots_given = subst (λ ts. GivesTitles ts c) (sym h.are.titles_are) (taken.fills_hand_out p class asked s u c h.are.new cut_for)

  pub slots_free : All (λ (t : Title). 0 < free_of c t) titles
  slots_free k d less = free_there (slice_index_or titles k d) (All-contains_itself titles k d less)

  pub slots_out : (left note : View) (slots : List Numbered) → left ≡ left_after (frees_parcel titles) c →
      note ≡ given_after (frees_parcel titles) c →
      slots ≡ numbered_by c titles → IsTakenOut p class asked s u left note titles slots (fill_taken class asked s u).root
  slots_out left note slots is_left is_note are = record {
    between = c;
    new = h.are.new;
    cut = cut_for;
    titles_are = h.are.titles_are;
    root_is = refl;
    left_is = is_left;
    note_is = is_note;
    slots_are = are;
  }

  pub slots_shown : (left : View) → left ≡ left_after (frees_parcel titles) c → ShowsRoot left l (fill_taken class asked s u).root
  slots_shown left is =
      let fill = taken.fill p class asked s u c h.are.new cut_for in
      let ts = (fill_taken class asked s u).titles in
      subst (λ (v : View). ShowsRoot v l (fill_taken class asked s u).root)
      (sym (is ∙ ap (λ us. left_after (frees_parcel us) c) h.are.titles_are))
      (handed_shown c l (fill_taken class asked s u).root ts fill.sound h.aware h.are.shown
      (taken.once p class asked s u c h.are.new cut_for)
      (taken.taken_free p class asked s u c h.are.new cut_for) fill.out)
