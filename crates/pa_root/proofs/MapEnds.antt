-- A direct map as a call: the root is sound with its entry, and what the caller knows.
use Rattle.std.proofs.Common.{◌≡◌, ℕ, ◌%◌, ◌≤◌, [], ◌∷◌, ◌++◌, Some, length, refl, sym, ◌∙◌, ap, subst, arith}
use Rattle.pa_slot.specs.declared.title.Title.{Title}
use Rattle.pa_layout.specs.Pages.{supers_for}
use Rattle.pa_direct.specs.declared.maps.Shape.{Shape}
use Rattle.pa_direct.specs.Shapes.{IsShape}
use Rattle.pa_direct.proofs.Serving.{Serves-of}
use Rattle.pa_region.specs.declared.view.Made.{Made}
use Rattle.pa_region.specs.declared.view.View.{View}
use Rattle.pa_region.specs.Views.{seen_of, least_stake}
use Rattle.pa_region.specs.Lists.{list_of}
use Rattle.pa_region.specs.Hands.{left_after, given_after, united}
use Rattle.pa_region.specs.Cuts.{after_cut}
use Rattle.pa_region.specs.Lending.{CanLend, HostsKeeper, Keeps, IsNoted}
use Rattle.pa_region.specs.Aware.{IsAware}
use Rattle.pa_region.proofs.LendBack.{lends_again}
use Rattle.pa_record.specs.declared.root.RootEntry.{RootEntry}
use Rattle.pa_record.specs.declared.root.RootAct.TheVariants.{Map}
use Rattle.pa_record.specs.Numbers.{root_numbers}
use Rattle.pa_record.specs.Spans.{name_of}
use Rattle.pa_record.specs.Root.{mapped}
use Rattle.pa_pool.specs.Calls.{take_entry}
use Rattle.pa_root.specs.Keeping.{RootState, IsRootSound}
use Rattle.pa_root.specs.Handing.{HasOnly, root_entry}
use Rattle.pa_root.specs.Laws.{with_view}
use Rattle.pa_root.specs.Filling.{frees_parcel, GivesTitles}
use Rattle.pa_root.specs.Cutting.{map_beside}
use Rattle.pa_root.specs.Mapping.{IsCutForMap}
use Rattle.pa_root.specs.Telling.{MapTells}
use Rattle.pa_root.proofs.Batches.{IsBesideCuts}
use Rattle.pa_root.proofs.Entries.{entries_are_told}
use Rattle.pa_root.proofs.Opened.{HasPages, still_sound, pages_found, pages_seen}
use Rattle.pa_root.proofs.Parcels.{KeepsBut, keeps_but}
use Rattle.pa_root.proofs.Together.{no_own_clean, hosts_both}
use Rattle.pa_root.proofs.Mapped as made

-- the pages of a direct map of this many bytes came to a sound root, and its title was cut
pub record HasMapCut (p line len asked first : ℕ) (s : RootState) (r : ℕ) (v a w note c : View) : Type 0 where
  pub pages : HasPages p line (supers_for len) asked first s r v a w note
  pub whole : len % 8 ≡ 0
  pub some : 16 ≤ len
  pub cut : c ≡ after_cut (map_beside first asked len) (united w note)
  pub aware : IsAware c
  pub new : seen_of c (map_beside first asked len) ≡ 0

module _ (p line len asked first : ℕ) (s : RootState) (r : ℕ) (v a w note c : View)
    (has : HasMapCut p line len asked first s r v a w note c) where
  abbrev t : Title
  t = map_beside first asked len

  cut_for : IsCutForMap p first asked len (with_view w s) note c
  cut_for = record {
    sound = still_sound p line (supers_for len) asked first s r v a w note has.pages;
    aware = has.pages.now_aware;
    both_aware = has.pages.both_aware;
    long = has.pages.long;
    has = has.pages.run.has;
    found = pages_found p line (supers_for len) asked first s r v a w note has.pages;
    seen = pages_seen p line (supers_for len) asked first s r v a w note has.pages;
    later = has.pages.asks.later;
    whole = has.whole;
    some = has.some;
    cut = has.cut;
    cut_aware = has.aware;
    new = has.new;
  }

  pub map_gives : GivesTitles (t ∷ []) c
  map_gives = made.maps_hand_out p first asked len (with_view w s) note c cut_for

  pub map_hosts : HostsKeeper p (left_after (frees_parcel (t ∷ [])) c)
  map_hosts =
      let s' = with_view w s in
      let but : KeepsBut (t ∷ []) c (left_after (frees_parcel (t ∷ [])) c) =
      keeps_but (t ∷ []) c (made.once p first asked len s' note c cut_for)
      (made.taken_free p first asked len s' note c cut_for) has.aware.free_once in
      let beside : IsBesideCuts (united w note) c = made.beside p first asked len s' note c cut_for in
      let run = has.pages.run.has in
      let ((none, clean), has_it) =
      hosts_both p w note cut_for.sound.journal.hosts run.stakes (no_own_clean note (λ z. let h = run.handles z in omega arith)) in (
        ((λ k. but.stakes k ∙ (beside.stakes k ∙ none k)), but.unclean ∙ (beside.unclean ∙ clean)),
        (let i = but.keepers p in let j = beside.keepers p in omega arith),
      )

  abbrev entry : RootEntry
  entry = root_entry line (Map asked (name_of t) len)

  pub mapped_sound : (x : View) (m : Made) → IsAware x → IsAware (left_after (frees_parcel (t ∷ [])) c) →
      Keeps (left_after (frees_parcel (t ∷ [])) c) x →
      list_of p x ≡ list_of p (left_after (frees_parcel (t ∷ [])) c) ++ m ∷ [] → m.numbers ≡ root_numbers entry →
      IsRootSound p (record { view = x; journal = s.journal ++ entry ∷ []; root = mapped t s.root })
  mapped_sound x m aware left keeps list says =
      made.maps_keep p line first asked len (with_view w s) note c x entry cut_for refl aware left keeps (m, list, says)

  pub map_tells : (x after given : View) (m : Made) (s_now : RootState) → CanLend v → r ≡ least_stake v.stakes →
      IsNoted (least_stake a.stakes) p (root_numbers entry) a after (left_after (frees_parcel (t ∷ [])) c) x m →
      given ≡ given_after (frees_parcel (t ∷ [])) c → s_now.journal ≡ s.journal ++ entry ∷ [] →
      MapTells r p line len v after given t s s_now
  map_tells x after given m s_now lender is noted is_given journal =
      let taken = take_entry line p (supers_for len) (Some first) in
      let left = left_after (frees_parcel (t ∷ [])) c in
      let asks = has.pages.asks in
      let same : least_stake a.stakes ≡ r = (lends_again v a asks.lends.keeps lender).1 ∙ sym is in
      let noted' : IsNoted r p (root_numbers entry) a after left x m =
      subst (λ k. IsNoted k p (root_numbers entry) a after left x m) same noted in
      record {
        gives = record {
          long = refl;
          has = subst (λ g. HasOnly (t ∷ []) g) (sym is_given) map_gives.has;
          number = ap (λ g. seen_of g t) is_given ∙ (map_gives.seen t ∙ has.new);
          index = length (list_of p left);
          first = first;
          enters = entries_are_told.two asked r p [] taken entry v a after left x asks.made m asks.is_made asks.lends noted';
        };
        journal = journal;
      }

-- what is known of a shape
pub record IsServed (shape : Shape) : Type 0 where
  pub eights : shape.slot % 8 ≡ 0
  pub pages : shape.slot % 4096 ≡ 0
  pub long : 16 ≤ shape.slot
  pub supers : shape.supers ≡ supers_for shape.slot
  pub one : 1 ≤ shape.supers
  pub few : shape.supers ≤ 16

pub shape_served : (shape : Shape) → IsShape shape → IsServed shape
shape_served shape (size, direct, e) =
    let s = Serves-of size direct in
    let pages = s.system_pages in
    let usable = s.usable in
    let large = direct.0 in
    subst (λ z. IsServed z) (sym e)
    (record {
      eights = omega arith;
      pages = pages;
      long = omega arith;
      supers = refl;
      one = s.some_supers;
      few = s.few_supers;
    })
