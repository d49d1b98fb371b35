-- A fill keeps a root sound.
use Rattle.std.proofs.Common.{◌≡◌, ℕ, ◌+◌, ◌<◌, List, [], ◌∷◌, ◌++◌, Option, Some, map, filter, sym, ◌∙◌, ap, subst, arith, ◌⊎◌, inl, inr}
use Rattle.std.specs.Prelude.{◌≢◌, AllPairs, Contains}
use Rattle.std.proofs.lemmas.List.{append-nil}
use Rattle.pa_slot.specs.declared.title.Title.{Title}
use Rattle.pa_slot.specs.declared.word.SlotName.{SlotName}
use Rattle.pa_slot.specs.Titles.{Covers}
use Rattle.pa_buckets.specs.Bands.{fill_of}
use Rattle.pa_region.specs.declared.view.View.{View}
use Rattle.pa_region.specs.Views.{free_of, low_of, seen_of}
use Rattle.pa_region.specs.Lists.{list_of, IsBeginning}
use Rattle.pa_region.specs.Hands.{left_after}
use Rattle.pa_region.specs.Lending.{Keeps, HostsKeeper}
use Rattle.pa_region.specs.Aware.{IsAware}
use Rattle.pa_region.proofs.LendBack.{begins_on, kept_number}
use Rattle.pa_record.specs.declared.root.RootEntry.{RootEntry}
use Rattle.pa_record.specs.declared.root.RootAct.TheVariants.{Fill}
use Rattle.pa_record.specs.Spans.{name_of}
use Rattle.pa_record.specs.Root.{Root, Filled, root_next, root_replayed, new_root, IsOut, RootActFits, IsJournal}
use Rattle.pa_record.specs.Steps.{IsFilled}
use Rattle.pa_record.specs.Sound.{IsSound, IsMade, least_after_all}
use Rattle.pa_lists.proofs.Joined.{map_cases, map_in, pairs_map}
use Rattle.pa_record.proofs.Leaving.{once_or_not}
use Rattle.pa_record.proofs.Filling.{takes_filled}
use Rattle.pa_record.proofs.Replaying.{fits_more, next_more}
use Rattle.pa_rules.specs.Holders.{Out, move_of}
use Rattle.pa_legal.specs.Numbers.{is_of, moves_of, at_end, IsNumbered}
use Rattle.pa_root.specs.Reading.{pools_seen}
use Rattle.pa_root.specs.Keeping.{RootState, HasJournal, HoldsMade, KnowsNumbers, HasRest, KeepsLeases, KnowsMaps, IsRootSound, IsInRest}
use Rattle.pa_root.specs.Handing.{at_number_seen, numbered_by, root_entry}
use Rattle.pa_root.specs.Laws.{HasEntryMore, after_entry}
use Rattle.pa_root.specs.Filling.{after_cuts, frees_parcel, ready_root, fill_taken, IsCutFor, GivesTitles, FillsHandOut, FillsKeep}
use Rattle.pa_root.proofs.MapsKept.{maps_leave}
use Rattle.pa_root.proofs.Whole.{made_is_whole}
use Rattle.pa_root.proofs.Lists as lists
use Rattle.pa_root.proofs.Seeing.{root_sound, free_kept, handles_kept, rest_before}
use Rattle.pa_root.proofs.Named.{made_name}
use Rattle.pa_root.proofs.Moves.{none_moves, one_moves, names_by, numbers_without, numbers_with}
use Rattle.pa_root.proofs.Batches.{IsBesideCuts, beside_cuts, free_stays, free_cut, free_only, low_stays}
use Rattle.pa_root.proofs.Parcels.{KeepsBut, hands_out, keeps_but}
use Rattle.pa_root.proofs.Rewording.{free_rewritten, rewritten_beside}
use Rattle.pa_root.proofs.Fresh.{fresh_unnamed}
use Rattle.pa_root.proofs.Ready.{made_ready, supers_ready, maps_ready, sound_ready, root_born, out_was_made}
use Rattle.pa_root.proofs.Filling.{made_lies, was_rest}

module _ (p class : ℕ) (asked : Option ℕ) (s : RootState) (u c : View) (ts : List Title) (cut : IsCutFor p class asked s u c ts) where
  abbrev r0 : Root
  r0 = ready_root asked s u

  abbrev f : Filled
  f = fill_taken class asked s u

  pub good : IsSound r0
  good =
      sound_ready (pools_seen u) (least_after_all 0 s.journal) asked s.root (root_sound p s cut.ready.sound.journal)
      (root_born p s cut.ready.sound.journal)
      cut.ready.later

  pub fill : IsFilled class (fill_of class) r0 f
  fill = takes_filled class (fill_of class) r0 good cut.ready.class_is

  -- ---- the view after the cuts

  pub beside : IsBesideCuts u c
  beside = rewritten_beside u (after_cuts ts u) c (beside_cuts ts u) cut.cut

  stays_free : (t : Title) → 0 < free_of u t → 0 < free_of c t
  stays_free t free = let e = free_rewritten (after_cuts ts u) c t cut.cut in let h = free_stays ts u t in omega arith

  cut_free : (t : Title) → Contains ts t → 0 < free_of c t
  cut_free t among = subst (λ n. 0 < n) (sym (free_rewritten (after_cuts ts u) c t cut.cut)) (free_cut ts u t among)

  only_free : (t : Title) → 0 < free_of c t → (0 < free_of u t) ⊎ Contains ts t
  only_free t free = free_only ts u t (subst (λ n. 0 < n) (free_rewritten (after_cuts ts u) c t cut.cut) free)

  made_free : (t : Title) → 0 < free_of c t → IsMade f.root t
  made_free t free = elim (only_free t free) [
    | inl before ↦ cut.more.keeps t (cut.ready.slots.titles.made t before)
    | inr new ↦ cut.more.makes t new
  ]

  -- what was made is free now, or was out before
  free_or_out : (t : Title) → IsMade f.root t → (0 < free_of c t) ⊎ IsOut r0 (name_of t)
  free_or_out t made = elim (cut.more.only t made) [
    | inl before ↦ elim (cut.ready.slots.titles.has t before) [
      | inl free ↦ inl (stays_free t free)
      | inr out ↦ inr out
    ]
    | inr new ↦ inl (cut_free t new)
  ]

  pub taken_free : (t : Title) → Contains f.titles t → 0 < free_of c t
  taken_free t among = elim (free_or_out t (fill.made t among)) [
    | inl free ↦ free
    | inr out ↦ absurd (fill.fresh t among out)
  ]

  pub once : AllPairs ◌≢◌ f.titles
  once = λ i j d less within. (λ e. fill.differ i j d less within (ap name_of e))

  once_named : AllPairs ◌≢◌ (map name_of f.titles)
  once_named = pairs_map (λ (t : Title) (v : Title). name_of t ≢ name_of v) (λ (a : SlotName) (b : SlotName). a ≢ b) name_of f.titles
      (λ t v has has' differ. differ) fill.differ

  pub gives_out : GivesTitles f.titles c
  gives_out = hands_out f.titles c once taken_free

  -- a made slot with the name of one that was taken is that one
  is_one : (t : Title) → IsMade f.root t → Contains (map name_of f.titles) (name_of t) → Contains f.titles t
  is_one t made among =
      let (v, has, e) = map_cases name_of f.titles (name_of t) among in
      subst (λ x. Contains f.titles x) (made_name f.root v t fill.sound (fill.made v has) made e) has

  taken_or_not : (name : SlotName) → Contains (map name_of f.titles) name ⊎ (Contains (map name_of f.titles) name → ⊥)
  taken_or_not name = elim (once_or_not name (map name_of f.titles) once_named) [ inl came ↦ inl came.0 | inr away ↦ inr away.0 ]

  -- ---- the numbers at which they are

  same_root : root_replayed (pools_seen u) s.journal new_root ≡ s.root
  same_root = (lists.fits_more s.view u s.journal cut.ready.pool_list cut.ready.sound.journal.fits).1 ∙ sym cut.ready.sound.journal.replayed

  fits_now : IsJournal (pools_seen u) s.journal
  fits_now = (lists.fits_more s.view u s.journal cut.ready.pool_list cut.ready.sound.journal.fits).0

  unnamed : (t : Title) → Contains ts t → moves_of s.journal (name_of t) ≡ []
  unnamed t among =
      fresh_unnamed (pools_seen u) s.journal f.root t fits_now fill.sound
      (λ v made. cut.more.keeps v (made_ready (pools_seen u) asked s.root v (subst (λ r. IsMade r v) same_root made)))
      (λ at has. elim (supers_ready (pools_seen u) (least_after_all 0 s.journal) asked s.root at cut.ready.later
      (subst (λ ss. Contains ss at) fill.supers has)) [
        | inl old ↦ inl (subst (λ r. Contains r.supers at) (sym same_root) old)
        | inr new ↦ inr new
      ])
      (cut.more.makes t among)
      (λ made. cut.more.fresh t among (made_ready (pools_seen u) asked s.root t (subst (λ r. IsMade r t) same_root made)))

  at_number : (t : Title) → 0 < free_of c t → at_end (Some 0) (moves_of s.journal (name_of t)) ≡ Some (seen_of c t)
  at_number t free = elim (only_free t free) [
    | inl before ↦ cut.ready.slots.numbers.known t before ∙ ap Some (sym (beside.seen t))
    | inr new ↦ ap (at_end (Some 0)) (unnamed t new) ∙ ap Some (sym (cut.new t new))
  ]

  -- ---- after they went out

  module _ (line : ℕ) (x : View) (now : IsAware x) (left_aware : IsAware (left_after (frees_parcel f.titles) c))
      (keeps : Keeps (left_after (frees_parcel f.titles) c) x)
      (more : HasEntryMore p (root_entry line (Fill class asked (numbered_by c f.titles))) (left_after (frees_parcel f.titles) c) x) where
    abbrev y : View
    y = left_after (frees_parcel f.titles) c

    abbrev entry : RootEntry
    entry = root_entry line (Fill class asked (numbered_by c f.titles))

    abbrev last : RootState
    last = record { view = x; journal = s.journal ++ entry ∷ []; root = f.root }

    but : KeepsBut f.titles c y
    but = keeps_but f.titles c once taken_free cut.aware.free_once

    free_left : (t : Title) → 0 < free_of x t → (0 < free_of c t) × (Contains f.titles t → ⊥)
    free_left t free = but.frees t (subst (λ n. 0 < n) (free_kept y x t keeps) free)

    still_free : (t : Title) → 0 < free_of c t → (Contains f.titles t → ⊥) → 0 < free_of x t
    still_free t free away = let e = but.stays t away in subst (λ n. 0 < n) (sym (free_kept y x t keeps)) (omega arith)

    titles_now : HoldsMade last
    titles_now = record {
      has = λ t made. elim (free_or_out t made) [
        | inl free ↦ elim (taken_or_not (name_of t)) [
          | inl taken ↦ inr (fill.out t (is_one t made taken))
          | inr away ↦ inl (still_free t free (λ among. away (map_in name_of f.titles t among)))
        ]
        | inr out ↦ inr (fill.stays (name_of t) out)
      ];
      made = λ t free. made_free t (free_left t free).0;
      with_root = λ t free out.
          let (free', away) = free_left t free in
          elim (fill.only (name_of t) out) [
            | inl before ↦ elim (only_free t free') [
              | inl here ↦ cut.ready.slots.titles.with_root t here before
              | inr new ↦
                  let (v, made, same) = out_was_made r0 (name_of t) good before in
                  cut.more.fresh t new (subst (λ z. IsMade r0 z)
                  (made_name f.root v t fill.sound (cut.more.keeps v made) (cut.more.makes t new) same) made)
            ]
            | inr (v, has, same) ↦ away
                (subst (λ z. Contains f.titles z) (made_name f.root v t fill.sound (fill.made v has) (made_free t free') (sym same)) has)
          ];
      unused = λ t. handles_kept y x t keeps ∙ but.handles t ∙ beside.handles t ∙ cut.ready.slots.titles.unused t;
      budget = keeps.budget ∙ but.budget ∙ beside.budget ∙ cut.ready.slots.titles.budget;
    }

    moves_out : (t : Title) → Contains f.titles t →
        filter (is_of (name_of t)) (map (move_of line Out) (numbered_by c f.titles)) ≡ move_of line Out (at_number_seen c t) ∷ []
    moves_out t among =
        one_moves line Out (at_number_seen c t) (numbered_by c f.titles)
        (subst (λ ns. AllPairs ◌≢◌ ns) (sym (names_by c f.titles)) once_named) (map_in (at_number_seen c) f.titles t among)

    moves_not : (name : SlotName) → (Contains (map name_of f.titles) name → ⊥) →
        filter (is_of name) (map (move_of line Out) (numbered_by c f.titles)) ≡ []
    moves_not name away = none_moves line Out name (numbered_by c f.titles)
        (λ among. away (subst (λ ns. Contains ns name) (names_by c f.titles) among))

    numbers_now : KnowsNumbers last
    numbers_now = record {
      numbered = λ name. elim (taken_or_not name) [
        | inl taken ↦
            let (t, among, e) = map_cases name_of f.titles name taken in
            subst (λ n. IsNumbered (Some 0) (moves_of (s.journal ++ entry ∷ []) n)) e
            (numbers_with s.journal entry (name_of t) (move_of line Out (at_number_seen c t)) (moves_out t among)
            (cut.ready.sound.numbers.numbered (name_of t)) (at_number t (taken_free t among))).0
        | inr away ↦ subst (λ ms. IsNumbered (Some 0) ms) (sym (numbers_without s.journal entry name (moves_not name away)))
            (cut.ready.sound.numbers.numbered name)
      ];
      known = λ t free.
          let (free', away) = free_left t free in
          let made = made_free t free' in
          let well = made_is_whole f.root t fill.sound made in
          ap (at_end (Some 0)) (numbers_without s.journal entry (name_of t) (moves_not (name_of t) (λ among. away (is_one t made among))))
          ∙ at_number t free'
          ∙ ap Some (sym (kept_number y x (t.start + t.len) t left_aware now keeps well (subst (λ n. 0 < n) (free_kept y x t keeps) free)));
    }

    -- a byte of the rest lies in no slot that was cut
    away_from : (j b : ℕ) → IsInRest f.root j b → (t : Title) → Contains ts t → Covers t b → ⊥
    away_from j b inside t among covers =
        let there = was_rest (record { view = u; journal = s.journal; root = r0 }) f.root ts cut.ready.slots.rest good fill.sound
        fill.supers cut.more t b among covers in
        let same : j ≡ t.born = cut.ready.slots.rest.one j t.born b
        (rest_before r0 f.root j b cut.more.keeps fill.supers fill.maps inside) there in
        elim inside [
          | inl (at, has, born, in', free) ↦ free (t, cut.more.makes t among, sym same, covers)
          | inr (m, first, has, born, start, in', free) ↦
              let lies = made_lies f.root t fill.sound (cut.more.makes t among) in
              fill.sound.mixed m lies.at has lies.among (born ∙ same ∙ lies.born)
        ]

    rest_now : HasRest last
    rest_now = record {
      raw = λ j b inside.
          let before = cut.ready.slots.rest.raw j b (rest_before r0 f.root j b cut.more.keeps fill.supers fill.maps inside) in
          let after_cuts_low : low_of c b j ≡ low_of u b j = ap (λ (v : View). low_of v b j) cut.cut.rest ∙
          low_stays ts u b j (away_from j b inside) in
          let k = but.low b j in
          let l = keeps.floors b j in
          omega arith;
      one = λ j k b inside other.
          cut.ready.slots.rest.one j k b (rest_before r0 f.root j b cut.more.keeps fill.supers fill.maps inside)
          (rest_before r0 f.root k b cut.more.keeps fill.supers fill.maps other);
    }

    leases_now : KeepsLeases last
    leases_now = record {
      supers = λ at among.
          let a = cut.ready.slots.leases.supers at (subst (λ ss. Contains ss at) fill.supers among) in
          let b = beside.leases at.born in let d = but.leases at.born in let e = keeps.leases at.born in
          omega arith;
      maps = λ t among.
          let a = cut.ready.slots.leases.maps t (subst (λ ms. Contains ms t) fill.maps among) in
          let b = beside.leases t.born in let d = but.leases t.born in let e = keeps.leases t.born in
          omega arith;
    }

    -- ---- its journal

    hosts_left : HostsKeeper p y
    hosts_left =
        let ((none, clean), has) = cut.ready.hosts in (
          ((λ k. but.stakes k ∙ beside.stakes k ∙ none k), but.unclean ∙ beside.unclean ∙ clean),
          (let a = but.keepers p in let b = beside.keepers p in omega arith),
        )

    fits_here : RootActFits (pools_seen u) entry.act s.root
    fits_here = (cut.ready.class_is, cut.ready.asked_if, sym (names_by c f.titles))

    pool_on : IsBeginning (list_of 4 u) (list_of 4 x)
    pool_on = begins_on (list_of 4 u) (list_of 4 y) (list_of 4 x)
        (subst (λ l. IsBeginning (list_of 4 u) l) (sym (beside.lists 4)) ([], sym (append-nil (list_of 4 u)))) (keeps.lists 4)

    maps_now : KnowsMaps p last
    maps_now =
        maps_leave p s x entry f.root cut.ready.sound.maps
        (record {
          undone = λ t. let z = cut.ready.undone t in let a = beside.undone t in let k = keeps.undone t in omega arith;
          pool = begins_on (list_of 4 s.view) (list_of 4 u) (list_of 4 x) cut.ready.pool_list pool_on;
        })
        (fill.maps ∙ maps_ready (pools_seen u) asked s.root) (λ j len slot is. absurd (cc))

    pub root_is : root_next (pools_seen x) entry.act s.root ≡ f.root
    root_is =
        let (rest, e) = lists.pools_more u x pool_on in
        ap (λ pools. root_next pools entry.act s.root) e ∙ next_more (pools_seen u) rest entry.act s.root fits_here

    journal_now : HasJournal p (after_entry x entry s)
    journal_now =
        let (m, list, says) = more in
        let (rest, e) = lists.pools_more u x pool_on in
        lists.journal_goes_on p s x entry cut.ready.sound.journal (lists.hosts_kept p y x keeps hosts_left)
        (begins_on (list_of 4 s.view) (list_of 4 u) (list_of 4 x) cut.ready.pool_list pool_on)
        (m, list ∙ ap (λ l. l ++ m ∷ []) (beside.lists p ∙ cut.ready.own_list), says)
        (record {
          act = subst (λ pools. RootActFits pools entry.act s.root) (sym e) (fits_more (pools_seen u) rest entry.act s.root fits_here);
          asks = cut.ready.later;
        })

    pub keeps_filled : IsRootSound p (after_entry x entry s)
    keeps_filled = record {
      journal = journal_now;
      titles = subst (λ r. HoldsMade (record { view = x; journal = s.journal ++ entry ∷ []; root = r })) (sym root_is) titles_now;
      numbers = record { numbered = numbers_now.numbered; known = numbers_now.known };
      rest = subst (λ r. HasRest (record { view = x; journal = s.journal ++ entry ∷ []; root = r })) (sym root_is) rest_now;
      leases = subst (λ r. KeepsLeases (record { view = x; journal = s.journal ++ entry ∷ []; root = r })) (sym root_is) leases_now;
      maps = subst (λ r. KnowsMaps p (record { view = x; journal = s.journal ++ entry ∷ []; root = r })) (sym root_is) maps_now;
    }

pub fills_hand_out : FillsHandOut
fills_hand_out p class asked s u c ts cut = gives_out p class asked s u c ts cut

pub fills_keep : FillsKeep
fills_keep p line class asked s u c x ts e cut is now left keeps more =
    subst (λ z. IsRootSound p (after_entry x z s)) (sym is)
    (keeps_filled p class asked s u c ts cut line x now left keeps
    (subst (λ z. HasEntryMore p z (left_after (frees_parcel (fill_taken class asked s u).titles) c) x) is more))
