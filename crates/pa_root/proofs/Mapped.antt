-- A direct map keeps a root sound.
use Rattle.std.proofs.Common.{◌≡◌, ℕ, ◌+◌, ◌<◌, ◌≤◌, [], ◌∷◌, ◌++◌, Some, filter, refl, sym, ◌∙◌, ap, subst, arith, ◌⊎◌, inl, inr}
use Rattle.std.specs.Prelude.{◌≢◌, AllPairs, Contains}
use Rattle.std.proofs.lemmas.List.{append-nil}
use Rattle.std.proofs.lemmas.List.Elements.{Contains-append_left, Contains-append_right, Contains-append_cases}
use Rattle.pa_slot.specs.declared.title.Title.{Title}
use Rattle.pa_slot.specs.declared.word.SlotName.{SlotName}
use Rattle.pa_slot.specs.Titles.{Covers}
use Rattle.pa_slot.proofs.Runs.{same_slot_cases, same_slot_yes, same_slot_no}
use Rattle.pa_layout.specs.Pages.{page_place, supers_for}
use Rattle.pa_region.specs.declared.view.View.{View}
use Rattle.pa_region.specs.Views.{free_of, low_of}
use Rattle.pa_region.specs.Lists.{list_of, lease_of, IsBeginning}
use Rattle.pa_region.specs.Hands.{left_after, united}
use Rattle.pa_region.specs.Lending.{Keeps, HostsKeeper}
use Rattle.pa_region.specs.Aware.{IsAware}
use Rattle.pa_region.proofs.JoinStep.{united_parts}
use Rattle.pa_region.proofs.TakeLaws.{left_begins, left_whole, left_number}
use Rattle.pa_region.proofs.LendBack.{begins_on, kept_number}
use Rattle.pa_record.specs.declared.root.RootEntry.{RootEntry}
use Rattle.pa_record.specs.declared.root.RootAct.{RootAct}
use Rattle.pa_record.specs.declared.root.RootAct.TheVariants.{Map}
use Rattle.pa_record.specs.Spans.{name_of}
use Rattle.pa_record.specs.Root.{mapped, map_title, RootActFits}
use Rattle.pa_record.specs.Sound.{IsSound, IsMade, least_after_all}
use Rattle.pa_lists.proofs.Members.{not_in_none, first_in, in_cases}
use Rattle.pa_lists.proofs.Pairs.{pairs_none, pairs_cons}
use Rattle.pa_record.proofs.Titles.{made_born}
use Rattle.pa_record.proofs.Replaying.{fits_more}
use Rattle.pa_rules.specs.Holders.{Out, Move}
use Rattle.pa_legal.specs.Numbers.{is_of, moves_of, at_end, IsNumbered}
use Rattle.pa_pool.specs.Calls.{HasSeenTake}
use Rattle.pa_pool.proofs.Gave.{seen_stays}
use Rattle.pa_root.specs.Reading.{pools_seen}
use Rattle.pa_root.specs.Keeping.{RootState, HasJournal, HoldsMade, KnowsNumbers, HasRest, KeepsLeases, KnowsMaps, IsRootSound, IsInRun, IsInRest}
use Rattle.pa_root.specs.Handing.{root_entry}
use Rattle.pa_root.specs.Laws.{HasEntryMore, after_entry}
use Rattle.pa_root.specs.Filling.{frees_parcel, GivesTitles}
use Rattle.pa_root.specs.Cutting.{map_beside}
use Rattle.pa_root.specs.Mapping.{IsCutForMap, MapsHandOut, MapsKeep}
use Rattle.pa_root.proofs.MapsKept.{maps_go_on}
use Rattle.pa_root.proofs.Whole.{made_is_whole}
use Rattle.pa_root.proofs.Lists as lists
use Rattle.pa_root.proofs.Seeing.{root_sound, free_kept, handles_kept}
use Rattle.pa_root.proofs.Together.{no_own_clean, free_both, handles_both, hosts_both}
use Rattle.pa_root.proofs.Opening.{low_left, low_right, not_both}
use Rattle.pa_root.proofs.Batches.{IsBesideCuts, beside_cuts, free_stays, free_cut, free_only, low_stays}
use Rattle.pa_root.proofs.Parcels.{KeepsBut, hands_out, keeps_but}
use Rattle.pa_root.proofs.Moves.{numbers_without, numbers_with}
use Rattle.pa_root.proofs.Fresh.{later_unnamed}
use Rattle.pa_root.proofs.Ready.{root_born, named_seen}

-- the title of an entry that makes a direct map
abbrev titled_by : Title → RootAct → Title
titled_by t (Map asked slot len) = map_title slot len
titled_by t other = t

module _ (p first entry len : ℕ) (s : RootState) (w c : View) (cut : IsCutForMap p first entry len s w c) where
  abbrev t : Title
  t = map_beside first entry len

  abbrev u : View
  u = united s.view w

  pub beside : IsBesideCuts u c
  beside = subst (λ v. IsBesideCuts u v) (sym cut.cut) (beside_cuts (t ∷ []) u)

  cut_free : 0 < free_of c t
  cut_free = subst (λ v. 0 < free_of v t) (sym cut.cut) (free_cut (t ∷ []) u t (first_in t []))

  pub once : AllPairs ◌≢◌ (t ∷ [])
  once = pairs_cons (λ (a : Title) (b : Title). a ≢ b) t [] (λ b none. absurd (not_in_none b none))
      (pairs_none (λ (a : Title) (b : Title). a ≢ b))

  only_t : (v : Title) → Contains (t ∷ []) v → t ≡ v
  only_t v among = elim (in_cases t v [] among) [ inl e ↦ e | inr none ↦ absurd (not_in_none v none) ]

  pub taken_free : (v : Title) → Contains (t ∷ []) v → 0 < free_of c v
  taken_free v among = subst (λ x. 0 < free_of c x) (only_t v among) cut_free

  pub gives_map : GivesTitles (t ∷ []) c
  gives_map = hands_out (t ∷ []) c once taken_free

  -- the journal names no entry of the pool that is as late
  latest : least_after_all 0 s.journal ≤ entry
  latest = let n = named_seen p s cut.sound.journal in let k = cut.later in omega arith

  good : IsSound s.root
  good = root_sound p s cut.sound.journal

  -- no slot of the root is of that entry
  made_low : (v : Title) → IsMade s.root v → v.born < entry
  made_low v made =
      let (at, among, e) = made_born s.root v good made in
      let low = (root_born p s cut.sound.journal).supers at among in
      let l = latest in
      omega arith

  -- the title's bytes lie in the super pages
  covers_run : (b : ℕ) → Covers t b → IsInRun first (supers_for len) b
  covers_run b covers = let low = covers.0 in let high = covers.1 in (omega arith, omega arith)

  -- what is free was so before, or is the title
  free_before : (v : Title) → 0 < free_of c v → (0 < free_of s.view v) ⊎ (t ≡ v)
  free_before v free = elim (free_only (t ∷ []) u v (subst (λ x. 0 < free_of x v) cut.cut free)) [
    | inl here ↦ inl (let e = free_both s.view w v in let n = cut.has.frees v in omega arith)
    | inr among ↦ inr (only_t v among)
  ]

  free_still : (v : Title) → 0 < free_of s.view v → 0 < free_of c v
  free_still v free =
      subst (λ x. 0 < free_of x v) (sym cut.cut) (let h = free_stays (t ∷ []) u v in let e = free_both s.view w v in omega arith)

  module _ (line : ℕ) (x : View) (now : IsAware x) (left_aware : IsAware (left_after (frees_parcel (t ∷ [])) c))
      (keeps : Keeps (left_after (frees_parcel (t ∷ [])) c) x)
      (more : HasEntryMore p (root_entry line (Map entry (name_of t) len)) (left_after (frees_parcel (t ∷ [])) c) x) where
    abbrev y : View
    y = left_after (frees_parcel (t ∷ [])) c

    abbrev e : RootEntry
    e = root_entry line (Map entry (name_of t) len)

    abbrev last : RootState
    last = record { view = x; journal = s.journal ++ e ∷ []; root = mapped t s.root }

    but : KeepsBut (t ∷ []) c y
    but = keeps_but (t ∷ []) c once taken_free cut.cut_aware.free_once

    free_left : (v : Title) → 0 < free_of x v → 0 < free_of s.view v
    free_left v free =
        let (free', away) = but.frees v (subst (λ n. 0 < n) (free_kept y x v keeps) free) in
        elim (free_before v free') [ inl here ↦ here | inr is ↦ absurd (away (subst (λ z. Contains (t ∷ []) z) is (first_in t []))) ]

    titles_now : HoldsMade last
    titles_now = record {
      has = λ v made. elim (cut.sound.titles.has v made) [
        | inl free ↦
            let away : Contains (t ∷ []) v → ⊥ = λ among. let i = ap (λ (z : Title). z.born) (only_t v among) in let l = made_low v made in
            absurd (omega arith) in
            let f = free_still v free in
            let k = but.stays v away in
            inl (subst (λ n. 0 < n) (sym (free_kept y x v keeps)) (omega arith))
        | inr out ↦ inr out
      ];
      made = λ v free. cut.sound.titles.made v (free_left v free);
      with_root = λ v free out. cut.sound.titles.with_root v (free_left v free) out;
      unused = λ v.
          let a = handles_kept y x v keeps in
          let b = but.handles v in
          let d = beside.handles v in
          let f = handles_both s.view w v in
          let g = cut.sound.titles.unused v in
          let h = cut.has.handles v in
          omega arith;
      budget =
          let a = keeps.budget in let b = but.budget in let d = beside.budget in let f = (united_parts s.view w).budget in
          let g = cut.sound.titles.budget in let h = cut.has.budget in
          omega arith;
    }

    abbrev out_move : Move
    out_move = record { line = line; slot = name_of t; number = 0; way = Out }

    moves_here : filter (is_of (name_of t)) (out_move ∷ []) ≡ out_move ∷ []
    moves_here = rw (same_slot_yes (name_of t) (name_of t) refl) refl

    moves_not : (name : SlotName) → (name_of t ≡ name → ⊥) → filter (is_of name) (out_move ∷ []) ≡ []
    moves_not name away = rw (same_slot_no (name_of t) name away) refl

    unnamed : moves_of s.journal (name_of t) ≡ []
    unnamed = later_unnamed (pools_seen s.view) s.journal (name_of t) cut.sound.journal.fits latest

    numbers_now : KnowsNumbers last
    numbers_now = record {
      numbered = λ name. elim (same_slot_cases (name_of t) name) [
        | inl is ↦
            subst (λ n. IsNumbered (Some 0) (moves_of (s.journal ++ e ∷ []) n)) is
            (numbers_with s.journal e (name_of t) out_move moves_here (cut.sound.numbers.numbered (name_of t))
            (ap (at_end (Some 0)) unnamed)).0
        | inr away ↦ subst (λ ms. IsNumbered (Some 0) ms) (sym (numbers_without s.journal e name (moves_not name away)))
            (cut.sound.numbers.numbered name)
      ];
      known = λ v free.
          let before = free_left v free in
          let made = cut.sound.titles.made v before in
          let well = made_is_whole s.root v good made in
          let other : name_of t ≡ name_of v → ⊥ = λ same. let b = ap (λ (n : SlotName). n.born) same in let l = made_low v made in
          absurd (omega arith) in
          ap (at_end (Some 0)) (numbers_without s.journal e (name_of v) (moves_not (name_of v) other))
          ∙ cut.sound.numbers.known v before
          ∙ ap Some (sym (
          kept_number y x (v.start + v.len) v left_aware now keeps well (subst (λ n. 0 < n) (free_kept y x v keeps) free)
          ∙ beside.seen v
          ∙ left_number s.view w (v.start + v.len) v cut.aware cut.both_aware cut.long well before));
    }

    -- a byte of the rest was in the rest before, or is one of the new super pages' beside the title
    rest_cases : (j b : ℕ) → IsInRest (mapped t s.root) j b → IsInRest s.root j b ⊎
        ((j ≡ entry) × IsInRun first (supers_for len) b × (Covers t b → ⊥))
    rest_cases j b (inl rest) = inl (inl rest)
    rest_cases j b (inr (m, at, among, born, start, inside, away)) = elim (Contains-append_cases s.root.maps (t ∷ []) m among) [
      | inl old ↦ inl (inr (m, at, old, born, start, inside, away))
      | inr new ↦
          let is = only_t m new in
          let number : at ≡ first = let k = ap (λ (z : Title). z.start) is in omega arith in
          let size : m.len ≡ len = ap (λ (z : Title). z.len) (sym is) in
          inr (
            sym born ∙ ap (λ (z : Title). z.born) (sym is),
            subst (λ n. IsInRun first (supers_for n) b) size (subst (λ n. IsInRun n (supers_for m.len) b) number inside),
            λ covers. away (subst (λ z. Covers z b) is covers),
          )
    ]

    apart : (j b : ℕ) → IsInRest s.root j b → IsInRun first (supers_for len) b → ⊥
    apart j b old new = not_both s.view w b j entry cut.both_aware (cut.sound.rest.raw j b old) (cut.has.raws b new)

    -- beside the title the floors stay
    low_now : (j b : ℕ) → 0 < low_of u b j → (Covers t b → ⊥) → 0 < low_of x b j
    low_now j b some away =
        let a : low_of c b j ≡ low_of u b j = subst (λ v. low_of v b j ≡ low_of u b j) (sym cut.cut)
        (low_stays (t ∷ []) u b j (λ v among covers. away (subst (λ z. Covers z b) (sym (only_t v among)) covers))) in
        let d = but.low b j in
        let k = keeps.floors b j in
        omega arith

    rest_now : HasRest last
    rest_now = record {
      raw = λ j b inside. elim (rest_cases j b inside) [
        | inl old ↦ low_now j b (low_left s.view w b j (cut.sound.rest.raw j b old)) (λ covers. apart j b old (covers_run b covers))
        | inr (is, new, away) ↦ low_now j b (low_right s.view w b j (subst (λ k. 0 < low_of w b k) (sym is) (cut.has.raws b new))) away
      ];
      one = λ j k b inside other. elim (rest_cases j b inside) [
        | inl old ↦ elim (rest_cases k b other) [
          | inl old' ↦ cut.sound.rest.one j k b old old'
          | inr (is', new', away') ↦ absurd (apart j b old new')
        ]
        | inr (is, new, away) ↦ elim (rest_cases k b other) [
          | inl old' ↦ absurd (apart k b old' new)
          | inr (is', new', away') ↦ is ∙ sym is'
        ]
      ];
    }

    lease_left : (n : ℕ) → 0 < lease_of s.view n + lease_of w n → 0 < lease_of x n
    lease_left n some =
        let a = keeps.leases n in let b = but.leases n in let d = beside.leases n in let f = (united_parts s.view w).leases n in
        omega arith

    leases_now : KeepsLeases last
    leases_now = record {
      supers = λ at among. lease_left at.born (let a = cut.sound.leases.supers at among in omega arith);
      maps = λ v among. elim (Contains-append_cases s.root.maps (t ∷ []) v among) [
        | inl old ↦ lease_left v.born (let a = cut.sound.leases.maps v old in omega arith)
        | inr new ↦
            let is = ap (λ (z : Title). z.born) (only_t v new) in
            let a : 0 < lease_of w v.born = subst (λ n. 0 < lease_of w n) is cut.has.lease in
            lease_left v.born (omega arith)
      ];
    }

    hosts_left : HostsKeeper p y
    hosts_left =
        let ((none, clean), has) =
        hosts_both p s.view w cut.sound.journal.hosts cut.has.stakes
        (no_own_clean w (λ v. let h = cut.has.handles v in omega arith)) in (
          ((λ k. but.stakes k ∙ beside.stakes k ∙ none k), but.unclean ∙ beside.unclean ∙ clean),
          (let a = but.keepers p in let b = beside.keepers p in omega arith),
        )

    pool_on : IsBeginning (list_of 4 u) (list_of 4 x)
    pool_on =
        begins_on (list_of 4 u) (list_of 4 y) (list_of 4 x)
        (subst (λ l. IsBeginning (list_of 4 u) l) (sym (beside.lists 4)) ([], sym (append-nil (list_of 4 u)))) (keeps.lists 4)

    maps_now : KnowsMaps p last
    maps_now =
        maps_go_on p s x e (mapped t s.root) cut.sound.maps
        (record {
          undone = λ v. let a = (united_parts s.view w).undone v in let b = beside.undone v in let k = keeps.undone v in omega arith;
          pool = begins_on (list_of 4 s.view) (list_of 4 u) (list_of 4 x) (left_begins s.view w 4 cut.both_aware) pool_on;
        })
        (λ v among. inl (Contains-append_left s.root.maps (t ∷ []) v among))
        (λ asked size slot is. subst (λ z. Contains (s.root.maps ++ t ∷ []) z) (ap (titled_by t) is)
        (Contains-append_right s.root.maps (t ∷ []) t (first_in t [])))
        (λ v among. elim (Contains-append_cases s.root.maps (t ∷ []) v among) [
          | inl old ↦ inl old
          | inr new ↦
              inr (subst (λ z. (at : ℕ) × (z.start ≡ page_place at 1) × HasSeenTake p z.born at (supers_for z.len) x) (only_t v new)
              (first, refl, seen_stays p entry first (supers_for len) u x pool_on cut.seen))
        ])

    fits_here : RootActFits (pools_seen u) e.act s.root
    fits_here = (first, cut.found, refl, refl)

    journal_now : HasJournal p (after_entry x e s)
    journal_now =
        let (m, list, says) = more in
        let (rest, same) = lists.pools_more u x pool_on in
        lists.journal_goes_on p s x e cut.sound.journal (lists.hosts_kept p y x keeps hosts_left)
        (begins_on (list_of 4 s.view) (list_of 4 u) (list_of 4 x) (left_begins s.view w 4 cut.both_aware) pool_on)
        (m, list ∙ ap (λ l. l ++ m ∷ []) (beside.lists p ∙ left_whole s.view w p cut.aware cut.both_aware cut.sound.journal.hosts.1), says)
        (record {
          act = subst (λ pools. RootActFits pools e.act s.root) (sym same) (fits_more (pools_seen u) rest e.act s.root fits_here);
          asks = latest;
        })

    pub keeps_mapped : IsRootSound p (after_entry x e s)
    keeps_mapped = record {
      journal = journal_now;
      titles = titles_now;
      numbers = numbers_now;
      rest = rest_now;
      leases = leases_now;
      maps = maps_now;
    }

pub maps_hand_out : MapsHandOut
maps_hand_out p first entry len s w c cut = gives_map p first entry len s w c cut

pub maps_keep : MapsKeep
maps_keep p line first entry len s w c x e cut is now left keeps more =
    let y = left_after (frees_parcel (map_beside first entry len ∷ [])) c in
    subst (λ z. IsRootSound p (after_entry x z s)) (sym is)
    (keeps_mapped p first entry len s w c cut line x now left keeps (subst (λ z. HasEntryMore p z y x) is more))
