-- A direct map that comes back keeps a root sound.
use Rattle.std.proofs.Common.{◌≡◌, ℕ, ◌+◌, ◌*◌, ◌<◌, ◌≤◌, ◌&&◌, [], ◌∷◌, ◌++◌, Some, None, length, filter, refl, sym, ◌∙◌, ap, subst, arith, ◌⊎◌, inl, inr, eqb, leb}
use Rattle.std.specs.Prelude.{◌≢◌, Contains}
use Rattle.std.proofs.lemmas.Bool.{cases_lt, eq-eqb}
use Rattle.std.proofs.lemmas.Bool.Decides.{eqb_tells}
use Rattle.std.proofs.lemmas.List.Sums.{sum_by-cons, sum_by-le-sum_by}
use Rattle.pa_slot.specs.declared.title.Title.{Title}
use Rattle.pa_slot.specs.declared.word.SlotName.{SlotName}
use Rattle.pa_slot.specs.Titles.{Covers}
use Rattle.pa_slot.specs.Holdings.{one}
use Rattle.pa_slot.proofs.Same.{title_one}
use Rattle.pa_machine.proofs.Cutting.{covers_or}
use Rattle.pa_slot.proofs.Runs.{same_slot_cases, same_slot_yes, same_slot_no}
use Rattle.pa_layout.specs.Pages.{supers_for}
use Rattle.pa_region.specs.declared.view.View.{View}
use Rattle.pa_region.specs.Views.{free_of, own_of, ref_of, low_of, stake_of, undone_of}
use Rattle.pa_region.specs.Lists.{list_of, lease_of, keeper_of, IsBeginning}
use Rattle.pa_region.specs.declared.view.RawRange.{RawRange}
use Rattle.pa_region.proofs.Adding.{one_and}
use Rattle.pa_region.proofs.Parting.{has_byte}
use Rattle.pa_region.specs.Hands.{CanHand, IsParted, outside, left_after, given_after, united}
use Rattle.pa_region.specs.Lending.{Keeps, HostsKeeper}
use Rattle.pa_region.specs.Aware.{IsAware}
use Rattle.pa_region.proofs.Cutting.{outside_none}
use Rattle.pa_region.proofs.CutLaws.{cut_leaves_others}
use Rattle.pa_region.proofs.HandStep.{hand_parts}
use Rattle.pa_region.proofs.JoinStep.{united_parts}
use Rattle.pa_region.proofs.Stays.{low_held}
use Rattle.pa_region.proofs.TakeLaws.{left_begins, left_whole, left_number}
use Rattle.pa_region.proofs.LendBack.{begins_on, kept_number}
use Rattle.pa_record.specs.declared.root.RootEntry.{RootEntry}
use Rattle.pa_record.specs.declared.root.RootAct.TheVariants.{Unmap}
use Rattle.pa_record.specs.Pool.{GaveRun}
use Rattle.pa_record.specs.Spans.{name_of}
use Rattle.pa_record.specs.Root.{unmapped}
use Rattle.pa_record.specs.Laws.{IsNameOut}
use Rattle.pa_record.specs.Sound.{IsSound, IsMade}
use Rattle.pa_lists.proofs.Members.{not_in_none, first_in, in_cases}
use Rattle.pa_record.proofs.Mapping.{without_map_in}
use Rattle.pa_record.proofs.Titles.{made_born}
use Rattle.pa_rules.specs.Holders.{Back, move_of}
use Rattle.pa_legal.specs.Numbers.{is_of, moves_of, at_end, IsNumbered}
use Rattle.pa_legal.proofs.Standing.{out_none}
use Rattle.pa_root.specs.Reading.{pools_seen}
use Rattle.pa_root.specs.Keeping.{RootState, HasJournal, HoldsMade, KnowsNumbers, HasRest, KeepsLeases, KnowsMaps, IsRootSound, IsInRun, IsInRest}
use Rattle.pa_root.specs.Handing.{at_number_seen, root_entry}
use Rattle.pa_root.specs.Laws.{HasEntryMore, after_entry}
use Rattle.pa_root.specs.Filling.{HasRunOnly}
use Rattle.pa_pool.specs.Calls.{run_parcel}
use Rattle.pa_root.specs.Unmapping.{IsCutBack, HandsBack, UnmapsHandBack, UnmapsKeep}
use Rattle.pa_root.proofs.MapsKept.{maps_go_on}
use Rattle.pa_root.proofs.MapsBack.{without_other}
use Rattle.pa_root.proofs.Whole.{made_is_whole}
use Rattle.pa_root.proofs.Lists as lists
use Rattle.pa_root.proofs.Seeing.{root_sound, free_kept, handles_kept}
use Rattle.pa_root.proofs.Together.{no_own_clean, free_both, handles_both, hosts_both}
use Rattle.pa_root.proofs.Opening.{low_left}
use Rattle.pa_root.proofs.Parcels.{none_stakes, none_keepers}
use Rattle.pa_root.proofs.Moves.{numbers_without, numbers_with}
use Rattle.pa_root.proofs.Ready.{named_seen}
use Rattle.pa_root.proofs.MapsLeft.{others_left, one_of_entry}
use Rattle.pa_pool.proofs.RawBytes.{low_rises}

module _ (p first : ℕ) (s : RootState) (w c : View) (t : Title) (cut : IsCutBack p first s w c t) where
  abbrev u : View
  u = united s.view w

  abbrev count : ℕ
  count = supers_for t.len

  good : IsSound s.root
  good = root_sound p s cut.sound.journal

  -- no slot and no other direct map is of the same entry of the pool
  made_other : (v : Title) → IsMade s.root v → v.born ≢ t.born
  made_other v made = λ e. let (at, among, born) = made_born s.root v good made in good.mixed t at cut.mapped among (sym e ∙ born)

  only_t : (v : Title) → Contains (t ∷ []) v → t ≡ v
  only_t v among = elim (in_cases t v [] among) [ inl e ↦ e | inr none ↦ absurd (not_in_none v none) ]

  free_w : 0 < free_of w t
  free_w = (cut.has.frees t).1 (first_in t [])

  free_u : 0 < free_of u t
  free_u = let e = free_both s.view w t in let f = free_w in omega arith

  -- what is free now was free before, with the root
  free_before : (v : Title) → 0 < free_of c v → 0 < free_of s.view v
  free_before v free =
      let e = cut.uncut.frees v in
      let f = free_both s.view w v in
      elim (title_one t v) [
        | inl y ↦ let k = y.0 in let m = cut.both_aware.free_once v in absurd (omega arith)
        | inr n ↦ elim (cases_lt 0 (free_of w v)) [
          | inl some ↦ absurd (n.1 (only_t v ((cut.has.frees v).0 some)))
          | inr none ↦ let k = n.0 in omega arith
        ]
      ]

  free_still : (v : Title) → IsMade s.root v → 0 < free_of s.view v → 0 < free_of c v
  free_still v made free =
      let e = cut.uncut.frees v in
      let f = free_both s.view w v in
      elim (title_one t v) [
        | inl y ↦ absurd (made_other v made (ap (λ (z : Title). z.born) (sym y.1)))
        | inr n ↦ let k = n.0 in omega arith
      ]

  -- the title's bytes lie in the super pages
  covers_run : (b : ℕ) → Covers t b → IsInRun first count b
  covers_run b covers = let low = covers.0 in let high = covers.1 in let st = cut.start in (omega arith, omega arith)

  -- none of them was raw
  not_raw : (b n : ℕ) → Covers t b → 0 < low_of s.view b n → ⊥
  not_raw b n covers some =
      let e = low_left s.view w b n some in
      let l = low_held u b n in
      let f = free_u in
      let z = cut.both_aware.raw_apart t b (omega arith) covers in
      absurd (omega arith)

  -- each byte of the super pages is raw now
  pub raw_now : (b : ℕ) → IsInRun first count b → 0 < low_of c b (t.born + 1)
  raw_now b inside = elim (covers_or t b) [
    | inl covers ↦ cut.uncut.raw_here b (t.born + 1) covers (omega arith)
    | inr away ↦
        let not_in : Covers t b → ⊥ = λ covers. let a = covers.0 in let d = covers.1 in
        elim away [ inl low ↦ absurd (omega arith) | inr high ↦ absurd (omega arith) ] in
        let here : IsInRest s.root t.born b = inr (t, first, cut.mapped, refl, cut.start, inside, not_in) in
        let some = low_left s.view w b t.born (cut.sound.rest.raw t.born b here) in
        let same = cut.uncut.raw_beside b t.born not_in in
        let more = low_rises c b t.born (t.born + 1) (omega arith) in
        omega arith
  ]

  lease_now : (n : ℕ) → 0 < lease_of s.view n → 0 < lease_of c n
  lease_now n some = let e = (united_parts s.view w).leases n in let f = cut.uncut.leases n in omega arith

  can : CanHand (run_parcel first count t.born) c
  can = record {
    items = (
      (
        omega arith,
        omega arith,
        λ b low high. let r = raw_now b (omega arith, omega arith) in let l = low_held c b (t.born + 1) in
            omega arith,
      ),
      tt,
    );
    budget = omega arith;
    leases = (lease_now t.born (cut.sound.leases.maps t cut.mapped), tt);
    clean = λ k e. cc;
  }

  abbrev y : View
  y = left_after (run_parcel first count t.born) c

  abbrev g : View
  g = given_after (run_parcel first count t.born) c

  parts : IsParted c y g
  parts = hand_parts (run_parcel first count t.born) c can

  -- the super pages as a title, which the seat's raw bytes are then without
  abbrev run : Title
  run = record { start = 2097152 * first; len = 2097152 * count; born = 0 }

  low_beside : (b n : ℕ) → (IsInRun first count b → ⊥) → low_of y b n ≡ low_of c b n
  low_beside b n away = cut_leaves_others run c b n (λ covers. let l = covers.0 in let h = covers.1 in away (omega arith, omega arith))

  note_free : (v : Title) → free_of g v ≡ 0
  note_free v = refl

  note_handles : (v : Title) → own_of g v + ref_of g v ≡ 0
  note_handles v = refl

  note_stakes : (k : ℕ) → stake_of g k ≡ 0
  note_stakes k = none_stakes c.stakes k

  note_keepers : (k : ℕ) → keeper_of g k ≡ 0
  note_keepers k = none_keepers c.keepers k

  -- no byte of them is left, so the note has each
  none_left : (b n : ℕ) → IsInRun first count b → low_of y b n ≡ 0
  none_left b n inside =
      let low = inside.0 in let high = inside.1 in
      let rs = outside (2097152 * first) (2097152 * first + 2097152 * count) c.raws in
      let z = outside_none (2097152 * first) (2097152 * first + 2097152 * count) b c.raws (omega arith) (omega arith) in
      let l = sum_by-le-sum_by (λ (r : RawRange). one (has_byte r b && leb r.floor n)) (λ (r : RawRange). one (has_byte r b)) rs
      (λ r. one_and (has_byte r b) (leb r.floor n)) in
      omega arith

  has_run : HasRunOnly first count (t.born + 1) t.born g
  has_run = record {
    raws = λ b inside. let r = raw_now b inside in let n = none_left b (t.born + 1) inside in let f = parts.floors b (t.born + 1) in
        omega arith;
    lease =
        let e : one (eqb t.born t.born) ≡ 1 = ap one (eq-eqb t.born t.born refl) in
        let d = sum_by-cons (λ (x : ℕ). one (eqb x t.born)) t.born [] in
        omega arith;
    frees = note_free;
    handles = note_handles;
    budget = refl;
    stakes = note_stakes;
    keepers = note_keepers;
  }

  -- other leases stay
  lease_beside : (n : ℕ) → (n ≡ t.born → ⊥) → 0 < lease_of s.view n → 0 < lease_of y n
  lease_beside n away some =
      let e = lease_now n some in
      let f = parts.leases n in
      let d = sum_by-cons (λ (x : ℕ). one (eqb x n)) t.born [] in
      elim (eqb_tells t.born n) [
        | inl same ↦ absurd (away (sym same.1))
        | inr other ↦ let k : one (eqb t.born n) ≡ 0 = ap one other.0 in omega arith
      ]

  pub hands_back : HandsBack first t c
  hands_back = record { can = can; has = has_run }

  -- the seat has the keeper still, and can be lent a stake
  pub hosts_left : HostsKeeper p y
  hosts_left =
      let ((none, clean), has) =
      hosts_both p s.view w cut.sound.journal.hosts cut.has.stakes
      (no_own_clean w (λ v. let h = cut.has.handles v in omega arith)) in (
        (
          (λ k. let f = parts.stakes k in let a = note_stakes k in let b = cut.uncut.stakes k in let d = none k in omega arith),
          (let f = parts.unclean in let b = cut.uncut.unclean in omega arith),
        ),
        (let f = parts.keepers p in let a = note_keepers p in let b = cut.uncut.keepers p in omega arith),
      )

  module _ (line asked : ℕ) (x : View) (later : length (list_of 4 s.view) ≤ asked) (gave : GaveRun (pools_seen x) asked count first)
      (now : IsAware x)
      (left_aware : IsAware y) (keeps : Keeps y x) (more : HasEntryMore p (root_entry line (Unmap asked (at_number_seen w t))) y x) where
    abbrev e : RootEntry
    e = root_entry line (Unmap asked (at_number_seen w t))

    abbrev last : RootState
    last = record { view = x; journal = s.journal ++ e ∷ []; root = unmapped (name_of t) s.root }

    free_left : (v : Title) → 0 < free_of x v → 0 < free_of s.view v
    free_left v free = free_before v (subst (λ n. 0 < n) (free_kept y x v keeps) free)

    titles_now : HoldsMade last
    titles_now = record {
      has = λ v made. elim (cut.sound.titles.has v made) [
        | inl free ↦ inl (subst (λ n. 0 < n) (sym (free_kept y x v keeps)) (free_still v made free))
        | inr out ↦ inr out
      ];
      made = λ v free. cut.sound.titles.made v (free_left v free);
      with_root = λ v free out. cut.sound.titles.with_root v (free_left v free) out;
      unused = λ v.
          let a = handles_kept y x v keeps in
          let d = cut.uncut.handles v in
          let f = handles_both s.view w v in
          let k = cut.sound.titles.unused v in
          let h = cut.has.handles v in
          let own : own_of y v ≡ own_of c v = refl in
          let ref' : ref_of y v ≡ ref_of c v = refl in
          omega arith;
      budget =
          let a = keeps.budget in let b = parts.budget in let d = cut.uncut.budget in let f = (united_parts s.view w).budget in
          let k = cut.sound.titles.budget in let h = cut.has.budget in
          omega arith;
    }

    -- ---- its number

    moves_here : filter (is_of (name_of t)) (move_of line Back (at_number_seen w t) ∷ []) ≡ move_of line Back (at_number_seen w t) ∷ []
    moves_here = rw (same_slot_yes (name_of t) (name_of t) refl) refl

    moves_not : (name : SlotName) → (name_of t ≡ name → ⊥) → filter (is_of name) (move_of line Back (at_number_seen w t) ∷ []) ≡ []
    moves_not name away = rw (same_slot_no (name_of t) name away) refl

    at_none : at_end (Some 0) (moves_of s.journal (name_of t)) ≡ None
    at_none =
        out_none (pools_seen s.view) s.journal (name_of t) cut.sound.journal.fits (cut.sound.numbers.numbered (name_of t))
        (subst (λ r. IsNameOut r (name_of t)) cut.sound.journal.replayed (t, inr cut.mapped, refl))

    numbers_now : KnowsNumbers last
    numbers_now = record {
      numbered = λ name. elim (same_slot_cases (name_of t) name) [
        | inl is ↦
            subst (λ n. IsNumbered (Some 0) (moves_of (s.journal ++ e ∷ []) n)) is
            (numbers_with s.journal e (name_of t) (move_of line Back (at_number_seen w t)) moves_here
            (cut.sound.numbers.numbered (name_of t)) at_none).0
        | inr away ↦ subst (λ ms. IsNumbered (Some 0) ms) (sym (numbers_without s.journal e name (moves_not name away)))
            (cut.sound.numbers.numbered name)
      ];
      known = λ v free.
          let before = free_left v free in
          let made = cut.sound.titles.made v before in
          let well = made_is_whole s.root v good made in
          let other : name_of t ≡ name_of v → ⊥ = λ same. made_other v made (ap (λ (n : SlotName). n.born) (sym same)) in
          let here : 0 < free_of y v = subst (λ n. 0 < n) (free_kept y x v keeps) free in
          ap (at_end (Some 0)) (numbers_without s.journal e (name_of v) (moves_not (name_of v) other))
          ∙ cut.sound.numbers.known v before
          ∙ ap Some (sym (
          kept_number y x (v.start + v.len) v left_aware now keeps well here
          ∙ cut.uncut.numbers (v.start + v.len) v well here
          ∙ left_number s.view w (v.start + v.len) v cut.aware cut.both_aware cut.long well before));
    }

    -- ---- the rest

    rest_before : (j b : ℕ) → IsInRest (unmapped (name_of t) s.root) j b → IsInRest s.root j b × (j ≡ t.born → ⊥)
    rest_before j b (inl (at, among, born, inside, away)) =
        (inl (at, among, born, inside, away), λ is. good.mixed t at cut.mapped among (sym (born ∙ is)))
    rest_before j b (inr (m, from, among, born, start, inside, away)) = (
      inr (m, from, without_map_in (name_of t) s.root.maps m among, born, start, inside, away),
      λ is. others_left t m s.root.maps good.alone cut.mapped among (born ∙ is),
    )

    -- a byte of another rest is none of the super pages'
    outside_run : (j b : ℕ) → IsInRest s.root j b → (j ≡ t.born → ⊥) → (Covers t b → ⊥) × (IsInRun first count b → ⊥)
    outside_run j b inside other =
        let some = cut.sound.rest.raw j b inside in
        let beside : Covers t b → ⊥ = λ covers. not_raw b j covers some in
        (beside, λ in_run. other (cut.sound.rest.one j t.born b inside (inr (t, first, cut.mapped, refl, cut.start, in_run, beside))))

    rest_now : HasRest last
    rest_now = record {
      raw = λ j b inside.
          let (before, other) = rest_before j b inside in
          let (beside, away) = outside_run j b before other in
          let some = low_left s.view w b j (cut.sound.rest.raw j b before) in
          let a = cut.uncut.raw_beside b j beside in
          let d = low_beside b j away in
          let k = keeps.floors b j in
          omega arith;
      one = λ j k b inside other. cut.sound.rest.one j k b (rest_before j b inside).0 (rest_before k b other).0;
    }

    leases_kept : KeepsLeases last
    leases_kept = record {
      supers = λ at among.
          let l = lease_beside at.born (λ is. good.mixed t at cut.mapped among (sym is)) (cut.sound.leases.supers at among) in
          let k = keeps.leases at.born in
          omega arith;
      maps = λ m among.
          let l = lease_beside m.born (others_left t m s.root.maps good.alone cut.mapped among)
          (cut.sound.leases.maps m (without_map_in (name_of t) s.root.maps m among)) in
          let k = keeps.leases m.born in
          omega arith;
    }

    -- ---- its journal

    pool_on : IsBeginning (list_of 4 s.view) (list_of 4 x)
    pool_on =
        begins_on (list_of 4 s.view) (list_of 4 u) (list_of 4 x) (left_begins s.view w 4 cut.both_aware)
        (begins_on (list_of 4 u) (list_of 4 c) (list_of 4 x) (cut.uncut.lists 4) (keeps.lists 4))

    maps_now : KnowsMaps p last
    maps_now =
        maps_go_on p s x e (unmapped (name_of t) s.root) cut.sound.maps (record { undone = grows; pool = pool_on }) stays
        (λ j len slot is. absurd (cc))
        (λ v among. inl (without_map_in (name_of t) s.root.maps v among))
      where
        grows : (v : Title) → undone_of s.view v ≤ undone_of x v
        grows v =
            let a = (united_parts s.view w).undone v in let b = cut.uncut.undone v in let d = keeps.undone v in
            let same : undone_of y v ≡ undone_of c v = refl in
            omega arith

        -- the one that came back is in the list
        here : 0 < undone_of x t
        here =
            let b = cut.uncut.undone t in let d = keeps.undone t in
            let same : undone_of y t ≡ undone_of c t = refl in
            elim (title_one t t) [ inl k ↦ let k0 = k.0 in omega arith | inr n ↦ absurd (n.1 refl) ]

        stays : (v : Title) → Contains s.root.maps v → Contains (unmapped (name_of t) s.root).maps v ⊎ (0 < undone_of x v)
        stays v among = elim (without_other (name_of t) v s.root.maps among) [
          | inl rest ↦ inl rest
          | inr is ↦
              inr (subst (λ z. 0 < undone_of x z)
              (one_of_entry t v s.root.maps good.alone cut.mapped among (ap (λ (n : SlotName). n.born) is)) here)
        ]

    own_list : list_of p y ≡ list_of p s.view
    own_list =
        let (can_host, has) = hosts_both p s.view w cut.sound.journal.hosts cut.has.stakes
        (no_own_clean w (λ v. let h = cut.has.handles v in omega arith)) in
        cut.uncut.own_lists p has ∙ left_whole s.view w p cut.aware cut.both_aware cut.sound.journal.hosts.1

    journal_now : HasJournal p (after_entry x e s)
    journal_now =
        let (m, list, says) = more in
        lists.journal_goes_on p s x e cut.sound.journal (lists.hosts_kept p y x keeps hosts_left) pool_on
        (m, list ∙ ap (λ l. l ++ m ∷ []) own_list, says)
        (record {
          act = (t.len, first, cut.mapped, cut.start, gave);
          asks = let n = named_seen p s cut.sound.journal in omega arith;
        })

    pub keeps_unmapped : IsRootSound p (after_entry x e s)
    keeps_unmapped = record {
      journal = journal_now;
      titles = titles_now;
      numbers = numbers_now;
      rest = rest_now;
      leases = leases_kept;
      maps = maps_now;
    }

pub unmaps_hand_back : UnmapsHandBack
unmaps_hand_back p first s w c t cut = hands_back p first s w c t cut

pub unmaps_keep : UnmapsKeep
unmaps_keep p line first asked s w c x t e cut is later gave now left keeps more =
    let z = left_after (run_parcel first (supers_for t.len) t.born) c in
    subst (λ k. IsRootSound p (after_entry x k s)) (sym is)
    (keeps_unmapped p first s w c t cut line asked x later gave now left keeps (subst (λ k. HasEntryMore p k z x) is more))
