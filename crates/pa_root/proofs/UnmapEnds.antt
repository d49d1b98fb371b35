-- An unmap as a call: the direct map that comes back is mapped, and what is known and kept after it.
use Rattle.std.proofs.Common.{◌≡◌, ℕ, ◌+◌, [], ◌∷◌, ◌++◌, length, sym, ◌∙◌, ap, subst, arith}
use Rattle.std.specs.Prelude.{Contains, slice_get, option_map}
use Rattle.pa_slot.specs.declared.title.Title.{Title}
use Rattle.pa_layout.specs.Pages.{super_page_at, page_place, supers_for}
use Rattle.pa_region.specs.declared.view.Entry.TheVariants.{Entered, Uncut}
use Rattle.pa_region.specs.declared.view.Made.{Made}
use Rattle.pa_region.specs.declared.view.View.{View}
use Rattle.pa_region.specs.Lists.{list_of}
use Rattle.pa_region.specs.Hands.{CanHand, left_after, given_after}
use Rattle.pa_region.specs.Aware.{IsAware}
use Rattle.pa_region.specs.Lending.{HostsKeeper, Keeps, Lends, IsNoted}
use Rattle.pa_region.proofs.LendBack.{keeps_on}
use Rattle.pa_record.specs.declared.numbered.Numbered.{Numbered}
use Rattle.pa_record.specs.declared.pool.PoolEntry.{PoolEntry}
use Rattle.pa_record.specs.declared.root.RootEntry.{RootEntry}
use Rattle.pa_record.specs.declared.root.RootAct.TheVariants.{Unmap}
use Rattle.pa_record.specs.Numbers.{root_numbers, pool_numbers}
use Rattle.pa_record.specs.Spans.{name_of}
use Rattle.pa_record.specs.Pool.{GaveRun}
use Rattle.pa_record.proofs.PoolSteps.{slice_get_more}
use Rattle.pa_pool.specs.Calls.{ComesBack, HasSeenTake, give_entry, run_parcel}
use Rattle.pa_pool.proofs.Gave.{seen_stays}
use Rattle.pa_pool.proofs.RawBytes.{handed}
use Rattle.pa_root.specs.Reading.{pools_seen}
use Rattle.pa_root.specs.Keeping.{RootState, IsRootSound}
use Rattle.pa_root.specs.Making.{IsEnteredAt, EntersTwo}
use Rattle.pa_root.specs.Handing.{HasOnly, HasSeenMap, at_number_seen, root_entry}
use Rattle.pa_root.specs.Laws.{after_entry, with_view}
use Rattle.pa_root.specs.Unmapping.{IsCutBack}
use Rattle.pa_root.specs.BringingBack.{IsTitleBack, IsGivenFor}
use Rattle.pa_root.proofs.Lists.{hosts_kept, pools_more}
use Rattle.pa_root.proofs.Seeing.{seeing_more_keeps}
use Rattle.pa_root.proofs.Entries.{entries_are_told}
use Rattle.pa_root.proofs.Asked.{begun_length}
use Rattle.pa_root.proofs.MapsCome.{what_comes_is_mapped}
use Rattle.pa_root.proofs.Unmapped.{raw_now, hosts_left, unmaps_hand_back, unmaps_keep}

-- the title came back, and was uncut
pub record IsBringing (p r number : ℕ) (s : RootState) (t : Title) (v v1 c w : View) : Type 0 where
  pub sound : IsRootSound p s
  pub aware : IsAware s.view
  pub back : IsTitleBack r t number v v1 s.view c w
  pub cut_aware : IsAware c
  pub has : HasOnly (t ∷ []) w
  pub named : HasSeenMap p w t

-- the number of a super page
page_number : (t : Title) (at : ℕ) → t.start ≡ page_place at 1 → at ≡ super_page_at t.start
page_number t at start = omega arith

module _ (p r number : ℕ) (s : RootState) (t : Title) (v v1 c w : View) (b : IsBringing p r number s t v v1 c w) where
  abbrev first : ℕ
  first = super_page_at t.start

  abbrev count : ℕ
  count = supers_for t.len

  -- the root's seat had shown what it had seen
  abbrev s1 : RootState
  s1 = with_view b.back.shown s

  sound1 : IsRootSound p s1
  sound1 = seeing_more_keeps p s b.back.shown b.sound b.aware b.back.shown_aware (b.back.keeps 0).keeps (b.back.same p)

  mapped : Contains s.root.maps t
  mapped =
      what_comes_is_mapped p s1 w t
      (record {
        sound = sound1;
        aware = b.back.shown_aware;
        note_aware = b.back.note_aware;
        both_aware = b.back.both_aware;
        has = b.has;
        named = b.named;
      })

  -- where it is, and which entry of the pool took its super pages
  taken : (t.start ≡ page_place first 1) × HasSeenTake p t.born first count b.back.shown
  taken =
      let (at, start, seen) = sound1.maps.taken t mapped in
      let same = page_number t at start in
      (start ∙ ap (λ n. page_place n 1) same, subst (λ n. HasSeenTake p t.born n count b.back.shown) same seen)

  pub stands : t.start ≡ page_place first 1
  stands = taken.0

  cut : IsCutBack p first s1 w c t
  cut = record {
    sound = sound1;
    aware = b.back.shown_aware;
    note_aware = b.back.note_aware;
    both_aware = b.back.both_aware;
    long = b.back.long;
    has = b.has;
    mapped = mapped;
    start = stands;
    uncut = b.back.uncut;
    cut_aware = b.cut_aware;
  }

  -- the super pages can be handed over
  pub can_hand : CanHand (run_parcel first count t.born) c
  can_hand = (unmaps_hand_back p first s1 w c t cut).can

  abbrev y : View
  y = left_after (run_parcel first count t.born) c

  abbrev g : View
  g = given_after (run_parcel first count t.born) c

  pub hosts : HostsKeeper p y
  hosts = hosts_left p first s1 w c t cut

  -- the note with the super pages brings back to the pool what its entry number t.born took
  comes : ComesBack p t.born first count v1 g
  comes = record {
    seen = seen_stays p t.born first count b.back.shown v1 (b.back.lists 4) taken.1;
    run = handed.given first count (t.born + 1) t.born c (raw_now p first s1 w c t cut);
  }

  -- ---- after the pool's entry and the root's

  abbrev slot : Numbered
  slot = record { slot = name_of t; number = number }

  pub same_slot : slot ≡ at_number_seen w t
  same_slot = ap (λ (n : ℕ). let z : Numbered = record { slot = name_of t; number = n } in z) b.back.numbered

  -- a view that is equal to the note's brings back to the pool what entry number t.born took
  pub comes_as : (n : View) → n ≡ g → ComesBack p t.born first count v1 n
  comes_as n gives = subst (λ z. ComesBack p t.born first count v1 z) (sym gives) comes

  pub given_for : (line q asked : ℕ) (v2 h n y2 : View) → h ≡ y → n ≡ g →
      ((f d : ℕ) → ComesBack p t.born f d v1 n → IsGivenFor q line p f d asked v1 v2 h y2) →
      IsGivenFor q line p first count asked v1 v2 y y2
  given_for line q asked v2 h n y2 left gives gave =
      subst (λ z. IsGivenFor q line p first count asked v1 v2 z y2) left
      (gave first count (comes_as n gives))

  pub hosts_later : (y2 : View) → Keeps y y2 → HostsKeeper p y2
  hosts_later y2 keeps = hosts_kept p y y2 keeps hosts

  module _ (line asked q k : ℕ) (v2 v3 y2 x : View) (m : Made) (given : IsGivenFor q line p first count asked v1 v2 y y2)
      (noted : IsNoted k p (root_numbers (root_entry line (Unmap asked slot))) v2 v3 y2 x m) where
    abbrev e : RootEntry
    e = root_entry line (Unmap asked slot)

    gave : GaveRun (pools_seen x) asked count first
    gave =
        let (rest, more) = pools_more y2 x (noted.hosts.lists 4) in
        let at = slice_get_more (pools_seen y2) rest asked (give_entry line p count first) given.stands in
        ap (λ es. option_map (λ (z : PoolEntry). z.act) (slice_get es asked)) more ∙ ap (option_map (λ (z : PoolEntry). z.act)) at

    pub sound_after : IsAware y → IsAware x → IsRootSound p (after_entry x e s)
    sound_after left now =
        unmaps_keep p line first asked s1 w c x t e cut (ap (λ z. root_entry line (Unmap asked z)) same_slot)
        (let l = begun_length (list_of 4 b.back.shown) (list_of 4 v1) (b.back.lists 4) in let d = given.later in omega arith)
        gave now left (keeps_on y y2 x (given.keeps 0).keeps noted.hosts)
        (m, noted.list ∙ ap (λ l. l ++ m ∷ []) ((given.keeps 0).own_lists p hosts.1), noted.says)

    -- with the same stake
    pub told : q ≡ r → k ≡ r →
        EntersTwo asked (length (list_of p y2)) r p (Uncut t ∷ []) (give_entry line p count first)
        (root_entry line (Unmap asked (at_number_seen w t))) v v3
    told same_q same_k =
        let lent : Lends r (Entered 4 given.made ∷ []) v1 v2 = subst (λ n. Lends n (Entered 4 given.made ∷ []) v1 v2) same_q given.lends in
        let at : IsEnteredAt asked r 4 (pool_numbers (give_entry line p count first)) v1 v2 given.made =
        subst (λ n. IsEnteredAt asked n 4 (pool_numbers (give_entry line p count first)) v1 v2 given.made) same_q given.is_made in
        let here = entries_are_told.sooner asked r 4
        (pool_numbers (give_entry line p count first)) v v1 v2 given.made b.back.lends.keeps at in
        let done = entries_are_told.on r (Uncut t ∷ []) (Entered 4 given.made ∷ []) v v1 v2 b.back.lends lent in
        let last : IsNoted r p (root_numbers e) v2 v3 y2 x m = subst (λ n. IsNoted n p (root_numbers e) v2 v3 y2 x m) same_k noted in
        let both = entries_are_told.two asked r p (Uncut t ∷ [])
        (give_entry line p count first) e v v2 v3 y2 x given.made m here done last in
        subst (λ z. EntersTwo asked (length (list_of p y2)) r p (Uncut t ∷ []) (give_entry line p count first)
        (root_entry line (Unmap asked z)) v v3)
        same_slot both
