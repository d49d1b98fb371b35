-- Titles that go back to their root: what the seat and the thread state have then, and one entry after another.
use Rattle.std.proofs.Common.{◌≡◌, ℕ, zero, suc, ◌+◌, ◌-◌, ◌<◌, ◌≤◌, Bool, true, false, List, [], ◌∷◌, ◌++◌, length, map, refl, sym, ◌∙◌, ap, subst, arith, ◌⊎◌, inl, inr, append_assoc}
use Rattle.std.specs.Prelude.{◌==◌, ◌&&◌, ◌≢◌, AllPairs, Contains, if◌then◌else◌, slice_index_or}
use Rattle.std.specs.List.{sum_by}
use Rattle.std.proofs.lemmas.List.{append-nil, map-append, length-set, get_or-set_same}
use Rattle.std.proofs.lemmas.Bool.Decides.{eqb_tells}
use Rattle.pa_slot.specs.declared.title.Title.{Title}
use Rattle.pa_machine.specs.declared.event.Item.TheVariants.{Free}
use Rattle.pa_slot.specs.Titles.{same_title, IsWellFormed}
use Rattle.pa_slot.specs.Holdings.{one, FreeTitle, OwnOf, SealedOwn, RefOf}
use Rattle.pa_buckets.specs.Bands.{limit_of}
use Rattle.pa_record.specs.declared.numbered.Numbered.{Numbered}
use Rattle.pa_record.specs.declared.root.RootAct.{RootAct}
use Rattle.pa_record.specs.declared.root.RootAct.TheVariants.{Fill, Give}
use Rattle.pa_record.specs.Numbers.{root_numbers}
use Rattle.pa_record.specs.Spans.{name_of}
use Rattle.pa_lists.proofs.Joined.{map_cases, map_in}
use Rattle.pa_lists.proofs.Members.{in_cases, not_in_none}
use Rattle.pa_region.specs.declared.view.Entry.{Entry}
use Rattle.pa_region.specs.declared.view.Entry.TheVariants.{Entered}
use Rattle.pa_region.specs.declared.view.Made.{Made}
use Rattle.pa_region.specs.declared.view.OwnTitle.{OwnTitle}
use Rattle.pa_region.specs.declared.view.Stake.{Stake}
use Rattle.pa_region.specs.declared.view.View.{View}
use Rattle.pa_region.specs.Views.{free_of, own_of, sealed_of, ref_of, seen_of, stake_of, least_stake}
use Rattle.pa_region.specs.Waiting.{unclean_of}
use Rattle.pa_region.specs.Pairs.{log_among}
use Rattle.pa_region.specs.Lists.{list_of, IsBeginning}
use Rattle.pa_region.specs.Takes.{log_of}
use Rattle.pa_region.specs.Hands.{left_of, without_item, left_after, given_after}
use Rattle.pa_region.specs.Lending.{CanLend, Keeps, KeptNumbersStay}
use Rattle.pa_region.specs.Aware.{IsAware}
use Rattle.pa_region.proofs.LendBack.{begins_on}
use Rattle.pa_region.proofs.Pieces.{frees_have, owns_have, seals_have, refs_have}
use Rattle.pa_logs.specs.Listed.{first_of}
use Rattle.pa_cache.specs.Caches.{CacheList, IsCache, batch_after, rest_after}
use Rattle.pa_cache.proofs.Middle.{outside_short}
use Rattle.pa_cells.specs.Handles.{SlotsStaySeen}
use Rattle.pa_root.specs.Filling.{free_item, frees_parcel}
use Rattle.pa_root.specs.Handing.{HasSeenFill, GiveTakes, root_entry, numbered_by}
use Rattle.pa_root.proofs.Parcels.{KeepsBut, keeps_but}
use Rattle.pa_root.proofs.Showing.{all_stakes}
use Rattle.pa_rules.specs.Lists.{cache_place}
use Rattle.pa_rules.proofs.Versions.{one_place}
use Rattle.pa_op_specs.specs.Stocks.{StockValue, WorkerLists, IsStock, no_cache, titles_in, listed_slot, register_in}
use Rattle.pa_thread_state.specs.Giving.{Gives, GivesBatch, HandsBack, TakesBack, with_titles}
use Rattle.pa_op_specs.proofs.Registers.{set_at}
use Rattle.pa_op_specs.proofs.Stocks.{stock_kept}
use Rattle.pa_thread_state.proofs.Parking.{made_for_more, owns_kept, seals_kept, refs_kept}
use Rattle.pa_thread_state.proofs.Fronting.{within_lists}
use Rattle.pa_thread_state.proofs.Places.{titles_here}
use Rattle.pa_rules.specs.Sizes.{HasClass}
use Rattle.pa_op_specs.proofs.Entered.{TellsOf, Entering, if_none, entering_both, one_enters}
use Rattle.pa_op_specs.proofs.Quiet.{same_titles}
use Rattle.pa_thread_state.specs.Allocating.{BecomesList, with_list_at}
use Rattle.pa_op_specs.specs.Workers.{HasItsStake}
use Rattle.pa_link.specs.Chains.{Relinked}
use Rattle.pa_thread_state.proofs.Chained.{stock_relinked}
use Rattle.pa_thread_state.proofs.TitleLists.{set_titles, this_list, in_rest, in_batch, rest_or_batch}
use Rattle.pa_root.proofs.Seeing.{free_kept}

-- ---- a seat hands free titles over

abbrev pub left_view : List Title → View → View
left_view ts v = left_after (frees_parcel ts) v

-- a seat that hands titles over has the same handles
left_handles : (ts : List Title) (v : View) → ((left_of (map free_item ts) v).owns ≡ v.owns) ×
    ((left_of (map free_item ts) v).refs ≡ v.refs)
left_handles [] v = (refl, refl)
left_handles (t ∷ ts) v = left_handles ts (without_item (Free t) v)

left_owns : (ts : List Title) (v : View) (t : Title) → own_of (left_view ts v) t ≡ own_of v t
left_owns ts v t = ap (λ (os : List OwnTitle). sum_by (λ (o : OwnTitle). one (same_title o.title t)) os) (left_handles ts v).0

left_seals : (ts : List Title) (v : View) (t : Title) → sealed_of (left_view ts v) t ≡ sealed_of v t
left_seals ts v t =
    ap (λ (os : List OwnTitle). sum_by (λ (o : OwnTitle). one (same_title o.title t && o.sealed)) os) (left_handles ts v).0

left_refs : (ts : List Title) (v : View) (t : Title) → ref_of (left_view ts v) t ≡ ref_of v t
left_refs ts v t = ap (λ (us : List Title). sum_by (λ (u : Title). one (same_title u t)) us) (left_handles ts v).1

left_stakes : (ts : List Title) (v : View) → (left_view ts v).stakes ≡ v.stakes
left_stakes ts v = all_stakes v.stakes

left_enters : (stake line : ℕ) (ts : List Title) (v : View) → Entering stake line [] v (left_view ts v)
left_enters stake line ts v = record {
  logs = λ k. ap (log_among k) (left_stakes ts v) ∙ if_none stake k (log_of k v);
  stakes = λ k. ap (λ (ss : List Stake). sum_by (λ (s : Stake). one (s.number == k)) ss) (left_stakes ts v);
  lists = λ k. ([], sym (append-nil (list_of k v)));
  grows = λ t. omega arith;
  each = λ e among. absurd (not_in_none e among);
}

-- a seat that hands titles over can lend its stake still
pub left_lends : (ts : List Title) (v : View) → IsAware v → AllPairs ◌≢◌ ts → ((t : Title) → Contains ts t → 0 < free_of v t) → CanLend v →
    CanLend (left_view ts v)
left_lends ts v aware once has lends = (
  subst (λ (ss : List Stake). least_stake ss < 16) (sym (left_stakes ts v)) lends.0,
  (keeps_but ts v once has aware.free_once).unclean ∙ lends.1,
)

-- a call that gave a note with them to the root
pub handed_back : (line p : ℕ) (ts : List Title) (v left note w : View) → left ≡ left_view ts v → note ≡ given_after (frees_parcel ts) v →
    IsAware left →
    GiveTakes (least_stake left.stakes) p line left w note ts → HandsBack (least_stake v.stakes) line p ts v w
handed_back line p ts v left note w left_is note_is aware took =
    let named : GiveTakes (least_stake left.stakes) p line left w (given_after (frees_parcel ts) v) ts =
    subst (λ z. GiveTakes (least_stake left.stakes) p line left w z ts) note_is took in
    let stake : least_stake left.stakes ≡ least_stake v.stakes =
    ap (λ (z : View). least_stake z.stakes) left_is ∙ ap (λ (ss : List Stake). least_stake ss) (left_stakes ts v) in
    let (j, it) = subst (λ r. GiveTakes r p line left w (given_after (frees_parcel ts) v) ts) stake named in
    record { left = left; left_is = left_is; aware = aware; index = j; enters = it }

-- ---- and their root takes them in

module _ (r line p : ℕ) (ts : List Title) (v w : View) (hands : HandsBack r line p ts v w) where
  pub hands_enters : p < 5 → Entering r line (Entered p hands.enters.made ∷ []) v w
  hands_enters low =
      entering_both r line [] (Entered p hands.enters.made ∷ []) v hands.left w
      (subst (λ z. Entering r line [] v z) (sym hands.left_is) (left_enters r line ts v))
      (one_enters hands.index r p line (Give (numbered_by v ts)) hands.left w hands.enters low)

  keeps : Keeps hands.left w
  keeps = hands.enters.lends.keeps

  pub hands_budget : w.budget ≡ v.budget
  hands_budget = keeps.budget ∙ (ap (λ (z : View). z.budget) hands.left_is ∙ less v.budget)
    where
      less : (n : ℕ) → n - 0 ≡ n
      less n = omega arith

  pub hands_owns : (t : Title) → own_of w t ≡ own_of v t
  hands_owns t = owns_kept hands.left w t keeps ∙ (ap (λ (z : View). own_of z t) hands.left_is ∙ left_owns ts v t)

  pub hands_seals : (t : Title) → sealed_of w t ≡ sealed_of v t
  hands_seals t = seals_kept hands.left w t keeps ∙ (ap (λ (z : View). sealed_of z t) hands.left_is ∙ left_seals ts v t)

  pub hands_refs : (t : Title) → ref_of w t ≡ ref_of v t
  hands_refs t = refs_kept hands.left w t keeps ∙ (ap (λ (z : View). ref_of z t) hands.left_is ∙ left_refs ts v t)

  module _ (aware : IsAware v) (once : AllPairs ◌≢◌ ts) (has : (t : Title) → Contains ts t → 0 < free_of v t) where
    but : KeepsBut ts v (left_view ts v)
    but = keeps_but ts v once has aware.free_once

    free_left : (t : Title) → free_of w t ≡ free_of (left_view ts v) t
    free_left t = free_kept hands.left w t keeps ∙ ap (λ (z : View). free_of z t) hands.left_is

    pub hands_clean : unclean_of w ≡ unclean_of v
    hands_clean = keeps.unclean ∙ (ap (λ (z : View). unclean_of z) hands.left_is ∙ but.unclean)

    -- the others are free still, and no title besides
    pub hands_frees : (t : Title) → (Contains ts t → ⊥) → free_of w t ≡ free_of v t
    hands_frees t away = free_left t ∙ but.stays t away

    pub hands_fewer : (t : Title) → free_of w t ≤ free_of v t
    hands_fewer t =
        let e = free_left t in
        elim (none_or_some (free_of (left_view ts v) t)) [
          | inl none ↦ omega arith
          | inr some ↦ let same = but.stays t (but.frees t some).1 in omega arith
        ]
      where
        none_or_some : (n : ℕ) → (n ≡ 0) ⊎ (0 < n)
        none_or_some zero = inl refl
        none_or_some (suc n) = inr (omega arith)

    pub hands_numbers : KeptNumbersStay → IsAware w → (n : ℕ) (t : Title) → IsWellFormed n t → 0 < free_of w t → seen_of w t ≡ seen_of v t
    hands_numbers law now n t well free =
        law hands.left w n t hands.aware now keeps well (let e = free_kept hands.left w t keeps in omega arith) ∙
        ap (λ (z : View). seen_of z t) hands.left_is

-- ---- the thread state after a batch

-- a thread's seat has seen the fill that handed out a title of its lists
pub seen_fill : (s : StockValue) (p c : ℕ) (t : Title) → IsStock s → Contains (titles_in s.caches p c) t → HasSeenFill p s.view t
seen_fill s p c t is among =
    let (m, e, there, says, out) = (is.lists.made p c t among).entry in
    let (pool, slots, act, named, long, small) = out in
    let (n, within, name) = map_cases (λ (n : Numbered). n.slot) slots (name_of t) named in
    let told : m.numbers ≡ root_numbers (root_entry e.line (Fill c pool slots)) = says ∙
    ap (λ (a : RootAct). root_numbers (root_entry e.line a)) act in (
      e.line,
      c,
      pool,
      slots,
      n,
      long,
      within,
      name,
      subst (λ ns. Contains (map (λ (k : Made). k.numbers) (list_of p s.view)) ns) told
          (map_in (λ (k : Made). k.numbers) (list_of p s.view) m there),
    )

-- each of a batch is free in the seat
pub batch_free : (s : StockValue) (p c keep : ℕ) → IsStock s → (t : Title) → Contains (batch_after keep (titles_in s.caches p c)) t →
    0 < free_of s.view t
batch_free s p c keep is t among = is.lists.free p c t (in_batch keep (titles_in s.caches p c) t among)

-- what stays of the lists was there
pub rest_listed : (lists : ℕ → ℕ → List Title) (p c keep q d : ℕ) (t : Title) →
    Contains (with_titles p c (rest_after keep (lists p c)) lists q d) t → Contains (lists q d) t
rest_listed lists p c keep q d t among = elim (eqb_tells q p) [
  | inl y ↦ elim (eqb_tells d c) [
    | inl z ↦
        subst (λ r. Contains (lists r d) t) (sym y.1)
        (subst (λ e. Contains (lists p e) t) (sym z.1) (in_rest keep (lists p c) t (rw (y.0, z.0) at among)))
    | inr n ↦ rw (y.0, n.0) at among
  ]
  | inr n ↦ rw n.0 at among
]

pub batch_gives : KeptNumbersStay → (s : StockValue) (w : View) (caches : WorkerLists) → caches.version ≡ s.caches.version →
    (line p c keep : ℕ) → IsStock s → IsAware s.view → IsAware w → p < 4 →
    AllPairs ◌≢◌ (batch_after keep (titles_in s.caches p c)) →
    HandsBack s.thread line p (batch_after keep (titles_in s.caches p c)) s.view w →
    ((q d : ℕ) → titles_in caches q d ≡ with_titles p c (rest_after keep (titles_in s.caches p c)) (titles_in s.caches) q d) →
    GivesBatch line p c keep s (record s { view = w; caches = caches })
batch_gives law s w caches version line p c keep is aware now low once hands kept =
    let ts = batch_after keep (titles_in s.caches p c) in
    let enters = hands_enters s.thread line p ts s.view w hands (omega arith) in
    let has = batch_free s p c keep is in
    record {
      entries = hands.enters.made ∷ [];
      says = ap (λ (ns : List ℕ). ns ∷ []) hands.enters.is_made.says;
      logs = enters.logs;
      stakes = enters.stakes;
      budget = hands_budget s.thread line p ts s.view w hands;
      same = (refl, refl, refl);
      version = version;
      plain = refl;
      lists = enters.lists;
      grows = enters.grows;
      numbers = hands_numbers s.thread line p ts s.view w hands aware once has law now;
      fewer = hands_fewer s.thread line p ts s.view w hands aware once has;
      frees = λ t none. hands_frees s.thread line p ts s.view w hands aware once has t
          (λ among. none p c (in_batch keep (titles_in s.caches p c) t among));
      kept = kept;
      listed = λ q d t among. rest_listed (titles_in s.caches) p c keep q d t among;
    }

-- the thread state stays sound
pub batch_stock : SlotsStaySeen → (s : StockValue) (w : View) (new : CacheList) (line p c keep : ℕ) → IsStock s → IsAware s.view → p < 4 →
    HasClass s.caches.version c →
    AllPairs ◌≢◌ (titles_in s.caches p c) → AllPairs ◌≢◌ (batch_after keep (titles_in s.caches p c)) →
    HandsBack s.thread line p (batch_after keep (titles_in s.caches p c)) s.view w →
    IsCache new → new.class ≡ c → new.titles ≡ rest_after keep (titles_in s.caches p c) →
    IsStock (record s { view = w; caches = with_list_at p c new s.caches })
batch_stock stays s w new line p c keep is aware low small whole once hands sound class titles = record {
  partitions = is.partitions;
  handles = record {
    count = is.handles.count;
    owns = λ t. hands_owns s.thread line p ts s.view w hands t ∙ is.handles.owns t;
    refs = λ t. hands_refs s.thread line p ts s.view w hands t ∙ is.handles.refs t;
    clean = hands_clean s.thread line p ts s.view w hands aware once has ∙ is.handles.clean;
    sealed = λ t. hands_seals s.thread line p ts s.view w hands t ∙ is.handles.sealed t;
    made = λ k. made_for_more stays s.view w enters.lists (register_in s.registers k) (is.handles.made k);
  };
  lists = record {
    count = length-set s.caches.lists place new ∙ is.lists.count;
    sound = λ k. subst IsCache (sym (at k)) (pick (k == place) sound (is.lists.sound k));
    classes = λ q d lower near. class_at q d lower near;
    few = λ q d. fewer q d;
    free = λ q d t among. free q d t among;
    apart = λ q e d f t one other. is.lists.apart q e d f t (was q d t one) (was e f t other);
    made = λ q d t among. stays (listed_slot q d t) s.view w (is.lists.made q d t (was q d t among)) (enters.lists q);
    well = λ q d t among. is.lists.well q d t (was q d t among);
  };
  stake = record { small = is.stake.small; only = λ k other. enters.stakes k ∙ is.stake.only k other };
}
  where
    ts : List Title
    ts = batch_after keep (titles_in s.caches p c)

    enters : Entering s.thread line (Entered p hands.enters.made ∷ []) s.view w
    enters = hands_enters s.thread line p ts s.view w hands (omega arith)

    has : (t : Title) → Contains ts t → 0 < free_of s.view t
    has = batch_free s p c keep is

    place : ℕ
    place = cache_place s.caches.version p c

    after : WorkerLists
    after = with_list_at p c new s.caches

    kept : (q d : ℕ) → titles_in after q d ≡ with_titles p c (rest_after keep (titles_in s.caches p c)) (titles_in s.caches) q d
    kept q d = set_titles s.caches p c new q d low small is.lists.count ∙ ap (λ us. with_titles p c us (titles_in s.caches) q d) titles

    was : (q d : ℕ) (t : Title) → Contains (titles_in after q d) t → Contains (titles_in s.caches q d) t
    was q d t among = rest_listed (titles_in s.caches) p c keep q d t (subst (λ us. Contains us t) (kept q d) among)

    at : (k : ℕ) → slice_index_or after.lists k no_cache ≡ (if k == place then new else slice_index_or s.caches.lists k no_cache)
    at k = set_at s.caches.lists place k new no_cache (within_lists s p c is low small)

    pick : (b : Bool) {x y : CacheList} → IsCache x → IsCache y → IsCache (if b then x else y)
    pick true a b = a
    pick false a b = b

    class_at : (q d : ℕ) → q < 4 → HasClass s.caches.version d →
        (slice_index_or after.lists (cache_place s.caches.version q d) no_cache).class ≡ d
    class_at q d lower near = elim (eqb_tells (cache_place s.caches.version q d) place) [
      | inl y ↦
          ap (λ (x : CacheList). x.class) (rw y.0 at (at (cache_place s.caches.version q d)))
          ∙ (class ∙ sym (one_place s.caches.version q d p c near small y.1).1)
      | inr n ↦ ap (λ (x : CacheList). x.class) (rw n.0 at (at (cache_place s.caches.version q d))) ∙ is.lists.classes q d lower near
    ]

    fewer : (q d : ℕ) → length (titles_in after q d) ≤ limit_of d
    fewer q d = elim (eqb_tells q p) [
      | inl y ↦ elim (eqb_tells d c) [
        | inl z ↦
            (let e : length (titles_in after q d) ≡ length (rest_after keep (titles_in s.caches p c)) =
            ap (λ (us : List Title). length us) (rw (y.0, z.0) at (kept q d)) in
            let a = outside_short keep (keep + 16) (titles_in s.caches p c) (omega arith) in
            let b : length (titles_in s.caches p c) ≤ limit_of d =
            subst (λ f. length (titles_in s.caches p c) ≤ limit_of f) (sym z.1) (is.lists.few p c) in
            omega arith)
        | inr n ↦ subst (λ us. length us ≤ limit_of d) (sym (rw (y.0, n.0) at (kept q d))) (is.lists.few q d)
      ]
      | inr n ↦ subst (λ us. length us ≤ limit_of d) (sym (rw n.0 at (kept q d))) (is.lists.few q d)
    ]

    free : (q d : ℕ) (t : Title) → Contains (titles_in after q d) t → 0 < free_of w t
    free q d t among =
        let before = was q d t among in
        subst (λ n. 0 < n) (sym (hands_frees s.thread line p ts s.view w hands aware once has t (λ batch. away q d t among batch)))
        (is.lists.free q d t before)
      where
        away : (q d : ℕ) (t : Title) → Contains (titles_in after q d) t → Contains ts t → ⊥
        away q d t among batch =
            let same = is.lists.apart q p d c t (was q d t among) (in_batch keep (titles_in s.caches p c) t batch) in
            let here = subst (λ r. Contains (titles_in after r d) t) same.0 among in
            let there = subst (λ e. Contains (titles_in after p e) t) same.1 here in
            rest_or_batch keep (titles_in s.caches p c) t whole
            (subst (λ us. Contains us t) (this_list p c (rest_after keep (titles_in s.caches p c)) (titles_in s.caches))
            (subst (λ us. Contains us t) (kept p c) there)) batch

-- what was entered is said of a view just as well before links were stored in it
gives_before : (line p : ℕ) (batch : List Title) (left : ℕ → ℕ → List Title) (s : StockValue) (u : View) (after : StockValue) →
    Relinked s.view u →
    Gives line p (Give (numbered_by u batch) ∷ []) left (record s { view = u }) after →
    Gives line p (Give (numbered_by s.view batch) ∷ []) left s after
gives_before line p batch left s u after re gives =
    let same = subst (λ (v : View). Gives line p (Give (numbered_by v batch) ∷ []) left (record s { view = v }) after) re.rest gives in
    record {
      entries = same.entries;
      says = same.says;
      logs = same.logs;
      stakes = same.stakes;
      budget = same.budget;
      same = same.same;
      version = same.version;
      plain = same.plain;
      lists = same.lists;
      grows = same.grows;
      numbers = same.numbers;
      fewer = same.fewer;
      frees = same.frees;
      kept = same.kept;
      listed = same.listed;
    }

-- the titles of a batch that was taken off its list are still free, and were seen made
module _ (s b : StockValue) (p c keep : ℕ) (is : IsStock s) (takes : BecomesList p c (rest_after keep (titles_in s.caches p c)) s b) where
  linked : IsStock (record s { view = b.view })
  linked = stock_relinked s b.view takes.relinked is

  pub taken_free : (t : Title) → Contains (batch_after keep (titles_in s.caches p c)) t → 0 < free_of b.view t
  taken_free t among = batch_free (record s { view = b.view }) p c keep linked t among

  pub taken_seen : (t : Title) → Contains (batch_after keep (titles_in s.caches p c)) t → HasSeenFill p b.view t
  taken_seen t among = seen_fill (record s { view = b.view }) p c t linked (in_batch keep (titles_in s.caches p c) t among)

  pub taken_thread : b.thread ≡ s.thread
  taken_thread = ap (λ (z : StockValue). z.thread) takes.after_is

  pub taken_stakes : (k : ℕ) → stake_of b.view k ≡ stake_of s.view k
  taken_stakes k = ap (λ (v : View). stake_of v k) takes.relinked.rest

  pub taken_budget : b.view.budget ≡ s.view.budget
  taken_budget = ap (λ (v : View). v.budget) takes.relinked.rest

  pub taken_stake : HasItsStake s → HasItsStake b
  taken_stake stake = subst (λ k. 0 < stake_of b.view k) (sym taken_thread) (let e = taken_stakes s.thread in omega arith)

  -- both, by what the calls say
  pub batch_done : KeptNumbersStay → SlotsStaySeen → (w : View) (titles : List Title) (line : ℕ) → IsStock b → IsAware b.view → IsAware w →
      p < 4 → HasClass s.caches.version c →
      titles ≡ batch_after keep (titles_in s.caches p c) → AllPairs ◌≢◌ titles → HandsBack b.thread line p titles b.view w →
      IsStock (record b { view = w }) × GivesBatch line p c keep s (record b { view = w })
  batch_done law stays w titles line now aware after low small batch once hands =
      let ts = titles_in s.caches p c in
      let m : StockValue = record s { view = b.view } in
      let new : CacheList = record { class = c; titles = rest_after keep ts } in
      let once_here = subst (AllPairs ◌≢◌) batch once in
      let hands_here = subst (λ k. HandsBack k line p (batch_after keep ts) b.view w) taken_thread
      (subst (λ us. HandsBack b.thread line p us b.view w) batch hands) in
      let whole : AllPairs ◌≢◌ ts =
      subst (AllPairs ◌≢◌) (sym (titles_here s.caches p c small)) (is.lists.sound (cache_place s.caches.version p c)).different in
      let sound : IsCache new =
      subst IsCache (ap (λ (z : StockValue). slice_index_or z.caches.lists (cache_place s.caches.version p c) no_cache)
      takes.after_is
      ∙ get_or-set_same s.caches.lists (cache_place s.caches.version p c) new no_cache (within_lists s p c is low small))
      (now.lists.sound (cache_place s.caches.version p c)) in
      let same : record b { view = w } ≡ record m { view = w; caches = with_list_at p c new s.caches } =
      ap (λ (z : StockValue). record z { view = w }) takes.after_is in (
        subst IsStock (sym same)
            (batch_stock stays m w new line p c keep linked aware low small whole once_here hands_here sound refl refl),
        subst (GivesBatch line p c keep s) (sym same)
            (gives_before line p (batch_after keep ts) (with_titles p c (rest_after keep ts) (titles_in s.caches)) s b.view
            (record m { view = w; caches = with_list_at p c new s.caches }) takes.relinked
            (batch_gives law m w (with_list_at p c new s.caches) refl line p c keep linked aware after low once_here hands_here
            (λ q d. set_titles s.caches p c new q d low small is.lists.count))),
      )

-- what was seen of lists is a beginning of what is seen again
pub begins_again : (v w : View) → TakesBack v w → (k : ℕ) → IsBeginning (list_of k v) (list_of k w)
begins_again v w back k = ([], back.lists k ∙ sym (append-nil (list_of k v)))

-- if it runs out of memory, the seat has what it had
pub back_stock : SlotsStaySeen → (s : StockValue) (w : View) → IsStock s → TakesBack s.view w → IsStock (record s { view = w })
back_stock stays s w is back =
    stock_kept s w s.registers is
    (record {
      count = is.handles.count;
      owns = λ t. sym (owns_have w t) ∙ (back.things (OwnOf t) ∙ (owns_have s.view t ∙ is.handles.owns t));
      refs = λ t. sym (refs_have w t) ∙ (back.things (RefOf t) ∙ (refs_have s.view t ∙ is.handles.refs t));
      clean = back.unclean ∙ is.handles.clean;
      sealed = λ t. sym (seals_have w t) ∙ (back.things (SealedOwn t) ∙ (seals_have s.view t ∙ is.handles.sealed t));
      made = λ k. made_for_more stays s.view w (begins_again s.view w back) (register_in s.registers k) (is.handles.made k);
    })
    (record { small = is.stake.small; only = λ k other. back.stakes k ∙ is.stake.only k other })
    (λ h made. stays h s.view w made (begins_again s.view w back h.partition))
    (λ t. let e = back.things (FreeTitle t) in let a = frees_have w t in let b = frees_have s.view t in omega arith)

-- ---- one entry after another

-- nothing went back
pub gives_none : (line p : ℕ) (s : StockValue) → Gives line p [] (titles_in s.caches) s s
gives_none line p s = record {
  entries = [];
  says = refl;
  logs = λ k. if_none s.thread k (log_of k s.view);
  stakes = λ k. refl;
  budget = refl;
  same = (refl, refl, refl);
  version = refl;
  plain = refl;
  lists = λ k. ([], sym (append-nil (list_of k s.view)));
  grows = λ t. omega arith;
  numbers = λ n t well free. refl;
  fewer = λ t. omega arith;
  frees = λ t none. refl;
  kept = λ q c. refl;
  listed = λ q c t among. among;
}

-- titles went back, with other words for what the lists have
pub gives_left : (line p : ℕ) (acts : List RootAct) (left other : ℕ → ℕ → List Title) (a b : StockValue) → Gives line p acts left a b →
    ((q c : ℕ) → left q c ≡ other q c) → Gives line p acts other a b
gives_left line p acts left other a b gives same = record {
  entries = gives.entries;
  says = gives.says;
  logs = gives.logs;
  stakes = gives.stakes;
  budget = gives.budget;
  same = gives.same;
  version = gives.version;
  plain = gives.plain;
  lists = gives.lists;
  grows = gives.grows;
  numbers = gives.numbers;
  fewer = gives.fewer;
  frees = gives.frees;
  kept = λ q c. gives.kept q c ∙ same q c;
  listed = λ q c t among. gives.listed q c t (subst (λ ts. Contains ts t) (sym (same q c)) among);
}

-- these acts, and then those
pub gives_on : (line p : ℕ) (acts more : List RootAct) (left later : ℕ → ℕ → List Title) (a b d : StockValue) → Gives line p acts left a b →
    Gives line p more later b d → Gives line p (acts ++ more) later a d
gives_on line p acts more left later a b d first second = record {
  entries = first.entries ++ second.entries;
  says =
      map-append (λ (m : Made). m.numbers) first.entries second.entries
      ∙ (ap (λ ns. ns ++ map (λ (m : Made). m.numbers) second.entries) first.says
      ∙ (ap (λ ns. map root_numbers (map (root_entry line) acts) ++ ns) second.says
      ∙ (sym (map-append root_numbers (map (root_entry line) acts) (map (root_entry line) more))
      ∙ ap (map root_numbers) (sym (map-append (root_entry line) acts more)))));
  logs = λ k. second.logs k ∙ (ap (λ n. log_of k b.view ++ (if k == n then map (Entered p) second.entries else [])) first.same.0
      ∙ (ap (λ log. log ++ (if k == a.thread then map (Entered p) second.entries else [])) (first.logs k) ∙
      go (log_of k a.view) (k == a.thread)));
  stakes = λ k. second.stakes k ∙ first.stakes k;
  budget = second.budget ∙ first.budget;
  same = (second.same.0 ∙ first.same.0, second.same.1 ∙ first.same.1, second.same.2 ∙ first.same.2);
  version = second.version ∙ first.version;
  plain = second.plain ∙ first.plain;
  lists = λ k. begins_on (list_of k a.view) (list_of k b.view) (list_of k d.view) (first.lists k) (second.lists k);
  grows = λ t. let e = first.grows t in let f = second.grows t in omega arith;
  numbers = λ n t well free. second.numbers n t well free ∙ first.numbers n t well (let e = second.fewer t in omega arith);
  fewer = λ t. let e = first.fewer t in let f = second.fewer t in omega arith;
  frees = λ t none. second.frees t (λ q c among. none q c (was q c t among)) ∙ first.frees t none;
  kept = second.kept;
  listed = λ q c t among. was q c t (second.listed q c t among);
}
  where
    was : (q c : ℕ) (t : Title) → Contains (titles_in b.caches q c) t → Contains (titles_in a.caches q c) t
    was q c t among = first.listed q c t (subst (λ ts. Contains ts t) (first.kept q c) among)

    go : (log : List Entry) (b : Bool) →
        (log ++ (if b then map (Entered p) first.entries else [])) ++ (if b then map (Entered p) second.entries else [])
        ≡ log ++ (if b then map (Entered p) (first.entries ++ second.entries) else [])
    go log true = append_assoc log (map (Entered p) first.entries) (map (Entered p) second.entries)
        ∙ ap (λ es. log ++ es) (sym (map-append (Entered p) first.entries second.entries))
    go log false = append-nil (log ++ [])

-- what goes back makes a log segment of entries of the line
pub gives_enters : (line p : ℕ) (acts : List RootAct) (left : ℕ → ℕ → List Title) (a b : StockValue) (gives : Gives line p acts left a b) →
    p < 5 →
    Entering a.thread line (map (Entered p) gives.entries) a.view b.view
gives_enters line p acts left a b gives low = record {
  logs = gives.logs;
  stakes = gives.stakes;
  lists = gives.lists;
  grows = gives.grows;
  each = go gives.entries acts gives.says;
}
  where
    go : (ms : List Made) (acts : List RootAct) → map (λ (m : Made). m.numbers) ms ≡ map root_numbers (map (root_entry line) acts) →
        (e : Entry) → Contains (map (Entered p) ms) e → TellsOf line a.view b.view e
    go [] acts says e among = absurd (not_in_none e among)
    go (m ∷ ms) [] says e among = absurd cc
    go (m ∷ ms) (act ∷ acts) says e among =
        let head : m.numbers ≡ root_numbers (root_entry line act) = cc in
        let tail : map (λ (n : Made). n.numbers) ms ≡ map root_numbers (map (root_entry line) acts) = cc in
        elim (in_cases (Entered p m) e (map (Entered p) ms) among) [
          | inl same ↦ subst (TellsOf line a.view b.view) same (low, ap first_of head)
          | inr later ↦ go ms acts tail e later
        ]

-- the lists, as the rules have them: each title that is on one still is at the number that was seen before
pub gives_listed : (line p : ℕ) (acts : List RootAct) (left : ℕ → ℕ → List Title) (a b : StockValue) → Gives line p acts left a b →
    IsStock b → (q c : ℕ) →
    numbered_by b.view (titles_in b.caches q c) ≡ numbered_by a.view (left q c)
gives_listed line p acts left a b gives is q c =
    same_titles a.view b.view (titles_in b.caches q c)
    (λ t among. let well = is.lists.well q c t among in gives.numbers well.0 t well.1 (is.lists.free q c t among))
    ∙ ap (numbered_by a.view) (gives.kept q c)
