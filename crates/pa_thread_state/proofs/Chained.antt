-- A worker's caches over chains: the lists that its seat's view has of them, and what calls leave of these.
use Rattle.std.proofs.Common.{◌≡◌, ℕ, ◌+◌, ◌*◌, ◌<◌, List, [], ◌∷◌, ◌++◌, length, get_or, refl, sym, ◌∙◌, ap, ap₂, subst, arith, inl, inr}
use Rattle.std.specs.Prelude.{All, Contains, map, slice_index_or, slice_set}
use Rattle.std.proofs.lemmas.Bool.{cases_lt}
use Rattle.std.proofs.lemmas.List.{get_or-map, get_or_past, length-map, map-append}
use Rattle.pa_lists.proofs.Members.{in_cases}
use Rattle.pa_slot.specs.declared.title.Title.{Title}
use Rattle.pa_slot.specs.Titles.{IsWellFormed}
use Rattle.pa_slot.specs.Links.{AreLinked, first_word}
use Rattle.pa_record.specs.Spans.{name_of}
use Rattle.pa_region.specs.declared.view.View.{View}
use Rattle.pa_region.specs.Views.{free_of, own_of, sealed_of, ref_of, stake_of}
use Rattle.pa_region.specs.Waiting.{unclean_of}
use Rattle.pa_region.specs.Aware.{IsAware}
use Rattle.pa_rules.specs.Sizes.{HasClass, class_total}
use Rattle.pa_rules.proofs.Versions.{class_cases, place_within}
use Rattle.pa_link.specs.Chains.{Relinked, SameBeside, slot_names}
use Rattle.pa_link.proofs.Gaps.{free_same}
use Rattle.pa_cache.specs.Caches.{CacheList}
use Rattle.pa_cache.specs.Chained.{CacheParts, HoldsList, IsInLists, OthersHaveNone, OtherListsStay, list_in}
use Rattle.pa_cache.proofs.Lists.{lists_stay}
use Rattle.pa_cells.specs.declared.handle.Handle.{Handle}
use Rattle.pa_rules.specs.Lists.{cache_place}
use Rattle.pa_op_specs.specs.Stocks.{StockValue, IsStock, AreNoLists, register_in, no_cache, titles_in}
use Rattle.pa_op_specs.proofs.Seeing.{made_for_kept}
use Rattle.pa_op_specs.proofs.Stocks.{stock_with}
use Rattle.pa_thread_state.specs.Allocating.{with_listed}
use Rattle.pa_thread_state.specs.Changes.{CanList}
use Rattle.pa_thread_state.specs.Lists.{WorkerCaches, RelinksCache, lists_in, no_parts, parts_of, titles_of}
use Rattle.pa_thread_state.proofs.Beginning.{lists_more, list_in_turn}
use Rattle.pa_thread_state.proofs.Places.{place_of_index, titles_here, titles_none}

-- there are as many lists as caches
pub as_many : (v : View) (cs : WorkerCaches) → length (lists_in v cs).lists ≡ 4 * class_total cs.version →
    length cs.parts ≡ 4 * class_total cs.version
as_many v cs long = sym (length-map cs.parts (list_in v)) ∙ long

-- the list of a partition and a class is that of the cache at their index
pub list_at : (v : View) (cs : WorkerCaches) (p class k : ℕ) (d : CacheParts) → HasClass cs.version class →
    cache_place cs.version p class ≡ k →
    k < length cs.parts → titles_in (lists_in v cs) p class ≡ (list_in v (get_or cs.parts k d)).titles
list_at v cs p class k d real is within =
    titles_here (lists_in v cs) p class real
    ∙ (ap (λ n. (slice_index_or (lists_in v cs).lists n no_cache).titles) is
    ∙ ap (λ (l : CacheList). l.titles) (get_or-map (list_in v) cs.parts k d no_cache within))

-- the titles that the view has of the cache of a partition and a class are their list
pub titles_of_list : (v : View) (cs : WorkerCaches) (p class : ℕ) → p < 4 → HasClass cs.version class →
    length cs.parts ≡ 4 * class_total cs.version →
    titles_in (lists_in v cs) p class ≡ titles_of v p class cs
titles_of_list v cs p class low real long =
    list_at v cs p class (cache_place cs.version p class) no_parts real refl
    (let within = place_within cs.version 4 p class low real in omega (arith, within, long))

-- the view has the list of that cache, as it has that of each
pub holds_at : (v : View) (cs : WorkerCaches) (p class : ℕ) → p < 4 → HasClass cs.version class →
    length cs.parts ≡ 4 * class_total cs.version →
    All (HoldsList v) cs.parts → HoldsList v (parts_of p class cs)
holds_at v cs p class low real long has =
    has (cache_place cs.version p class) no_parts (let within = place_within cs.version 4 p class low real in omega (arith, within, long))

-- a title in the list of a cache is in that of a partition and a class
pub listed_where : (v : View) (cs : WorkerCaches) (t : Title) → length cs.parts ≡ 4 * class_total cs.version → IsInLists v cs.parts t →
    (p class : ℕ) × (p < 4) × HasClass cs.version class × Contains (titles_in (lists_in v cs) p class) t
listed_where v cs t long (c, (k, within, at), inside) =
    let place = place_of_index cs.version k (omega (arith, within, long)) in
    let e = list_at v cs place.partition place.class k c place.real place.place within in
    (place.partition, place.class, place.low, place.real, subst (λ us. Contains us t) (sym (e ∙ ap (λ d. (list_in v d).titles) at)) inside)

-- the lists stay if each of their titles is free and has the same first word
pub lists_kept : (v w : View) (cs : WorkerCaches) → length cs.parts ≡ 4 * class_total cs.version → All (HoldsList v) cs.parts →
    ((p class : ℕ) (t : Title) → Contains (titles_in (lists_in v cs) p class) t →
    (0 < free_of w t) × (first_word w.words (name_of t) ≡ first_word v.words (name_of t))) →
    All (HoldsList w) cs.parts × (lists_in w cs ≡ lists_in v cs)
lists_kept v w cs long has same =
    let stay = lists_stay v w cs.parts has (λ t inside.
    let at = listed_where v cs t long inside in
    same at.0 at.1 t at.4) in
    (stay.0, ap (λ ls. record { version = cs.version; lists = ls }) stay.1)

-- titles that are on no other list than that of a partition and a class are in no other cache
pub others_none : (v : View) (cs : WorkerCaches) (p class : ℕ) (ts : List Title) → length cs.parts ≡ 4 * class_total cs.version →
    ((t : Title) → Contains ts t → (q other : ℕ) → Contains (titles_in (lists_in v cs) q other) t → (q ≡ p) × (other ≡ class)) →
    OthersHaveNone v cs.parts (cache_place cs.version p class) ts
others_none v cs p class ts long alone k d t within other inside among =
    let place = place_of_index cs.version k (omega (arith, within, long)) in
    let e = list_at v cs place.partition place.class k d place.real place.place within in
    let same = alone t among place.partition place.class (subst (λ us. Contains us t) (sym e) inside) in
    other (sym place.place ∙ ap₂ (cache_place cs.version) same.0 same.1)

-- A cache became another one, with these titles, and links were stored in them alone: the lists are those before with these as the
-- list of its partition and class, and the seat has each.
pub relisted : OtherListsStay → (v w : View) (cs after : WorkerCaches) (p class : ℕ) (ts : List Title) → p < 4 → HasClass cs.version class →
    length cs.parts ≡ 4 * class_total cs.version → IsAware v → All (HoldsList v) cs.parts → RelinksCache p class ts v w cs after →
    (parts_of p class cs).class ≡ class → ((t : Title) → Contains ts t → (words : ℕ) × IsWellFormed words t) →
    ((t : Title) → Contains ts t → (q other : ℕ) → Contains (titles_in (lists_in v cs) q other) t → (q ≡ p) × (other ≡ class)) →
    All (HoldsList w) after.parts × (lists_in w after ≡ with_listed p class ts (lists_in v cs))
relisted law v w cs after p class ts low real long aware has re class_is well alone =
    let now = re.becomes in
    let us = (list_in w now.new).titles in
    let among : (t : Title) → Contains us t → Contains ts t = λ t inside. subst (λ xs. Contains xs t) now.titles_are inside in
    let is = law v w cs.parts (cache_place cs.version p class) now.new aware has now.list re.relinked
    (subst (λ xs. SameBeside xs v.words w.words) (sym now.titles_are) re.beside) (λ t inside. well t (among t inside))
    (others_none v cs p class us long (λ t inside. alone t (among t inside))) in
    let list : list_in w now.new ≡ record { class = class; titles = ts } =
    ap (λ n. record { class = n; titles = us }) (now.class_is ∙ class_is)
    ∙ ap (λ xs. record { class = class; titles = xs }) now.titles_are in (
      subst (λ (z : WorkerCaches). All (HoldsList w) z.parts) (sym now.after_is) is.0,
      ap (lists_in w) now.after_is
          ∙ (ap (λ ls. record { version = cs.version; lists = ls }) is.1
          ∙ ap (λ l. record (lists_in v cs) { lists = slice_set (lists_in v cs).lists (cache_place cs.version p class) l }) list),
    )

-- one more list at the start
pub none_more : (version n : ℕ) (w : View) (cs : List CacheParts) (c : CacheParts) → AreNoLists version n (map (list_in w) cs) →
    list_in w c ≡ list_in_turn version n → AreNoLists version (n + 1) (map (list_in w) (cs ++ c ∷ []))
none_more version n w cs c are is =
    subst (AreNoLists version (n + 1)) (sym (map-append (list_in w) cs (c ∷ [])))
    (lists_more version n (map (list_in w) cs) (list_in w c) are is)

-- the lists of caches of a version are none, if they are none of that version
pub none_of : (w : View) (cs : WorkerCaches) (version : ℕ) → cs.version ≡ version →
    AreNoLists version (4 * class_total version) (map (list_in w) cs.parts) →
    AreNoLists cs.version (4 * class_total cs.version) (map (list_in w) cs.parts)
none_of w cs version is none = subst (λ v. AreNoLists v (4 * class_total v) (map (list_in w) cs.parts)) (sym is) none

-- each list is linked
pub linked_all : (v : View) (cs : WorkerCaches) (p class : ℕ) → All (HoldsList v) cs.parts →
    AreLinked v.words (slot_names (titles_in (lists_in v cs) p class))
linked_all v cs p class has = elim (class_cases cs.version class) [
  | inl real ↦ subst (λ ts. AreLinked v.words (slot_names ts)) (sym (titles_here (lists_in v cs) p class real)) here
  | inr none ↦ subst (λ ts. AreLinked v.words (slot_names ts)) (sym (titles_none (lists_in v cs) p class none)) tt
]
  where
    k : ℕ
    k = cache_place cs.version p class

    -- the list at this index, or none
    here : AreLinked v.words (slot_names (slice_index_or (lists_in v cs).lists k no_cache).titles)
    here = elim (cases_lt k (length cs.parts)) [
      | inl within ↦
          subst (λ (l : CacheList). AreLinked v.words (slot_names l.titles))
          (sym (get_or-map (list_in v) cs.parts k no_parts no_cache within))
          (has k no_parts within).chain.links
      | inr past ↦
          subst (λ (l : CacheList). AreLinked v.words (slot_names l.titles))
          (sym (get_or_past (lists_in v cs).lists k no_cache (omega (arith, past, length-map cs.parts (list_in v))))) tt
    ]

-- a thread state is as sound after stores of links
pub stock_relinked : (s : StockValue) (w : View) → Relinked s.view w → IsStock s → IsStock (record s { view = w })
stock_relinked s w re is =
    let lists : w.seen_lists ≡ s.view.seen_lists = ap (λ (x : View). x.seen_lists) re.rest in
    stock_with s w s.registers is (record {
      count = is.handles.count;
      owns = λ t. ap (λ (x : View). own_of x t) re.rest ∙ is.handles.owns t;
      refs = λ t. ap (λ (x : View). ref_of x t) re.rest ∙ is.handles.refs t;
      clean = ap unclean_of re.rest ∙ is.handles.clean;
      sealed = λ t. ap (λ (x : View). sealed_of x t) re.rest ∙ is.handles.sealed t;
      made = λ i. made_for_kept s.view w lists (register_in s.registers i) (is.handles.made i);
    }) lists (λ t. let e = free_same s.view w re t in omega arith) (λ k. ap (λ (x : View). stake_of x k) re.rest)

-- the titles of a list with a new front are well formed, and on no other list
pub front_well : (s : StockValue) (h : Handle) (class : ℕ) → IsStock s → CanList h class s → (t : Title) →
    Contains (h.title ∷ titles_in s.caches h.partition class) t → (words : ℕ) × IsWellFormed words t
front_well s h class is can t among = elim (in_cases h.title t (titles_in s.caches h.partition class) among) [
  | inl same ↦ subst (λ u. (words : ℕ) × IsWellFormed words u) same can.well
  | inr later ↦ is.lists.well h.partition class t later
]

pub front_alone : (s : StockValue) (h : Handle) (class : ℕ) → IsStock s → CanList h class s → (t : Title) →
    Contains (h.title ∷ titles_in s.caches h.partition class) t → (q other : ℕ) → Contains (titles_in s.caches q other) t →
    (q ≡ h.partition) × (other ≡ class)
front_alone s h class is can t among q other there = elim (in_cases h.title t (titles_in s.caches h.partition class) among) [
  | inl same ↦ absurd (can.new q other (subst (Contains (titles_in s.caches q other)) (sym same) there))
  | inr later ↦ is.lists.apart q h.partition other class t there later
]
