-- A title at the front of a list: the lists after it, and that the thread state stays sound.
use Rattle.std.proofs.Common.{◌≡◌, ℕ, ◌*◌, ◌<◌, ◌≤◌, ◌∷◌, length, refl, sym, ◌∙◌, ap, subst, arith, ◌⊎◌, inl, inr}
use Rattle.std.specs.Prelude.{Contains, slice_index_or}
use Rattle.std.proofs.lemmas.List.{get_or_default, get_or-map}
use Rattle.std.proofs.lemmas.List.Elements.{All-weaker, All-contains_itself}
use Rattle.pa_slot.specs.declared.title.Title.{Title}
use Rattle.pa_region.specs.Views.{free_of}
use Rattle.pa_lists.proofs.Members.{in_cases}
use Rattle.pa_buckets.proofs.Facts.{IsRow-of}
use Rattle.pa_rules.proofs.Versions.{class_cases, place_within, real_in}
use Rattle.pa_cache.specs.Caches.{CacheList, IsCache, HoldsFree}
use Rattle.pa_cache.specs.Chained.{list_in}
use Rattle.pa_cells.specs.declared.handle.Handle.{Handle}
use Rattle.pa_cells.specs.Handles.{HasSeenMade}
use Rattle.pa_rules.specs.Sizes.{HasClass, class_total}
use Rattle.pa_rules.specs.Lists.{cache_place}
use Rattle.pa_op_specs.specs.Stocks.{StockValue, WorkerLists, IsStock, no_cache, titles_in}
use Rattle.pa_thread_state.specs.Changes.{CanList, put_in_front}
use Rattle.pa_thread_state.specs.Lists.{WorkerCaches, lists_in, no_parts, parts_of}
use Rattle.pa_thread_state.proofs.Chained.{as_many}
use Rattle.pa_thread_state.proofs.Places.{titles_here, titles_none}
use Rattle.pa_thread_state.proofs.Relisting.{CanStand, listed_cases, relisted_stock}

-- A list after it: the one with the title at the front, or as it was.
pub front_cases : (caches : WorkerLists) (p c : ℕ) (t : Title) (q d : ℕ) → p < 4 → HasClass caches.version c →
    length caches.lists ≡ 4 * class_total caches.version →
    ((q ≡ p) × (d ≡ c) × (titles_in (put_in_front p c t caches) q d ≡ t ∷ titles_in caches p c))
    ⊎ (((q ≡ p) × (d ≡ c) → ⊥) × (titles_in (put_in_front p c t caches) q d ≡ titles_in caches q d))
front_cases caches p c t q d low real long = listed_cases caches p c (t ∷ titles_in caches p c) q d low real long

-- the thread state stays sound, if the new list is sound
pub fronted_stock : (s : StockValue) (h : Handle) (c : ℕ) → IsStock s → CanList h c s → HasClass s.caches.version c →
    IsCache (record { class = c; titles = h.title ∷ titles_in s.caches h.partition c }) →
    IsStock (record s { caches = put_in_front h.partition c h.title s.caches })
fronted_stock s h c is can real new =
    relisted_stock s h.partition c (h.title ∷ titles_in s.caches h.partition c) is can.made.partition real new
    (let r = can.room in omega (arith, r))
    (λ t among. elim (in_cases h.title t (titles_in s.caches h.partition c) among) [
      | inl same ↦ subst (CanStand s h.partition c) same (record {
        free = can.free;
        alone = λ q d there. absurd (can.new q d there);
        made = subst (λ k. HasSeenMade (record { title = h.title; partition = h.partition; class = k }) s.view) can.class_is can.made;
        well = can.well;
      })
      | inr later ↦ record {
        free = is.lists.free h.partition c t later;
        alone = λ q d other. is.lists.apart q h.partition d c t other later;
        made = is.lists.made h.partition c t later;
        well = is.lists.well h.partition c t later;
      }
    ])

-- The cache of a list: its class and its titles.
pub record CacheAt (s : StockValue) (p c place : ℕ) (cache : CacheList) : Type 0 where
  pub is : cache ≡ slice_index_or s.caches.lists place no_cache
  pub class_is : cache.class ≡ c
  pub titles_are : cache.titles ≡ titles_in s.caches p c

-- where it is
pub within_lists : (s : StockValue) (p c : ℕ) → IsStock s → p < 4 → HasClass s.caches.version c →
    cache_place s.caches.version p c < length s.caches.lists
within_lists s p c is low real =
    let within = place_within s.caches.version 4 p c low real in let long = is.lists.count in omega (arith, within, long)

pub cache_of : (s : StockValue) (p c place : ℕ) (cache : CacheList) → IsStock s → p < 4 → HasClass s.caches.version c →
    place ≡ cache_place s.caches.version p c →
    cache ≡ slice_index_or s.caches.lists place cache → CacheAt s p c place cache
cache_of s p c place cache is low small at value =
    let e : cache ≡ slice_index_or s.caches.lists place no_cache = value ∙ get_or_default s.caches.lists place cache no_cache
    (let within = within_lists s p c is low small in omega (arith, within, at)) in
    record {
      is = e;
      class_is = ap (λ (x : CacheList). x.class) (e ∙ ap (λ k. slice_index_or s.caches.lists k no_cache) at) ∙
          is.lists.classes p c low small;
      titles_are = ap (λ (x : CacheList). x.titles) (e ∙ ap (λ k. slice_index_or s.caches.lists k no_cache) at) ∙
          sym (titles_here s.caches p c small);
    }

-- a list has at most 64 titles, whatever its class is
pub list_few : (s : StockValue) (p c : ℕ) → IsStock s → length (titles_in s.caches p c) ≤ 64
list_few s p c is = elim (class_cases s.caches.version c) [
  | inl real ↦ (let few = is.lists.few p c in let most = (IsRow-of c (real_in s.caches.version c real)).few_kept in
      omega (arith, few, most))
  | inr none ↦ (let e = ap length (titles_none s.caches p c none) in omega (arith, e))
]

-- The cache of a list, if the caches over chains are these and the view has their lists.
pub part_at : (s : StockValue) (cs : WorkerCaches) (p c : ℕ) → IsStock (record s { caches = lists_in s.view cs }) → p < 4 →
    HasClass cs.version c →
    CacheAt (record s { caches = lists_in s.view cs }) p c (cache_place cs.version p c) (list_in s.view (parts_of p c cs))
part_at s cs p c is low real =
    let within = place_within cs.version 4 p c low real in
    let long = as_many s.view cs is.lists.count in
    cache_of (record s { caches = lists_in s.view cs }) p c (cache_place cs.version p c) (list_in s.view (parts_of p c cs)) is low real refl
    (sym (get_or-map (list_in s.view) cs.parts (cache_place cs.version p c) no_parts (list_in s.view (parts_of p c cs))
    (omega (arith, within, long))))

-- each of its titles is free
pub listed_all : (s : StockValue) (p c : ℕ) (cache : CacheList) → IsStock s → cache.titles ≡ titles_in s.caches p c →
    HoldsFree s.view cache.titles
listed_all s p c cache is titles =
    All-weaker (Contains cache.titles) (λ t. 0 < free_of s.view t)
    (λ t among. is.lists.free p c t (subst (λ ts. Contains ts t) titles among)) cache.titles (All-contains_itself cache.titles)
