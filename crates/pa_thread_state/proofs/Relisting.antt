-- A list that is set: the lists after it, and that the thread state stays sound.
use Rattle.std.proofs.Common.{◌≡◌, ℕ, ◌*◌, ◌<◌, ◌≤◌, Bool, true, false, List, length, sym, ◌∙◌, ap, subst, arith, ◌⊎◌, inl, inr}
use Rattle.std.specs.Prelude.{◌==◌, Contains, if◌then◌else◌, slice_index_or}
use Rattle.std.proofs.lemmas.List.{length-set}
use Rattle.std.proofs.lemmas.Bool.Decides.{eqb_tells}
use Rattle.pa_slot.specs.declared.title.Title.{Title}
use Rattle.pa_slot.specs.Titles.{IsWellFormed}
use Rattle.pa_region.specs.declared.view.View.{View}
use Rattle.pa_region.specs.Views.{free_of, seen_of}
use Rattle.pa_buckets.specs.Bands.{limit_of}
use Rattle.pa_record.specs.declared.numbered.Numbered.{Numbered}
use Rattle.pa_rules.specs.Caches.{SameLists, with_list}
use Rattle.pa_rules.specs.Sizes.{HasClass, class_total}
use Rattle.pa_rules.proofs.Versions.{place_within, one_place}
use Rattle.pa_root.specs.Handing.{numbered_by}
use Rattle.pa_cache.specs.Caches.{CacheList, IsCache}
use Rattle.pa_cells.specs.Handles.{HasSeenMade}
use Rattle.pa_rules.specs.Lists.{cache_place}
use Rattle.pa_op_specs.specs.Stocks.{StockValue, WorkerLists, IsStock, no_cache, titles_in, listed_in, listed_slot}
use Rattle.pa_thread_state.specs.Allocating.{with_listed}
use Rattle.pa_op_specs.proofs.Registers.{set_at}
use Rattle.pa_thread_state.proofs.Fronts.{front_list}
use Rattle.pa_op_specs.proofs.Quiet.{same_titles}
use Rattle.pa_thread_state.proofs.TitleLists.{set_titles, this_one, other_list}

-- A list after it: the one that was set, or as it was.
pub listed_cases : (caches : WorkerLists) (p c : ℕ) (ts : List Title) (q d : ℕ) → p < 4 → HasClass caches.version c →
    length caches.lists ≡ 4 * class_total caches.version →
    ((q ≡ p) × (d ≡ c) × (titles_in (with_listed p c ts caches) q d ≡ ts))
    ⊎ (((q ≡ p) × (d ≡ c) → ⊥) × (titles_in (with_listed p c ts caches) q d ≡ titles_in caches q d))
listed_cases caches p c ts q d low real long =
    let set = set_titles caches p c (record { class = c; titles = ts }) q d low real long in
    elim (eqb_tells q p) [
      | inl y ↦ elim (eqb_tells d c) [
        | inl z ↦ inl (y.1, z.1, set ∙ this_one p c ts (titles_in caches) q d y.1 z.1)
        | inr n ↦ inr (λ e. n.1 e.1, set ∙ other_list p c ts (titles_in caches) q d (λ e. n.1 e.1))
      ]
      | inr n ↦ inr (λ e. n.1 e.0, set ∙ other_list p c ts (titles_in caches) q d (λ e. n.1 e.0))
    ]

-- a title in a list afterwards is in the one that was set, or was there
pub listed_from : (caches : WorkerLists) (p c : ℕ) (ts : List Title) (u : Title) (q d : ℕ) → p < 4 → HasClass caches.version c →
    length caches.lists ≡ 4 * class_total caches.version → Contains (titles_in (with_listed p c ts caches) q d) u →
    ((q ≡ p) × (d ≡ c) × Contains ts u) ⊎ Contains (titles_in caches q d) u
listed_from caches p c ts u q d low small long among = elim (listed_cases caches p c ts q d low small long) [
  | inl h ↦ inl (h.0, h.1, subst (λ us. Contains us u) h.2 among)
  | inr h ↦ inr (subst (λ us. Contains us u) h.1 among)
]

-- A title that can be on the list of partition p and class c: it is free, on no other list, and its slot was seen made for it.
pub record CanStand (s : StockValue) (p c : ℕ) (t : Title) : Type 0 where
  pub free : 0 < free_of s.view t
  pub alone : (q d : ℕ) → Contains (titles_in s.caches q d) t → (q ≡ p) × (d ≡ c)
  pub made : HasSeenMade (listed_slot p c t) s.view
  pub well : (words : ℕ) × IsWellFormed words t

-- the thread state stays sound, if the new list is sound
pub relisted_stock : (s : StockValue) (p c : ℕ) (ts : List Title) → IsStock s → p < 4 → HasClass s.caches.version c →
    IsCache (record { class = c; titles = ts }) → length ts ≤ limit_of c →
    ((t : Title) → Contains ts t → CanStand s p c t) → IsStock (record s { caches = with_listed p c ts s.caches })
relisted_stock s p c ts is low small new few stand = record {
  partitions = is.partitions;
  handles = is.handles;
  lists = record {
    count = length-set s.caches.lists place (record { class = c; titles = ts }) ∙ long;
    sound = λ k. subst IsCache (sym (at k)) (pick IsCache (k == place) new (is.lists.sound k));
    classes = λ q d lower near. class_at q d lower near;
    few = λ q d. elim (listed_cases s.caches p c ts q d low small long) [
      | inl h ↦ (let e = ap (λ us. length us) h.2 in let f : limit_of d ≡ limit_of c = ap limit_of h.1 in omega arith)
      | inr h ↦ (let e = ap (λ us. length us) h.1 in let f = is.lists.few q d in omega arith)
    ];
    free = λ q d u among. elim (listed_from s.caches p c ts u q d low small long among) [
      | inl here ↦ (stand u here.2).free
      | inr there ↦ is.lists.free q d u there
    ];
    apart = λ q r d e u one other. elim (listed_from s.caches p c ts u q d low small long one) [
      | inl here ↦ elim (listed_from s.caches p c ts u r e low small long other) [
        | inl too ↦ (here.0 ∙ sym too.0, here.1 ∙ sym too.1)
        | inr there ↦ (let at_once = (stand u here.2).alone r e there in (here.0 ∙ sym at_once.0, here.1 ∙ sym at_once.1))
      ]
      | inr there ↦ elim (listed_from s.caches p c ts u r e low small long other) [
        | inl too ↦ (let at_once = (stand u too.2).alone q d there in (at_once.0 ∙ sym too.0, at_once.1 ∙ sym too.1))
        | inr both ↦ is.lists.apart q r d e u there both
      ]
    ];
    made = λ q d u among. elim (listed_from s.caches p c ts u q d low small long among) [
      | inl here ↦ subst (λ k. HasSeenMade (listed_slot k d u) s.view) (sym here.0)
          (subst (λ k. HasSeenMade (listed_slot p k u) s.view) (sym here.1) (stand u here.2).made)
      | inr there ↦ is.lists.made q d u there
    ];
    well = λ q d u among. elim (listed_from s.caches p c ts u q d low small long among) [
      | inl here ↦ (stand u here.2).well
      | inr there ↦ is.lists.well q d u there
    ];
  };
  stake = is.stake;
}
  where
    place : ℕ
    place = cache_place s.caches.version p c

    long : length s.caches.lists ≡ 4 * class_total s.caches.version
    long = is.lists.count

    at : (k : ℕ) → slice_index_or (with_listed p c ts s.caches).lists k no_cache
        ≡ (if k == place then record { class = c; titles = ts } else slice_index_or s.caches.lists k no_cache)
    at k = set_at s.caches.lists place k (record { class = c; titles = ts }) no_cache
        (let within = place_within s.caches.version 4 p c low small in omega (arith, within, long))

    pick : (P : CacheList → Type 0) (b : Bool) {x y : CacheList} → P x → P y → P (if b then x else y)
    pick P true a b = a
    pick P false a b = b

    class_at : (q d : ℕ) → q < 4 → HasClass s.caches.version d
        → (slice_index_or (with_listed p c ts s.caches).lists (cache_place s.caches.version q d) no_cache).class ≡ d
    class_at q d lower near = elim (eqb_tells (cache_place s.caches.version q d) place) [
      | inl y ↦
          ap (λ (x : CacheList). x.class) (rw y.0 at (at (cache_place s.caches.version q d)))
          ∙ sym (one_place s.caches.version q d p c near small y.1).1
      | inr n ↦ ap (λ (x : CacheList). x.class) (rw n.0 at (at (cache_place s.caches.version q d))) ∙ is.lists.classes q d lower near
    ]

-- The lists afterwards, as the rules have them, if a seat has seen these numbers of the titles that were set, and of the others what
-- was seen before.
pub relisted : (s : StockValue) (w : View) (p c : ℕ) (ts : List Title) (ns : List Numbered) → IsStock s → p < 4 →
    HasClass s.caches.version c → numbered_by w ts ≡ ns →
    ((q d : ℕ) (u : Title) → Contains (titles_in s.caches q d) u → seen_of w u ≡ seen_of s.view u) →
    SameLists (listed_in (record s { view = w; caches = with_listed p c ts s.caches })) (with_list (listed_in s) p c ns)
relisted s w p c ts ns is low small numbers others q d = elim (listed_cases s.caches p c ts q d low small is.lists.count) [
  | inl h ↦ elim (front_list (listed_in s) p c q d ns) [
    | inl y ↦ ap (numbered_by w) h.2 ∙ (numbers ∙ sym y.2)
    | inr none ↦ absurd (none.0 (h.0, h.1))
  ]
  | inr h ↦ elim (front_list (listed_in s) p c q d ns) [
    | inl y ↦ absurd (h.0 (y.0, y.1))
    | inr none ↦ ap (numbered_by w) h.1 ∙ (same_titles s.view w (titles_in s.caches q d) (others q d) ∙ sym none.1)
  ]
]
