-- The front of a list leaves it: the thread state after it.
use Rattle.std.proofs.Common.{◌≡◌, ℕ, ◌<◌, [], ◌++◌, length, Option, Some, None, refl, sym, ◌∙◌, ap, subst, arith}
use Rattle.std.specs.Prelude.{◌↔◌, Contains, IsNone, IfSome, slice_set}
use Rattle.std.specs.Option.{option_to_list}
use Rattle.std.proofs.lemmas.List.{length-append, set-get_or}
use Rattle.std.proofs.lemmas.List.Elements.{Contains-append_right}
use Rattle.pa_slot.specs.declared.title.Title.{Title}
use Rattle.pa_buckets.specs.Table.{slot_of}
use Rattle.pa_cache.specs.Caches.{CacheList, IsCache}
use Rattle.pa_rules.specs.Sizes.{HasClass}
use Rattle.pa_rules.specs.Lists.{cache_place}
use Rattle.pa_op_specs.specs.Stocks.{StockValue, IsStock, no_cache, titles_in}
use Rattle.pa_thread_state.specs.Allocating.{Pops, with_listed}
use Rattle.pa_thread_state.proofs.Fronting.{CacheAt}
use Rattle.pa_thread_state.proofs.Relisting.{relisted_stock}

-- a cache with other titles in its place
pub listed_caches : (s : StockValue) (p c place : ℕ) (cache new : CacheList) → CacheAt s p c place cache →
    place ≡ cache_place s.caches.version p c → new.class ≡ cache.class →
    (new ≡ record { class = c; titles = new.titles }) ×
    (record s.caches { lists = slice_set s.caches.lists place new } ≡ with_listed p c new.titles s.caches)
listed_caches s p c place cache new at where_is class =
    let e : new ≡ record { class = c; titles = new.titles } = ap (λ k. record { class = k; titles = new.titles }) (class ∙ at.class_is) in (
      e,
      ap (λ x. record s.caches { lists = slice_set s.caches.lists place x }) e
          ∙ ap (λ k. record s.caches { lists = slice_set s.caches.lists k (record { class = c; titles = new.titles }) }) where_is,
    )

-- the thread state stays sound
pub popped_stock : (s : StockValue) (p c place : ℕ) (cache new : CacheList) (o : Option Title) → IsStock s → p < 4 →
    HasClass s.caches.version c → CacheAt s p c place cache →
    place ≡ cache_place s.caches.version p c → new.class ≡ cache.class → cache.titles ≡ option_to_list o ++ new.titles → IsCache new →
    IsStock (record s { caches = record s.caches { lists = slice_set s.caches.lists place new } })
popped_stock s p c place cache new o is low small at where_is class front sound =
    let e = listed_caches s p c place cache new at where_is class in
    let was : titles_in s.caches p c ≡ option_to_list o ++ new.titles = sym at.titles_are ∙ front in
    let few = is.lists.few p c in
    let long = ap (λ ts. length ts) was ∙ length-append (option_to_list o) new.titles in
    subst (λ cs. IsStock (record s { caches = cs })) (sym e.1)
    (relisted_stock s p c new.titles is low small (subst (λ (x : CacheList). IsCache x) e.0 sound) (omega arith)
    (λ t among. let there : Contains (titles_in s.caches p c) t =
    subst (λ ts. Contains ts t) (sym was) (Contains-append_right (option_to_list o) new.titles t among) in
    record {
      free = is.lists.free p c t there;
      alone = λ q d other. let same = is.lists.apart q p d c t other there in same;
      made = is.lists.made p c t there;
      well = is.lists.well p c t there;
    }))

-- what was popped
pub pops : (s : StockValue) (p c place : ℕ) (cache new : CacheList) (o : Option Title) → HasClass s.caches.version c →
    CacheAt s p c place cache →
    place ≡ cache_place s.caches.version p c → new.class ≡ cache.class → cache.titles ≡ option_to_list o ++ new.titles →
    (IsNone o ↔ (cache.titles ≡ [])) → IfSome o (λ t. t.len ≡ slot_of cache.class) →
    Pops p c o s (record s { caches = record s.caches { lists = slice_set s.caches.lists place new } })
pops s p c place cache new None small at where_is class front none size =
    let same : new ≡ cache = ap (λ k. record { class = k; titles = new.titles }) class ∙
    ap (λ ts. record { class = cache.class; titles = ts }) (sym front) in (
      ap (λ ls. record s { caches = record s.caches { lists = ls } })
          (ap (λ x. slice_set s.caches.lists place x) (same ∙ at.is) ∙ set-get_or s.caches.lists place no_cache),
      sym at.titles_are ∙ none.0 refl,
    )
pops s p c place cache new (Some t) small at where_is class front none size = record {
  real = small;
  rest = new.titles;
  was = sym at.titles_are ∙ front;
  long = size ∙ ap slot_of at.class_is;
  after_is = ap (λ cs. record s { caches = cs }) (listed_caches s p c place cache new at where_is class).1;
}
