-- A thread's cache of one class over a chain, as contracts see it: which list it has in a view, and what calls leave of lists.
use Rattle.std.specs.Prelude.{◌≡◌, ℕ, ◌+◌, ◌<◌, ◌≤◌, List, length, map, All, Contains, slice_index_or, slice_set}
use Rattle.pa_slot.specs.declared.title.Title.{Title}
use Rattle.pa_slot.specs.Titles.{IsWellFormed}
use Rattle.pa_slot.specs.Links.{first_word}
use Rattle.pa_buckets.specs.Limits.{class_count}
use Rattle.pa_buckets.specs.Table.{slot_of}
use Rattle.pa_buckets.specs.Bands.{limit_of}
use Rattle.pa_record.specs.Spans.{name_of}
use Rattle.pa_region.specs.declared.view.View.{View}
use Rattle.pa_region.specs.Views.{free_of}
use Rattle.pa_region.specs.Aware.{IsAware}
use Rattle.pa_link.specs.declared.chain.ChainParts.{ChainParts}
use Rattle.pa_link.specs.Chains.{IsChain, Relinked, SameBeside, titles_along}
use Rattle.pa_cache.specs.Caches.{CacheList, IsCache}

-- a cache: the number of its class, and the parts of its chain
pub record CacheParts : Type 0 where
  pub class : ℕ
  pub chain : ChainParts

-- the list of a cache in a view: the titles along the links in the words
abbrev pub list_in : View → CacheParts → CacheList
list_in v c = record { class = c.class; titles = titles_along v.words c.chain }

-- What the type of a chained cache keeps: the class is one of the 170, the chain is one of slots of its size,
-- and there are at most 8 more than the limit.
pub record KeepsBounds (c : CacheParts) : Type 0 where
  pub class : c.class < class_count
  pub size : c.chain.slot_len ≡ slot_of c.class
  pub few : c.chain.len ≤ limit_of c.class + 8

-- A seat with this view has the list of the cache: the list is as a cache's must be, and the chain is one of its titles.
pub record HoldsList (v : View) (c : CacheParts) : Type 0 where
  pub is : IsCache (list_in v c)
  pub chain : IsChain v c.chain (list_in v c).titles

-- the title is in the list of one of these caches
abbrev pub IsInLists : View → List CacheParts → Title → Type 0
IsInLists v cs t = (c : CacheParts) × Contains cs c × Contains (list_in v c).titles t

-- Each cache has the list that it has in one view in another too,
-- if each title of the lists is free there, and has the same first word.
abbrev pub ListsStay : Type 0
ListsStay = (v w : View) (cs : List CacheParts) → All (HoldsList v) cs →
    ((t : Title) → IsInLists v cs t → (0 < free_of w t) × (first_word w.words (name_of t) ≡ first_word v.words (name_of t))) →
    All (HoldsList w) cs × (map (list_in w) cs ≡ map (list_in v) cs)

-- no cache but that with this index has one of these titles in its list
abbrev pub OthersHaveNone : View → List CacheParts → ℕ → List Title → Type 0
OthersHaveNone v cs place ts =
    (k : ℕ) (d : CacheParts) (t : Title) → k < length cs → (k ≡ place → ⊥) → Contains (list_in v (slice_index_or cs k d)).titles t →
    Contains ts t → ⊥

-- A cache became another one, and links were stored in titles of its new list alone. These are well formed, and no other cache has
-- one of them: then each other cache has the list that it had.
abbrev pub OtherListsStay : Type 0
OtherListsStay = (v w : View) (cs : List CacheParts) (place : ℕ) (c : CacheParts) → IsAware v → All (HoldsList v) cs →
    HoldsList w c → Relinked v w → SameBeside (list_in w c).titles v.words w.words →
    ((t : Title) → Contains (list_in w c).titles t → (words : ℕ) × IsWellFormed words t) → OthersHaveNone v cs place (list_in w c).titles →
    All (HoldsList w) (slice_set cs place c) ×
    (map (list_in w) (slice_set cs place c) ≡ slice_set (map (list_in v) cs) place (list_in w c))
