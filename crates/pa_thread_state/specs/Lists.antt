-- A worker's caches over chains, in tables, and what those of a partition have together.
use Rattle.std.specs.Prelude.{◌≡◌, ℕ, ◌*◌, ◌≤◌, List, ◌++◌, map, length, Option, None, slice_index_or, slice_set}
use Rattle.std.specs.Option.{option_to_list}
use Rattle.pa_slot.specs.declared.title.Title.{Title}
use Rattle.pa_record.specs.declared.report.Tally.{Tally}
use Rattle.pa_trace.specs.Limits.{most_partitions}
use Rattle.pa_region.specs.declared.view.View.{View}
use Rattle.pa_rules.specs.Caches.{Cache}
use Rattle.pa_rules.specs.Lists.{AreTalliesOf, cache_place}
use Rattle.pa_rules.specs.Sizes.{class_total}
use Rattle.pa_link.specs.Chains.{Relinked, SameBeside}
use Rattle.pa_cache.specs.Chained.{CacheParts, HoldsList, list_in}
use Rattle.pa_root.specs.Handing.{numbered_by}
use Rattle.pa_op_specs.specs.Stocks.{WorkerLists, titles_in}

-- A worker's caches: the version of the run, and of each of 4 partitions the parts of a cache
-- for each class of the version, those of partition 0 first.
pub record WorkerCaches : Type 0 where
  pub version : ℕ
  pub parts : List CacheParts

-- the lists that a view has of the caches
abbrev pub lists_in : View → WorkerCaches → WorkerLists
lists_in v cs = record { version = cs.version; lists = map (list_in v) cs.parts }

-- each title in them at the number that the view has seen, as the rules of a run have lists
abbrev pub numbered_in : View → WorkerCaches → Cache
numbered_in v cs p class = numbered_by v (titles_in (lists_in v cs) p class)

-- the parts to use if there is no cache
abbrev pub no_parts : CacheParts
no_parts = record { class = 0; chain = record { slot_len = 0; head = None; len = 0 } }

-- the cache of a partition and a class
abbrev pub parts_of : ℕ → ℕ → WorkerCaches → CacheParts
parts_of p class cs = slice_index_or cs.parts (cache_place cs.version p class) no_parts

-- the caches with another one of a partition and a class
abbrev pub with_parts : ℕ → ℕ → CacheParts → WorkerCaches → WorkerCaches
with_parts p class new cs = record cs { parts = slice_set cs.parts (cache_place cs.version p class) new }

-- the titles that a view has of the cache of a partition and a class
abbrev pub titles_of : View → ℕ → ℕ → WorkerCaches → List Title
titles_of v p class cs = (list_in v (parts_of p class cs)).titles

-- What is true of a worker's caches and of their sums, whichever words a view has.
--   many, short: there is a cache for each class of each of four partitions, with at most 8 titles more than a list may have
--   right: the sums are those of the lists
pub record AreSummed (cs : WorkerCaches) (sums : List Tally) : Type 0 where
  pub many : length cs.parts ≡ most_partitions * class_total cs.version
  pub short : (v : View) (p class : ℕ) → length (titles_in (lists_in v cs) p class) ≤ 72
  pub right : (v : View) → AreTalliesOf (numbered_in v cs) sums

-- The cache of a partition and a class became another one of its class, of which the view has these titles.
pub record BecomesCache (p class : ℕ) (titles : List Title) (v : View) (before after : WorkerCaches) : Type 0 where
  pub new : CacheParts
  pub after_is : after ≡ with_parts p class new before
  pub class_is : new.class ≡ (parts_of p class before).class
  pub titles_are : (list_in v new).titles ≡ titles
  pub list : HoldsList v new

-- It became one with these titles in the view w, when links were stored in them alone.
pub record RelinksCache (p class : ℕ) (titles : List Title) (v w : View) (before after : WorkerCaches) : Type 0 where
  pub becomes : BecomesCache p class titles w before after
  pub relinked : Relinked v w
  pub beside : SameBeside titles v.words w.words

-- The front title of the cache of a partition and a class left it, or there was none.
pub record PopsFrom (p class : ℕ) (front : Option Title) (v : View) (before after : WorkerCaches) : Type 0 where
  pub rest : List Title
  pub becomes : BecomesCache p class rest v before after
  pub was : titles_of v p class before ≡ option_to_list front ++ rest
