-- The lists of the threads' caches, in tables, and what they have together.
use Rattle.std.specs.Prelude.{◌≡◌, ℕ, ◌*◌, ◌≤◌, if◌then◌else◌, List, [], All, length, slice_index_or}
use Rattle.pa_record.specs.declared.numbered.Numbered.{Numbered}
use Rattle.pa_record.specs.declared.report.Tally.{Tally}
use Rattle.pa_trace.specs.Limits.{most_partitions}
use Rattle.pa_rules.specs.Caches.{Cache, Caches}
use Rattle.pa_rules.specs.Lists.{AreTalliesOf, cache_place}
use Rattle.pa_rules.specs.Sizes.{is_class, class_total}

-- the lists of one thread in a run of a version: of each partition one for each class of the version
pub record VersionLists : Type 0 where
  pub version : ℕ
  pub lists : List (List Numbered)

-- no lists
abbrev pub no_lists : VersionLists
no_lists = record { version = 1; lists = [] }

-- the lists of one thread by partition and class, and an empty one past the end
abbrev pub cache_in : VersionLists → Cache
cache_in all p class =
    if is_class all.version class then slice_index_or all.lists (cache_place all.version p class) [] else []

-- the lists of all threads, and empty ones past the last thread
abbrev pub caches_in : List VersionLists → Caches
caches_in threads t = cache_in (slice_index_or threads t no_lists)

-- What is true of a thread's lists and of their sums.
--   many, short: the lists are one for each class of each of four partitions, none longer than a thread keeps or than a fill is
--   right: the sums are those of the lists
pub record AreSummed (all : VersionLists) (sums : List Tally) : Type 0 where
  pub many : length all.lists ≡ most_partitions * class_total all.version
  pub short : All (λ slots. length slots ≤ 64) all.lists
  pub right : AreTalliesOf (cache_in all) sums
