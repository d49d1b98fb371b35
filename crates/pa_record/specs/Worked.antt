-- Runs whose journals, pools and reports were worked out by hand, as lists of entries.
use Rattle.std.specs.Prelude.{◌≡◌, ℕ, List, [], ◌∷◌, ◌++◌, map, Option, Some, None}
use Rattle.pa_record.specs.declared.numbered.Numbered.{Numbered}
use Rattle.pa_record.specs.declared.pool.PoolEntry.{PoolEntry}
use Rattle.pa_record.specs.declared.pool.PoolAct.TheVariants as pool
use Rattle.pa_record.specs.declared.root.RootEntry.{RootEntry}
use Rattle.pa_record.specs.declared.root.RootAct.TheVariants.{Fill, Map, Full, Give, Unmap, Purge}
use Rattle.pa_record.specs.declared.census.Census.{Census}
use Rattle.pa_record.specs.Pool.{IsPool}
use Rattle.pa_record.specs.Root.{new_root, root_replayed, IsJournal}
use Rattle.pa_record.specs.Census.{census}

-- slots of one super page at one number, by where they start
abbrev pub slots : ℕ → ℕ → List ℕ → List Numbered
slots born number starts = map (λ start. record { slot = record { start = start; born = born }; number = number }) starts

-- on this line a fill took these slots of the class, and asked the pool for a super page if it names an entry of it
abbrev pub fill : ℕ → ℕ → Option ℕ → List Numbered → RootEntry
fill line class asked xs = record { line = line; act = Fill class asked xs }

-- on this line the pool gave no super page, for a span of the class, or for a direct map if no class is named
abbrev pub full : ℕ → Option ℕ → ℕ → RootEntry
full line class asked = record { line = line; act = Full class asked }

-- on this line these slots came back to the root
abbrev pub give : ℕ → List Numbered → RootEntry
give line xs = record { line = line; act = Give xs }

-- on this line the root was purged
abbrev pub purge : ℕ → RootEntry
purge line = record { line = line; act = Purge }

-- on this line a direct map of `len` bytes was made that starts there, in super pages that the pool's entry `asked` took
abbrev pub map_made : ℕ → ℕ → ℕ → ℕ → RootEntry
map_made line asked start len = record { line = line; act = Map asked (record { start = start; born = asked }) len }

-- on this line a direct map went back by entry `asked` of the pool: its slot is of entry `born`, and its count word has this
-- number
abbrev pub map_gone : ℕ → ℕ → ℕ → ℕ → ℕ → RootEntry
map_gone line asked start born number =
    record { line = line; act = Unmap asked (record { slot = record { start = start; born = born }; number = number }) }

-- on this line the partition asked for `count` super pages, and the pool found those from `first` on, or none
abbrev pub pool_take : ℕ → ℕ → ℕ → Option ℕ → PoolEntry
pool_take line partition count first = record { line = line; partition = partition; act = pool.Take count first }

-- on this line the partition gave `count` super pages back, from `first` on
abbrev pub pool_give : ℕ → ℕ → ℕ → ℕ → PoolEntry
pool_give line partition count first = record { line = line; partition = partition; act = pool.Give count first }

-- a census by these eight numbers, in this order
abbrev pub census_of : ℕ → ℕ → ℕ → ℕ → ℕ → ℕ → ℕ → ℕ → Census
census_of slots bytes committed reserved full active empty decommitted =
    record {
      root = record { slots = slots; bytes = bytes };
      committed = committed;
      reserved = reserved;
      full = full;
      active = active;
      empty = empty;
      decommitted = decommitted;
    }

-- the entries are those of a pool and of a journal of a root, which has this census at the end
pub record IsWorked (supers : ℕ) (pools : List PoolEntry) (journal : List RootEntry) (at_end : Census) : Type 0 where
  pub is_pool : IsPool supers pools
  pub is_journal : IsJournal pools journal
  pub counted : census (root_replayed pools journal new_root) ≡ at_end

-- A short fill: the third span takes two of the last three pages, so the second take of its fill finds none.
abbrev pub short_fill_pool : List PoolEntry
short_fill_pool =
    pool_take 2 0 1 (Some 0)
    ∷ pool_take 7 0 1 None
    ∷ []

-- the journal of the short fill: four fills of a slot each, and one that gets no super page
abbrev pub short_fill_journal : List RootEntry
short_fill_journal =
    fill 2 58 (Some 0) (slots 0 0 (16384 ∷ []))
    ∷ fill 3 58 None (slots 0 0 (933888 ∷ []))
    ∷ fill 4 49 None (slots 0 0 (1851392 ∷ []))
    ∷ fill 5 37 None (slots 0 0 (2048000 ∷ []))
    ∷ full 7 (Some 38) 1
    ∷ []

-- the end of the short fill: nothing is kept, 502 system pages of one super page are committed, and four spans are full
abbrev pub short_fill_census : Census
short_fill_census = census_of 0 0 2056192 2097152 4 0 0 0

-- A full region: no room for a third span of 56 pages, but room for one of a page.
abbrev pub full_region_pool : List PoolEntry
full_region_pool =
    pool_take 2 0 1 (Some 0)
    ∷ pool_take 4 0 1 None
    ∷ []

-- the journal of the full region: two fills of 56 pages, a third that gets no super page, and eight slots of 16 bytes
abbrev pub full_region_journal : List RootEntry
full_region_journal =
    fill 2 58 (Some 0) (slots 0 0 (16384 ∷ []))
    ∷ fill 3 58 None (slots 0 0 (933888 ∷ []))
    ∷ full 4 (Some 58) 1
    ∷ fill 5 0 None (slots 0 0 (1851392 ∷ 1851408 ∷ 1851424 ∷ 1851440 ∷ 1851456 ∷ 1851472 ∷ 1851488 ∷ 1851504 ∷ []))
    ∷ []

-- the end of the full region: 248 slots of 16 bytes are kept, two spans are full, and one is active
abbrev pub full_region_census : Census
full_region_census = census_of 248 3968 1839104 2097152 2 1 0 0

-- A direct map again: its super page goes back to the pool and is taken again, with another entry of the pool.
abbrev pub direct_map_again_pool : List PoolEntry
direct_map_again_pool =
    pool_take 2 0 1 (Some 0)
    ∷ pool_give 3 0 1 0
    ∷ pool_take 4 0 1 (Some 0)
    ∷ pool_take 7 0 1 None
    ∷ pool_give 8 0 1 0
    ∷ pool_take 9 0 1 (Some 0)
    ∷ []

-- the journal of the direct map again: a direct map is made, goes and is made again, and after a refused one it goes and is
-- made once more
abbrev pub direct_map_again_journal : List RootEntry
direct_map_again_journal =
    map_made 2 0 16384 2002944
    ∷ map_gone 3 1 16384 0 2
    ∷ map_made 4 2 16384 2002944
    ∷ full 7 None 3
    ∷ map_gone 8 4 16384 2 4
    ∷ map_made 9 5 16384 2002944
    ∷ []

-- the end of the direct map again: one direct map of 2,002,944 bytes in one super page, and no span
abbrev pub direct_map_again_census : Census
direct_map_again_census = census_of 0 0 2002944 2097152 0 0 0 0

-- A cache overflows: nine fills, and 33 slots that come back in three batches.
abbrev pub cache_overflow_pool : List PoolEntry
cache_overflow_pool =
    pool_take 2 0 1 (Some 0)
    ∷ []

-- the journal of the cache overflow: nine fills of eight slots of 16 bytes, and batches of 16, 16 and 1 slots on one line
abbrev pub cache_overflow_journal : List RootEntry
cache_overflow_journal =
    fill 2 0 (Some 0) (slots 0 0 (16384 ∷ 16400 ∷ 16416 ∷ 16432 ∷ 16448 ∷ 16464 ∷ 16480 ∷ 16496 ∷ []))
    ∷ fill 10 0 None (slots 0 0 (16512 ∷ 16528 ∷ 16544 ∷ 16560 ∷ 16576 ∷ 16592 ∷ 16608 ∷ 16624 ∷ []))
    ∷ fill 18 0 None (slots 0 0 (16640 ∷ 16656 ∷ 16672 ∷ 16688 ∷ 16704 ∷ 16720 ∷ 16736 ∷ 16752 ∷ []))
    ∷ fill 26 0 None (slots 0 0 (16768 ∷ 16784 ∷ 16800 ∷ 16816 ∷ 16832 ∷ 16848 ∷ 16864 ∷ 16880 ∷ []))
    ∷ fill 34 0 None (slots 0 0 (16896 ∷ 16912 ∷ 16928 ∷ 16944 ∷ 16960 ∷ 16976 ∷ 16992 ∷ 17008 ∷ []))
    ∷ fill 42 0 None (slots 0 0 (17024 ∷ 17040 ∷ 17056 ∷ 17072 ∷ 17088 ∷ 17104 ∷ 17120 ∷ 17136 ∷ []))
    ∷ fill 50 0 None (slots 0 0 (17152 ∷ 17168 ∷ 17184 ∷ 17200 ∷ 17216 ∷ 17232 ∷ 17248 ∷ 17264 ∷ []))
    ∷ fill 58 0 None (slots 0 0 (17280 ∷ 17296 ∷ 17312 ∷ 17328 ∷ 17344 ∷ 17360 ∷ 17376 ∷ 17392 ∷ []))
    ∷ fill 67 0 None (slots 0 0 (17408 ∷ 17424 ∷ 17440 ∷ 17456 ∷ 17472 ∷ 17488 ∷ 17504 ∷ 17520 ∷ []))
    ∷ give 125 (slots 0 2
    (16784 ∷ 16768 ∷ 16752 ∷ 16736 ∷ 16720 ∷ 16704 ∷ 16688 ∷ 16672 ∷ 16656 ∷ 16640 ∷ 16624 ∷ 16608 ∷ 16592 ∷ 16576 ∷ 16560 ∷ 16544 ∷ []))
    ∷ give 125 (slots 0 2 (16528 ∷ 16512 ∷ 16496 ∷ 16480 ∷ 16464 ∷ 16448 ∷ 16432 ∷ 16416 ∷ 16400 ∷ 17408 ∷ []) ++ slots 0 0
    (17424 ∷ 17440 ∷ 17456 ∷ 17472 ∷ 17488 ∷ 17504 ∷ []))
    ∷ give 125 (slots 0 0 (17520 ∷ []))
    ∷ []

-- the end of the cache overflow: 217 slots of 16 bytes are kept, in one active span with one system page
abbrev pub cache_overflow_census : Census
cache_overflow_census = census_of 217 3472 4096 2097152 0 1 0 0

-- The ring of empty spans: the seventeenth empty span has the oldest one decommitted, and the last slot is taken from the span that
-- became empty last.
abbrev pub empty_ring_pool : List PoolEntry
empty_ring_pool =
    pool_take 2 0 1 (Some 0)
    ∷ []

-- the journal of the ring: 17 spans of one slot are filled, each slot comes back, and one more fill takes the last of them
abbrev pub empty_ring_journal : List RootEntry
empty_ring_journal =
    fill 2 43 (Some 0) (slots 0 0 (16384 ∷ []))
    ∷ fill 3 43 None (slots 0 0 (81920 ∷ []))
    ∷ fill 4 43 None (slots 0 0 (147456 ∷ []))
    ∷ fill 5 43 None (slots 0 0 (212992 ∷ []))
    ∷ fill 6 43 None (slots 0 0 (278528 ∷ []))
    ∷ fill 7 43 None (slots 0 0 (344064 ∷ []))
    ∷ fill 8 43 None (slots 0 0 (409600 ∷ []))
    ∷ fill 9 43 None (slots 0 0 (475136 ∷ []))
    ∷ fill 10 43 None (slots 0 0 (540672 ∷ []))
    ∷ fill 11 43 None (slots 0 0 (606208 ∷ []))
    ∷ fill 12 43 None (slots 0 0 (671744 ∷ []))
    ∷ fill 13 43 None (slots 0 0 (737280 ∷ []))
    ∷ fill 14 43 None (slots 0 0 (802816 ∷ []))
    ∷ fill 15 43 None (slots 0 0 (868352 ∷ []))
    ∷ fill 16 43 None (slots 0 0 (933888 ∷ []))
    ∷ fill 17 43 None (slots 0 0 (999424 ∷ []))
    ∷ fill 18 43 None (slots 0 0 (1064960 ∷ []))
    ∷ give 19 (slots 0 2 (16384 ∷ []))
    ∷ give 20 (slots 0 2 (81920 ∷ []))
    ∷ give 21 (slots 0 2 (147456 ∷ []))
    ∷ give 22 (slots 0 2 (212992 ∷ []))
    ∷ give 23 (slots 0 2 (278528 ∷ []))
    ∷ give 24 (slots 0 2 (344064 ∷ []))
    ∷ give 25 (slots 0 2 (409600 ∷ []))
    ∷ give 26 (slots 0 2 (475136 ∷ []))
    ∷ give 27 (slots 0 2 (540672 ∷ []))
    ∷ give 28 (slots 0 2 (606208 ∷ []))
    ∷ give 29 (slots 0 2 (671744 ∷ []))
    ∷ give 30 (slots 0 2 (737280 ∷ []))
    ∷ give 31 (slots 0 2 (802816 ∷ []))
    ∷ give 32 (slots 0 2 (868352 ∷ []))
    ∷ give 33 (slots 0 2 (933888 ∷ []))
    ∷ give 34 (slots 0 2 (999424 ∷ []))
    ∷ give 35 (slots 0 2 (1064960 ∷ []))
    ∷ fill 36 43 None (slots 0 2 (1064960 ∷ []))
    ∷ []

-- the end of the ring: 16 slots of 65,536 bytes are kept, one span is full, 15 are empty, and one is decommitted
abbrev pub empty_ring_census : Census
empty_ring_census = census_of 16 1048576 1048576 2097152 1 0 15 1

-- A purge: the slots come back, their span is empty and is decommitted, and the next fill takes the same slots from it.
abbrev pub purge_pool : List PoolEntry
purge_pool =
    pool_take 2 0 1 (Some 0)
    ∷ []

-- the journal of the purge: a fill of eight slots of 16 bytes, a batch of all eight, a purge, and a fill with the same slots
abbrev pub purge_journal : List RootEntry
purge_journal =
    fill 2 0 (Some 0) (slots 0 0 (16384 ∷ 16400 ∷ 16416 ∷ 16432 ∷ 16448 ∷ 16464 ∷ 16480 ∷ 16496 ∷ []))
    ∷ give 4 (slots 0 2 (16384 ∷ []) ++ slots 0 0 (16400 ∷ 16416 ∷ 16432 ∷ 16448 ∷ 16464 ∷ 16480 ∷ 16496 ∷ []))
    ∷ purge 4
    ∷ fill 5 0 None (slots 0 2 (16384 ∷ []) ++ slots 0 0 (16400 ∷ 16416 ∷ 16432 ∷ 16448 ∷ 16464 ∷ 16480 ∷ 16496 ∷ []))
    ∷ []

-- the end of the purge: 248 slots of 16 bytes are kept, in one active span with one system page
abbrev pub purge_census : Census
purge_census = census_of 248 3968 4096 2097152 0 1 0 0

-- The spans of a class by their states: of two active spans, and of two decommitted ones, the one that became so last
-- serves; an active span serves before an empty one, and keeps its turn while it stays active; the slot that came back last
-- is taken first. A new super page has pages of its own; a direct map reserves two super pages, and goes and comes again.
abbrev pub span_lists_pool : List PoolEntry
span_lists_pool =
    pool_take 2 0 1 (Some 0)
    ∷ pool_take 19 0 2 (Some 1)
    ∷ pool_take 22 0 1 (Some 3)
    ∷ pool_give 24 0 2 1
    ∷ pool_take 25 0 2 (Some 1)
    ∷ []

-- the journal of the span lists: fills and batches of spans of a page, with a purge among them, and then a direct map, more
-- fills, and another map in its place
abbrev pub span_lists_journal : List RootEntry
span_lists_journal =
    fill 2 27 (Some 0) (slots 0 0 (16384 ∷ 20480 ∷ []))
    ∷ fill 3 27 None (slots 0 0 (24576 ∷ 28672 ∷ []))
    ∷ fill 4 27 None (slots 0 0 (32768 ∷ 36864 ∷ []))
    ∷ fill 5 27 None (slots 0 0 (40960 ∷ 45056 ∷ []))
    ∷ give 6 (slots 0 0 (16384 ∷ 20480 ∷ []))
    ∷ give 7 (slots 0 0 (40960 ∷ []))
    ∷ give 8 (slots 0 0 (24576 ∷ []))
    ∷ fill 9 27 None (slots 0 0 (40960 ∷ 24576 ∷ []))
    ∷ fill 10 27 None (slots 0 0 (20480 ∷ 16384 ∷ []))
    ∷ give 11 (slots 0 0 (16384 ∷ 20480 ∷ 24576 ∷ 28672 ∷ []))
    ∷ give 12 (slots 0 0 (32768 ∷ 36864 ∷ []))
    ∷ fill 13 27 None (slots 0 0 (36864 ∷ 32768 ∷ []))
    ∷ give 14 (slots 0 0 (32768 ∷ 36864 ∷ 40960 ∷ 45056 ∷ []))
    ∷ fill 15 31 None (slots 0 0 (49152 ∷ 57344 ∷ []))
    ∷ give 16 (slots 0 0 (49152 ∷ 57344 ∷ []))
    ∷ purge 17
    ∷ fill 18 27 None (slots 0 0 (32768 ∷ 36864 ∷ []))
    ∷ map_made 19 1 2113536 4001792
    ∷ fill 20 58 None (slots 0 0 (65536 ∷ []))
    ∷ fill 21 58 None (slots 0 0 (983040 ∷ []))
    ∷ fill 22 58 (Some 2) (slots 2 0 (6307840 ∷ []))
    ∷ fill 23 0 None (slots 2 0 (7225344 ∷ 7225360 ∷ 7225376 ∷ 7225392 ∷ 7225408 ∷ 7225424 ∷ 7225440 ∷ 7225456 ∷ []))
    ∷ map_gone 24 3 2113536 1 0
    ∷ map_made 25 4 2113536 2068480
    ∷ []

-- the end of the span lists: 256 slots are kept, three spans are full, two are active, and two are decommitted
abbrev pub span_lists_census : Census
span_lists_census = census_of 256 44928 4833280 8388608 3 2 0 2
