-- What the parts of an op change in a player, each as a function of the player before it.
use Rattle.std.specs.Prelude.{◌≡◌, ℕ, Bool, true, false, nat_le, ◌&&◌, zero, suc, ◌+◌, ◌-◌, ◌/◌, ◌<◌, ◌≤◌, ◌⊎◌, nat_lt, if◌then◌else◌, List, [], ◌∷◌}
use Rattle.std.specs.Prelude.{◌++◌, map, length, take, drop, slice_index_or, slice_set, sum, Option, Some, None}
use Rattle.pa_slot.specs.declared.title.Title.{Title}
use Rattle.pa_slot.specs.declared.word.Step.{Step}
use Rattle.pa_slot.specs.declared.word.Step.TheVariants as steps
use Rattle.pa_slot.specs.Count.{number_of, stepped, refs_of, held_of}
use Rattle.pa_slot.specs.Run.{IsReturning}
use Rattle.pa_slot.specs.Titles.{poison}
use Rattle.pa_layout.specs.Pages.{super_page_at, supers_for}
use Rattle.pa_buckets.specs.Limits.{first_class}
use Rattle.pa_rules.specs.Sizes.{class_total}
use Rattle.pa_buckets.specs.Bands.{limit_of, fill_of}
use Rattle.pa_record.specs.declared.entry.Answer.{Answer}
use Rattle.pa_record.specs.declared.entry.Answer.TheVariants as answers
use Rattle.pa_record.specs.declared.entry.Seen.{Seen}
use Rattle.pa_record.specs.declared.report.ReportLine.{ReportLine}
use Rattle.pa_record.specs.declared.numbered.Numbered.{Numbered}
use Rattle.pa_record.specs.declared.pool.PoolAct.{PoolAct}
use Rattle.pa_record.specs.declared.pool.PoolAct.TheVariants as pool
use Rattle.pa_record.specs.declared.report.Tally.{Tally}
use Rattle.pa_record.specs.declared.root.RootAct.{RootAct}
use Rattle.pa_record.specs.declared.root.RootAct.TheVariants.{Fill, Map, Full, Purge}
use Rattle.pa_record.specs.Pool.{PoolState, gave}
use Rattle.pa_record.specs.Spans.{name_of}
use Rattle.pa_record.specs.Root.{Root, names, all_returned, purged, unmapped}
use Rattle.pa_rules.specs.Caches.{gives, unmap_at}
use Rattle.pa_rules.specs.Nexts.{HasSomeHandle}
use Rattle.pa_record.specs.Census.{census}
use Rattle.pa_place.specs.declared.placed.Placed.{Placed}
use Rattle.pa_place.specs.Placed.{FillDid, MapDid}
use Rattle.pa_heap_effects.specs.Deeds.{entries_at}
use Rattle.pa_heap_effects.specs.Ops.{found_by}
use Rattle.pa_rules.specs.declared.register.Register.{Register}
use Rattle.pa_rules.specs.declared.register.Register.TheVariants.{Own, Ref, Freed, Cleared}
use Rattle.pa_player.specs.declared.table.Slot.{Slot}
use Rattle.pa_player.specs.Player.{Player}
use Rattle.pa_player.specs.Tables.{slot_at, named_at, new_slot, IsHome, held_of as told_of, handle_in, HasNone}
use Rattle.pa_player.specs.Tallies.{tally_at}
use Rattle.pa_player.specs.Told.{Lists, journal_in, with_exchange}
use Rattle.pa_player.specs.Playing.{numbered_at, list_place, root_of, register_at, cell_at}

-- ---- one table

-- this step is made on the count word of the slot at an index
abbrev pub stepped_at : Step → ℕ → Player → Player
stepped_at step i p =
    record p { table = slice_set p.table i (record (slot_at p.table i) { word = record { 0 = stepped step (slot_at p.table i).word.0 } }) }

-- the slot at an index gets this content
abbrev pub filled_at : ℕ → ℕ → Player → Player
filled_at value i p = record p { table = slice_set p.table i (record (slot_at p.table i) { content = value }) }

-- register r of thread t has this handle now
abbrev pub registered : ℕ → ℕ → Register ℕ → Player → Player
registered t r h p = record p { registers = slice_set p.registers t (slice_set (slice_index_or p.registers t []) r h) }

-- the list at an index of the caches has these slots now
abbrev pub listed : ℕ → List ℕ → Player → Player
listed at xs p = record p { caches = slice_set p.caches at xs }

-- that many slots and bytes more in the tally of partition q
abbrev pub tallied_more : ℕ → ℕ → ℕ → List Tally → List Tally
tallied_more q slots bytes ts = slice_set ts q (record { slots = (tally_at ts q).slots + slots; bytes = (tally_at ts q).bytes + bytes })

-- that many slots and bytes fewer in the tally of partition q
abbrev pub tallied_less : ℕ → ℕ → ℕ → List Tally → List Tally
tallied_less q slots bytes ts = slice_set ts q (record { slots = (tally_at ts q).slots - slots; bytes = (tally_at ts q).bytes - bytes })

-- one live slot more in partition q, of `len` bytes
abbrev pub live_more : ℕ → ℕ → Player → Player
live_more q len p = record p { live = record { of = tallied_more q 1 len p.live.of } }

-- one live slot fewer in partition q, of `len` bytes
abbrev pub live_less : ℕ → ℕ → Player → Player
live_less q len p = record p { live = record { of = tallied_less q 1 len p.live.of } }

-- one quarantined slot more in partition q, of `len` bytes
abbrev pub quarantined_more : ℕ → ℕ → Player → Player
quarantined_more q len p = record p { quarantined = record { of = tallied_more q 1 len p.quarantined.of } }

-- one quarantined slot fewer in partition q, of `len` bytes
abbrev pub quarantined_less : ℕ → ℕ → Player → Player
quarantined_less q len p = record p { quarantined = record { of = tallied_less q 1 len p.quarantined.of } }

-- one cached slot more in partition q, of `len` bytes
abbrev pub cached_more : ℕ → ℕ → Player → Player
cached_more q len p = record p { cached = record { of = tallied_more q 1 len p.cached.of } }

-- that many cached slots and bytes fewer in partition q
abbrev pub cached_less : ℕ → ℕ → ℕ → Player → Player
cached_less q slots bytes p = record p { cached = record { of = tallied_less q slots bytes p.cached.of } }

-- partition q has this root now
abbrev pub with_root : ℕ → Root → Player → Player
with_root q r p = record p { heap = record p.heap { roots = slice_set p.heap.roots q r } }

-- the pool is this one now
abbrev pub with_pool : PoolState → Player → Player
with_pool plan p = record p { heap = record p.heap { pool = plan } }

-- the journal of partition q in these lists has these acts more, on the line that is played
abbrev pub with_acts : ℕ → List RootAct → Lists → Lists
with_acts q acts t = record t { journals = slice_set t.journals q (journal_in t q ++ entries_at t.line acts) }

-- the journal of partition q has these acts more, on this line
abbrev pub acted : ℕ → List RootAct → Player → Player
acted q acts p = record p { told = with_acts q acts p.told }

-- the pool has one entry more, an act of partition q on this line
abbrev pub pooled : ℕ → PoolAct → Player → Player
pooled q act p = record p { told = record p.told { pools = p.told.pools ++ record { line = p.told.line; partition = q; act = act } ∷ [] } }

-- this line is answered, and the next one is played then
abbrev pub answered : ℕ → Answer → Player → Player
answered thread answer p =
    record p {
      told = record p.told {
        entries = p.told.entries ++
            record { line = p.told.line; thread = thread; answer = answer } ∷ [];
        line = p.told.line + 1;
      };
    }

-- cell k has this handle now
abbrev pub celled : ℕ → Register ℕ → Player → Player
celled k h p = record p { cells = slice_set p.cells k h }

-- the history of cell k has one entry more, on this line: the handle that was given, and the one that was found
abbrev pub exchanged : ℕ → Register ℕ → Register ℕ → Player → Player
exchanged k gave found p =
    record p { told = with_exchange k (record { line = p.told.line; gave = told_of p.table gave; found = told_of p.table found }) p.told }

-- a register of the thread and cell k have each other's handle, and the cell's history says so
abbrev pub swapped : ℕ → ℕ → ℕ → Player → Player
swapped thread k reg p =
    registered thread reg (cell_at p k)
    (celled k (handle_in (register_at p thread reg)) (exchanged k (handle_in (register_at p thread reg)) (cell_at p k) p))

-- ---- parts of ops

-- the list at an index of the caches, as the indices of its slots
abbrev pub list_in : Player → ℕ → List ℕ
list_in p at = slice_index_or p.caches at []

-- how many bytes the slots at these indices have together
abbrev pub bytes_at : List Slot → List ℕ → ℕ
bytes_at slots xs = sum (map (λ (i : ℕ). (slot_at slots i).title.len) xs)

-- a free slot is issued to a register
abbrev pub issued : ℕ → ℕ → ℕ → Player → Player
issued thread reg i p =
    live_more (slot_at p.table i).partition (slot_at p.table i).title.len
    (registered thread reg (Own i) (filled_at 0 i (stepped_at steps.Issue i p)))

-- the slots at these indices go back to the root of partition q
abbrev pub gave_back : ℕ → List ℕ → Player → Player
gave_back q xs p =
    cached_less q (length xs) (bytes_at p.table xs)
    (acted q (gives (map (numbered_at p.table) xs)) (with_root q (all_returned (names (map (numbered_at p.table) xs)) (root_of p q)) p))

-- the list keeps its first `keep` slots, and the others go back to the root of partition q
abbrev pub given : ℕ → ℕ → ℕ → Player → Player
given q at keep p = listed at (take keep (list_in p at)) (gave_back q (drop keep (list_in p at)) p)

-- the slot at an index becomes the front of a list of partition q
abbrev pub put_front : ℕ → ℕ → ℕ → Player → Player
put_front q at i p = cached_more q (slot_at p.table i).title.len (listed at (i ∷ list_in p at) p)

-- A list that is longer than the limit of its class keeps its first slots, half as many as the limit, and the others go back.
abbrev pub spilled_if : ℕ → ℕ → ℕ → Player → Player
spilled_if class q at p = if nat_lt (limit_of class) (length (list_in p at)) then given q at (limit_of class / 2) p else p

-- a direct map goes back, and its super pages to the pool
abbrev pub unmapped_at : ℕ → ℕ → Player → Player
unmapped_at q i p =
    acted q (unmap_at p.heap.pool.entries (named_at p.table i) (number_of (slot_at p.table i).word.0) ∷ [])
    (pooled q (pool.Give (supers_for (slot_at p.table i).title.len) (super_page_at (slot_at p.table i).title.start))
    (with_pool (gave (super_page_at (slot_at p.table i).title.start) p.heap.pool)
    (with_root q (unmapped (named_at p.table i) (root_of p q)) p)))

-- a slot that a step of the thread returned goes to its cache, or back to the pool
abbrev pub taken_back : ℕ → ℕ → Option ℕ → ℕ → Player → Player
taken_back thread q (Some class) i p =
    spilled_if class q (list_place p.version p.partitions thread q class)
    (put_front q (list_place p.version p.partitions thread q class) i p)
taken_back thread q None i p = unmapped_at q i p

-- a thread's lists of `n` classes from one class on go back whole to the root of partition q
unfoldable pub given_from : ℕ → ℕ → ℕ → ℕ → Player → Player
given_from thread q class zero p = p
given_from thread q class (suc n) p = given_from thread q (class + 1) n (given q (list_place p.version p.partitions thread q class) 0 p)

-- all of the thread's lists of partition q go back whole
abbrev pub given_all : ℕ → ℕ → Player → Player
given_all thread q p = given_from thread q (first_class p.version) (class_total p.version) p

-- the root of partition q is purged, and its journal says so
abbrev pub purged_with : ℕ → Player → Player
purged_with q p = acted q (Purge ∷ []) (with_root q (purged (root_of p q)) p)

-- a purge of `n` partitions from q on: the thread's lists go back whole, and then the root is purged
unfoldable pub purged_from : ℕ → ℕ → ℕ → Player → Player
purged_from thread q zero p = p
purged_from thread q (suc n) p = purged_from thread (q + 1) n (purged_with q (given_all thread q p))

-- The slots that left a root are appended to a list, in their order: `xs` are their numbers.
abbrev pub ArePut : ℕ → ℕ → ℕ → List Title → Player → Player → List Numbered → Type 0
ArePut q at class [] p r xs = (r ≡ p) × (xs ≡ [])
ArePut q at class (t ∷ ts) p r xs =
    (after : List Slot) × (place : ℕ) × (rest : List Numbered) × IsHome p.table after (new_slot t q (Some class)) place
    × (xs ≡ numbered_at after place ∷ rest)
    × ArePut q at class ts (cached_more q t.len (listed at (list_in p at ++ place ∷ []) (record p { table = after }))) r rest

-- ---- an allocation

-- what is seen of the slot at an index
abbrev pub seen_at : List Slot → ℕ → Seen
seen_at slots i = record { slot = named_at slots i; found = (slot_at slots i).word }

-- the answer of an allocation that got the slot at an index
abbrev pub made_at : Player → ℕ → Answer
made_at p i = answers.Made (seen_at p.table i) ((slot_at p.table i).title.len - 8)

-- the front of a list is issued
pub record IsFrontIssued (thread reg q at : ℕ) (p r : Player) (answer : Answer) : Type 0 where
  pub place : ℕ
  pub rest : List ℕ
  pub front : list_in p at ≡ place ∷ rest
  pub issued : r ≡ issued thread reg place (cached_less q 1 (slot_at p.table place).title.len (listed at rest p))
  pub says : answer ≡ made_at p place

-- a root and the pool after a call, and the entry of the pool if the call asked for that many super pages
abbrev pub placed_in : ℕ → Root → PoolState → Player → Player
placed_in q after plan p = with_root q after (with_pool plan p)

-- the entry of the pool by a call, if it asked: a take of `count` super pages, which found those of the titles
abbrev pub asked_in : ℕ → ℕ → List Title → Option ℕ → Player → Player
asked_in q count titles None p = p
asked_in q count titles (Some entry) p = pooled q (pool.Take count (found_by titles)) p

-- a list of a class was filled
pub record IsFilled (q at class : ℕ) (p r : Player) : Type 0 where
  pub plan : PoolState
  pub after : Root
  pub placed : Placed
  pub put : Player
  pub slots : List Numbered
  pub did : FillDid class (fill_of class) p.heap.pool plan (root_of p q) after placed
  pub some : placed.titles.items ≡ [] → ⊥
  pub puts : ArePut q at class placed.titles.items (asked_in q 1 placed.titles.items placed.pool (placed_in q after plan p)) put slots
  pub acted : r ≡ acted q (Fill class placed.pool slots ∷ []) put

-- there was no room for a slot of the class
pub record IsUnfilled (q class : ℕ) (p r : Player) (entry : ℕ) : Type 0 where
  pub plan : PoolState
  pub after : Root
  pub placed : Placed
  pub asked : ℕ
  pub did : FillDid class (fill_of class) p.heap.pool plan (root_of p q) after placed
  pub asks : placed.pool ≡ Some asked
  pub none : placed.titles.items ≡ []
  pub acted : r ≡ acted q (Full (Some class) asked ∷ []) (pooled q (pool.Take 1 None) (placed_in q after plan p))
  pub told : entry ≡ length (journal_in p.told q)

-- what a fill answers: the entry that says that there was no room, or none
abbrev pub Fills : ℕ → ℕ → ℕ → Player → Player → Option ℕ → Type 0
Fills q at class p r None = IsFilled q at class p r
Fills q at class p r (Some entry) = IsUnfilled q class p r entry

-- A direct map of that many bytes, in that many super pages, was made: its slot is at this index.
pub record IsMapPlaced (q len supers : ℕ) (p r : Player) (place : ℕ) : Type 0 where
  pub plan : PoolState
  pub after : Root
  pub placed : Placed
  pub asked : ℕ
  pub title : Title
  pub table : List Slot
  pub did : MapDid len p.heap.pool plan (root_of p q) after placed
  pub asks : placed.pool ≡ Some asked
  pub some : placed.titles.items ≡ title ∷ []
  pub home : IsHome p.table table (new_slot title q None) place
  pub acted : r ≡ record (acted q (Map asked (name_of title) title.len ∷ [])
      (pooled q (pool.Take supers (found_by (title ∷ []))) (placed_in q after plan p))) { table = table }

-- There was no room for a direct map of that many bytes, and this entry of partition q's journal says so.
pub record IsMapRefused (q len supers : ℕ) (p r : Player) (entry : ℕ) : Type 0 where
  pub plan : PoolState
  pub after : Root
  pub placed : Placed
  pub asked : ℕ
  pub did : MapDid len p.heap.pool plan (root_of p q) after placed
  pub asks : placed.pool ≡ Some asked
  pub none : placed.titles.items ≡ []
  pub acted : r ≡ acted q (Full None asked ∷ []) (pooled q (pool.Take supers None) (placed_in q after plan p))
  pub told : entry ≡ length (journal_in p.told q)

-- The list was empty and is filled, and then its front is issued.
pub record IsFilledFirst (thread reg q at class : ℕ) (p r : Player) (answer : Answer) : Type 0 where
  pub filled : Player
  pub empty : list_in p at ≡ []
  pub fills : IsFilled q at class p filled
  pub front : IsFrontIssued thread reg q at filled r answer

-- the list was empty and there was no room to fill it: the answer is the entry that says so
pub record IsRefused (q at class : ℕ) (p r : Player) (answer : Answer) : Type 0 where
  pub entry : ℕ
  pub empty : list_in p at ≡ []
  pub unfilled : IsUnfilled q class p r entry
  pub says : answer ≡ answers.Full entry

-- the list was empty: its front is issued after a fill, or there was no room
abbrev pub Refills : ℕ → ℕ → ℕ → ℕ → ℕ → Player → Player → Answer → Type 0
Refills thread reg q at class p r answer = IsFilledFirst thread reg q at class p r answer ⊎ IsRefused q at class p r answer

-- an allocation of a slot of a class: the front of its list is issued, after a fill if the list was empty, or there was no room
abbrev pub AllocatesSlot : ℕ → ℕ → ℕ → ℕ → ℕ → Player → Player → Answer → Type 0
AllocatesSlot thread reg q at class p r answer =
    IsFrontIssued thread reg q at p r answer ⊎ Refills thread reg q at class p r answer

-- a direct map was made, and its slot is issued
pub record IsMapIssued (thread reg q len supers : ℕ) (p r : Player) (answer : Answer) : Type 0 where
  pub mapped : Player
  pub place : ℕ
  pub placed : IsMapPlaced q len supers p mapped place
  pub issued : r ≡ issued thread reg place mapped
  pub says : answer ≡ made_at mapped place

-- an allocation of a direct map: its slot is issued, or there was no room for it
abbrev pub AllocatesMap : ℕ → ℕ → ℕ → ℕ → ℕ → Player → Player → Answer → Type 0
AllocatesMap thread reg q len supers p r answer =
    IsMapIssued thread reg q len supers p r answer ⊎ ((entry : ℕ) × IsMapRefused q len supers p r entry × (answer ≡ answers.Full entry))

-- ---- steps

-- whether a copy of a handle of the slot at an index wouldn't be counted: it is the owner, and its slot is in a plain partition
abbrev pub is_uncounted : Bool → ℕ → Player → Bool
is_uncounted owner i p = owner && nat_le p.plain_from (slot_at p.table i).partition

-- a copy to a register of a handle, which is the owner or not: a register that has a handle stays as it is, and so does any other if
-- the copy wouldn't be counted, and else it becomes a `raw_ptr` to the slot
abbrev pub Copies : ℕ → Bool → ℕ → ℕ → Player → Player → Answer → Type 0
Copies thread owner to i p r answer =
    (HasSomeHandle (register_at p thread to) × (r ≡ p) × (answer ≡ answers.Filled))
    ⊎ (HasNone (register_at p thread to) × (is_uncounted owner i p ≡ true) × (r ≡ p) × (answer ≡ answers.Uncounted))
    ⊎ (HasNone (register_at p thread to) × (is_uncounted owner i p ≡ false)
    × (r ≡ registered thread to (Ref i) (stepped_at steps.Copy i p)) × (answer ≡ answers.Done (seen_at p.table i)))

-- the step of a reset of the slot at an index, whose register is cleared by it
abbrev pub reset_at : ℕ → ℕ → ℕ → Player → Player
reset_at thread reg i p = registered thread reg Cleared (stepped_at steps.Reset i p)

-- the step of a reset that returns the slot at an index, so that the slot leaves the quarantine
abbrev pub reset_last : ℕ → ℕ → ℕ → Player → Player
reset_last thread reg i p = quarantined_less (slot_at p.table i).partition (slot_at p.table i).title.len (reset_at thread reg i p)

-- the step of a free of the slot at an index: the register is freed, and there is one live slot fewer
abbrev pub freed_at : ℕ → ℕ → ℕ → Player → Player
freed_at thread reg i p =
    live_less (slot_at p.table i).partition (slot_at p.table i).title.len (registered thread reg Freed (stepped_at steps.Free i p))

-- in the player q, the slot that p has at an index goes to the cache of the thread, or back to the pool
abbrev pub returned_at : ℕ → ℕ → Player → Player → Player
returned_at thread i p q = taken_back thread (slot_at p.table i).partition (slot_at p.table i).class i q

-- a reset: a slot that its step returns leaves the quarantine and goes back, any other stays where it is
abbrev pub Resets : ℕ → ℕ → ℕ → Player → Player → Type 0
Resets thread reg i p r =
    (IsReturning steps.Reset (slot_at p.table i).word.0 × (r ≡ returned_at thread i p (reset_last thread reg i p)))
    ⊎ ((IsReturning steps.Reset (slot_at p.table i).word.0 → ⊥) × (r ≡ reset_at thread reg i p))

-- a free: the slot goes back at once if no `raw_ptr` points to it, and else it is quarantined
abbrev pub Frees : ℕ → ℕ → ℕ → Player → Player → Type 0
Frees thread reg i p r =
    ((refs_of (slot_at p.table i).word.0 ≡ 0) × (r ≡ returned_at thread i p (freed_at thread reg i p)))
    ⊎ ((0 < refs_of (slot_at p.table i).word.0)
    × (r ≡ quarantined_more (slot_at p.table i).partition (slot_at p.table i).title.len (freed_at thread reg i p)))

-- a write by the owner, which only looks if a `raw_ptr` points to the slot
abbrev pub Writes : ℕ → ℕ → Player → Player → Answer → Type 0
Writes i value p r answer =
    ((refs_of (slot_at p.table i).word.0 ≡ 0) × (r ≡ filled_at value i (stepped_at steps.Write i p))
    × (answer ≡ answers.Done (seen_at p.table i)))
    ⊎ ((0 < refs_of (slot_at p.table i).word.0) × (r ≡ p) × (answer ≡ answers.Shared (seen_at p.table i)))

-- the answer of a read of a word of the slot at an index
abbrev pub Reads : ℕ → ℕ → Player → Answer → Type 0
Reads i place p answer =
    (((slot_at p.table i).title.len - 8) / 8 ≤ place) × (answer ≡ answers.OutOfRange)
    ⊎ (place < ((slot_at p.table i).title.len - 8) / 8) × (held_of (slot_at p.table i).word.0 ≡ 1)
    × (answer ≡ answers.Value (seen_at p.table i) (slot_at p.table i).content)
    ⊎ (place < ((slot_at p.table i).title.len - 8) / 8) × (held_of (slot_at p.table i).word.0 ≡ 1 → ⊥)
    × (answer ≡ answers.Dangling (seen_at p.table i) poison)

-- ---- the end of a phase

-- the line of the report for partition q
abbrev pub report_line : Player → ℕ → ReportLine
report_line p q =
    record {
      phase = p.phase;
      partition = q;
      live = tally_at p.live.of q;
      quarantined = tally_at p.quarantined.of q;
      cached = tally_at p.cached.of q;
      root = (census (root_of p q)).root;
      committed = (census (root_of p q)).committed;
      reserved = (census (root_of p q)).reserved;
      full = (census (root_of p q)).full;
      active = (census (root_of p q)).active;
      empty = (census (root_of p q)).empty;
      decommitted = (census (root_of p q)).decommitted;
    }

-- the lines of the report for `n` partitions from q on
abbrev pub report_lines : Player → ℕ → ℕ → List ReportLine
report_lines p q zero = []
report_lines p q (suc n) = report_line p q ∷ report_lines p (q + 1) n

-- the phase ends, and its lines are added to the report
abbrev pub phase_ended : Player → Player
phase_ended p = record p { told = record p.told { report = p.told.report ++ report_lines p 0 p.partitions }; phase = p.phase + 1 }

-- the phase ends, and the line that begins the next one was played
abbrev pub phase_begun : Player → Player
phase_begun p = record (phase_ended p) { told = record (phase_ended p).told { line = p.told.line + 1 } }
