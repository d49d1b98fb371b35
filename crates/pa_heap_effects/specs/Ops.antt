-- The effect of each op: what a call of the placement and a change of lists are for the run so far.
use Rattle.std.specs.Prelude.{◌≡◌, ℕ, zero, suc, ◌+◌, ◌<◌, ◌==◌, ◌≢◌, nat_lt, if◌then◌else◌, List, [], ◌∷◌, ◌++◌, map, length, Option, Some, None, All, AllPairs, Contains}
use Rattle.pa_slot.specs.declared.title.Title.{Title}
use Rattle.pa_slot.specs.declared.word.SlotName.{SlotName}
use Rattle.pa_slot.specs.declared.word.Step.{Step}
use Rattle.pa_slot.specs.Count.{number_of}
use Rattle.pa_slot.specs.Run.{IsReturning}
use Rattle.pa_layout.specs.Pages.{super_page_at, supers_for}
use Rattle.pa_buckets.specs.Limits.{class_count}
use Rattle.pa_buckets.specs.Bands.{fill_of}
use Rattle.pa_direct.specs.Shapes.{shape_of}
use Rattle.pa_trace.specs.declared.script.Op.{Op}
use Rattle.pa_trace.specs.declared.script.Op.TheVariants as ops
use Rattle.pa_trace.specs.declared.script.Line.{Line}
use Rattle.pa_record.specs.declared.entry.Seen.{Seen}
use Rattle.pa_record.specs.declared.entry.Answer.{Answer}
use Rattle.pa_record.specs.declared.entry.Answer.TheVariants as answers
use Rattle.pa_record.specs.declared.numbered.Numbered.{Numbered}
use Rattle.pa_record.specs.declared.taken.Taken.{Taken}
use Rattle.pa_record.specs.declared.pool.PoolEntry.{PoolEntry}
use Rattle.pa_record.specs.declared.pool.PoolAct.TheVariants as pool
use Rattle.pa_record.specs.declared.root.RootAct.{RootAct}
use Rattle.pa_record.specs.declared.root.RootAct.TheVariants.{Fill, Map, Full}
use Rattle.pa_record.specs.Pool.{PoolState, IsOneTake, IsPartitions, gave}
use Rattle.pa_record.specs.Spans.{name_of}
use Rattle.pa_record.specs.Root.{Root, names, all_returned, purged, unmapped, IsOut}
use Rattle.pa_record.specs.Sound.{IsSound}
use Rattle.pa_rules.specs.declared.played.Played.{Played}
use Rattle.pa_rules.specs.Played.{step_of}
use Rattle.pa_rules.specs.Roots.{Journals, AsksForClass, AsksForMap}
use Rattle.pa_rules.specs.Caches.{Cache, Caches, with_list, FrontIs, IsOfClass, gives, kept, spilled, unmap_at, purge_acts, all_listed}
use Rattle.pa_rules.specs.Report.{HasWord}
use Rattle.pa_legal.specs.Numbers.{moves_of, at_end}
use Rattle.pa_place.specs.declared.placed.Placed.{Placed}
use Rattle.pa_place.specs.Placed.{FillDid, MapDid}
use Rattle.pa_heap_effects.specs.Deeds.{Acts, grown, root_at, IsPlacedTo}
use Rattle.pa_heap_effects.specs.Pooled.{pool_at, IsPooledTo, IsDone, IsSoFar}

-- no acts in any partition
abbrev pub no_acts : Acts
no_acts q = []

-- these acts in partition p, and none in any other
abbrev pub only_in : ℕ → List RootAct → Acts
only_in p acts q = if q == p then acts else []

-- the effect of a line with these acts in partition p, and what its root and the pool became
pub record IsCalled (supers partitions n : ℕ) (x : Played) (pools more : List PoolEntry) (roots : Journals) (p : ℕ) (acts : List RootAct)
    (cache next : Cache) (after : Root) (plan : PoolState) : Type 0 where
  pub done : IsDone supers partitions n x pools more roots (only_in p acts) cache next
  pub root : root_at (pools ++ more) (grown roots n (only_in p acts)) p ≡ after
  pub others : (q : ℕ) → (q ≡ p → ⊥) → root_at (pools ++ more) (grown roots n (only_in p acts)) q ≡ root_at pools roots q
  pub pool : pool_at supers (pools ++ more) ≡ plan

-- ---- no act

-- an answer without acts: no slot was made or returned, and nothing was refused or purged
abbrev pub KeepsLists : Op → Answer → Type 0
KeepsLists op (answers.Made seen usable) = ⊥
KeepsLists op (answers.Full entry) = ⊥
KeepsLists op (answers.Purged slots) = ⊥
KeepsLists op (answers.Done seen) = (step : Step) → step_of op ≡ Some step → IsReturning step seen.found.0 → ⊥
KeepsLists op answer = Unit {0}

-- a line with an answer that keeps the lists makes no act and no entry of the pool, and the lists of its thread stay
abbrev pub NothingMoves : Type 0
NothingMoves =
    (supers partitions n : ℕ) (ps : List Played) (x : Played) (pools : List PoolEntry) (roots : Journals) (all : Caches) →
    IsPlacedTo partitions n ps pools roots all → x.line ≡ n → KeepsLists x.op x.answer →
    IsDone supers partitions n x pools [] roots no_acts (all x.thread) (all x.thread)

-- an allocation that takes the front of a list that isn't empty makes no act and no entry of the pool
abbrev pub FrontLeaves : Type 0
FrontLeaves =
    (supers partitions n p class usable : ℕ) (ps : List Played) (x : Played) (pools : List PoolEntry) (roots : Journals) (all : Caches)
    (seen : Seen) (rest : List Numbered) →
    IsPlacedTo partitions n ps pools roots all → x.line ≡ n → x.answer ≡ answers.Made seen usable → AsksForClass x p class →
    FrontIs seen (all x.thread p class) rest →
    IsDone supers partitions n x pools [] roots no_acts (all x.thread) (with_list (all x.thread) p class rest)

-- ---- fills and direct maps

-- the first of the super pages that a call got, by the first of its slots, or none if it got no slot
abbrev pub found_by : List Title → Option ℕ
found_by [] = None
found_by (t ∷ ts) = Some (super_page_at t.start)

-- the entry that line n made of the pool, if it asked: a take of `count` super pages for partition p,
-- which found those of the titles
abbrev pub asked_for : ℕ → ℕ → ℕ → List Title → Option ℕ → List PoolEntry
asked_for n p count titles None = []
asked_for n p count titles (Some asked) = record { line = n; partition = p; act = pool.Take count (found_by titles) } ∷ []

-- each of these slots has the number at which the root has it
abbrev pub HasNumbers : Journals → ℕ → List Numbered → Type 0
HasNumbers roots p xs = (m : Numbered) (k : ℕ) → Contains xs m → at_end (Some 0) (moves_of (roots p) m.slot) ≡ Some k → m.number ≡ k

-- an allocation that finds its list empty, and whose fill gets slots, makes one Fill, and takes the front of what it got
abbrev pub FillIsDone : Type 0
FillIsDone =
    (supers partitions n p class usable : ℕ) (ps : List Played) (x : Played) (pools : List PoolEntry) (roots : Journals) (all : Caches)
    (seen : Seen) (xs rest : List Numbered)
    (plan : PoolState) (after : Root) (placed : Placed) →
    IsPlacedTo partitions n ps pools roots all → x.line ≡ n → x.answer ≡ answers.Made seen usable → AsksForClass x p class →
    p < partitions → all x.thread p class ≡ [] →
    FillDid class (fill_of class) (pool_at supers pools) plan (root_at pools roots p) after placed →
    map name_of placed.titles.items ≡ names xs → HasNumbers roots p xs → FrontIs seen xs rest →
    IsCalled supers partitions n x pools (asked_for n p 1 placed.titles.items placed.pool) roots p (Fill class placed.pool xs ∷ [])
    (all x.thread)
    (with_list (all x.thread) p class rest) after plan

-- an allocation that finds its list empty, and whose fill gets no slot, makes one Full, and the lists of its thread stay
abbrev pub FullIsDone : Type 0
FullIsDone =
    (supers partitions n p class asked j : ℕ) (ps : List Played) (x : Played) (pools : List PoolEntry) (roots : Journals) (all : Caches)
    (plan : PoolState) (after : Root) (placed : Placed) →
    IsPlacedTo partitions n ps pools roots all → x.line ≡ n → x.answer ≡ answers.Full j → j ≡ length (roots p) → AsksForClass x p class →
    p < partitions → all x.thread p class ≡ [] →
    FillDid class (fill_of class) (pool_at supers pools) plan (root_at pools roots p) after placed →
    placed.pool ≡ Some asked → placed.titles.items ≡ [] →
    IsCalled supers partitions n x pools (asked_for n p 1 [] (Some asked)) roots p (Full (Some class) asked ∷ []) (all x.thread)
    (all x.thread) after plan

-- an allocation for which a direct map is made makes one Map, and the lists of its thread stay
abbrev pub MapIsDone : Type 0
MapIsDone =
    (supers partitions n p size usable asked : ℕ) (ps : List Played) (x : Played) (pools : List PoolEntry) (roots : Journals)
    (all : Caches) (seen : Seen) (t : Title)
    (plan : PoolState) (after : Root) (placed : Placed) →
    IsPlacedTo partitions n ps pools roots all → x.line ≡ n → x.answer ≡ answers.Made seen usable → AsksForMap x p size →
    p < partitions → MapDid (shape_of size).slot (pool_at supers pools) plan (root_at pools roots p) after placed →
    placed.pool ≡ Some asked → placed.titles.items ≡ t ∷ [] → name_of t ≡ seen.slot →
    IsCalled supers partitions n x pools (asked_for n p (shape_of size).supers (t ∷ []) (Some asked)) roots p
    (Map asked seen.slot (shape_of size).slot ∷ [])
    (all x.thread) (all x.thread) after plan

-- a direct map that got no room makes one Full, and the lists of its thread stay
abbrev pub FullMapIsDone : Type 0
FullMapIsDone =
    (supers partitions n p size asked j : ℕ) (ps : List Played) (x : Played) (pools : List PoolEntry) (roots : Journals) (all : Caches)
    (plan : PoolState) (after : Root) (placed : Placed) →
    IsPlacedTo partitions n ps pools roots all → x.line ≡ n → x.answer ≡ answers.Full j → j ≡ length (roots p) → AsksForMap x p size →
    p < partitions → MapDid (shape_of size).slot (pool_at supers pools) plan (root_at pools roots p) after placed →
    placed.pool ≡ Some asked → placed.titles.items ≡ [] →
    IsCalled supers partitions n x pools (asked_for n p (shape_of size).supers [] (Some asked)) roots p (Full None asked ∷ [])
    (all x.thread) (all x.thread) after plan

-- ---- steps that return

-- the slot that a step returned, at the number that it left
abbrev pub returned_by : Seen → Numbered
returned_by seen = record { slot = seen.slot; number = number_of seen.found.0 + 1 }

-- the step of x returned the slot, and found the word that the slot has
pub record Returns (ps : List Played) (x : Played) (seen : Seen) : Type 0 where
  pub step : Step
  pub answer : x.answer ≡ answers.Done seen
  pub makes : step_of x.op ≡ Some step
  pub returning : IsReturning step seen.found.0
  pub word : HasWord ps seen.slot seen.found.0

-- these slots are out of the root, and differ
abbrev pub AreOut : Root → List Numbered → Type 0
AreOut r xs = All (IsOut r) (names xs) × AllPairs ◌≢◌ (names xs)

-- a step that returns a slot of a class makes it the front of its list, and what doesn't stay goes back to the root
abbrev pub ReturnIsDone : Type 0
ReturnIsDone =
    (supers partitions n p class : ℕ) (ls : List Line) (ps : List Played) (x : Played) (pools : List PoolEntry) (roots : Journals)
    (all : Caches) (seen : Seen) →
    IsSoFar supers partitions n ls ps pools roots all → x.line ≡ n → Returns ps x seen → IsOfClass roots seen.slot p class →
    AreOut (root_at pools roots p) (returned_by seen ∷ all x.thread p class)
    × IsCalled supers partitions n x pools [] roots p (gives (spilled class (returned_by seen ∷ all x.thread p class))) (all x.thread)
    (with_list (all x.thread) p class (kept class (returned_by seen ∷ all x.thread p class)))
    (all_returned (names (spilled class (returned_by seen ∷ all x.thread p class))) (root_at pools roots p)) (pool_at supers pools)

-- the super pages of a direct map that is mapped are one take of its partition that wasn't given back
abbrev pub MapsAreTaken : Type 0
MapsAreTaken =
    (supers partitions n p : ℕ) (ps : List Played) (pools : List PoolEntry) (roots : Journals) (all : Caches) (t : Title) →
    IsPlacedTo partitions n ps pools roots all → IsPooledTo supers n pools roots → Contains (root_at pools roots p).maps t →
    (u : Taken) × IsOneTake (pool_at supers pools) (super_page_at t.start) (supers_for t.len) u × IsPartitions pools p u

-- the entry of the pool by which line n gives the super pages of a direct map of partition p back
abbrev pub unmap_made : ℕ → ℕ → Title → PoolEntry
unmap_made n p t = record { line = n; partition = p; act = pool.Give (supers_for t.len) (super_page_at t.start) }

-- a step that returns a direct map makes one Unmap, at the number that it left, and one give of its super pages to the pool,
-- and the lists of its thread stay
abbrev pub UnmapIsDone : Type 0
UnmapIsDone =
    (supers partitions n p : ℕ) (ps : List Played) (x : Played) (pools : List PoolEntry) (roots : Journals) (all : Caches) (seen : Seen)
    (t : Title) →
    IsPlacedTo partitions n ps pools roots all → IsPooledTo supers n pools roots → x.line ≡ n → Returns ps x seen →
    Contains (root_at pools roots p).maps t → name_of t ≡ seen.slot →
    IsCalled supers partitions n x pools (unmap_made n p t ∷ []) roots p
    (unmap_at (length pools) seen.slot (number_of seen.found.0 + 1) ∷ []) (all x.thread) (all x.thread)
    (unmapped (name_of t) (root_at pools roots p)) (gave (super_page_at t.start) (pool_at supers pools))

-- ---- a purge

-- the slots of some lists, from a class on
abbrev pub all_of : (ℕ → List Numbered) → ℕ → ℕ → List Numbered
all_of lists class zero = []
all_of lists class (suc n) = lists class ++ all_of lists (class + 1) n

-- what a purge does in each of the first partitions
abbrev pub purge_in : ℕ → Cache → Acts
purge_in partitions cache q = if nat_lt q partitions then purge_acts (cache q) 0 class_count else []

-- The slots of a thread's lists are out of its roots, each once.
abbrev pub ListsAreOut : Type 0
ListsAreOut =
    (supers partitions n p t : ℕ) (ls : List Line) (ps : List Played) (pools : List PoolEntry) (roots : Journals) (all : Caches) →
    IsSoFar supers partitions n ls ps pools roots all → AreOut (root_at pools roots p) (all_of (all t p) 0 class_count)

-- a purge empties the lists of its thread: their slots go back to the root of each partition, which is purged then
abbrev pub PurgeIsDone : Type 0
PurgeIsDone =
    (supers partitions n : ℕ) (ls : List Line) (ps : List Played) (x : Played) (pools : List PoolEntry) (roots : Journals) (all : Caches) →
    IsSoFar supers partitions n ls ps pools roots all → x.line ≡ n → x.op ≡ ops.Purge →
    x.answer ≡ answers.Purged (all_listed (all x.thread) 0 partitions) →
    IsDone supers partitions n x pools [] roots (purge_in partitions (all x.thread)) (all x.thread) (λ p class. [])
    × ((p : ℕ) → p < partitions →
    root_at pools (grown roots n (purge_in partitions (all x.thread))) p ≡
    purged (all_returned (names (all_of (all x.thread p) 0 class_count)) (root_at pools roots p)))

-- ---- parts of what is out

-- What is out can go back in parts: each part is out when its turn comes.
pub record PartsAreOut : Type 0 where
  pub front : (r : Root) (xs ys : List Numbered) → AreOut r (xs ++ ys) → AreOut r xs
  pub rest : (r : Root) (xs ys : List Numbered) → IsSound r → AreOut r (xs ++ ys) → AreOut (all_returned (names xs) r) ys
  pub behind : (r : Root) (xs ys : List Numbered) → AreOut r (xs ++ ys) → AreOut r ys
  pub joined : (r : Root) (xs ys : List SlotName) → all_returned (xs ++ ys) r ≡ all_returned ys (all_returned xs r)
