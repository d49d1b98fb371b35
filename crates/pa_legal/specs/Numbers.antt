-- The numbers at which a root has a slot, by its journal alone.
use Rattle.std.specs.Prelude.{◌≡◌, ◌≢◌, ℕ, ◌<◌, Bool, List, [], ◌∷◌, ◌++◌, Option, Some, None, Contains, All, AllPairs, filter, flat_map}
use Rattle.pa_slot.specs.declared.word.SlotName.{SlotName}
use Rattle.pa_slot.specs.Run.{Slots, same_slot}
use Rattle.pa_buckets.specs.Limits.{class_count}
use Rattle.pa_record.specs.declared.numbered.Numbered.{Numbered}
use Rattle.pa_record.specs.declared.pool.PoolEntry.{PoolEntry}
use Rattle.pa_record.specs.declared.root.RootEntry.{RootEntry}
use Rattle.pa_record.specs.declared.root.RootAct.TheVariants.{Unmap}
use Rattle.pa_record.specs.Root.{new_root, root_replayed, IsJournal}
use Rattle.pa_record.specs.Laws.{IsNameOut}
use Rattle.pa_rules.specs.declared.played.Played.{Played}
use Rattle.pa_rules.specs.Played.{marks_of}
use Rattle.pa_rules.specs.Roots.{Journals, AreRoots, IsPoolOf}
use Rattle.pa_rules.specs.Caches.{Caches, CachesTo, no_caches}
use Rattle.pa_rules.specs.Report.{HasWord}
use Rattle.pa_rules.specs.Flow.{cached_times, busy}
use Rattle.pa_rules.specs.Holders.{Way, Out, Back, Move, moves_by}

-- what a journal does with all slots, in order
abbrev pub all_moves : List RootEntry → List Move
all_moves journal = flat_map (λ (e : RootEntry). moves_by e.line e.act) journal

-- the test whether a move is of slot s
abbrev pub is_of : SlotName → Move → Bool
is_of s m = same_slot m.slot s

-- what a journal does with slot s, in order
abbrev pub moves_of : List RootEntry → SlotName → List Move
moves_of journal s = filter (is_of s) (all_moves journal)

-- `at` is the number at which the root has the slot, none while it is out: the root hands the slot out at that number,
-- and takes it back while it is out.
abbrev pub HasAt : Option ℕ → Way → ℕ → Type 0
HasAt at Out n = at ≡ Some n
HasAt at Back n = at ≡ None

-- the number at which the root has the slot after a move: the one at which it came back, or none while it is out
abbrev pub at_after : Way → ℕ → Option ℕ
at_after Out n = None
at_after Back n = Some n

-- from `at` on, each move takes the slot out at the number at which the root has it, or brings it back while it is out
abbrev pub IsNumbered : Option ℕ → List Move → Type 0
IsNumbered at [] = Unit {0}
IsNumbered at (m ∷ ms) = HasAt at m.way m.number × IsNumbered (at_after m.way m.number) ms

-- the number at which the root has the slot after these moves
abbrev pub at_end : Option ℕ → List Move → Option ℕ
at_end at [] = at
at_end at (m ∷ ms) = at_end (at_after m.way m.number) ms

-- each slot's moves are numbered in each root, which at the start has the slot at 0
abbrev pub AreNumbered : Journals → Type 0
AreNumbered roots = (p : ℕ) (s : SlotName) → IsNumbered (Some 0) (moves_of (roots p) s)

-- after a direct map went back no entry of its journal names it
abbrev pub Unnamed : Type 0
Unnamed =
    (pools : List PoolEntry) (xs ys : List RootEntry) (e f : RootEntry) (asked : ℕ) (slot : Numbered) (m : Move) →
    IsJournal pools (xs ++ e ∷ ys) → e.act ≡ Unmap asked slot → Contains ys f → Contains (moves_by f.line f.act) m → m.slot ≢ slot.slot

-- a slot that is out of the root is at no number there
abbrev pub OutNone : Type 0
OutNone =
    (pools : List PoolEntry) (journal : List RootEntry) (s : SlotName) →
    IsJournal pools journal → IsNumbered (Some 0) (moves_of journal s) →
    IsNameOut (root_replayed pools journal new_root) s → at_end (Some 0) (moves_of journal s) ≡ None

-- a slot on a thread's list is out of the root, free and nowhere else
pub record IsCachedOut (pools : List PoolEntry) (roots : Journals) (threads p : ℕ) (all : Caches) (s : SlotName) (w : ℕ) : Type 0 where
  pub out : IsNameOut (root_replayed pools (roots p) new_root) s
  pub free : busy w ≡ 0
  pub once : cached_times s all p threads ≡ 1

-- each slot of a list is out of the root, free and nowhere else at the end of a run whose records each have a line of its own
abbrev pub CachedOut : Type 0
CachedOut =
    (supers partitions threads p t class w : ℕ) (ps : List Played) (pools : List PoolEntry) (roots : Journals) (all : Caches)
    (m : Numbered) → AreRoots partitions ps pools roots → IsPoolOf supers ps pools roots →
    AllPairs (λ (x y : Played). x.line ≢ y.line) ps → All (λ (x : Played). x.thread < threads) ps → Slots (marks_of ps) →
    CachesTo partitions roots no_caches ps all → p < partitions → t < threads → class < class_count → Contains (all t p class) m →
    HasWord ps m.slot w → IsCachedOut pools roots threads p all m.slot w

-- A root's numbers go on as its journal grows: the slot's moves are those before and those after,
-- which begin where the ones before left it.
pub record NumbersGrow : Type 0 where
  pub fits : (at : Option ℕ) (ms ns : List Move) → IsNumbered at ms → IsNumbered (at_end at ms) ns → IsNumbered at (ms ++ ns)
  pub ends : (at : Option ℕ) (ms ns : List Move) → at_end at (ms ++ ns) ≡ at_end (at_end at ms) ns
  pub moves : (journal more : List RootEntry) (s : SlotName) → moves_of (journal ++ more) s ≡ moves_of journal s ++ moves_of more s
