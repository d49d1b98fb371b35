-- The caches of the threads: for each partition and class a list of free slots, front first.
use Rattle.std.specs.Prelude.{◌≡◌, ℕ, zero, suc, ◌+◌, ◌/◌, ◌<◌, ◌==◌, ◌&&◌, nat_lt, if◌then◌else◌, ◌⊎◌, List, [], ◌∷◌, ◌++◌, map, length, take, drop, Option, Some, None, Contains, filter}
use Rattle.pa_slot.specs.declared.word.SlotName.{SlotName}
use Rattle.pa_slot.specs.declared.word.Step.{Step}
use Rattle.pa_slot.specs.Count.{number_of}
use Rattle.pa_slot.specs.Run.{IsReturning}
use Rattle.pa_buckets.specs.Limits.{class_count}
use Rattle.pa_buckets.specs.Bands.{limit_of}
use Rattle.pa_record.specs.declared.entry.Seen.{Seen}
use Rattle.pa_record.specs.declared.entry.Answer.{Answer}
use Rattle.pa_record.specs.declared.entry.Answer.TheVariants as answers
use Rattle.pa_record.specs.declared.numbered.Numbered.{Numbered}
use Rattle.pa_record.specs.declared.root.RootEntry.{RootEntry}
use Rattle.pa_record.specs.declared.root.RootAct.{RootAct}
use Rattle.pa_record.specs.declared.root.RootAct.TheVariants.{Fill, Map, Full, Give, Unmap, Purge}
use Rattle.pa_record.specs.Root.{names}
use Rattle.pa_rules.specs.declared.played.Played.{Played}
use Rattle.pa_rules.specs.Played.{step_of}
use Rattle.pa_rules.specs.Roots.{Journals, AsksForClass, AsksForMap}

-- a thread's lists, by partition and class
abbrev pub Cache : Type 0
Cache = ℕ → ℕ → List Numbered

-- the lists of each thread, by the thread's number
abbrev pub Caches : Type 0
Caches = ℕ → Cache

-- the lists with one of them changed
abbrev pub with_list : Cache → ℕ → ℕ → List Numbered → Cache
with_list cache p class xs q c = if (q == p) && (c == class) then xs else cache q c

-- `after` has what `cache` has
abbrev pub SameLists : Cache → Cache → Type 0
SameLists after cache = (p c : ℕ) → after p c ≡ cache p c

-- what the entries of a line did, in the order of partition p's journal
abbrev pub acts_of : Journals → ℕ → ℕ → List RootAct
acts_of roots line p = map (λ (e : RootEntry). e.act) (filter (λ (e : RootEntry). e.line == line) (roots p))

-- the entries of the line are these in partition p's journal, and none in any other
abbrev pub OnlyActs : Journals → ℕ → ℕ → List RootAct → Type 0
OnlyActs roots line p acts = (acts_of roots line p ≡ acts) × ((q : ℕ) → (q ≡ p → ⊥) → acts_of roots line q ≡ [])

-- no journal has an entry of the line
abbrev pub NoActs : Journals → ℕ → Type 0
NoActs roots line = (q : ℕ) → acts_of roots line q ≡ []

-- gives of 16 slots each, with the rest in the last
abbrev pub batches : ℕ → List Numbered → List RootAct
batches zero xs = []
batches (suc n) [] = []
batches (suc n) (x ∷ xs) = Give (take 16 (x ∷ xs)) ∷ batches n (drop 16 (x ∷ xs))

-- the gives by which a whole list goes back, in order, and none for an empty list
abbrev pub gives : List Numbered → List RootAct
gives xs = batches (length xs) xs

-- a fill of this class in partition p's journal gave the slot
abbrev pub IsOfClass : Journals → SlotName → ℕ → ℕ → Type 0
IsOfClass roots s p class =
    (e : RootEntry) × (asked : Option ℕ) × (slots : List Numbered) × Contains (roots p) e × (e.act ≡ Fill class asked slots)
    × Contains (names slots) s

-- a Map in partition p's journal made the slot
abbrev pub IsDirect : Journals → SlotName → ℕ → Type 0
IsDirect roots s p = (e : RootEntry) × (asked len : ℕ) × Contains (roots p) e × (e.act ≡ Map asked s len)

-- the front of a list is the slot that was made, at the number that was found, and `rest` comes after it
abbrev pub FrontIs : Seen → List Numbered → List Numbered → Type 0
FrontIs seen xs rest = xs ≡ record { slot = seen.slot; number = number_of seen.found.0 } ∷ rest

-- what the list has when its front is taken: an empty one has the slots of a fill, which is the line's only entry, and any
-- other is as it was, and no entry is of the line
abbrev pub FilledFirst : Journals → ℕ → ℕ → ℕ → List Numbered → List Numbered → Type 0
FilledFirst roots line p class [] xs = (asked : Option ℕ) × OnlyActs roots line p (Fill class asked xs ∷ [])
FilledFirst roots line p class (y ∷ ys) xs = (xs ≡ y ∷ ys) × NoActs roots line

-- A slot was made. If it is of a class, it was the front of its list and leaves it. If it is a direct map, one Map of it is the
-- line's only entry, and the lists stay as they were.
abbrev pub MadeRow : Journals → Played → Seen → Cache → Cache → Type 0
MadeRow roots x seen cache after =
    ((p class : ℕ) × (xs rest : List Numbered) × AsksForClass x p class × FilledFirst roots x.line p class (cache p class) xs
    × FrontIs seen xs rest × SameLists after (with_list cache p class rest))
    ⊎ ((p size asked len : ℕ) × AsksForMap x p size × OnlyActs roots x.line p (Map asked seen.slot len ∷ []) × SameLists after cache)

-- there was no room for a class with an empty list, or for a direct map: one Full is the line's only entry,
-- and the lists stay as they were
abbrev pub FullRow : Journals → Played → Cache → Cache → Type 0
FullRow roots x cache after =
    ((p class asked : ℕ) × AsksForClass x p class × (cache p class ≡ []) × OnlyActs roots x.line p (Full (Some class) asked ∷ [])
    × SameLists after cache)
    ⊎ ((p size asked : ℕ) × AsksForMap x p size × OnlyActs roots x.line p (Full None asked ∷ []) × SameLists after cache)

-- how many slots of a list stay when a slot came to its front: all of it up to the limit, else the first half of the limit
abbrev pub kept : ℕ → List Numbered → List Numbered
kept class xs = if nat_lt (limit_of class) (length xs) then take (limit_of class / 2) xs else xs

-- the slots that don't stay: of a list above the limit all after the first half of the limit, else none
abbrev pub spilled : ℕ → List Numbered → List Numbered
spilled class xs = if nat_lt (limit_of class) (length xs) then drop (limit_of class / 2) xs else []

-- the entry of a direct map that goes back, at a number
abbrev pub unmap_at : ℕ → SlotName → ℕ → RootAct
unmap_at asked slot number = Unmap asked (record { slot = slot; number = number })

-- A step returned a slot, which it left at this number. A slot of a class becomes the front of its list, and what doesn't stay
-- goes back to the root. A direct map goes back at once, at a number that the clause `holders` checks.
abbrev pub ReturnRow : Journals → Played → Numbered → Cache → Cache → Type 0
ReturnRow roots x slot cache after =
    ((p class : ℕ) × IsOfClass roots slot.slot p class × OnlyActs roots x.line p (gives (spilled class (slot ∷ cache p class)))
    × SameLists after (with_list cache p class (kept class (slot ∷ cache p class))))
    ⊎ ((p asked number : ℕ) × IsDirect roots slot.slot p × OnlyActs roots x.line p (unmap_at asked slot.slot number ∷ [])
    × SameLists after cache)

-- a step was made: if it is a returning one the slot comes back,
-- and else no entry is of the line and the lists stay as they were
abbrev pub DoneRow : Journals → Played → Option Step → Seen → Cache → Cache → Type 0
DoneRow roots x None seen cache after = NoActs roots x.line × SameLists after cache
DoneRow roots x (Some step) seen cache after =
    (IsReturning step seen.found.0 × ReturnRow roots x (record { slot = seen.slot; number = number_of seen.found.0 + 1 }) cache after)
    ⊎ ((IsReturning step seen.found.0 → ⊥) × NoActs roots x.line × SameLists after cache)

-- what a purge does in a partition: the lists of the classes from one on go back whole, and then the root is purged
abbrev pub purge_acts : (ℕ → List Numbered) → ℕ → ℕ → List RootAct
purge_acts lists class zero = Purge ∷ []
purge_acts lists class (suc n) = gives (lists class) ++ purge_acts lists (class + 1) n

-- how many slots the lists of `n` classes have, from one class on
unfoldable pub listed_slots : (ℕ → List Numbered) → ℕ → ℕ → ℕ
listed_slots lists class zero = 0
listed_slots lists class (suc n) = length (lists class) + listed_slots lists (class + 1) n

-- how many slots a thread's lists of all classes have, in `n` partitions from p on
abbrev pub all_listed : Cache → ℕ → ℕ → ℕ
all_listed cache p zero = 0
all_listed cache p (suc n) = listed_slots (cache p) 0 class_count + all_listed cache (p + 1) n

-- a purge of all partitions gave back all lists, and its answer is how many slots they had
abbrev pub PurgedRow : ℕ → Journals → Played → ℕ → Cache → Cache → Type 0
PurgedRow partitions roots x slots cache after =
    ((p : ℕ) → p < partitions → acts_of roots x.line p ≡ purge_acts (cache p) 0 class_count)
    × (slots ≡ all_listed cache 0 partitions) × ((p c : ℕ) → after p c ≡ [])

-- a record, by its answer: the entries of its line, and its thread's lists after it
abbrev pub CacheRow : ℕ → Journals → Played → Answer → Cache → Cache → Type 0
CacheRow partitions roots x (answers.Made seen usable) cache after = MadeRow roots x seen cache after
CacheRow partitions roots x (answers.Done seen) cache after = DoneRow roots x (step_of x.op) seen cache after
CacheRow partitions roots x (answers.Full entry) cache after = FullRow roots x cache after
CacheRow partitions roots x (answers.Purged slots) cache after = PurgedRow partitions roots x slots cache after
CacheRow partitions roots x answer cache after = NoActs roots x.line × SameLists after cache

-- the lists of all threads, with those of one thread replaced
abbrev pub with_cache : Caches → ℕ → Cache → Caches
with_cache all thread cache t = if t == thread then cache else all t

-- record by record, the lists and the entries are those that the answers ask for
abbrev pub CachesTo : ℕ → Journals → Caches → List Played → Caches → Type 0
CachesTo partitions roots all [] after = after ≡ all
CachesTo partitions roots all (x ∷ xs) after =
    (next : Cache) × CacheRow partitions roots x x.answer (all x.thread) next
    × CachesTo partitions roots (with_cache all x.thread next) xs after

-- the lists at the start, all of which are empty
abbrev pub no_caches : Caches
no_caches thread p class = []

-- from empty lists on, the records and these journals lead to some lists:
-- each record has the entries that its answer asks for
abbrev pub AreCaches : ℕ → Journals → List Played → Type 0
AreCaches partitions roots ps = (after : Caches) × CachesTo partitions roots no_caches ps after
