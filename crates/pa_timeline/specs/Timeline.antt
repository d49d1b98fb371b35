-- An order of all steps of a run, in which it could have been played one step after another.
use Rattle.std.specs.Prelude.{◌≡◌, ℕ, ◌/◌, ◌==◌, ◌⊎◌, if◌then◌else◌, Bool, false, List, [], ◌∷◌, ◌++◌, map, filter, Option, Some, None, Contains, All, AllPairs, count_by}
use Rattle.std.specs.List.{filter_map, flat_map, range_with_len}
use Rattle.pa_slot.specs.declared.word.SlotName.{SlotName}
use Rattle.pa_slot.specs.Count.{number_of}
use Rattle.pa_slot.specs.Run.{Mark, same_slot}
use Rattle.pa_slot.specs.Titles.{poison}
use Rattle.pa_trace.specs.declared.script.Op.{Op}
use Rattle.pa_trace.specs.declared.script.Op.TheVariants as ops
use Rattle.pa_trace.specs.declared.script.Trace.{Trace}
use Rattle.pa_record.specs.declared.entry.Seen.{Seen}
use Rattle.pa_record.specs.declared.entry.Answer.{Answer}
use Rattle.pa_record.specs.declared.entry.Answer.TheVariants.{Made, Done, Value, Dangling, SecondFree, NotOwner, StaleUse, Shared, Full, Swapped, Purged}
use Rattle.pa_record.specs.declared.history.CellEntry.{CellEntry}
use Rattle.pa_record.specs.declared.pool.PoolEntry.{PoolEntry}
use Rattle.pa_record.specs.declared.root.RootAct.{RootAct}
use Rattle.pa_record.specs.declared.root.RootEntry.{RootEntry}
use Rattle.pa_record.specs.Root.{asked_by}
use Rattle.pa_rules.specs.declared.played.Played.{Played}
use Rattle.pa_rules.specs.Played.{mark_of}
use Rattle.pa_rules.specs.Order.{StandsBefore}
use Rattle.pa_rules.specs.Registers.{usable_in}
use Rattle.pa_rules.specs.Roots.{Journals}
use Rattle.pa_rules.specs.Caches.{acts_of}
use Rattle.pa_rules.specs.Told.{Told, records_of}

-- A step of a record: its entry in the pool, one in a partition's journal, with what it did, its exchange, a load of the count
-- word, a load of a content word, the poisoning of a content word, or its counted step. A write's stores are part of its
-- counted step: while it is made only its owner has a handle.
pub data Part : Type 0 where
  Asking : Part
  Entering : ℕ → RootAct → Part
  Swapping : Part
  Looking : Part
  Loading : Part
  Spoiling : ℕ → Part
  Counting : Part

-- one step of a run: a step of this record
pub record Moment : Type 0 where
  pub x : Played
  pub part : Part

-- ---- the steps of a record

-- these steps, after a step that is the entry in the pool, if one is named
abbrev pub asking_before : Option ℕ → List Part → List Part
asking_before None parts = parts
asking_before (Some j) parts = Asking ∷ parts

-- what a root did is one step in partition p's journal, after the pool's entry if it names one
abbrev pub act_parts : ℕ → RootAct → List Part
act_parts p act = asking_before (asked_by act) (Entering p act ∷ [])

-- the entries of a line, partition by partition
abbrev pub entry_parts : ℕ → Journals → ℕ → List Part
entry_parts partitions roots line = flat_map (λ p. flat_map (act_parts p) (acts_of roots line p)) (range_with_len 0 partitions)

-- a step was made: a free poisons this many content words before it, and what is entered comes after it
abbrev pub done_parts : ℕ → Op → List Part → List Part
done_parts words (ops.Free reg) entries = map Spoiling (range_with_len 0 words) ++ Counting ∷ entries
done_parts words op entries = Counting ∷ entries

-- a load of the count word, if a slot was seen
abbrev pub look_parts : Option Seen → List Part
look_parts None = []
look_parts (Some seen) = Looking ∷ []

-- the steps of a record in their order, by its answer and the entries of its line
abbrev pub answer_parts : ℕ → Op → List Part → Answer → List Part
answer_parts words op entries (Made seen usable) = entries ++ Counting ∷ []
answer_parts words op entries (Done seen) = done_parts words op entries
answer_parts words op entries (Value seen value) = Looking ∷ Loading ∷ []
answer_parts words op entries (Dangling seen value) = Looking ∷ Loading ∷ []
answer_parts words op entries (SecondFree seen) = look_parts seen
answer_parts words op entries (NotOwner seen) = Looking ∷ []
answer_parts words op entries (StaleUse seen) = look_parts seen
answer_parts words op entries (Shared seen) = Looking ∷ []
answer_parts words op entries (Full entry) = entries
answer_parts words op entries (Swapped entry) = Swapping ∷ []
answer_parts words op entries (Purged slots) = entries
answer_parts words op entries answer = []

-- how many content words the record's slot has
abbrev pub slot_words : (SlotName → ℕ) → Option Mark → ℕ
slot_words usable_at None = 0
slot_words usable_at (Some m) = usable_at m.slot / 8

-- the steps of a record in their order, as its answer, its slot's content words and the journals require
abbrev pub due_parts : (SlotName → ℕ) → ℕ → Journals → Played → List Part
due_parts usable_at partitions roots x =
    answer_parts (slot_words usable_at (mark_of x)) x.op (entry_parts partitions roots x.line) x.answer

-- the steps of a line among the moments
abbrev pub parts_in : ℕ → List Moment → List Part
parts_in line ms = map (λ (m : Moment). m.part) (filter (λ (m : Moment). m.x.line == line) ms)

-- ---- the lists that moments make

-- the entry that a step on this line makes in partition p's journal, if it makes one
abbrev pub part_enters : ℕ → ℕ → Part → Option RootEntry
part_enters p line (Entering q act) = if q == p then Some (record { line = line; act = act }) else None
part_enters p line part = None

-- the entries that the moments make in partition p's journal, in their order
abbrev pub journal_made : ℕ → List Moment → List RootEntry
journal_made p ms = filter_map (λ (m : Moment). part_enters p m.x.line m.part) ms

-- the line, if the step is an entry in the pool
abbrev pub part_asks : ℕ → Part → Option ℕ
part_asks line Asking = Some line
part_asks line part = None

-- the lines of the moments that are entries in the pool, in their order
abbrev pub asked_lines : List Moment → List ℕ
asked_lines ms = filter_map (λ (m : Moment). part_asks m.x.line m.part) ms

-- the line, if the step is an exchange of cell k
abbrev pub part_swaps : ℕ → ℕ → Op → Part → Option ℕ
part_swaps k line (ops.Swap cell reg) Swapping = if cell == k then Some line else None
part_swaps k line op part = None

-- the lines of the moments that are exchanges of cell k, in their order
abbrev pub swap_lines : ℕ → List Moment → List ℕ
swap_lines k ms = filter_map (λ (m : Moment). part_swaps k m.x.line m.x.op m.part) ms

-- ---- what moments leave in a slot

-- the test whether a mark is of slot s
abbrev pub is_of_slot : SlotName → Option Mark → Bool
is_of_slot s None = false
is_of_slot s (Some m) = same_slot m.slot s

-- the test whether a record's step is a counted step of slot s
abbrev pub is_counted_on : SlotName → Played → Part → Bool
is_counted_on s x Counting = is_of_slot s (mark_of x)
is_counted_on s x part = false

-- how many of the moments are counted steps of slot s
abbrev pub counted_steps : SlotName → List Moment → ℕ
counted_steps s ms = count_by (λ (m : Moment). is_counted_on s m.x m.part) ms

-- what a counted step leaves in all content words, if it changes them: 0 by an issue, and its value by a write
abbrev pub value_left : Op → Answer → Option ℕ
value_left op (Made seen usable) = Some 0
value_left (ops.Write reg value) (Done seen) = Some value
value_left op answer = None

-- what a step leaves in content word `place` of its slot, if it changes it
abbrev pub part_leaves : ℕ → Played → Part → Option ℕ
part_leaves place x Counting = value_left x.op x.answer
part_leaves place x (Spoiling word) = if word == place then Some poison else None
part_leaves place x part = None

-- what a moment leaves in content word `place` of slot s, if it changes it
abbrev pub moment_leaves : SlotName → ℕ → Moment → Option ℕ
moment_leaves s place m = if is_of_slot s (mark_of m.x) then part_leaves place m.x m.part else None

-- the value that a change leaves, or the content as it was if there is none
abbrev pub changed_to : Option ℕ → ℕ → ℕ
changed_to None content = content
changed_to (Some value) content = value

-- the content word after the moments, which was `content` before them
abbrev pub content_after : SlotName → ℕ → ℕ → List Moment → ℕ
content_after s place content [] = content
content_after s place content (m ∷ ms) = content_after s place (changed_to (moment_leaves s place m) content) ms

-- ---- an order of all steps

-- the step is a look or a counted step
abbrev pub IsTouch : Part → Type 0
IsTouch part = (part ≡ Looking) ⊎ (part ≡ Counting)

-- the op reads content word `place`, and the answer is this value, from this slot
abbrev pub GivesAt : Op → Answer → Seen → ℕ → ℕ → Type 0
GivesAt (ops.Read reg word) answer seen place value =
    (word ≡ place) × ((answer ≡ Value seen value) ⊎ (answer ≡ Dangling seen value))
GivesAt op answer seen place value = ⊥

-- The moments are an order in which these steps of the run's records could have been made, one after another.
--   whole, only: the steps of each record are there once, in their order, and no others
--   in_order: those of a thread are in the order of its lines, and those of an earlier phase come before those of a later one
--   found: a look or a counted step finds as many counted steps of its slot before it as its number says
--   journals, pool, exchanges: entries and exchanges come in the order of their lists
pub record IsStepOrder (steps : Played → List Part) (ps : List Played) (pools : List PoolEntry) (roots : Journals)
    (cells : ℕ → List CellEntry) (ms : List Moment) : Type 0 where
  pub whole : (x : Played) → Contains ps x → parts_in x.line ms ≡ steps x
  pub only : All (λ (m : Moment). Contains ps m.x) ms
  pub in_order : AllPairs (λ (m n : Moment). StandsBefore n.x m.x → ⊥) ms
  pub found : (before after : List Moment) (m : Moment) (k : Mark) → ms ≡ before ++ m ∷ after → IsTouch m.part →
      mark_of m.x ≡ Some k → number_of k.found ≡ counted_steps k.slot before
  pub journals : (p : ℕ) → journal_made p ms ≡ roots p
  pub pool : asked_lines ms ≡ map (λ (e : PoolEntry). e.line) pools
  pub exchanges : (k : ℕ) → swap_lines k ms ≡ map (λ (e : CellEntry). e.line) (cells k)

-- A timeline: the moments are such an order of all steps, and a read gives what
-- the moments before it left in its word, which is 0 at first.
pub record IsTimeline (usable_at : SlotName → ℕ) (partitions : ℕ) (ps : List Played) (pools : List PoolEntry) (roots : Journals)
    (cells : ℕ → List CellEntry) (ms : List Moment) : Type 0 where
  pub ordered : IsStepOrder (due_parts usable_at partitions roots) ps pools roots cells ms
  pub reads : (before after : List Moment) (m : Moment) (seen : Seen) (place value : ℕ) → ms ≡ before ++ m ∷ after →
      m.part ≡ Loading → GivesAt m.x.op m.x.answer seen place value → value ≡ content_after seen.slot place 0 before

-- a run has a timeline if some moments are one
abbrev pub HasTimeline : Trace → Told → Type 0
HasTimeline t r = (ms : List Moment) × IsTimeline (usable_in (records_of t r)) t.partitions (records_of t r) r.pools r.roots r.cells ms

-- ---- the same without contents

-- the steps of a record without the poisonings, as if its slot had no content words
abbrev pub outline_parts : ℕ → Journals → Played → List Part
outline_parts partitions roots x = answer_parts 0 x.op (entry_parts partitions roots x.line) x.answer

-- a run has an outline if some moments are an order of its steps without the poisonings, which says nothing of what reads gave
abbrev pub HasOutline : Trace → Told → Type 0
HasOutline t r = (ms : List Moment) × IsStepOrder (outline_parts t.partitions r.roots) (records_of t r) r.pools r.roots r.cells ms

-- each run that has a timeline has an outline: the moments without the poisonings
abbrev pub TimelinesHaveOutlines : Type 0
TimelinesHaveOutlines = (t : Trace) (r : Told) → HasTimeline t r → HasOutline t r
