-- What is known of a player between two lines.
use Rattle.std.specs.Prelude.{◌≡◌, ℕ, ◌+◌, ◌-◌, ◌*◌, ◌<◌, ◌≤◌, ◌&&◌, nat_le, nat_lt, if◌then◌else◌, List, [], ◌∷◌, map, length}
use Rattle.std.specs.Prelude.{slice_index_or, Option, Some, None, All, Contains}
use Rattle.pa_slot.specs.declared.word.SlotName.{SlotName}
use Rattle.pa_slot.specs.Count.{number_of, held_of, refs_of}
use Rattle.pa_slot.specs.Run.{same_slot, Slots}
use Rattle.pa_buckets.specs.Table.{slot_of}
use Rattle.pa_buckets.specs.Bands.{limit_of}
use Rattle.pa_trace.specs.declared.script.Line.{Line}
use Rattle.pa_trace.specs.declared.script.Rules.{Rules}
use Rattle.pa_record.specs.declared.numbered.Numbered.{Numbered}
use Rattle.pa_record.specs.declared.pool.PoolEntry.{PoolEntry}
use Rattle.pa_record.specs.declared.report.ReportLine.{ReportLine}
use Rattle.pa_record.specs.declared.report.Tally.{Tally}
use Rattle.pa_record.specs.declared.root.RootEntry.{RootEntry}
use Rattle.pa_record.specs.declared.root.RootAct.TheVariants.{Map}
use Rattle.pa_record.specs.Root.{Root, new_root}
use Rattle.pa_record.specs.Sound.{IsBornBelow}
use Rattle.pa_record.specs.Census.{census}
use Rattle.pa_record.specs.RunText.{NamesSlots}
use Rattle.pa_trace.specs.Limits.{register_count, cell_count, most_partitions}
use Rattle.pa_rules.specs.declared.played.Played.{Played}
use Rattle.pa_rules.specs.Registers.{Reg}
use Rattle.pa_rules.specs.Nexts.{named}
use Rattle.pa_rules.specs.Played.{entry_of, marks_of}
use Rattle.pa_rules.specs.Roots.{Journals, journal_at}
use Rattle.pa_rules.specs.Caches.{Caches, IsOfClass}
use Rattle.pa_rules.specs.Lists.{cache_place}
use Rattle.pa_rules.specs.Sizes.{HasClass, is_class, class_total}
use Rattle.pa_rules.specs.Report.{cached_slots, cached_bytes, census_of, phases_of}
use Rattle.pa_rules.specs.Legal.{phases_in}
use Rattle.pa_legal.specs.Numbers.{moves_of, at_end}
use Rattle.pa_slot.specs.Kinds.{issues, frees, enters, leaves}
use Rattle.pa_legal.specs.Tallies.{AreHomes, IsLeft}
use Rattle.pa_heap_effects.specs.Deeds.{root_at, IsPlacedTo}
use Rattle.pa_heap_effects.specs.Pooled.{pool_at, IsPooledTo}
use Rattle.pa_heap_effects.specs.Onward.{GoesOn}
use Rattle.pa_slot_effects.specs.Shown.{Shown}
use Rattle.pa_slot_effects.specs.Known.{IsToldTo}
use Rattle.pa_rules.specs.declared.register.Register.{Register}
use Rattle.pa_rules.specs.declared.register.Register.TheVariants.{Empty}
use Rattle.pa_player.specs.declared.table.Slot.{Slot}
use Rattle.pa_player.specs.Player.{Player}
use Rattle.pa_player.specs.Tallies.{tally_at}
use Rattle.pa_player.specs.Tables.{no_slot, slot_at, named_at, held_of as told_of, IsIn, AreNamed, NoneNamed, handle_in}
use Rattle.pa_record.specs.Spans.{name_of}

-- ---- what the tables show

-- the slot of that name
abbrev pub slot_of_name : List Slot → SlotName → Slot
slot_of_name [] s = no_slot
slot_of_name (x ∷ xs) s = if same_slot (name_of x.title) s then x else slot_of_name xs s

-- the count word of the slot of that name, and 0 if there is none
abbrev pub word_in : List Slot → SlotName → ℕ
word_in slots s = (slot_of_name slots s).word.0

-- the content of the slot of that name, and 0 if there is none
abbrev pub content_in : List Slot → SlotName → ℕ
content_in slots s = (slot_of_name slots s).content

-- how many bytes of the slot of that name are usable: all but 8, and 0 if there is no such slot
abbrev pub usable_in : List Slot → SlotName → ℕ
usable_in slots s = (slot_of_name slots s).title.len - 8

-- the partition of the slot of that name, and 0 if there is none
abbrev pub home_in : List Slot → SlotName → ℕ
home_in slots s = (slot_of_name slots s).partition

-- the length in bytes of the slot of that name, and 0 if there is none
abbrev pub len_in : List Slot → SlotName → ℕ
len_in slots s = (slot_of_name slots s).title.len

-- a handle as a register, with the name of its slot
abbrev pub reg_of : List Slot → Register ℕ → Reg
reg_of slots r = named (named_at slots) r

-- the handle in register r of thread t, and an empty one past the end
abbrev pub register_at : Player → ℕ → ℕ → Register ℕ
register_at p t r = slice_index_or (slice_index_or p.registers t []) r Empty

-- the handle in cell k, and an empty one past the end
abbrev pub cell_at : Player → ℕ → Register ℕ
cell_at p k = slice_index_or p.cells k Empty

-- the rules by which the player plays: those of its version, with its first plain partition
abbrev pub rules_at : Player → Rules
rules_at p = record { version = p.version; plain_from = p.plain_from }

-- what the player shows of its rules, registers, cells, histories and slots, by the names of slots
abbrev pub shown : Player → Shown
shown p =
    record {
      rules = rules_at p;
      regs = λ t r. reg_of p.table (register_at p t r);
      held = λ k. told_of p.table (cell_at p k);
      cells = λ k. slice_index_or p.told.histories k [];
      word = word_in p.table;
      content = content_in p.table;
      usable = usable_in p.table;
      plain = λ s. nat_le p.plain_from (home_in p.table s);
    }

-- the journals by their partitions
abbrev pub journals : Player → Journals
journals p = journal_at p.told.journals

-- the name and the number of the slot at an index
abbrev pub numbered_at : List Slot → ℕ → Numbered
numbered_at slots i = record { slot = named_at slots i; number = number_of (slot_at slots i).word.0 }

-- the index of a thread's list, by its partition and class, which is one of the version's
abbrev pub list_place : ℕ → ℕ → ℕ → ℕ → ℕ → ℕ
list_place version partitions t q class = cache_place version (t * partitions + q) class

-- the indices of the slots in a thread's list, by its partition and class
abbrev pub list_at : Player → ℕ → ℕ → ℕ → List ℕ
list_at p t q class = slice_index_or p.caches (list_place p.version p.partitions t q class) []

-- the lists of the threads, as slots with their numbers, which are empty for partitions and classes that the player doesn't have
abbrev pub caches : Player → Caches
caches p t q class = if nat_lt q p.partitions && is_class p.version class then map (numbered_at p.table) (list_at p t q class) else []

-- the root of partition q, and a new one past the last
abbrev pub root_of : Player → ℕ → Root
root_of p q = slice_index_or p.heap.roots q new_root

-- ---- what is known

-- A slot of the table is one that a journal let out, of its partition, with its class, which is one of the version's,
-- or as a direct map, and of its length.
abbrev pub IsLetOut : ℕ → Journals → Slot → Option ℕ → Type 0
IsLetOut version roots x (Some class) =
    HasClass version class × IsOfClass roots (name_of x.title) x.partition class × (x.title.len ≡ slot_of class)
IsLetOut version roots x None =
    (e : RootEntry) × (asked : ℕ) × Contains (roots x.partition) e × (e.act ≡ Map asked (name_of x.title) x.title.len)

-- A direct map that is in use is mapped.
abbrev pub IsMappedAs : Root → Slot → Option ℕ → Type 0
IsMappedAs r x (Some class) = Unit {0}
IsMappedAs r x None = 0 < held_of x.word.0 + refs_of x.word.0 → Contains r.maps x.title

-- The table has the slots that ever left a root.
--   let_out, mapped: what each is
--   at: a root has it at the number of its word
--   born: by an entry of the pool that exists
--   apart: no two have one name
--   others: a slot that isn't in the table never moved
pub record AreAllSlots (version partitions : ℕ) (slots : List Slot) (pools : List PoolEntry) (roots : Journals)
    (root : ℕ → Root) : Type 0 where
  pub among : (i : ℕ) → i < length slots → (slot_at slots i).partition < partitions
  pub let_out : (i : ℕ) → i < length slots → IsLetOut version roots (slot_at slots i) (slot_at slots i).class
  pub mapped : (i : ℕ) → i < length slots → IsMappedAs (root (slot_at slots i).partition) (slot_at slots i) (slot_at slots i).class
  pub at : (i n : ℕ) → i < length slots
      → at_end (Some 0) (moves_of (roots (slot_at slots i).partition) (named_at slots i)) ≡ Some n → n ≡ number_of (slot_at slots i).word.0
  pub born : (i : ℕ) → i < length slots → (named_at slots i).born < length pools
  pub apart : AreNamed slots
  pub others : (q : ℕ) (s : SlotName) → NoneNamed slots s → moves_of (roots q) s ≡ []

-- The tables have their shapes, and all that registers, cells and lists have is in the table of slots. Each cell has a handle or none,
-- and each list has slots of its partition and class, and no more than its limit.
pub record AreShaped (partitions threads : ℕ) (p : Player) : Type 0 where
  pub many : p.partitions ≡ partitions
  pub four : partitions ≤ most_partitions
  pub registers : length p.registers ≡ threads
  pub sixty_four : (t : ℕ) → t < threads → length (slice_index_or p.registers t []) ≡ register_count
  pub cells : length p.cells ≡ cell_count
  pub histories : length p.told.histories ≡ cell_count
  pub journals : length p.told.journals ≡ partitions
  pub roots : length p.heap.roots ≡ partitions
  pub lists : length p.caches ≡ threads * partitions * class_total p.version
  pub held : (t r : ℕ) → IsIn (length p.table) (register_at p t r)
  pub celled : (k : ℕ) → IsIn (length p.table) (cell_at p k)
  pub handles : (k : ℕ) → handle_in (cell_at p k) ≡ cell_at p k
  pub listed : (t q class i : ℕ) → t < threads → q < partitions → HasClass p.version class → Contains (list_at p t q class) i
      → (i < length p.table) × ((slot_at p.table i).partition ≡ q) × ((slot_at p.table i).class ≡ Some class)
  pub short : (t q class : ℕ) → t < threads → q < partitions → HasClass p.version class → length (list_at p t q class) ≤ limit_of class
  pub live : length p.live.of ≡ most_partitions
  pub quarantined : length p.quarantined.of ≡ most_partitions
  pub cached : length p.cached.of ≡ most_partitions

-- No number exceeds its type: each line adds at most a fixed amount.
pub record AreBounded (line : ℕ) (p : Player) : Type 0 where
  pub few : line ≤ 65538
  pub slots : length p.table ≤ 8 * line
  pub pools : length p.told.pools ≤ line
  pub journals : (q : ℕ) → length (journals p q) ≤ 512 * line
  pub histories : (k : ℕ) → length (slice_index_or p.told.histories k []) ≤ line
  pub turns : (q : ℕ) → (root_of p q).turn ≤ 32768 * line
  pub born : (q : ℕ) → IsBornBelow p.heap.pool.entries (root_of p q)

-- the tallies of a partition are those of the records so far, whose slots have these partitions and lengths
pub record AreTallied (threads : ℕ) (slots : List Slot) (ps : List Played) (all : Caches) (live quarantined cached : Tally)
    (q : ℕ) : Type 0 where
  pub is_live : IsLeft issues frees (home_in slots) (len_in slots) q (marks_of ps) live
  pub is_quarantined : IsLeft enters leaves (home_in slots) (len_in slots) q (marks_of ps) quarantined
  pub many : cached.slots ≡ cached_slots all q threads
  pub bytes : cached.bytes ≡ cached_bytes all q threads

-- A line of the report was made at the end of its phase, which is before phase `phase`: of the records then, from which the
-- run went on to line n.
--   home, size: the partition and the length of each slot that was stepped on by then
pub record IsToldLine (partitions threads n phase : ℕ) (ps : List Played) (pools : List PoolEntry) (roots : Journals)
    (l : ReportLine) : Type 0 where
  pub line : ℕ
  pub early : List Played
  pub entries : List PoolEntry
  pub before : Journals
  pub all : Caches
  pub home : SlotName → ℕ
  pub size : SlotName → ℕ
  pub passed : line ≤ n
  pub ended : l.phase < phase
  pub placed : IsPlacedTo partitions line early entries before all
  pub slots : Slots (marks_of early)
  pub goes_on : GoesOn line early ps entries pools before roots
  pub within : (x : Played) → Contains early x → x.phase ≤ l.phase
  pub later : (x : Played) → Contains ps x → line ≤ x.line → l.phase < x.phase
  pub homes : AreHomes before home size (marks_of early)
  pub live : IsLeft issues frees home size l.partition (marks_of early) l.live
  pub quarantined : IsLeft enters leaves home size l.partition (marks_of early) l.quarantined
  pub many : l.cached.slots ≡ cached_slots all l.partition threads
  pub bytes : l.cached.bytes ≡ cached_bytes all l.partition threads
  pub census : census_of l ≡ census (root_at entries before l.partition)

-- These lines of a trace were played: the records are these, and the tables are what they left.
pub record IsPlaying (region partitions threads : ℕ) (ls : List Line) (p : Player) : Type 0 where
  pub ps : List Played
  pub told : IsToldTo threads ls ps (shown p)
  pub entries : map entry_of ps ≡ p.told.entries
  pub line : p.told.line ≡ length ls + 2
  pub phase : p.phase ≡ phases_in ls
  pub placed : IsPlacedTo partitions (length ls + 2) ps p.told.pools (journals p) (caches p)
  pub pooled : IsPooledTo region (length ls + 2) p.told.pools (journals p)
  pub roots : (q : ℕ) → root_of p q ≡ root_at p.told.pools (journals p) q
  pub plan : p.heap.pool ≡ pool_at region p.told.pools
  pub slots : AreAllSlots p.version partitions p.table p.told.pools (journals p) (root_of p)
  pub marked : AreHomes (journals p) (home_in p.table) (len_in p.table) (marks_of ps)
  pub shaped : AreShaped partitions threads p
  pub bounded : AreBounded (length ls + 2) p
  pub tallied : (q : ℕ) → q < partitions
      → AreTallied threads p.table ps (caches p) (tally_at p.live.of q) (tally_at p.quarantined.of q) (tally_at p.cached.of q) q
  pub reported : All (IsToldLine partitions threads (length ls + 2) p.phase ps p.told.pools (journals p)) p.told.report
  pub places : map (λ (l : ReportLine). (l.phase, l.partition)) p.told.report ≡ phases_of partitions 1 (p.phase - 1)
  pub printable : (q : ℕ) (e : RootEntry) → Contains (journals p q) e → NamesSlots e.act
