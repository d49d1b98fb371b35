-- What each layer says of a run that was played in a region, all at once. From this it follows that the run is legal, and that the
-- closed region holds it. Each layer has to say what only it can say, and nothing is required twice. What is said of the threads'
-- lists stands beside the rest, which speaks of no list: so it holds too of runs in which slots wait elsewhere.
use Rattle.std.specs.Prelude.{◌≡◌, ℕ, nat_le, ◌+◌, ◌-◌, ◌<◌, ◌≤◌, List, [], ◌∷◌, Bool, true, map, filter, length, Contains}
use Rattle.std.specs.List.{AllByRecursion as Each}
use Rattle.pa_slot.specs.declared.title.Title.{Title}
use Rattle.pa_slot.specs.declared.word.SlotName.{SlotName}
use Rattle.pa_slot.specs.declared.word.Step.{Step}
use Rattle.pa_slot.specs.Count.{number_of}
use Rattle.pa_trace.specs.Rules.{rules_of}
use Rattle.pa_region.specs.declared.view.Deeds.{Deeds}
use Rattle.pa_region.specs.declared.view.Entry.TheVariants.{Counted, Looked, Read}
use Rattle.pa_region.specs.declared.view.Made.{Made}
use Rattle.pa_region.specs.declared.view.Stake.{Stake}
use Rattle.pa_region.specs.declared.view.View.{View}
use Rattle.pa_region.specs.Views.{HasEveryStake, free_of, seen_of, seen_among}
use Rattle.pa_region.specs.Lists.{list_of, entered_in, IsBeginning}
use Rattle.pa_region.specs.Aware.{IsAware}
use Rattle.pa_region.specs.Waiting.{unclean_of}
use Rattle.pa_region.specs.Ends.{IsEnd}
use Rattle.pa_trace.specs.declared.script.Trace.{Trace}
use Rattle.pa_trace.specs.declared.script.Op.{Op}
use Rattle.pa_trace.specs.declared.script.Op.TheVariants as ops
use Rattle.pa_trace.specs.Limits.{IsWithinLimits, most_partitions}
use Rattle.pa_record.specs.declared.census.Census.{Census}
use Rattle.pa_record.specs.declared.entry.Answer.TheVariants.{Full, Uncounted}
use Rattle.pa_record.specs.declared.history.Held.TheVariants.{Nothing}
use Rattle.pa_record.specs.declared.pool.PoolEntry.{PoolEntry}
use Rattle.pa_record.specs.declared.report.ReportLine.{ReportLine}
use Rattle.pa_record.specs.declared.root.RootEntry.{RootEntry}
use Rattle.pa_record.specs.Census.{census}
use Rattle.pa_record.specs.Numbers.{root_numbers}
use Rattle.pa_record.specs.Pool.{IsPool}
use Rattle.pa_record.specs.Root.{new_root, root_replayed, IsJournal}
use Rattle.pa_record.specs.Sound.{IsMade}
use Rattle.pa_record.specs.Spans.{name_of}
use Rattle.pa_record.specs.Laws.{IsNameOut}
use Rattle.pa_rules.specs.declared.register.Register.TheVariants.{Empty, Own, Ref, Freed, Cleared}
use Rattle.pa_rules.specs.Played.{AreDue}
use Rattle.pa_rules.specs.Registers.{Reg, Regs, Facts, Row, no_regs}
use Rattle.pa_rules.specs.Cells.{IsChain}
use Rattle.pa_rules.specs.Caches.{Caches, no_caches}
use Rattle.pa_rules.specs.Roots.{MakesEntry}
use Rattle.pa_rules.specs.Report.{cached_slots, cached_bytes, census_of, phases_of, until}
use Rattle.pa_rules.specs.Sizes.{usable_of}
use Rattle.pa_rules.specs.Told.{Told, records_of}
use Rattle.pa_rules.specs.Held.{IsHeldIn}
use Rattle.pa_rules.specs.Legal.{phases_in, IsLegalTold}
use Rattle.pa_legal.specs.Flows.{SlotsFlow, UnmapsNext}
use Rattle.pa_legal.specs.Known.{HasClauses}
use Rattle.pa_legal.specs.Numbers.{AreNumbered}
use Rattle.pa_slot.specs.Kinds.{issues, frees, enters, leaves}
use Rattle.pa_logs.specs.Told.{ToldRecord, played_in, is_of_thread, log_of, told_until}
use Rattle.pa_logs.specs.Touches.{title_of, AreTold}
use Rattle.pa_logs.specs.Listed.{IsJournalOf, IsPoolList}
use Rattle.pa_logs.specs.Seats.{AreOfLines}
use Rattle.pa_logs.specs.Viewed.{IsExchanged}
use Rattle.pa_logs.specs.Swaps.{SwapMade, place_of, AreSwaps}
use Rattle.pa_logs.specs.Rows.{records_by}
use Rattle.pa_logs.specs.Indices.{IsFullAt, IsSwapAt, AreAsked}
use Rattle.pa_logs.specs.Lengths.{lengths_by}
use Rattle.pa_logs.specs.Homes.{homes_by}
use Rattle.pa_logs.specs.Reported.{IsLeftBy, CacheLeadsTo, IsLineShared}
use Rattle.pa_logs.specs.Standing.{OnlyUnmapsUncut, OutIsFree, ListedIsFree}
use Rattle.pa_logs.specs.Whole.{IsPlayedOut}

-- the length and the partition of each slot, as the journals of the run say them
abbrev pub sizes_in : Trace → Told → SlotName → ℕ
sizes_in t r = lengths_by t.partitions r.pools r.roots

-- the partition of each slot, as the run's journals say it
abbrev pub homes_in : Trace → Told → SlotName → ℕ
homes_in t r = homes_by t.partitions r.pools r.roots

-- whether each slot is in a plain partition, as the run's journals say it
abbrev pub plains_in : Trace → Told → SlotName → Bool
plains_in t r s = nat_le (rules_of t).plain_from (homes_in t r s)

-- ---- the runner

-- A seat has every stake, and the log of each is that of its thread's records.
pub record HasLogs (v : View) (ts : List ToldRecord) : Type 0 where
  pub aware : IsAware v
  pub every : HasEveryStake v
  pub logs : Each (λ (s : Stake). s.log ≡ log_of s.number ts) v.stakes

-- At the end of a phase a seat has every stake, with the logs of the records so far. What it has seen of each list is a beginning of
-- what the seat at the end has.
pub record EndsPhase (n : ℕ) (v last : View) (ts : List ToldRecord) : Type 0 where
  pub has : HasLogs v (told_until n ts)
  pub begins : (q : ℕ) → q < 6 → IsBeginning (list_of q v) (list_of q last)

-- What the runner ensures. `seats` are those at the phases' ends.
--   limits, due, records: the trace is within its limits, and the records are its lines, each with its log segment
--   has, ends: the seat at the end, and those at each phase's end, have every stake
--   heard: the seat at the end has seen what each record hands on
--   phases: a record's seat has seen what those of the phases before hand on
--   places: the report has one line for each phase and partition, in order
pub record RunnerSays (t : Trace) (r : Told) (v : View) (ts : List ToldRecord) (seats : ℕ → View) : Type 0 where
  pub limits : IsWithinLimits t
  pub due : AreDue (rules_of t) t.lines r.entries
  pub records : played_in ts ≡ records_of t r
  pub has : HasLogs v ts
  pub ends : (n : ℕ) → 1 ≤ n → n ≤ phases_in t.lines → EndsPhase n (seats n) v ts
  pub heard : (x : ToldRecord) (u : Title) → Contains ts x → x.gives u ≤ seen_of v u
  pub phases : (x y : ToldRecord) (u : Title) → Contains ts x → Contains ts y → x.played.phase < y.played.phase → x.gives u ≤ y.saw u
  pub places : map (λ (l : ReportLine). (l.phase, l.partition)) r.report ≡ phases_of t.partitions 1 (phases_in t.lines)

-- ---- the pool, the roots and the cells

-- What the pool's type keeps, and its calls ensure.
--   list, fits: its list in numbers is its entries, and each take and give fits the pool after those before it
--   asked: a record asked it at most once, and the journal entry that it then made names the pool's
pub record PoolTells (t : Trace) (r : Told) (v : View) (ts : List ToldRecord) : Type 0 where
  pub list : IsPoolList (list_of 4 v) r.pools
  pub fits : IsPool t.region r.pools
  pub asked : AreAsked (list_of 4 v) ts

-- What the roots' types keep, and their calls ensure.
--   lists, journals: each list in numbers is its journal, which replays with the pool's entries
--   none_past: a partition past the trace's has no journal
--   makes: what a record entered in a journal is an entry that its op makes
--   refused: a record that is full names its entry by the index
--   numbers: a root gives a slot out at the number at which it has it
--   unmaps: a direct map that goes back is named at the number that the step which returned it left
pub record RootsTell (t : Trace) (r : Told) (v : View) (ts : List ToldRecord) : Type 0 where
  pub lists : (p : ℕ) → p < most_partitions → IsJournalOf (list_of p v) (r.roots p)
  pub journals : (p : ℕ) → IsJournal r.pools (r.roots p)
  pub none_past : (p : ℕ) → t.partitions ≤ p → r.roots p ≡ []
  pub makes : (x : ToldRecord) (p : ℕ) (m : Made) (e : RootEntry) → p < most_partitions → Contains ts x →
      Contains (entered_in p x.stretch) m →
      m.numbers ≡ root_numbers e → MakesEntry r.pools p e.act x.played
  pub refused : (x : ToldRecord) (j reg p size : ℕ) → Contains ts x → x.played.answer ≡ Full j → x.played.op ≡ ops.Alloc reg p size →
      IsFullAt (list_of p v) x j
  pub numbers : AreNumbered r.roots
  pub unmaps : (x : ToldRecord) → Contains ts x → UnmapsNext r.roots x.played

-- What the cells' type keeps, and their calls ensure.
--   swaps_are, chain: the list's entries are the exchanges, and each of these found what the one before gave
--   one_each, only: a record entered at most one, and it was an exchange
--   answers: an exchange's answer is its place among those of its cell
--   gives: a record that entered one hands on what the entry carries
pub record CellsTell (r : Told) (v : View) (ts : List ToldRecord) (swaps : List SwapMade) : Type 0 where
  pub swaps_are : AreSwaps (list_of 5 v) r.cells swaps
  pub chain : (k : ℕ) → IsChain Nothing (r.cells k)
  pub one_each : (x : ToldRecord) → Contains ts x → length (entered_in 5 x.stretch) ≤ 1
  pub only : (x : ToldRecord) (m : Made) → Contains ts x → Contains (entered_in 5 x.stretch) m → IsExchanged x.played
  pub answers : (x : ToldRecord) (k reg : ℕ) → Contains ts x → x.played.op ≡ ops.Swap k reg → IsSwapAt swaps x k
  pub gives : (x : ToldRecord) (m : Made) (u : Title) → Contains ts x → Contains (entered_in 5 x.stretch) m →
      x.gives u ≡ seen_among u m.seen

-- ---- the heap: the ops of workers

-- the register has a handle of slot s
abbrev pub HoldsHandle : Reg → SlotName → Type 0
HoldsHandle Empty s = ⊥
HoldsHandle (Own u) s = u ≡ s
HoldsHandle (Ref u) s = u ≡ s
HoldsHandle Freed s = ⊥
HoldsHandle Cleared s = ⊥

-- A read through this register. If that has a handle, the seat had seen the issue of its slot, and if it has an Own, the log says
-- that the read was an owner's.
pub record IsReadThrough (sizes : SlotName → ℕ) (reg : Reg) (x : ToldRecord) : Type 0 where
  pub issued : (s : SlotName) → HoldsHandle reg s → 1 ≤ x.saw (title_of sizes s)
  pub owned : (s : SlotName) (t : Title) (place value : ℕ) (since : Deeds) (owner unclean : Bool) → reg ≡ Own s →
      Contains x.stretch (Read t place value since owner unclean) → owner ≡ true

-- A read goes through the register that its op names. If a copy of an Own wouldn't be counted, the seat had seen the issue of its slot.
-- Of other ops nothing is required.
abbrev pub ReadsIts : (SlotName → ℕ) → Regs → Op → ToldRecord → Type 0
ReadsIts sizes regs (ops.Read reg place) x = IsReadThrough sizes (regs reg) x
ReadsIts sizes regs (ops.Copy from to) x =
    (s : SlotName) → regs from ≡ Own s → x.played.answer ≡ Uncounted → 1 ≤ x.saw (title_of sizes s)
ReadsIts sizes regs op x = Unit {0}

-- record by record of one thread, each answer is the one that its registers require, and so are reads
abbrev pub HasToldRows : (SlotName → ℕ) → Facts → Regs → List ToldRecord → Type 0
HasToldRows sizes facts regs [] = Unit {0}
HasToldRows sizes facts regs (x ∷ xs) =
    (next : Regs) × Row facts x.played.op regs x.played.answer next × ReadsIts sizes regs x.played.op x × HasToldRows sizes facts next xs

-- what the transitions require besides registers: the usable bytes of a slot are all but 8 of its length, and a slot is plain where its
-- partition is
abbrev pub facts_in : Trace → Told → Facts
facts_in t r = record {
  usable_of = usable_of t.version;
  usable_at = λ s. sizes_in t r s - 8;
  plain_at = plains_in t r;
  cells = r.cells;
}

-- What seats had seen, each by its own. No step or look found less, what it left is handed on, and what was seen stays seen. A
-- record's seat has seen what its thread's records before hand on.
pub record HaveSeen (ts : List ToldRecord) : Type 0 where
  pub steps : (x : ToldRecord) (t : Title) (step : Step) (found value : ℕ) → Contains ts x →
      Contains x.stretch (Counted t step found value) → (x.saw t ≤ number_of found) × (number_of found + 1 ≤ x.gives t)
  pub looks : (x : ToldRecord) (t : Title) (found : ℕ) → Contains ts x → Contains x.stretch (Looked t found) →
      (x.saw t ≤ number_of found) × (number_of found ≤ x.gives t)
  pub grows : (x : ToldRecord) (t : Title) → Contains ts x → x.saw t ≤ x.gives t
  pub thread : (x y : ToldRecord) (t : Title) → Contains ts x → Contains ts y → x.played.thread ≡ y.played.thread →
      x.played.line < y.played.line → x.gives t ≤ y.saw t

-- What the ops of workers ensure for their own seats.
--   told, lines: each log segment is what its answer requires, and entered only what is of its line
--   rows: the transitions of each thread's registers
--   seen: what its seat had seen
pub record HeapTells (t : Trace) (r : Told) (ts : List ToldRecord) : Type 0 where
  pub told : AreTold (sizes_in t r) ts
  pub lines : (q : ℕ) → q < 6 → AreOfLines q ts
  pub rows : (k : ℕ) → HasToldRows (sizes_in t r) (facts_in t r) (no_regs k) (filter (is_of_thread k) ts)
  pub seen : HaveSeen ts

-- ---- the report

-- The census of a root: of its journal, which this list is in numbers,
-- replayed with the pool's entries that its seat had seen, a beginning of all.
pub record IsCensusBy (list pool_list : List Made) (c : Census) : Type 0 where
  pub journal : List RootEntry
  pub journal_is : IsJournalOf list journal
  pub seen : List Made
  pub begins : IsBeginning seen pool_list
  pub pool : List PoolEntry
  pub pool_is : IsPoolList seen pool
  pub replays : IsJournal pool journal
  pub taken : c ≡ census (root_replayed pool journal new_root)

-- A line of the report, but for its cached slots, is what the workers' counts of steps and the root's census say at the end of its
-- phase, with this seat.
pub record IsLineSaid (t : Trace) (r : Told) (v : View) (ts : List ToldRecord) (seat : View) (l : ReportLine) : Type 0 where
  pub live : IsLeftBy issues frees (homes_in t r) (sizes_in t r) l.partition t.threads (until l.phase (played_in ts)) l.live
  pub quarantined :
      IsLeftBy enters leaves (homes_in t r) (sizes_in t r) l.partition t.threads (until l.phase (played_in ts)) l.quarantined
  pub root : IsCensusBy (list_of l.partition seat) (list_of 4 v) (census_of l)

-- ---- all at once

-- What all layers say of a run, but for the threads' lists.
--   seats, swaps: the seats at the phases' ends, and the exchanges
pub record LayersSay (t : Trace) (r : Told) (v : View) (ts : List ToldRecord) : Type 0 where
  pub seats : ℕ → View
  pub swaps : List SwapMade
  pub runner : RunnerSays t r v ts seats
  pub pool : PoolTells t r v ts
  pub roots : RootsTell t r v ts
  pub cells : CellsTell r v ts swaps
  pub heap : HeapTells t r ts
  pub report : (l : ReportLine) → Contains r.report l → IsLineSaid t r v ts (seats l.phase) l

-- What the ops of workers ensure for the threads' lists.
--   lists: those of all threads at the phases' ends
--   caches: they are the ones to which a thread's records lead at each phase's end
--   cached: a line of the report counts what they hold of its partition at the end of its phase
pub record ListsSay (t : Trace) (r : Told) (ts : List ToldRecord) : Type 0 where
  pub lists : ℕ → Caches
  pub caches : (n k : ℕ) → 1 ≤ n → n ≤ phases_in t.lines →
      CacheLeadsTo t.partitions r.roots (no_caches k) (records_by k (until n (played_in ts))) (lists n k)
  pub cached : (l : ReportLine) → Contains r.report l →
      (l.cached.slots ≡ cached_slots (lists l.phase) l.partition t.threads)
      × (l.cached.bytes ≡ cached_bytes (lists l.phase) l.partition t.threads)

-- What the layers ensure besides for the seat that closes the region.
--   unmaps: a title that a log segment says was uncut goes back by an entry of the same record
--   rooted: a slot that was made and is with its root is free in the seat, as the root's seat held it
--   waits: so is one that exists, is out of its root and is named by no log, as the seat of a worker held it, where it waited
--   clean: each Own of the seat is clean
pub record CloseSays (t : Trace) (r : Told) (v : View) (ts : List ToldRecord) : Type 0 where
  pub unmaps : OnlyUnmapsUncut ts
  pub rooted : (p : ℕ) (u : Title) → IsMade (root_replayed r.pools (r.roots p) new_root) u →
      (IsNameOut (root_replayed r.pools (r.roots p) new_root) (name_of u) → ⊥) → 0 < free_of v u
  pub waits : OutIsFree (sizes_in t r) r.pools r.roots v
  pub clean : unclean_of v ≡ 0

-- What follows if all layers say what they must. How slots flow follows from what is said of the threads' lists, or of lists and queues.
--   flows: how slots flow, by the threads' lists
--   played: all that must be known of the run is known
--   clauses: it has the clauses of a legal run, but those of the caches and of the report
--   lines: each line of its report is right but for its cached slots
--   legal: with the threads' lists, it is legal
--   waits: if the closing seat has the titles on the threads' lists at the end free, it has those free that are out of their roots
--   held: if the close ensures for its seat what the words are, they hold the run
pub record LayersTellAll : Type 0 where
  pub flows : (t : Trace) (r : Told) (v : View) (ts : List ToldRecord) → LayersSay t r v ts → ListsSay t r ts →
      SlotsFlow t.partitions r.roots (played_in ts)
  pub played : (t : Trace) (r : Told) (v : View) (ts : List ToldRecord) → LayersSay t r v ts →
      SlotsFlow t.partitions r.roots (played_in ts) → IsPlayedOut (sizes_in t r) (place_of (list_of 5 v)) t r v ts
  pub clauses : (t : Trace) (r : Told) (v : View) (ts : List ToldRecord) → LayersSay t r v ts →
      SlotsFlow t.partitions r.roots (played_in ts) → HasClauses t r (records_of t r)
  pub lines : (t : Trace) (r : Told) (v : View) (ts : List ToldRecord) → LayersSay t r v ts →
      SlotsFlow t.partitions r.roots (played_in ts) → (l : ReportLine) → Contains r.report l →
      IsLineShared (played_in ts) r.pools r.roots l
  pub legal : (t : Trace) (r : Told) (v : View) (ts : List ToldRecord) → LayersSay t r v ts → ListsSay t r ts → IsLegalTold t r
  pub waits : (t : Trace) (r : Told) (v : View) (ts : List ToldRecord) → LayersSay t r v ts → (lists : ListsSay t r ts) →
      ListedIsFree t.threads t.partitions (sizes_in t r) (lists.lists (phases_in t.lines)) v → OutIsFree (sizes_in t r) r.pools r.roots v
  pub held : (words : List ℕ) (t : Trace) (r : Told) (v : View) (ts : List ToldRecord) → LayersSay t r v ts →
      SlotsFlow t.partitions r.roots (played_in ts) → CloseSays t r v ts → IsEnd words v → IsHeldIn t r words
