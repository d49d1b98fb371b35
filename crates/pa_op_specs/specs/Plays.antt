-- What an op of a worker says of its own seat: its record, the log segment of its thread's log, and what these are in any run.
use Rattle.std.specs.Prelude.{◌≡◌, ℕ, ◌+◌, ◌<◌, ◌≤◌, ◌==◌, List, [], ◌∷◌, ◌++◌, if◌then◌else◌, Some, Contains}
use Rattle.pa_slot.specs.declared.title.Title.{Title}
use Rattle.pa_slot.specs.Titles.{IsWellFormed}
use Rattle.pa_slot.specs.declared.word.Step.{Step}
use Rattle.pa_slot.specs.Count.{number_of}
use Rattle.pa_slot.specs.Run.{Mark}
use Rattle.pa_trace.specs.declared.script.Op.{Op}
use Rattle.pa_record.specs.declared.entry.Answer.{Answer}
use Rattle.pa_record.specs.declared.root.RootEntry.{RootEntry}
use Rattle.pa_record.specs.Numbers.{root_numbers}
use Rattle.pa_trace.specs.Limits.{most_partitions}
use Rattle.pa_region.specs.declared.view.Entry.TheVariants.{Counted, Looked}
use Rattle.pa_region.specs.declared.view.Made.{Made}
use Rattle.pa_region.specs.declared.view.View.{View}
use Rattle.pa_region.specs.Views.{free_of, seen_among, seen_of, stake_of}
use Rattle.pa_region.specs.Lists.{list_of, entered_in, IsBeginning}
use Rattle.pa_region.specs.Takes.{log_of}
use Rattle.pa_rules.specs.Played.{entry_of, mark_of}
use Rattle.pa_rules.specs.Registers.{Row}
use Rattle.pa_rules.specs.Caches.{CacheRow}
use Rattle.pa_rules.specs.Roots.{MakesEntry}
use Rattle.pa_rules.specs.Report.{HasSize}
use Rattle.pa_legal.specs.Flows.{UnmapsNext}
use Rattle.pa_logs.specs.Told.{ToldRecord}
use Rattle.pa_logs.specs.Touches.{IsTold}
use Rattle.pa_logs.specs.Said.{ReadsIts}
use Rattle.pa_step_order.specs.Signs.{HasItsSigns}
use Rattle.pa_op_specs.specs.Stocks.{StockValue, regs_of, titles_in, listed_in, rules_at}
use Rattle.pa_op_specs.specs.Counts.{CountsBy}
use Rattle.pa_op_specs.specs.Workers.{WorkerValue}
use Rattle.pa_op_specs.specs.Booking.{BooksBy}
use Rattle.pa_op_specs.specs.Outcomes.{Outcome, FitsRun, row_facts}
use Rattle.pa_op_specs.specs.Entering.{EntersOwn, EntersAtHome}
use Rattle.pa_op_specs.specs.Owing.{OwesOf, AddsNothing, KeepsWords}

-- What the seat had seen before the op, and after it. What the record hands on isn't more than it has seen then, and for an
-- exchange it is what its entry carries.
--   steps, looks: none found less than was seen before, and what it left is handed on
--   grows: what was seen is handed on
pub record HasSeenFor (v after : View) (x : ToldRecord) : Type 0 where
  pub saw : (t : Title) → x.saw t ≡ seen_of v t
  pub knows : (t : Title) → x.gives t ≤ seen_of after t
  pub carries : (m : Made) (t : Title) → Contains (entered_in 5 x.stretch) m → x.gives t ≡ seen_among t m.seen
  pub steps : (t : Title) (step : Step) (found value : ℕ) → Contains x.stretch (Counted t step found value) →
      (x.saw t ≤ number_of found) × (number_of found + 1 ≤ x.gives t)
  pub looks : (t : Title) (found : ℕ) → Contains x.stretch (Looked t found) → (x.saw t ≤ number_of found) × (number_of found ≤ x.gives t)
  pub grows : (t : Title) → x.saw t ≤ x.gives t

-- What the record is in a run that became this.
--   told: its log segment is what its answer requires
--   row: its answer is the one that its thread's registers require, and leads to the next
--   reader: a read was made through its register, and a copy that wouldn't be counted is of a slot whose issue its seat had seen
--   unmaps: a direct map that it gives back is named at the number that its step left
--   makes: what it entered in a journal its op makes
--   home: a slot that it stepped on or looked at is of some partition, and has its length
pub record AnswersIn (o : Outcome) (before after : StockValue) (x : ToldRecord) : Type 0 where
  pub told : IsTold o.sizes x
  pub row : Row (row_facts o) x.played.op (regs_of before.registers) x.played.answer (regs_of after.registers)
  pub reader : ReadsIts o.sizes (regs_of before.registers) x.played.op x
  pub unmaps : UnmapsNext o.roots x.played
  pub makes : (p : ℕ) (m : Made) (e : RootEntry) → p < most_partitions → Contains (entered_in p x.stretch) m → m.numbers ≡ root_numbers e →
      MakesEntry o.pools p e.act x.played
  pub home : (m : Mark) → mark_of x.played ≡ Some m → (p : ℕ) × HasSize o.roots p m.slot (o.sizes m.slot)

-- A title that the seat has free and that is on no list.
pub record IsApart (t : Title) (s : StockValue) : Type 0 where
  pub free : 0 < free_of s.view t
  pub off : (p class : ℕ) → Contains (titles_in s.caches p class) t → ⊥
  pub well : (words : ℕ) × IsWellFormed words t

-- a title that was free and on no list is so still, at the number that the seat had seen
abbrev pub KeepsApart : (before after : StockValue) → Type 0
KeepsApart before after = (t : Title) → IsApart t before → IsApart t after × (seen_of after.view t ≡ seen_of before.view t)

-- What an op did with the worker's thread state but for its lists, and the annotated record that it is.
--   thread, same, version: the record is of the worker's thread, which goes on by the same rules
--   stakes: it has the same stakes
--   logs: the log of its thread's stake has one more log segment, and no other log does
--   lists: it forgets nothing of any list
--   seen, enters: what its seat had seen, and what it entered
--   homes: nothing in the list of a partition past the run's, or its seat had seen an entry there before
--   owes: its log segment owes to the totals words what its step does, and no more
--   words: a refusal changes no word that was known before
--   answers: in every run that fits, all is as the rules require
pub record Does (before after : StockValue) (x : ToldRecord) : Type 0 where
  pub thread : x.played.thread ≡ before.thread
  pub same : (after.thread ≡ before.thread) × (after.partitions ≡ before.partitions) × (after.plain_from ≡ before.plain_from)
  pub version : after.caches.version ≡ before.caches.version
  pub stakes : (k : ℕ) → stake_of after.view k ≡ stake_of before.view k
  pub logs : (k : ℕ) → log_of k after.view ≡ log_of k before.view ++ (if k == before.thread then x.stretch else [])
  pub lists : (k : ℕ) → IsBeginning (list_of k before.view) (list_of k after.view)
  pub seen : HasSeenFor before.view after.view x
  pub enters : EntersOwn (λ k. list_of k after.view) x
  pub homes : EntersAtHome before x
  pub owes : OwesOf before.registers x.played.op x.played.answer x.stretch
  pub words : KeepsWords x.played.answer before.view after.view
  pub answers : (o : Outcome) → FitsRun o before.partitions after.view x → AnswersIn o before after x

-- What an op did with the worker's lists.
--   apart: what is free and on no list stays so
--   signs: in every run that fits its log segment has its counted step and its entries in their order, partition by partition
--   row: in every run that fits, what the record entered is what its thread's lists require, and leads to the next lists
pub record LeadsLists (before after : StockValue) (x : ToldRecord) : Type 0 where
  pub apart : KeepsApart before after
  pub signs : (o : Outcome) → FitsRun o before.partitions after.view x → HasItsSigns o.partitions o.roots x
  pub row : (o : Outcome) → FitsRun o before.partitions after.view x →
      CacheRow o.partitions o.roots x.played x.played.answer (listed_in before) (listed_in after)

-- What an op on this line does, with this answer, in whatever phase the line is.
-- An op adds nothing to the totals words: a settling does.
abbrev pub DoesOp : (line : ℕ) → Op → Answer → (before after : StockValue) → Type 0
DoesOp line op answer before after =
    (phase : ℕ) → (x : ToldRecord)
    × (x.played ≡ record { line = line; thread = before.thread; phase = phase; rules = rules_at before; op = op; answer = answer })
    × Does before after x × LeadsLists before after x × AddsNothing x.stretch

-- An op was played. The worker has its record besides, and all else but its lists is what the op did with its thread state. In every
-- run that fits its counts grew by the record's step, and it booked the bytes of that to the totals words.
pub record PlaysOne (before after : WorkerValue) (x : ToldRecord) : Type 0 where
  pub records : after.records ≡ before.records ++ entry_of x.played ∷ []
  pub does : Does before.stock after.stock x
  pub counts : (o : Outcome) → FitsRun o before.stock.partitions after.stock.view x →
      CountsBy o.homes (x.played ∷ []) before.counts after.counts
  pub bytes : (o : Outcome) → FitsRun o before.stock.partitions after.stock.view x →
      BooksBy o.homes o.sizes (x.played ∷ []) before after

-- A worker plays an op on this line, with this answer, in whatever phase the line is.
abbrev pub PlaysOp : (line : ℕ) → Op → Answer → (before after : WorkerValue) → Type 0
PlaysOp line op answer before after =
    (phase : ℕ) → (x : ToldRecord)
    × (x.played ≡ record {
      line = line;
      thread = before.stock.thread;
      phase = phase;
      rules = rules_at before.stock;
      op = op;
      answer = answer;
    })
    × PlaysOne before after x × LeadsLists before.stock after.stock x

-- these ops were played, one after the other, whatever they did with the worker's lists
abbrev pub PlaysSome : WorkerValue → List ToldRecord → WorkerValue → Type 0
PlaysSome w [] after = after ≡ w
PlaysSome w (x ∷ xs) after = (next : WorkerValue) × PlaysOne w next x × PlaysSome next xs after

-- these ops were played, one after the other, and each led the worker's lists
abbrev pub PlaysAll : WorkerValue → List ToldRecord → WorkerValue → Type 0
PlaysAll w [] after = after ≡ w
PlaysAll w (x ∷ xs) after = (next : WorkerValue) × PlaysOne w next x × LeadsLists w.stock next.stock x × PlaysAll next xs after
