-- A small execution, worked out by hand: one thread copies an empty register in each of two phases, and the answer is Nothing.
use Rattle.std.specs.Prelude.{ℕ, List, [], ◌∷◌, false, ◌==◌, if◌then◌else◌, Contains}
use Rattle.pa_trace.specs.declared.script.Trace.{Trace}
use Rattle.pa_trace.specs.declared.script.Line.TheVariants.{Phase, Do}
use Rattle.pa_trace.specs.declared.script.Op.TheVariants.{Copy}
use Rattle.pa_trace.specs.Rules.{first_rules}
use Rattle.pa_record.specs.declared.entry.Entry.{Entry}
use Rattle.pa_record.specs.declared.entry.Answer.TheVariants.{Nothing}
use Rattle.pa_record.specs.declared.report.ReportLine.{ReportLine}
use Rattle.pa_region.specs.declared.view.View.{View}
use Rattle.pa_region.specs.Views.{seen_of}
use Rattle.pa_region.specs.Moves.{no_deeds}
use Rattle.pa_region.specs.Start.{blank, first_view}
use Rattle.pa_rules.specs.Legal.{IsLegalTold}
use Rattle.pa_rules.specs.Told.{Told}
use Rattle.pa_logs.specs.Told.{ToldRecord}
use Rattle.pa_logs.specs.Said.{IsLineSaid, LayersSay, ListsSay}
use Rattle.pa_totals.specs.Settled.{none_owed}
use Rattle.pa_op_specs.specs.Stocks.{StockValue}
use Rattle.pa_op_specs.specs.Workers.{WorkerValue}
use Rattle.pa_execution.specs.Turns.{Beside}
use Rattle.pa_execution.specs.Courses.{Course}
use Rattle.pa_execution.specs.Merged.{told_in}
use Rattle.pa_execution.specs.Telling.{IsWholeRun}
use Rattle.pa_execution.specs.Lines.{IsLineBy, IsLineCached}

-- the trace of the small run: one super page, one partition and one thread, with a copy in each of two phases
abbrev pub small_trace : Trace
small_trace = record {
  version = 1;
  region = 1;
  partitions = 1;
  threads = 1;
  plain = 0;
  lines = Do 0 (Copy 0 1) ∷ Phase ∷ Do 0 (Copy 0 1) ∷ [];
}

-- the worker's view: it has the thread's stake, and has seen nothing
abbrev pub small_view : View
small_view = record {
  raws = [];
  frees = [];
  uncut = [];
  owns = [];
  refs = [];
  words = blank 262144;
  budget = 2;
  stakes = record { number = 0; log = [] } ∷ [];
  since = no_deeds;
  keepers = [];
  leases = record { single = []; from = [] };
  seen = [];
  seen_lists = [];
}

-- the state of thread 0: one partition, this view, no registers and no caches
abbrev pub small_stock : StockValue
small_stock = record {
  thread = 0;
  partitions = 1;
  plain_from = 1;
  view = small_view;
  registers = [];
  caches = record { version = 1; lists = [] };
}

-- the worker with these records
abbrev pub small_worker : List Entry → WorkerValue
small_worker es = record { stock = small_stock; records = es; room = 2; stopped = false; counts = []; owed = none_owed }

-- the line of the op in phase n
abbrev pub small_line : ℕ → ℕ
small_line n = if n == 1 then 2 else 4

-- the record of phase n, without its op: thread 0 got the answer Nothing
abbrev pub small_entry : ℕ → Entry
small_entry n = record { line = small_line n; thread = 0; answer = Nothing }

-- the record of phase n with its op: its log segment is empty, and nothing was seen before it or handed on
abbrev pub small_record : ℕ → ToldRecord
small_record n = record {
  played = record { line = small_line n; thread = 0; phase = n; rules = first_rules 1; op = Copy 0 1; answer = Nothing };
  stretch = [];
  saw = λ u. seen_of small_view u;
  gives = λ u. seen_of small_view u;
}

-- the records of the phases before phase n: none, or one
abbrev pub small_before : ℕ → List Entry
small_before n = if n == 1 then [] else small_entry 1 ∷ []

-- the records up to the end of phase n: one, or both
abbrev pub small_until : ℕ → List Entry
small_until n = if n == 1 then small_entry 1 ∷ [] else small_entry 1 ∷ small_entry 2 ∷ []

-- the seat that has every stake, keeper and byte of a region of one super page
abbrev pub small_seat : View
small_seat = first_view 262144 0

-- how the run went: in each phase the worker plays that phase's one record, and the main seat stays as it is
abbrev pub small_course : Course
small_course = record {
  starts = λ n k. small_worker (small_before n);
  plays = λ n k. small_record n ∷ [];
  ends = λ n k. small_worker (small_until n);
  seats = λ n. small_seat;
}

-- nothing was made, so a line of the report has nothing but its phase
abbrev pub small_report : ℕ → ReportLine
small_report n = record {
  phase = n;
  partition = 0;
  live = record { slots = 0; bytes = 0 };
  quarantined = record { slots = 0; bytes = 0 };
  cached = record { slots = 0; bytes = 0 };
  root = record { slots = 0; bytes = 0 };
  committed = 0;
  reserved = 0;
  full = 0;
  active = 0;
  empty = 0;
  decommitted = 0;
}

-- the output of the small run
abbrev pub small_told : Told
small_told = record {
  entries = small_entry 1 ∷ small_entry 2 ∷ [];
  roots = λ p. [];
  pools = [];
  cells = λ k. [];
  report = small_report 1 ∷ small_report 2 ∷ [];
}

-- The small course is a whole run's execution, and its report's lines are what its worker counted and the totals words say. So these
-- are right, all layers meet their obligations, and the run is legal.
pub record SmallCourseFits : Type 0 where
  pub run : IsWholeRun small_trace small_told small_course small_seat []
  pub counted : (l : ReportLine) → Contains small_told.report l → IsLineBy Beside small_trace small_course small_seat l
  pub cached : (l : ReportLine) → Contains small_told.report l → IsLineCached small_trace small_course l
  pub lines : (l : ReportLine) → Contains small_told.report l →
      IsLineSaid small_trace small_told small_seat (told_in small_trace small_course) (small_course.seats l.phase) l
  pub says : LayersSay small_trace small_told small_seat (told_in small_trace small_course)
  pub lists : ListsSay small_trace small_told (told_in small_trace small_course)
  pub legal : IsLegalTold small_trace small_told
