-- The small execution meets all that is required of an execution.
use Rattle.std.proofs.Common.{◌≡◌, ℕ, ◌<◌, ◌≤◌, List, [], ◌∷◌, eqb, map, filter, replicate, refl, sym, ◌∙◌, ap, subst, arith, inl, inr, append-nil}
use Rattle.std.specs.Prelude.{◌+◌, Contains}
use Rattle.std.proofs.lemmas.Bool.{cases_Bool, cases_lt, cases_eq}
use Rattle.pa_buckets.specs.Table.{rows, row_of, slot_of}
use Rattle.pa_trace.specs.Limits.{IsWithinLimits}
use Rattle.pa_trace.specs.Rules.{first_rules, rules_of}
use Rattle.pa_record.specs.declared.root.RootEntry.{RootEntry}
use Rattle.pa_record.specs.declared.report.ReportLine.{ReportLine}
use Rattle.pa_lists.proofs.Members.{not_in_none, in_cases}
use Rattle.pa_region.specs.Views.{HasEveryStake}
use Rattle.pa_region.specs.Takes.{log_of}
use Rattle.pa_region.specs.Aware.{IsAware}
use Rattle.pa_region.proofs.Awareness.{aware_of}
use Rattle.pa_region.proofs.FirstLists.{stake_count}
use Rattle.pa_region.proofs.Opens.{opens}
use Rattle.pa_rules.specs.Caches.{NoActs, listed_slots}
use Rattle.pa_rules.specs.Report.{listed_bytes}
use Rattle.pa_logs.specs.Said.{IsLineSaid, LayersSay, ListsSay}
use Rattle.pa_logs.proofs.Said.{layers_tell_all}
use Rattle.pa_op_specs.specs.Counts.{CountsBy}
use Rattle.pa_op_specs.specs.Booking.{BooksBy}
use Rattle.pa_op_specs.specs.Stocks.{titles_in}
use Rattle.pa_op_specs.specs.Outcomes.{Outcome, FitsRun}
use Rattle.pa_rules.specs.Sizes.{is_class}
use Rattle.pa_op_specs.specs.Plays.{Does, LeadsLists, PlaysAll}
use Rattle.pa_execution.specs.Turns.{Beside}
use Rattle.pa_execution.specs.Courses.{IsCourse, Closes, HasSeenAll, HasHeardAll, Hears, BeginsNew, lines_in}
use Rattle.pa_execution.specs.Merged.{told_in, IsLeftBehind}
use Rattle.pa_execution.specs.Telling.{IsWholeRun}
use Rattle.pa_execution.specs.Lines.{IsLineBy, IsLineCached}
use Rattle.pa_execution.specs.Example.{small_trace, small_view, small_stock, small_worker, small_line, small_record, small_before, small_until, small_seat, small_course, small_report, small_told, SmallCourseFits}
use Rattle.pa_execution.proofs.Keepers.{courses_tell_all}
use Rattle.pa_execution.proofs.Lining.{courses_tell_lines}
use Rattle.pa_execution.proofs.Listing.{courses_tell_lists}
use Rattle.pa_execution.proofs.Playing.{sees_itself}
use Rattle.pa_region.proofs.ReadsFirst.{first_log}

-- ---- an op that does nothing

no_act : (o : Outcome) (n : ℕ) → FitsRun o 1 small_view (small_record n) → NoActs o.roots (small_line n)
no_act o n fits q = elim (cases_lt q 4) [
  | inl low ↦ fits.acts q [] low refl
  | inr past ↦
      let few = fits.run.few in
      ap (λ (es : List RootEntry). map (λ (e : RootEntry). e.act) (filter (λ (e : RootEntry). eqb e.line (small_line n)) es))
      (fits.run.past q (omega arith))
]

does : (n : ℕ) → Does small_stock small_stock (small_record n)
does n = record {
  thread = refl;
  same = (refl, refl, refl);
  version = refl;
  stakes = λ k. refl;
  logs = λ k. elim (cases_Bool (eqb k 0)) [
    | inl y ↦ rw y (sym (append-nil (log_of k small_view)))
    | inr m ↦ rw m (sym (append-nil (log_of k small_view)))
  ];
  lists = λ k. ([], refl);
  seen = record {
    saw = λ u. refl;
    knows = λ u. omega arith;
    carries = λ m u among. absurd (not_in_none m among);
    steps = λ u step found value among. absurd (not_in_none _ among);
    looks = λ u found among. absurd (not_in_none _ among);
    grows = λ u. omega arith;
  };
  enters = record {
    lines = λ q m among. absurd (not_in_none m among);
    fills = λ p m e low among. absurd (not_in_none m among);
    asked = (
      record { roots = λ p. []; pools = []; roots_are = λ p low. refl; pools_are = refl },
      inl (record { pools = refl; roots = λ p. refl }),
    );
    refused = λ j reg p size full op. absurd cc;
    uncuts = λ u among. absurd (not_in_none _ among);
    cells = refl;
  };
  homes = λ p past low. inl refl;
  owes = λ q. refl;
  words = λ refused q known. refl;
  answers = λ o fits. record {
    told = refl;
    row = (refl, λ k. refl);
    reader = λ s own e. absurd cc;
    unmaps = λ seen p asked slot e is. absurd cc;
    makes = λ p m e low among. absurd (not_in_none m among);
    home = λ m is. absurd cc;
  };
}

leads : (n : ℕ) → LeadsLists small_stock small_stock (small_record n)
leads n = record {
  apart = λ u is. (is, refl);
  signs = λ o fits. refl;
  row = λ o fits. (no_act o n fits, λ p class. refl);
}

-- it counts nothing, and books nothing
no_counts : (o : Outcome) (n : ℕ) → CountsBy o.homes ((small_record n).played ∷ []) [] []
no_counts o n = record {
  issued = λ p low. refl;
  freed = λ p low. refl;
  entered = λ p low. refl;
  left = λ p low. refl;
}

no_bytes : (o : Outcome) (n : ℕ) →
    BooksBy o.homes o.sizes ((small_record n).played ∷ []) (small_worker (small_before n)) (small_worker (small_until n))
no_bytes o n p q low kind = omega arith

-- ---- the seats

seat_aware : IsAware small_seat
seat_aware = aware_of (replicate (262144 + 16) 0) (small_seat ∷ []) 0 small_seat (opens 262144 0 (omega arith) (omega arith)) refl

every : HasEveryStake small_seat
every k below = elim (stake_count 0 16 k) [ inl y ↦ let a = y.2 in omega arith | inr n ↦ absurd (n.0 (omega arith, omega arith)) ]

worker_log : (k : ℕ) → log_of k small_view ≡ []
worker_log k = elim (cases_Bool (eqb 0 k)) [ inl y ↦ rw y refl | inr m ↦ rw m refl ]

sees : HasSeenAll small_view small_seat
sees = record { lists = λ q. ([], refl); seen = λ u. omega arith }

-- ---- the execution

two_phases : (P : ℕ → Type 0) → P 1 → P 2 → (n : ℕ) → 1 ≤ n → n ≤ 2 → P n
two_phases P a b n low high = elim (cases_eq n 1) [
  | inl e ↦ subst P (sym e) a
  | inr ne ↦ let e : n ≡ 2 = omega arith in subst P (sym e) b
]

no_titles : (p class : ℕ) → titles_in (record { version = 1; lists = [] }) p class ≡ []
no_titles p class = elim (cases_Bool (is_class 1 class)) [ inl y ↦ rw y refl | inr m ↦ rw m refl ]

begins : BeginsNew small_trace 0 (small_worker [])
begins = record {
  lines = 2;
  view = small_view;
  new = record {
    stock = record {
      thread_is = refl;
      partitions_are = refl;
      plain_is = refl;
      version_is = refl;
      view = refl;
      registers = λ i. refl;
      lists = no_titles;
    };
    records = refl;
    room = refl;
    going = refl;
    counts = λ p. refl;
    owed = refl;
  };
  log = refl;
}

plays : (n : ℕ) → 1 ≤ n → n ≤ 2 → PlaysAll (small_worker (small_before n)) (small_record n ∷ []) (small_worker (small_until n))
plays = two_phases (λ n. PlaysAll (small_worker (small_before n)) (small_record n ∷ []) (small_worker (small_until n))) (
  small_worker (small_until 1),
  record { records = refl; does = does 1; counts = λ o fits. no_counts o 1; bytes = λ o fits. no_bytes o 1 },
  leads 1,
  refl,
) (
  small_worker (small_until 2),
  record { records = refl; does = does 2; counts = λ o fits. no_counts o 2; bytes = λ o fits. no_bytes o 2 },
  leads 2,
  refl,
)

lines : (n k : ℕ) → 1 ≤ n → n ≤ 2 → k < 1 → record {
  line = small_line n;
  thread = 0;
  phase = n;
  rules = first_rules 1;
  op = (small_record n).played.op;
} ∷ [] ≡ lines_in (rules_of small_trace) small_trace.lines n k
lines n k low high few =
    let first : 0 ≡ k = omega arith in
    subst (λ j. record {
      line = small_line n;
      thread = 0;
      phase = n;
      rules = first_rules 1;
      op = (small_record n).played.op;
    } ∷ [] ≡ lines_in (rules_of small_trace) small_trace.lines n j) first
    (two_phases (λ m. record { line = small_line m; thread = 0; phase = m; rules = first_rules 1; op = (small_record m).played.op } ∷ [] ≡
    lines_in (rules_of small_trace) small_trace.lines m 0) refl refl n low high)

tells : (n : ℕ) → HasHeardAll 1 (λ k. small_worker (small_until n)) small_seat
tells n = record {
  aware = seat_aware;
  every = every;
  logs = λ k few. first_log k 0 16 ∙ sym (worker_log k);
  idle = λ k past. first_log k 0 16;
  sees = λ k few. sees;
}

hears : (n k : ℕ) → 1 ≤ n → n < 2 → Hears k small_seat (small_worker (small_until n)) (small_worker (small_before (n + 1)))
hears n k low high =
    let first : 1 ≡ n = omega arith in
    subst (λ m. Hears k small_seat (small_worker (small_until m)) (small_worker (small_before (m + 1)))) first
    (record { view = small_view; same = refl; log = refl; lists = λ p class. refl; seen = λ heard u. omega arith })

course : IsCourse small_trace 2 small_course
course = record {
  begins = λ k few. let first : 0 ≡ k = omega arith in subst (λ j. BeginsNew small_trace j (small_worker [])) first begins;
  plays = λ n k low high few. plays n low high;
  lines = lines;
  settled = λ n k low high few. refl;
  tells = λ n low high. tells n;
  hears = λ n k low high few. hears n k low high;
  keeps = λ n low high. sees_itself small_seat;
}

closes : Closes small_seat small_seat
closes = record { aware = seat_aware; every = every; logs = λ k. refl; sees = sees_itself small_seat }

limits : IsWithinLimits small_trace
limits = record {
  version = (omega arith, omega arith);
  head = ((omega arith, omega arith), (omega arith, omega arith), (omega arith, omega arith), omega arith);
  lines = ((omega arith, (omega arith, omega arith)), (tt, ((omega arith, (omega arith, omega arith)), tt)));
  few = omega arith;
}

left : IsLeftBehind small_trace small_told small_seat (told_in small_trace small_course) []
left = record {
  limits = limits;
  entries = refl;
  pool = refl;
  fits = tt;
  lists = λ p low. refl;
  journals = λ p. record { replays = tt; rise = tt };
  past = λ p far. refl;
  numbers = λ p s. tt;
  exchanges = refl;
  cells = λ k. refl;
  chain = λ k. tt;
  places = refl;
}

run : IsWholeRun small_trace small_told small_course small_seat []
run = record { course = course; closes = closes; left = left }

-- ---- the report

abbrev Counted : ℕ → Type 0
Counted n = IsLineBy Beside small_trace small_course small_seat (small_report n)

by_worker : (n : ℕ) → 1 ≤ n → n ≤ 2 → Counted n
by_worker = two_phases Counted
    (record {
      live = record { slots = refl; bytes = refl };
      quarantined = record { slots = refl; bytes = refl };
      root = record {
        journal = [];
        journal_is = refl;
        seen = [];
        begins = ([], refl);
        pool = [];
        pool_is = refl;
        replays = record { replays = tt; rise = tt };
        taken = refl;
      };
    })
    (record {
      live = record { slots = refl; bytes = refl };
      quarantined = record { slots = refl; bytes = refl };
      root = record {
        journal = [];
        journal_is = refl;
        seen = [];
        begins = ([], refl);
        pool = [];
        pool_is = refl;
        replays = record { replays = tt; rise = tt };
        taken = refl;
      };
    })

none_cached : (n : ℕ) → 1 ≤ n → n ≤ 2 → IsLineCached small_trace small_course (small_report n)
unfolding listed_slots listed_bytes slot_of row_of rows
none_cached = two_phases (λ n. IsLineCached small_trace small_course (small_report n)) (record { slots = refl; bytes = refl })
    (record { slots = refl; bytes = refl })

-- what holds of both lines holds of each of the report
each_line : (P : ReportLine → Type 0) → ((n : ℕ) → 1 ≤ n → n ≤ 2 → P (small_report n)) → (l : ReportLine) →
    Contains small_told.report l → P l
each_line P both l among = elim (in_cases (small_report 1) l (small_report 2 ∷ []) among) [
  | inl e ↦ subst P e (both 1 (omega arith) (omega arith))
  | inr later ↦ elim (in_cases (small_report 2) l [] later) [
    | inl e ↦ subst P e (both 2 (omega arith) (omega arith))
    | inr none ↦ absurd (not_in_none l none)
  ]
]

counted : (l : ReportLine) → Contains small_told.report l → IsLineBy Beside small_trace small_course small_seat l
counted = each_line (λ l. IsLineBy Beside small_trace small_course small_seat l) by_worker

cached : (l : ReportLine) → Contains small_told.report l → IsLineCached small_trace small_course l
cached = each_line (λ l. IsLineCached small_trace small_course l) none_cached

lines_said : (l : ReportLine) → Contains small_told.report l →
    IsLineSaid small_trace small_told small_seat (told_in small_trace small_course) (small_course.seats l.phase) l
lines_said l among = courses_tell_lines Beside small_trace small_told small_course small_seat [] run l among (counted l among)

says : LayersSay small_trace small_told small_seat (told_in small_trace small_course)
says = courses_tell_all Beside small_trace small_told small_course small_seat [] run lines_said

lists : ListsSay small_trace small_told (told_in small_trace small_course)
lists = courses_tell_lists small_trace small_told small_course small_seat [] run cached

pub small_course_fits : SmallCourseFits
small_course_fits = record {
  run = run;
  counted = counted;
  cached = cached;
  lines = lines_said;
  says = says;
  lists = lists;
  legal = layers_tell_all.legal small_trace small_told small_seat (told_in small_trace small_course) says lists;
}
