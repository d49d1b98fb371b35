-- An execution says what is required of the ops of workers, and of the runner.
use Rattle.std.proofs.Common.{◌≡◌, ℕ, zero, suc, leb, ◌-◌, ◌<◌, ◌≤◌, Bool, true, List, [], ◌∷◌, ◌++◌, filter, refl, sym, ◌∙◌, ap, subst, arith, inl, inr}
use Rattle.std.specs.Prelude.{Contains}
use Rattle.std.proofs.lemmas.Bool.{cases_Bool, cases_lt}
use mathlib.Core.Path.{fun_ext}
use Rattle.pa_slot.specs.declared.title.Title.{Title}
use Rattle.pa_trace.specs.Rules.{rules_of}
use Rattle.pa_op_specs.specs.Following.{FitsAll}
use Rattle.pa_op_specs.specs.Plays.{PlaysSome}
use Rattle.pa_lists.proofs.Members.{not_in_none}
use Rattle.pa_region.specs.declared.view.View.{View}
use Rattle.pa_region.specs.Views.{seen_of}
use Rattle.pa_trace.specs.declared.script.Trace.{Trace}
use Rattle.pa_rules.specs.declared.played.Played.{Played}
use Rattle.pa_rules.specs.Played.{AreDue, played}
use Rattle.pa_rules.specs.Registers.{no_regs}
use Rattle.pa_rules.specs.Report.{until}
use Rattle.pa_rules.specs.Told.{Told}
use Rattle.pa_rules.proofs.Recorded.{records_are_lines}
use Rattle.pa_logs.specs.Told.{ToldRecord, played_in, is_of_thread, told_until}
use Rattle.pa_logs.specs.Rows.{records_by, is_by_thread}
use Rattle.pa_logs.specs.Said.{sizes_in, facts_in, HasToldRows, HaveSeen, HeapTells, RunnerSays}
use Rattle.pa_cells.specs.Cells.{Exchange}
use Rattle.pa_op_specs.specs.Stocks.{as_reg, regs_of}
use Rattle.pa_op_specs.specs.Workers.{WorkerValue}
use Rattle.pa_execution.specs.Turns.{Manner, InTurn}
use Rattle.pa_execution.specs.Courses.{Course, some_in}
use Rattle.pa_execution.specs.Merged.{told_by_turns, phase_seats, outcome_of}
use Rattle.pa_execution.specs.Telling.{IsWholeRunBy, CoursesTellHeap, CoursesTellRunner, TurnsTell}
use Rattle.pa_execution.proofs.Turning.{some_turn}
use Rattle.pa_execution.proofs.Chaining.{played_some, heard_next, sees_until, sees_last, ends_turn, ends_phase, has_last}
use Rattle.pa_execution.proofs.Fitting.{turns, of_lines, then_sees, fits, answer}
use Rattle.pa_execution.proofs.Fitting.{played as played_so}
use Rattle.pa_execution.proofs.Grouping.{told_turn, is_by_turn, turns_until, so_far, are_lines, within, turn_low, turn_high, in_group, group_rises, earlier, phase_turns, all_turns, thread_turns, no_thread}
use Rattle.pa_execution.proofs.Leading.{RowsLead, rows_append, rows_told, rows_lead}
use Rattle.pa_execution.proofs.Playing.{in_order}

-- records that pass are the annotated records that do
pub played_filter : (test : Played → Bool) (xs : List ToldRecord) →
    filter test (played_in xs) ≡ played_in (filter (λ (x : ToldRecord). test x.played) xs)
played_filter test [] = refl
played_filter test (x ∷ xs) = elim (cases_Bool (test x.played)) [
  | inl y ↦ rw y (ap (λ ps. x.played ∷ ps) (played_filter test xs))
  | inr n ↦ rw n (played_filter test xs)
]

pub played_append : (xs ys : List ToldRecord) → played_in (xs ++ ys) ≡ played_in xs ++ played_in ys
played_append [] ys = refl
played_append (x ∷ xs) ys = ap (λ ps. x.played ∷ ps) (played_append xs ys)

pub thread_records : (k n : ℕ) (xs : List ToldRecord) →
    records_by k (until n (played_in xs)) ≡ played_in (filter (is_of_thread k) (told_until n xs))
thread_records k n xs = ap (records_by k) (played_filter (λ (p : Played). leb p.phase n) xs) ∙
    played_filter (is_by_thread k) (told_until n xs)

-- where there is one there is some
some_is : (xs : List ToldRecord) (x : ToldRecord) → Contains xs x → some_in xs ≡ true
some_is [] x among = absurd (not_in_none x among)
some_is (y ∷ ys) x among = refl

module _ (way : Manner) (t : Trace) (r : Told) (c : Course) (v : View) (xs : List Exchange) (run : IsWholeRunBy way t r c v xs) where
  abbrev all_told : List ToldRecord
  all_told = told_by_turns way t c

  -- ---- rows of registers

  -- the ops of workers have their rows by the trace's version
  rows_of_trace : (w u : WorkerValue) (ys : List ToldRecord) → PlaysSome w ys u →
      FitsAll (outcome_of t r) w.stock.partitions u.stock.view ys →
      RowsLead (sizes_in t r) (facts_in t r) (regs_of w.stock.registers) ys (regs_of u.stock.registers)
  rows_of_trace w u ys plays fit = rows_lead (outcome_of t r) w u ys plays fit

  rows_until : (k n : ℕ) → suc n ≤ turns way t r c v xs run → k < t.threads →
      RowsLead (sizes_in t r) (facts_in t r) (no_regs k) (so_far c.plays k (suc n)) (regs_of (c.ends (suc n) k).stock.registers)
  rows_until k zero high few =
      let new = (run.course.begins k few).new in
      let none : regs_of (c.starts 1 k).stock.registers ≡ no_regs k = fun_ext (λ i. ap as_reg (new.stock.registers i)) in
      subst (λ regs. RowsLead (sizes_in t r) (facts_in t r) regs (c.plays 1 k) (regs_of (c.ends 1 k).stock.registers)) none
      (rows_of_trace (c.starts 1 k) (c.ends 1 k) (c.plays 1 k) (played_some way t c run.left.limits run.course 1 k (omega arith) high few)
      (fits way t r c v xs run 1 k (omega arith) high few))
  rows_until k (suc n) high few =
      let m = suc (suc n) in
      let again = rows_until k n (omega arith) few in
      let heard = heard_next way t c run.left.limits run.course (suc n) k (omega arith) (omega arith) few in
      let same : regs_of (c.starts m k).stock.registers ≡ regs_of (c.ends (suc n) k).stock.registers =
      ap (λ (w : WorkerValue). regs_of w.stock.registers) heard.same in
      let next = rows_of_trace (c.starts m k) (c.ends m k) (c.plays m k)
      (played_some way t c run.left.limits run.course m k (omega arith) high few)
      (fits way t r c v xs run m k (omega arith) high few) in
      rows_append (sizes_in t r) (facts_in t r) (no_regs k) (regs_of (c.ends (suc n) k).stock.registers)
      (regs_of (c.ends m k).stock.registers) (so_far c.plays k (suc n)) (c.plays m k) again
      (subst (λ regs. RowsLead (sizes_in t r) (facts_in t r) regs (c.plays m k) (regs_of (c.ends m k).stock.registers)) same next)

  rows : (k : ℕ) → HasToldRows (sizes_in t r) (facts_in t r) (no_regs k) (filter (is_of_thread k) all_told)
  rows k =
      let n = turns way t r c v xs run in
      let there = some_turn way t in
      let last : n ≡ suc (n - 1) = omega arith in
      let whole : filter (is_of_thread k) all_told ≡ filter (is_of_thread k) (turns_until way n all_told) =
      ap (filter (is_of_thread k)) (sym (all_turns way t c run.left.limits run.course)) in
      elim (cases_lt k t.threads) [
        | inl few ↦
            let own : filter (is_of_thread k) all_told ≡ so_far c.plays k (suc (n - 1)) =
            whole ∙ (thread_turns way t c run.left.limits run.course n k (omega arith) few ∙ ap (so_far c.plays k) last) in
            subst (HasToldRows (sizes_in t r) (facts_in t r) (no_regs k)) (sym own)
            (rows_told (sizes_in t r) (facts_in t r) (no_regs k) (regs_of (c.ends (suc (n - 1)) k).stock.registers)
            (so_far c.plays k (suc (n - 1))) (rows_until k (n - 1) (omega arith) few))
        | inr past ↦
            let none : filter (is_of_thread k) all_told ≡ [] =
            whole ∙ no_thread way t c run.left.limits run.course (is_by_turn way n) k past in
            subst (HasToldRows (sizes_in t r) (facts_in t r) (no_regs k)) (sym none) tt
      ]

  -- ---- what seats had seen

  heard : (x : ToldRecord) (u : Title) → Contains all_told x → x.gives u ≤ seen_of v u
  heard x u among =
      let p = played_so way t r c v xs run x among in
      let knows = p.one.does.seen.knows u in
      let later = (then_sees way t r c v xs run x among).seen u in
      omega arith

  -- what a record of an earlier turn hands on was known before the next one
  before_turn : (x y : ToldRecord) (u : Title) → Contains all_told x → Contains all_told y → told_turn way x < told_turn way y →
      x.gives u ≤ y.saw u
  before_turn x y u first second late =
      let a = within way t c run.left.limits run.course x first in
      let b = within way t c run.left.limits run.course y second in
      let low = turn_low way t c run.left.limits run.course x first in
      let high = turn_high way t c run.left.limits run.course y second in
      let k = y.played.thread in
      let m = told_turn way y - 1 in
      let next : suc m ≡ told_turn way y = omega arith in
      let p = played_so way t r c v xs run x first in
      let q = played_so way t r c v xs run y second in
      let knows = p.one.does.seen.knows u in
      let ends = p.last.seen u in
      let told = ((run.course.tells (told_turn way x) low (omega arith)).sees x.played.thread a.thread).seen u in
      let kept = (sees_until way t c run.left.limits run.course (told_turn way x) m low (omega arith) (omega arith)).seen u in
      let hears = heard_next way t c run.left.limits run.course m k (omega arith) (omega arith) b.thread in
      let mine : Contains (c.plays (suc m) k) y =
      subst (λ n. Contains (c.plays n k) y) (sym next) (in_group way t c run.left.limits run.course y second) in
      let heard_it = hears.seen (some_is (c.plays (suc m) k) y mine) u in
      let starts : seen_of (c.starts (suc m) k).stock.view u ≡ seen_of hears.view u =
      ap (λ (w : WorkerValue). seen_of w.stock.view u) hears.same in
      let here : seen_of (c.starts (suc m) k).stock.view u ≡ seen_of (c.starts (told_turn way y) k).stock.view u =
      ap (λ n. seen_of (c.starts n k).stock.view u) next in
      let grown = q.first.seen u in
      let saw = q.one.does.seen.saw u in
      omega arith

  before_phase : (x y : ToldRecord) (u : Title) → Contains all_told x → Contains all_told y → x.played.phase < y.played.phase →
      x.gives u ≤ y.saw u
  before_phase x y u first second late =
      before_turn x y u first second (phase_turns way t c run.left.limits run.course x y first second late)

  before_line : (x y : ToldRecord) (u : Title) → Contains all_told x → Contains all_told y → x.played.thread ≡ y.played.thread →
      x.played.line < y.played.line → x.gives u ≤ y.saw u
  before_line x y u first second thread less = elim (cases_lt (told_turn way x) (told_turn way y)) [
    | inl late ↦ before_turn x y u first second late
    | inr not_later ↦ elim (cases_lt (told_turn way y) (told_turn way x)) [
      | inl early ↦ absurd (let down = earlier way t c run.left.limits run.course y x second first early in omega arith)
      | inr not_earlier ↦
          let turn : told_turn way x ≡ told_turn way y = omega arith in
          let low = turn_low way t c run.left.limits run.course y second in
          let high = turn_high way t c run.left.limits run.course y second in
          let few = (within way t c run.left.limits run.course y second).thread in
          let n = told_turn way y in
          let k = y.played.thread in
          let here : Contains (c.plays n k) x = subst (λ m. Contains (c.plays m k) x) turn
          (subst (λ j. Contains (c.plays (told_turn way x) j) x) thread (in_group way t c run.left.limits run.course x first)) in
          in_order (c.starts n k) (c.ends n k) (c.plays n k) x y u (played_some way t c run.left.limits run.course n k low high few)
          (group_rises way t c run.left.limits run.course n k low high few) here
          (in_group way t c run.left.limits run.course y second) less
    ]
  ]

  seen : HaveSeen all_told
  seen = record {
    steps = λ x u step found value among there. (played_so way t r c v xs run x among).one.does.seen.steps u step found value there;
    looks = λ x u found among there. (played_so way t r c v xs run x among).one.does.seen.looks u found there;
    grows = λ x u among. (played_so way t r c v xs run x among).one.does.seen.grows u;
    thread = before_line;
  }

  heap_tells : HeapTells t r all_told
  heap_tells = record {
    told = λ x among. (answer way t r c v xs run x among).told;
    lines = λ q few. of_lines way t r c v xs run q;
    rows = rows;
    seen = seen;
  }

  -- ---- the runner

  runner_says : RunnerSays t r v all_told (phase_seats way t c)
  runner_says =
      let are = are_lines way t c run.left.limits run.course in
      record {
        limits = run.left.limits;
        due = subst (AreDue (rules_of t) t.lines) (sym run.left.entries)
            (records_are_lines.due (rules_of t) t.lines (played_in all_told) are);
        records = sym (ap (played (rules_of t) t.lines) run.left.entries ∙
            records_are_lines.same (rules_of t) t.lines (played_in all_told) are);
        has = has_last way t c run.left.limits run.course v run.closes;
        ends = ends_phase way t c run.left.limits run.course v run.closes;
        heard = heard;
        phases = before_phase;
        places = run.left.places;
      }

pub courses_tell_heap : CoursesTellHeap
courses_tell_heap = heap_tells

pub courses_tell_runner : CoursesTellRunner
courses_tell_runner = runner_says

-- a run by turns: the turn of a record is its line
pub turns_tell : TurnsTell
turns_tell t r c v xs run = record {
  ends = λ x among. ends_turn InTurn t c run.left.limits run.course v run.closes x.played.line
      (turn_low InTurn t c run.left.limits run.course x among) (turn_high InTurn t c run.left.limits run.course x among);
  begins = λ x q among few. (sees_last InTurn t c run.left.limits run.course v run.closes x.played.line
      (turn_low InTurn t c run.left.limits run.course x among) (turn_high InTurn t c run.left.limits run.course x among)).lists q;
  hands = λ x y u first second less. before_turn InTurn t r c v xs run x y u first second less;
}
