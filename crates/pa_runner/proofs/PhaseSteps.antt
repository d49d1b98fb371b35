-- The steps of a trace that is played phase after phase: the start, a line into its queue, the end of a phase, and what the next one begins
-- with.
use Rattle.std.proofs.Common.{◌≡◌, ℕ, zero, suc, ◌+◌, ◌<◌, ◌≤◌, List, [], ◌∷◌, ◌++◌, length, map, take, get_or, replicate, set, refl, sym, ◌∙◌, ap, subst, arith, inl, inr}
use Rattle.std.proofs.Math.Seq.{take_all}
use Rattle.std.proofs.lemmas.Bool.{cases_eq}
use Rattle.std.proofs.lemmas.List.{length-set, length-replicate, get_or-set_same, get_or-set_other, get_or_default}
use Rattle.std.proofs.lemmas.List.Elements.{All-from_recursion, All-get_or}
use Rattle.pa_trace.specs.Rules.{rules_of}
use Rattle.pa_record.specs.declared.report.ReportLine.{ReportLine}
use Rattle.pa_region.specs.declared.view.View.{View}
use Rattle.pa_region.specs.Aware.{IsAware}
use Rattle.pa_region.specs.Hands.{given_after, united}
use Rattle.pa_region.specs.Lending.{stake_parcel}
use Rattle.pa_region.specs.Views.{stake_of}
use Rattle.pa_region.proofs.JoinStep.{united_parts}
use Rattle.pa_region.proofs.LendBack.{given_stake}
use Rattle.pa_rules.specs.Legal.{phases_in}
use Rattle.pa_rules.specs.Report.{phases_of}
use Rattle.pa_trace.specs.declared.script.Line.{Line}
use Rattle.pa_trace.specs.declared.script.Line.TheVariants.{Phase, Do}
use Rattle.pa_trace.specs.declared.script.Op.{Op}
use Rattle.pa_trace.specs.declared.script.Trace.{Trace}
use Rattle.pa_trace.specs.Limits.{IsLineWithin, IsWithinLimits}
use Rattle.pa_op_specs.specs.Workers.{WorkerValue, worker_with_view}
use Rattle.pa_execution.specs.Courses.{Course, HasSeenAll, lines_in}
use Rattle.pa_execution.specs.Growing.{HasBegun, HasEnded}
use Rattle.pa_execution.specs.Gathering.{IsMain, HasAnswered}
use Rattle.pa_execution.proofs.Gathering.{workers_hear}
use Rattle.pa_execution.proofs.Growing.{courses_grow}
use Rattle.pa_runner.specs.declared.thread_lines.LineOp.{LineOp}
use Rattle.pa_runner.specs.Phases.{AreReady, HasPassed, HaveHeard, HaveNone, HaveTold, queue_in, worker_in}
use Rattle.pa_runner.specs.Playing.{in_phase}
use Rattle.pa_runner.specs.Opening.{AreNew}
use Rattle.pa_runner.specs.Reporting.{IsReported}
use Rattle.pa_runner.specs.Tracing.{lines_by}
use Rattle.pa_runner.specs.UnderWay.{BeginsPhase, IsAtPlace, IsUnderWay, IsReportOf}
use Rattle.pa_runner.specs.Whole.{HasPlayed}
use Rattle.pa_runner.proofs.Behind.{thread_is}
use Rattle.pa_runner.proofs.Tracing.{phase_whole, phase_next, phase_same, all_seen}
use Rattle.pa_runner.proofs.Counted.{count_few}
use Rattle.pa_runner.proofs.Coursing.{phase_grows, phase_begins}
use Rattle.pa_runner.proofs.Placed.{place_start, place_ready, place_mine, place_other, place_next}
use Rattle.pa_runner.proofs.PlayedLines.{same_thread}
use Rattle.pa_runner.proofs.ReportLines.{report_empty, report_grows}

-- ---- the start

none_in : (n k : ℕ) → queue_in (replicate n []) k ≡ []
none_in zero k = refl
none_in (suc n) zero = refl
none_in (suc n) (suc k) = none_in n k

queue_none : (n : ℕ) (queues : List (List LineOp)) (k : ℕ) → queues ≡ replicate n [] → queue_in queues k ≡ []
queue_none n queues k none = ap (λ (qs : List (List LineOp)). queue_in qs k) none ∙ none_in n k

pub going_start : (t : Trace) (workers : List WorkerValue) (queues : List (List LineOp)) (seat : View) (report : List ReportLine) →
    IsMain t.threads seat → AreNew t workers →
    queues ≡ replicate t.threads [] → report ≡ [] → IsUnderWay t 0 1 workers queues seat report
going_start t workers queues seat report main begins none empty =
    let (c, begun) =
    courses_grow.begins t (worker_in workers) (λ k few. let new = begins.each k few in
    record { lines = lines_by k t.lines; view = new.view; new = new.new; log = new.log }) in
    record {
      over = 0;
      phase_is = refl;
      here = refl;
      many = begins.count;
      count = ap (λ (qs : List (List LineOp)). length qs) none ∙ length-replicate t.threads [];
      main = main;
      course = c;
      begun = begun;
      seen = λ some. absurd (omega arith);
      each = λ k few. place_start t k (queue_in queues k) (worker_in workers k) (begins.each k few) (queue_none t.threads queues k none);
      reported = report_empty t c report empty;
    }

-- ---- the end of a phase

-- a phase is over, and these are its workers at the end
pub record IsOver (t : Trace) (phase : ℕ) (ends : List WorkerValue) (seat : View) (report : List ReportLine) : Type 0 where
  pub course : Course
  pub ended : HasEnded t phase course (worker_in ends) seat
  pub reported : IsReportOf t phase course report

module _ (t : Trace) (i phase : ℕ) (workers : List WorkerValue) (queues : List (List LineOp)) (seat : View) (report : List ReportLine)
    (within : IsWithinLimits t)
    (going : IsUnderWay t i phase workers queues seat report) where
  -- a line of a thread goes into its queue
  module _ (d : Line) (thread : ℕ) (op : Op) (low : i < length t.lines) (is : get_or t.lines i d ≡ Do thread op) where
    line_within : IsLineWithin t.partitions t.threads (Do thread op)
    line_within =
        subst (IsLineWithin t.partitions t.threads) is
        (All-get_or (IsLineWithin t.partitions t.threads) t.lines i d low
        (All-from_recursion (IsLineWithin t.partitions t.threads) t.lines within.lines))

    at_phase : get_or t.lines i Phase ≡ Do thread op
    at_phase = get_or_default t.lines i Phase d low ∙ is

    pub queue_there : thread < length queues
    queue_there =
        let w = line_within.0 in
        let c = going.count in
        omega arith

    pub going_push : (queue : List LineOp) → queue ≡ queue_in queues thread ++ record { line = i + 2; op = op } ∷ [] →
        IsUnderWay t (i + 1) phase workers (set queues thread queue) seat report
    going_push queue pushed = record {
      over = going.over;
      phase_is = going.phase_is;
      here = phase_same t.lines i low thread op at_phase ∙ going.here;
      many = going.many;
      count = length-set queues thread queue ∙ going.count;
      main = going.main;
      course = going.course;
      begun = going.begun;
      seen = going.seen;
      each = λ k few. elim (cases_eq k thread) [
        | inl e ↦
            subst (λ n. IsAtPlace t (i + 1) n (queue_in (set queues thread queue) n) (worker_in workers n)) (sym e)
            (subst (λ (q : List LineOp). IsAtPlace t (i + 1) thread q (worker_in workers thread))
            (sym (get_or-set_same queues thread queue [] queue_there ∙ pushed))
            (place_mine t i low thread op at_phase (queue_in queues thread) (worker_in workers thread) line_within.1
            (going.each thread line_within.0)))
        | inr ne ↦
            subst (λ (q : List LineOp). IsAtPlace t (i + 1) k q (worker_in workers k)) (sym (get_or-set_other queues thread k queue [] ne))
            (place_other t i low thread op at_phase k (queue_in queues k) (worker_in workers k) ne (going.each k few))
      ];
      reported = going.reported;
    }

  -- what the end of the phase needs
  pub many_here : (0 < length workers) × (length workers ≤ 16)
  many_here =
      let m = going.many in
      let few = within.head.2 in
      let some = few.0 in
      let most = few.1 in
      (omega arith, omega arith)

  pub ready_here : AreReady queues workers
  ready_here = record {
    count = going.count ∙ sym going.many;
    thread = λ k low. let m = going.many in (going.each k (omega arith)).thread ∙ omega arith;
    each = λ k low. let m = going.many in place_ready t i k (queue_in queues k) (worker_in workers k) (going.each k (omega arith));
    settled = λ k low. let m = going.many in (going.each k (omega arith)).settled;
  }

  pub main_here : IsMain (length workers) seat
  main_here = subst (λ n. IsMain n seat) (sym going.many) going.main

  pub few_here : (k : ℕ) → k < length workers → (worker_in workers k).room ≤ 65536
  few_here k low =
      let m = going.many in
      let room = (going.each k (omega arith)).room in
      let few = within.few in
      let count : lines_by k t.lines ≤ length t.lines = subst (λ (ls : List Line). lines_by k ls ≤ length t.lines)
      (take_all (length t.lines) t.lines (omega arith)) (count_few k (length t.lines) t.lines) in
      omega arith

  -- the phase that passed
  module _ (after : List WorkerValue) (next : View) (passed : HasPassed queues workers after seat next) where
    still_told : HaveTold t.threads passed.ends after
    still_told = subst (λ n. HaveTold n passed.ends after) going.many passed.told

    -- what giving the stakes back needs
    pub main_then : length after ≡ length workers → IsMain (length after) next
    main_then count = subst (λ n. IsMain n next) (sym count) passed.heard.main

    pub none_then : length after ≡ length workers → HaveNone after
    none_then count = record {
      thread = λ k low.
          let few : k < length workers = omega arith in
          ap (λ (w : WorkerValue). w.stock.thread) (passed.told.told k few) ∙
          (same_thread (passed.played k few) ∙ thread_is queues workers ready_here k few);
      each = λ k low. passed.told.none k (omega arith);
      settled = λ k low.
          let few : k < length workers = omega arith in
          ap (λ (w : WorkerValue). w.owed) (passed.told.told k few) ∙ passed.settled k few;
    }

    module _ (aware : IsAware next) (told : View) (now : List ReportLine)
        (said : IsReported phase t.partitions (length workers) (worker_in after) told next report now) where
      is_over : ((k : ℕ) → lines_in (rules_of t) t.lines phase k ≡ lines_in (rules_of t) (take i t.lines) phase k) →
          IsOver t phase passed.ends next now
      is_over whole =
          let lines : (k : ℕ) → k < t.threads →
          map (in_phase (rules_of t) (going.over + 1) k) (queue_in queues k) ≡
          lines_in (rules_of t) t.lines (going.over + 1) k = λ k few.
          subst (λ n. map (in_phase (rules_of t) n k) (queue_in queues k) ≡ lines_in (rules_of t) t.lines n k) going.phase_is
          (subst (λ n. map (in_phase (rules_of t) n k) (queue_in queues k) ≡ lines_in (rules_of t) (take i t.lines) n k) going.here
          (going.each k few).lines ∙ sym (whole k)) in
          let (d, agree, ended) =
          phase_grows t going.over going.course queues workers after seat next going.many passed aware ready_here going.begun going.seen
          (λ k few. (going.each k few).rules) lines in
          let reported : IsReported (going.over + 1) t.partitions t.threads (worker_in after) told next report now =
          subst (λ n. IsReported n t.partitions t.threads (worker_in after) told next report now) going.phase_is
          (subst (λ n. IsReported phase t.partitions n (worker_in after) told next report now) going.many said) in
          record {
            course = d;
            ended = subst (λ n. HasEnded t n d (worker_in passed.ends) next) (sym going.phase_is) ended;
            reported = subst (λ n. IsReportOf t n d now) (sym going.phase_is)
                (report_grows t going.over going.course d passed.ends after told next report now going.reported agree ended
                still_told reported);
          }

      -- if it was the last phase
      pub going_ends : length t.lines ≤ i → length after ≡ length workers → HasPlayed t after next now
      going_ends past count =
          let all : phases_in t.lines ≡ phase = ap phases_in (sym (take_all i t.lines past)) ∙ going.here in
          let over = is_over (λ k. subst (λ n. lines_in (rules_of t) t.lines n k ≡ lines_in (rules_of t) (take i t.lines) n k) all
          (all_seen (rules_of t) t.lines i k past ∙ ap (λ n. lines_in (rules_of t) (take i t.lines) n k) (going.here ∙ sym all))) in
          record {
            gone = record {
              course = over.course;
              ends = passed.ends;
              count = passed.count ∙ going.many;
              same_count = count ∙ going.many;
              ended = subst (λ n. HasEnded t n over.course (worker_in passed.ends) next) (sym all) over.ended;
              told = still_told;
              main = subst (λ n. IsMain n next) going.many passed.heard.main;
              places = over.reported.places ∙ ap (phases_of t.partitions 1) (sym all);
              right = λ l among. (over.reported.right l among).totals;
            };
            cached = λ l among. (over.reported.right l among).cached;
          }

      -- if another one follows
      module _ (again : List WorkerValue) (cleared : List (List LineOp)) (last : View) (begins : BeginsPhase i t.lines)
          (same : length after ≡ length workers)
          (heard : HaveHeard (length after) (length after) next after again) where
        heard_one : (k : ℕ) → k < t.threads → IsAtPlace t (i + 1) k [] (worker_in again k)
        heard_one k few =
            let m = going.many in
            let low : k < length workers = omega arith in
            let from = heard.heard k (omega arith) in
            let before = (worker_in after k).stock.view in
            let note = given_after (stake_parcel k) from.seat in
            let is : worker_in again k ≡ worker_with_view (united before note) (worker_in passed.ends k) =
            from.heard ∙ ap (λ (w : WorkerValue). worker_with_view (united before note) w) (passed.told.told k low) in
            let has : 0 < stake_of (united before note) k =
            let parts = (united_parts before note).stakes k in
            let given = given_stake k from.seat in
            let answered = from.answered.stakes k (omega arith) in
            let whole = passed.heard.told k low in
            omega arith in
            subst (IsAtPlace t (i + 1) k []) (sym is)
            (place_next t i begins.low k (queue_in queues k) (worker_in workers k) (worker_in passed.ends k) (united before note) begins.is
            (going.each k few) (passed.played k low)
            (passed.settled k low) has)

        pub going_next : length again ≡ length after → cleared ≡ replicate (length queues) [] →
            HasAnswered (length after) (length after) next last →
            IsUnderWay t (i + 1) (phase + 1) again cleared last now
        going_next long none answered =
            let m = going.many in
            let over = is_over (λ k. subst (λ n. lines_in (rules_of t) t.lines n k ≡ lines_in (rules_of t) (take i t.lines) n k)
            going.here (phase_whole t.lines i begins.low (rules_of t) k begins.is)) in
            let begun : HasBegun t (going.over + 1) over.course (worker_in again) =
            phase_begins t going.over over.course queues workers after seat next going.many passed aware over.course
            (subst (λ n. HasEnded t n over.course (worker_in passed.ends) next) going.phase_is over.ended) again
            (subst (λ n. HaveHeard n n next after again) same heard) in
            record {
              over = phase;
              phase_is = refl;
              here = phase_next t.lines i begins.low begins.is ∙ ap (λ n. n + 1) going.here;
              many = long ∙ (same ∙ going.many);
              count = ap (λ (qs : List (List LineOp)). length qs) none ∙ (length-replicate (length queues) [] ∙ going.count);
              main = subst (λ n. IsMain n last) (same ∙ going.many) answered.main;
              course = over.course;
              begun = subst (λ n. HasBegun t n over.course (worker_in again)) (sym going.phase_is) begun;
              seen = λ some. subst (λ (v : View). HasSeenAll v last) (sym over.ended.seat)
                  (workers_hear.grows (length after) (length after) next last answered);
              each = λ k few. subst (λ (q : List LineOp). IsAtPlace t (i + 1) k q (worker_in again k))
                  (sym (queue_none (length queues) cleared k none)) (heard_one k few);
              reported = over.reported;
            }

-- ---- as the code meets them

pub begins_phase : (ls lines : List Line) (i : ℕ) (d : Line) → ls ≡ lines → i < length ls → get_or ls i d ≡ Phase → BeginsPhase i lines
begins_phase ls lines i d same low is = subst (BeginsPhase i) same (record { low = low; is = get_or_default ls i Phase d low ∙ is })

pub going_as : {t : Trace} {i phase then : ℕ} {workers others : List WorkerValue} {queues now : List (List LineOp)} {seat next : View}
    {report more : List ReportLine} →
    IsUnderWay t i phase workers queues seat report → then ≡ phase → others ≡ workers → now ≡ queues → next ≡ seat → more ≡ report →
    IsUnderWay t i then others now next more
going_as {t} {i} {phase} {then} {workers} {others} {queues} {now} {seat} {next} {report} {more} going p w q s r =
    subst (λ n. IsUnderWay t i n others now next more) (sym p)
    (subst (λ ws. IsUnderWay t i phase ws now next more) (sym w)
    (subst (λ qs. IsUnderWay t i phase workers qs next more) (sym q)
    (subst (λ v. IsUnderWay t i phase workers queues v more) (sym s) (subst (IsUnderWay t i phase workers queues seat) (sym r) going))))

module _ (t : Trace) (i phase : ℕ) (workers : List WorkerValue) (queues : List (List LineOp)) (seat : View) (report : List ReportLine)
    (within : IsWithinLimits t)
    (going : IsUnderWay t i phase workers queues seat report) (ls : List Line) (d : Line) (thread : ℕ) (op : Op) (same : ls ≡ t.lines)
    (low : i < length ls)
    (is : get_or ls i d ≡ Do thread op) where
  low_here : i < length t.lines
  low_here = subst (λ (l : List Line). i < length l) same low

  is_here : get_or t.lines i d ≡ Do thread op
  is_here = subst (λ (l : List Line). get_or l i d ≡ Do thread op) same is

  pub line_there : thread < length queues
  line_there = queue_there t i phase workers queues seat report within going d thread op low_here is_here

  pub line_pushed : (number : ℕ) (old queue : List LineOp) → number ≡ i + 2 → old ≡ get_or queues thread old →
      queue ≡ old ++ record { line = number; op = op } ∷ [] →
      IsUnderWay t (i + 1) phase workers (set queues thread queue) seat report
  line_pushed number old queue number_is there pushed =
      going_push t i phase workers queues seat report within going d thread op low_here is_here queue
      (pushed
      ∙ (ap (λ (q : List LineOp). q ++ record { line = number; op = op } ∷ []) (there ∙ get_or_default queues thread old [] line_there)
      ∙ ap (λ n. queue_in queues thread ++ record { line = n; op = op } ∷ []) number_is))
