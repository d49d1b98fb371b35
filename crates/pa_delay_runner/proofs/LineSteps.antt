-- The steps of a delayed run: the turn of a line that ends a phase, the turn of a line with an op, and the end.
use Rattle.std.proofs.Common.{◌≡◌, ℕ, ◌+◌, ◌<◌, ◌≤◌, false, List, [], length, take, set, get_or, refl, sym, ◌∙◌, ap, ap₂, subst, arith, inl, inr, cond}
use Rattle.std.proofs.Math.Seq.{take_all}
use Rattle.std.proofs.lemmas.Bool.{cases_eq, eq-eqb, ne_eqb}
use Rattle.std.proofs.lemmas.List.{length-set, get_or-set_same, get_or-set_other}
use Rattle.pa_trace.specs.declared.script.Line.{Line}
use Rattle.pa_trace.specs.declared.script.Line.TheVariants.{Phase, Do}
use Rattle.pa_trace.specs.declared.script.Op.{Op}
use Rattle.pa_trace.specs.declared.script.Trace.{Trace}
use Rattle.pa_trace.specs.Limits.{IsWithinLimits}
use Rattle.pa_trace.specs.Rules.{rules_of}
use Rattle.pa_record.specs.declared.report.ReportLine.{ReportLine}
use Rattle.pa_region.specs.declared.view.View.{View}
use Rattle.pa_region.specs.Aware.{IsAware}
use Rattle.pa_rules.specs.Legal.{phases_in}
use Rattle.pa_rules.proofs.Lined.{phase_after}
use Rattle.pa_rules.specs.Report.{phases_of}
use Rattle.pa_cells.specs.declared.handle.Handle.{Handle}
use Rattle.pa_delay.specs.Queue.{QueueList}
use Rattle.pa_op_specs.specs.Workers.{WorkerValue}
use Rattle.pa_heap.specs.Waiting.{HoldsQueue}
use Rattle.pa_execution.specs.Turns.{InTurn, turns_in, last_turn, lines_until, lines_in_turn}
use Rattle.pa_execution.specs.Growing.{HasEndedBy}
use Rattle.pa_execution.proofs.Growing.{turns_grow}
use Rattle.pa_execution.proofs.Turning.{all_turns_go}
use Rattle.pa_runner.specs.Phases.{no_worker, worker_in}
use Rattle.pa_runner.specs.Reporting.{HasAsked}
use Rattle.pa_runner.specs.Tracing.{is_by, lines_by}
use Rattle.pa_runner.proofs.Counted.{count_few, lines_with}
use Rattle.pa_runner.proofs.Tracing.{phase_next, phase_same, lines_by_more, lines_by_start}
use Rattle.pa_delay_runner.specs.Course.{IsDelayedCourse}
use Rattle.pa_delay_runner.specs.Turning.{TakesTurn}
use Rattle.pa_delay_runner.specs.Played.{HasPlayedDelayed, IsReportedWith, slots_in, no_queue, delay_in}
use Rattle.pa_delay_runner.specs.Going.{HasPlayedUpTo, IsAtLine, IsDelayedReportOf, IsQueueFor}
use Rattle.pa_delay_runner.proofs.Heard.{heard_ended, heard_asked, main_asked, asked_sees}
use Rattle.pa_delay_runner.proofs.NextTurn.{part_waits, with_row, row_now, row_before, turn_grows, delayed_looks}
use Rattle.pa_delay_runner.proofs.OpTurn.{thread_there, rest, rest_mine, rest_other, told_again, told_now, grown_turn}
use Rattle.pa_delay_runner.proofs.PhaseReports.{report_kept, report_asked, report_grows}
use Rattle.pa_delay_runner.proofs.TurnLines.{op_at, turn_lines, phase_ends}

module _ (bytes : ℕ) (t : Trace) (i phase : ℕ) (workers : List WorkerValue) (queues : List QueueList) (seat : View)
    (report : List ReportLine) (within : IsWithinLimits t) (going : HasPlayedUpTo bytes t i phase workers queues seat report) where
  -- ---- what a report needs

  -- no thread has more lines than a trace can have
  pub few_lines : (k : ℕ) → lines_by k t.lines < 65536
  few_lines k =
      let few = within.few in
      let all : lines_by k t.lines ≤ length t.lines = subst (λ (ls : List Line). lines_by k ls ≤ length t.lines)
      (take_all (length t.lines) t.lines (omega arith)) (count_few k (length t.lines) t.lines) in
      omega arith

  pub few_here : (k : ℕ) → k < length workers → length (worker_in workers k).records ≤ 65536
  few_here k low =
      let m = going.many in
      let at = (going.each k (omega arith)).count in
      let start = lines_by_start k i t.lines in
      let few = few_lines k in
      omega arith

  pub queued_here : (k : ℕ) → k < length workers → length (slots_in queues k) ≤ 65536
  queued_here k low =
      let m = going.many in
      let queue = going.queued k (omega arith) in
      let same : length (slots_in queues k) ≡ length (going.waiting (i + 1) k) = ap (λ (q : QueueList). length q.slots) queue.is in
      let fits = queue.few in
      let few = few_here k low in
      omega arith

  slots_here : (k : ℕ) → k < t.threads → going.waiting (i + 1) k ≡ slots_in queues k
  slots_here k few = sym (ap (λ (q : QueueList). q.slots) (going.queued k few).is)

  -- ---- a line that ends a phase

  module _ (low : i < length t.lines) (is : get_or t.lines i Phase ≡ Phase) (next : View) (now : List ReportLine)
      (asked : HasAsked seat next) (aware : IsAware next)
      (said : IsReportedWith phase t.partitions (length workers) (worker_in workers) (slots_in queues) seat next report now) where
    same_line : (k : ℕ) → k < t.threads → IsAtLine t i k (worker_in workers k) → IsAtLine t (i + 1) k (worker_in workers k)
    same_line k few at = record {
      thread = at.thread;
      partitions = at.partitions;
      rules = at.rules;
      going = at.going;
      settled = at.settled;
      room = at.room;
      count =
          let more = lines_with i t.lines Phase Phase k low is ∙ lines_by_more k (take i t.lines) Phase in
          let c = at.count in
          omega arith;
    }

    pub steps_phase : HasPlayedUpTo bytes t (i + 1) (phase + 1) workers queues next now
    steps_phase =
        let ends = worker_in going.ends in
        let lines : (k : ℕ) → lines_in_turn InTurn t (i + 1 + 1) k ≡ [] =
        λ k. turn_lines t i (i + 1 + 1) k low (omega arith)
        ∙ ap (λ l. op_at (rules_of t) (i + 1 + 1) (phase_after 1 (take i t.lines)) l k) is in
        let (d, grown, delayed) =
        turn_grows bytes t (i + 1) going.course going.waiting ends seat next (λ k. false) ends (λ k. []) ends
        (λ k. going.waiting (i + 1) k) (omega arith) going.ended going.delayed
        (λ k few.
        let same = going.ended.ends k few in
        part_waits bytes t (i + 1 + 1) k seat (ends k) (going.waiting (i + 1) k) (lines k)
        (sym (ap (λ (z : WorkerValue). z.owed) same) ∙ going.ended.course.settled (i + 1) k (omega arith) (omega arith) few)
        (subst (λ (z : WorkerValue). HoldsQueue (going.waiting (i + 1) k) z.stock) same
        (going.delayed.holds (i + 1) k (omega arith) (omega arith) few)))
        (heard_asked t.threads ends seat next asked aware
        (heard_ended InTurn t (i + 1) going.course ends seat (omega arith) going.ended))
        (asked_sees seat next asked) in
        let rows = with_row (i + 1 + 1) (λ k. going.waiting (i + 1) k) going.waiting in
        let row : (k : ℕ) → rows (i + 1 + 1) k ≡ going.waiting (i + 1) k =
        λ k. row_now (i + 1 + 1) (λ j. going.waiting (i + 1) j) going.waiting (i + 1 + 1) k refl in
        let kept =
        report_kept t going.over (i + 1) going.course d going.waiting rows report grown.agree
        (λ m k high. row_before (i + 1 + 1) (λ j. going.waiting (i + 1) j) going.waiting m k (λ e. omega arith)) going.reported in
        let until : lines_until (going.over + 1) t.lines ≡ i + 1 =
        ap (λ n. lines_until n t.lines) (sym (going.here ∙ going.phase_is)) ∙ phase_ends i t.lines low is in
        let said' = subst (λ n. IsReportedWith n t.partitions t.threads (worker_in workers) (slots_in queues) seat next report now)
        going.phase_is
        (subst (λ n. IsReportedWith phase t.partitions n (worker_in workers) (slots_in queues) seat next report now) going.many said) in
        record {
          over = phase;
          phase_is = refl;
          here = phase_next t.lines i low is ∙ ap (λ n. n + 1) going.here;
          many = going.many;
          count = going.count;
          main = main_asked t.threads seat next asked going.main;
          course = d;
          waiting = rows;
          ends = going.ends;
          same_count = going.same_count;
          ended = grown.ended;
          delayed = delayed;
          told = going.told;
          each = λ k few. same_line k few (going.each k few);
          queued = λ k few. subst (λ hs. IsQueueFor bytes t k hs (worker_in workers k) (delay_in queues k)) (sym (row k))
              (going.queued k few);
          reported =
              subst (λ n. IsDelayedReportOf t n (i + 1 + 1) d rows now) (sym going.phase_is)
              (report_grows t going.over (i + 1 + 1) d rows going.ends workers seat next (slots_in queues) report now kept grown.ended
              going.told (λ k few. row k ∙ slots_here k few) (let u = until in omega arith) said');
        }

  -- ---- a line with an op

  module _ (thread : ℕ) (op : Op) (low : i < length t.lines) (is : get_or t.lines i Phase ≡ Do thread op) where
    pub line_there : thread < t.threads
    line_there = thread_there bytes t i phase workers queues seat report within going thread op low is

    lines_more : (k : ℕ) → lines_by k (take (i + 1) t.lines) ≡ lines_by k (take i t.lines) + cond (is_by k (Do thread op)) 1 0
    lines_more k = lines_with i t.lines Phase (Do thread op) k low is ∙ lines_by_more k (take i t.lines) (Do thread op)

    pub mine_more : lines_by thread (take (i + 1) t.lines) ≡ lines_by thread (take i t.lines) + 1
    mine_more = lines_more thread ∙ (rw (eq-eqb thread thread refl) refl)

    other_more : (k : ℕ) → (k ≡ thread → ⊥) → lines_by k (take (i + 1) t.lines) ≡ lines_by k (take i t.lines)
    other_more k ne =
        let none : cond (is_by k (Do thread op)) 1 0 ≡ 0 = rw (ne_eqb thread k (λ e. ne (sym e))) refl in
        let same : lines_by k (take i t.lines) + 0 ≡ lines_by k (take i t.lines) = omega arith in
        lines_more k ∙ (ap (λ n. lines_by k (take i t.lines) + n) none ∙ same)

    queue_as : (k : ℕ) (hs gs : List Handle) (a b : WorkerValue) (p q : QueueList) → gs ≡ hs → b ≡ a → q ≡ p →
        IsQueueFor bytes t k hs a p → IsQueueFor bytes t k gs b q
    queue_as k hs gs a b p q e f g queue =
        subst (λ zs. IsQueueFor bytes t k zs b q) (sym e)
        (subst (λ z. IsQueueFor bytes t k hs z q) (sym f) (subst (IsQueueFor bytes t k hs a) (sym g) queue))

    module _ (w : WorkerValue) (q : QueueList) (next : View)
        (turn : TakesTurn thread (i + 2) op (worker_in workers thread) (delay_in queues thread) seat w q next) where
      now_mine : worker_in (set workers thread w) thread ≡ w
      now_mine = get_or-set_same workers thread w no_worker (let m = going.many in let l = line_there in omega arith)

      queue_mine : delay_in (set queues thread q) thread ≡ q
      queue_mine = get_or-set_same queues thread q no_queue (let m = going.count in let l = line_there in omega arith)

      at_mine : IsAtLine t (i + 1) thread w
      at_mine =
          let at = going.each thread line_there in
          subst (IsAtLine t (i + 1) thread) (sym turn.told) (record {
            thread = turn.same.0;
            partitions = turn.same.1 ∙ at.partitions;
            rules = turn.same.2 ∙ at.rules;
            going = turn.keeps.going;
            settled = turn.settled;
            room = turn.keeps.room ∙ at.room;
            count = let c = at.count in let n = turn.keeps.count in let more = mine_more in omega arith;
          })

      at_other : (k : ℕ) → k < t.threads → (k ≡ thread → ⊥) → IsAtLine t (i + 1) k (worker_in workers k)
      at_other k few ne =
          let at = going.each k few in
          record {
            thread = at.thread;
            partitions = at.partitions;
            rules = at.rules;
            going = at.going;
            settled = at.settled;
            room = at.room;
            count = at.count ∙ sym (other_more k ne);
          }

      waits_mine : IsQueueFor bytes t thread q.slots w q
      waits_mine =
          let queue = going.queued thread line_there in
          record {
            is =
                turn.rest
                ∙ ap₂ (λ limit room. record { limit = limit; room = room; slots = q.slots }) (ap (λ (z : QueueList). z.limit) queue.is)
                (ap (λ (z : QueueList). z.room) queue.is);
            few =
                let same = ap (λ (z : QueueList). length z.slots) queue.is in
                let told = ap (λ (z : WorkerValue). length z.records) turn.told in
                let more = turn.few in
                let count = turn.keeps.count in
                let before = queue.few in
                omega arith;
            holds = turn.waits;
          }

      abbrev slots : ℕ → List Handle
      slots = rest bytes t i phase workers queues seat report within going thread op low is w q next turn

      slots_mine : slots thread ≡ q.slots
      slots_mine = rest_mine bytes t i phase workers queues seat report within going thread op low is w q next turn thread refl

      slots_other : (k : ℕ) → (k ≡ thread → ⊥) → slots k ≡ going.waiting (i + 1) k
      slots_other k ne = rest_other bytes t i phase workers queues seat report within going thread op low is w q next turn k ne

      queued_now : (k : ℕ) → k < t.threads →
          IsQueueFor bytes t k (slots k) (worker_in (set workers thread w) k) (delay_in (set queues thread q) k)
      queued_now k few = elim (cases_eq k thread) [
        | inl e ↦
            subst (λ j. IsQueueFor bytes t j (slots j) (worker_in (set workers thread w) j) (delay_in (set queues thread q) j)) (sym e)
            (queue_as thread q.slots (slots thread) w (worker_in (set workers thread w) thread) q (delay_in (set queues thread q) thread)
            slots_mine now_mine queue_mine waits_mine)
        | inr ne ↦
            queue_as k (going.waiting (i + 1) k) (slots k) (worker_in workers k) (worker_in (set workers thread w) k) (delay_in queues k)
            (delay_in (set queues thread q) k) (slots_other k ne) (get_or-set_other workers thread k w no_worker ne)
            (get_or-set_other queues thread k q no_queue ne) (going.queued k few)
      ]

      pub steps_op : HasPlayedUpTo bytes t (i + 1) phase (set workers thread w) (set queues thread q) next report
      steps_op =
          let again = told_again bytes t i phase workers queues seat report within going thread op low is w q next turn in
          let (d, grown, delayed) =
          grown_turn bytes t i phase workers queues seat report within going thread op low is w q next turn in
          let row : (k : ℕ) → with_row (i + 1 + 1) slots going.waiting (i + 1 + 1) k ≡ slots k =
          λ k. row_now (i + 1 + 1) slots going.waiting (i + 1 + 1) k refl in
          record {
            over = going.over;
            phase_is = going.phase_is;
            here = phase_same t.lines i low thread op is ∙ going.here;
            many = length-set workers thread w ∙ going.many;
            count = length-set queues thread q ∙ going.count;
            main = again.0;
            course = d;
            waiting = with_row (i + 1 + 1) slots going.waiting;
            ends = set going.ends thread turn.ends;
            same_count = length-set going.ends thread turn.ends ∙ going.same_count;
            ended = grown.ended;
            delayed = delayed;
            told = told_now bytes t i phase workers queues seat report within going thread op low is w q next turn;
            each = λ k few. elim (cases_eq k thread) [
              | inl e ↦
                  subst (λ j. IsAtLine t (i + 1) j (worker_in (set workers thread w) j)) (sym e)
                  (subst (IsAtLine t (i + 1) thread) (sym now_mine) at_mine)
              | inr ne ↦
                  subst (IsAtLine t (i + 1) k) (sym (get_or-set_other workers thread k w no_worker ne)) (at_other k few ne)
            ];
            queued = λ k few. subst
                (λ hs. IsQueueFor bytes t k hs (worker_in (set workers thread w) k) (delay_in (set queues thread q) k)) (sym (row k))
                (queued_now k few);
            reported =
                report_kept t going.over (i + 1) going.course d going.waiting (with_row (i + 1 + 1) slots going.waiting) report grown.agree
                (λ m k high. row_before (i + 1 + 1) slots going.waiting m k (λ e. omega arith)) going.reported;
          }

  -- ---- the end

  module _ (past : length t.lines ≤ i) (next : View) (now : List ReportLine) (asked : HasAsked seat next) (aware : IsAware next)
      (said : IsReportedWith phase t.partitions (length workers) (worker_in workers) (slots_in queues) seat next report now)
      (high : i ≤ length t.lines) where
    pub steps_end : HasPlayedDelayed bytes t workers next now
    steps_end =
        let ends = worker_in going.ends in
        let whole : i ≡ length t.lines = omega arith in
        let turns : i + 1 ≡ turns_in InTurn t = omega arith in
        let all : phases_in t.lines ≡ going.over + 1 = ap phases_in (sym (take_all i t.lines past)) ∙ (going.here ∙ going.phase_is) in
        let heard = heard_ended InTurn t (i + 1) going.course ends seat (omega arith) going.ended in
        let (d, more) =
        turns_grow.looks InTurn t (i + 1) going.course ends seat next going.ended (heard_asked t.threads ends seat next asked aware heard)
        (asked_sees seat next asked) in
        let old = report_asked t going.over (i + 1) going.course d going.waiting ends seat next report more going.ended.seat heard.aware
        asked going.reported in
        let last : last_turn InTurn t (going.over + 1) ≡ i + 1 =
        ap (last_turn InTurn t) (sym all) ∙ ((all_turns_go InTurn t).whole ∙ sym turns) in
        let said' = subst (λ n. IsReportedWith n t.partitions t.threads (worker_in workers) (slots_in queues) seat next report now)
        going.phase_is
        (subst (λ n. IsReportedWith phase t.partitions n (worker_in workers) (slots_in queues) seat next report now) going.many said) in
        let reported =
        report_grows t going.over (i + 1) d going.waiting going.ends workers seat next (slots_in queues) report now old more.ended
        going.told slots_here last said' in
        record {
          gone = record {
            course = d;
            ends = going.ends;
            count = going.same_count;
            same_count = going.many;
            ended = subst (λ n. HasEndedBy InTurn t n d ends next) turns more.ended;
            told = going.told;
            main = main_asked t.threads seat next asked going.main;
            places = reported.places ∙ ap (phases_of t.partitions 1) (sym all);
            right = reported.right;
          };
          waiting = going.waiting;
          delayed = subst (λ n. IsDelayedCourse bytes t n d going.waiting) turns
              (delayed_looks bytes t (i + 1) (i + 1) going.course d going.waiting ends next more going.delayed);
          cached = reported.cached;
        }
