-- The steps of a delayed run as the code meets them.
use Rattle.std.proofs.Common.{◌≡◌, ℕ, ◌+◌, ◌<◌, ◌≤◌, false, List, length, set, get_or, sym, ◌∙◌, ap, subst, arith}
use Rattle.std.proofs.lemmas.List.{get_or_default}
use Rattle.pa_trace.specs.declared.script.Line.{Line}
use Rattle.pa_trace.specs.declared.script.Line.TheVariants.{Phase, Do}
use Rattle.pa_trace.specs.declared.script.Op.{Op}
use Rattle.pa_trace.specs.declared.script.Trace.{Trace}
use Rattle.pa_trace.specs.Limits.{IsOpWithin, IsWithinLimits}
use Rattle.pa_record.specs.declared.report.ReportLine.{ReportLine}
use Rattle.pa_region.specs.declared.view.View.{View}
use Rattle.pa_region.specs.Views.{stake_of}
use Rattle.pa_delay.specs.Queue.{QueueList}
use Rattle.pa_totals.specs.Settled.{none_owed}
use Rattle.pa_op_specs.specs.Workers.{WorkerValue}
use Rattle.pa_heap.specs.Waiting.{HoldsQueue}
use Rattle.pa_runner.specs.Phases.{no_worker, worker_in}
use Rattle.pa_runner.specs.Tracing.{lines_by}
use Rattle.pa_runner.proofs.Tracing.{lines_by_start}
use Rattle.pa_delay_runner.specs.Turning.{TakesTurn}
use Rattle.pa_delay_runner.specs.Going.{HasPlayedUpTo}
use Rattle.pa_delay_runner.specs.Played.{no_queue, delay_in}
use Rattle.pa_delay_runner.proofs.OpTurn.{line_within}
use Rattle.pa_delay_runner.proofs.LineSteps.{few_lines, line_there, mine_more, steps_op}

-- What a turn needs of the worker and the queue of its thread.
pub record CanTakeTurn (thread : ℕ) (op : Op) (w : WorkerValue) (q : QueueList) : Type 0 where
  pub thread_is : (w.stock.thread ≡ thread) × (thread < 16)
  pub none : (k : ℕ) → stake_of w.stock.view k ≡ 0
  pub going : (w.stopped ≡ false) × (w.owed ≡ none_owed) × (length w.records < w.room)
  pub limits : IsOpWithin w.stock.partitions op
  pub room : (length q.slots < q.room) × (q.room ≤ 65536)
  pub waits : HoldsQueue q.slots w.stock

module _ (bytes : ℕ) (t : Trace) (i phase : ℕ) (workers : List WorkerValue) (queues : List QueueList) (seat : View)
    (report : List ReportLine) (within : IsWithinLimits t) (going : HasPlayedUpTo bytes t i phase workers queues seat report)
    (ls : List Line) (d : Line) (same : ls ≡ t.lines) (low : i < length ls) where
  pub low_here : i < length t.lines
  low_here = subst (λ (l : List Line). i < length l) same low

  pub at_here : (l : Line) → get_or ls i d ≡ l → get_or t.lines i Phase ≡ l
  at_here l is = get_or_default t.lines i Phase d low_here ∙ subst (λ (zs : List Line). get_or zs i d ≡ l) same is

  module _ (thread : ℕ) (op : Op) (is : get_or ls i d ≡ Do thread op) where
    at_op : get_or t.lines i Phase ≡ Do thread op
    at_op = at_here (Do thread op) is

    there : thread < t.threads
    there = line_there bytes t i phase workers queues seat report within going thread op low_here at_op

    worker_there : thread < length workers
    worker_there = let m = going.many in let l = there in omega arith

    queue_there : thread < length queues
    queue_there = let m = going.count in let l = there in omega arith

    worker_is : (w : WorkerValue) → get_or workers thread w ≡ worker_in workers thread
    worker_is w = get_or_default workers thread w no_worker worker_there

    queue_is : (q : QueueList) → q ≡ get_or queues thread q → q ≡ delay_in queues thread
    queue_is q here = here ∙ get_or_default queues thread q no_queue queue_there

    can_turn : CanTakeTurn thread op (worker_in workers thread) (delay_in queues thread)
    can_turn =
        let l = there in
        let threads = within.head.2.1 in
        let at = going.each thread there in
        let queue = going.queued thread there in
        let room : (delay_in queues thread).room ≡ lines_by thread t.lines = ap (λ (q : QueueList). q.room) queue.is in
        let slots = ap (λ (q : QueueList). q.slots) queue.is in
        let more = mine_more bytes t i phase workers queues seat report within going thread op low_here at_op in
        let start = lines_by_start thread (i + 1) t.lines in
        let count = at.count in
        let size = at.room in
        let few = queue.few in
        let all = few_lines bytes t i phase workers queues seat report within going thread in
        record {
          thread_is = (at.thread, omega arith);
          none = going.told.none thread there;
          going = (at.going, at.settled, omega arith);
          limits = subst (λ p. IsOpWithin p op) (sym at.partitions)
              (line_within bytes t i phase workers queues seat report within going thread op low_here at_op).1;
          room = subst (λ hs. (length hs < (delay_in queues thread).room) × ((delay_in queues thread).room ≤ 65536)) (sym slots)
              (omega arith, omega arith);
          waits = subst (λ hs. HoldsQueue hs (worker_in workers thread).stock) (sym slots) queue.holds;
        }

    pub turn_ready : (w : WorkerValue) (q : QueueList) → q ≡ get_or queues thread q → CanTakeTurn thread op (get_or workers thread w) q
    turn_ready w q here =
        subst (λ z. CanTakeTurn thread op z q) (sym (worker_is w))
        (subst (λ z. CanTakeTurn thread op (worker_in workers thread) z) (sym (queue_is q here)) can_turn)

    pub turn_played : (number : ℕ) (w v : WorkerValue) (q r : QueueList) (next : View) → number ≡ i + 2 → q ≡ get_or queues thread q →
        TakesTurn thread number op (get_or workers thread w) q seat v r next →
        HasPlayedUpTo bytes t (i + 1) phase (set workers thread v) (set queues thread r) next report
    turn_played number w v q r next number_is here turn =
        steps_op bytes t i phase workers queues seat report within going thread op low_here at_op v r next
        (subst (λ n. TakesTurn thread n op (worker_in workers thread) (delay_in queues thread) seat v r next) number_is
        (subst (λ z. TakesTurn thread number op (worker_in workers thread) z seat v r next) (queue_is q here)
        (subst (λ z. TakesTurn thread number op z q seat v r next) (worker_is w) turn)))

-- the same by other names
pub played_as : {bytes : ℕ} {t : Trace} {i phase then : ℕ} {workers others : List WorkerValue} {queues rows : List QueueList}
    {seat next : View} {report more : List ReportLine} → HasPlayedUpTo bytes t i phase workers queues seat report → then ≡ phase →
    others ≡ workers → rows ≡ queues → next ≡ seat → more ≡ report → HasPlayedUpTo bytes t i then others rows next more
played_as {bytes} {t} {i} {phase} {then} {workers} {others} {queues} {rows} {seat} {next} {report} {more} going p w q s r =
    subst (λ n. HasPlayedUpTo bytes t i n others rows next more) (sym p)
    (subst (λ ws. HasPlayedUpTo bytes t i phase ws rows next more) (sym w)
    (subst (λ qs. HasPlayedUpTo bytes t i phase workers qs next more) (sym q)
    (subst (λ v. HasPlayedUpTo bytes t i phase workers queues v more) (sym s)
    (subst (HasPlayedUpTo bytes t i phase workers queues seat) (sym r) going))))
