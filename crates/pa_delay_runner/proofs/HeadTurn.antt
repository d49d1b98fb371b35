-- The head's turn of a delayed run: no line is played, and all workers lend their stakes.
use Rattle.std.proofs.Common.{◌≡◌, ◌≢◌, ℕ, ◌<◌, false, List, [], length, refl, sym, ◌∙◌, ap, ap₂, subst, arith}
use Rattle.pa_lists.proofs.Members.{not_in_none}
use Rattle.pa_lists.proofs.Pairs.{pairs_none}
use Rattle.pa_trace.specs.declared.script.Trace.{Trace}
use Rattle.pa_record.specs.declared.entry.Entry.{Entry}
use Rattle.pa_record.specs.declared.report.ReportLine.{ReportLine}
use Rattle.pa_region.specs.declared.view.View.{View}
use Rattle.pa_region.specs.Aware.{IsAware}
use Rattle.pa_cells.specs.declared.handle.Handle.{Handle}
use Rattle.pa_delay.specs.Queue.{QueueList}
use Rattle.pa_op_specs.specs.Stocks.{StockValue}
use Rattle.pa_op_specs.specs.Workers.{WorkerValue}
use Rattle.pa_heap.specs.Waiting.{HoldsQueue}
use Rattle.pa_execution.specs.Turns.{InTurn}
use Rattle.pa_execution.specs.Courses.{HasHeardAll}
use Rattle.pa_execution.specs.Gathering.{IsMain, HasHeardSome}
use Rattle.pa_execution.proofs.Gathering.{workers_tell}
use Rattle.pa_execution.proofs.Growing.{turns_grow}
use Rattle.pa_runner.specs.Opening.{AreNew}
use Rattle.pa_runner.specs.Phases.{HaveTold, worker_in}
use Rattle.pa_runner.specs.Tracing.{lines_by}
use Rattle.pa_delay_runner.specs.Going.{HasPlayedUpTo, IsAtLine}
use Rattle.pa_delay_runner.specs.Played.{delay_in}
use Rattle.pa_delay_runner.proofs.PhaseReports.{report_first}
use Rattle.pa_delay_runner.proofs.TurnLines.{head_lines}

module _ (bytes : ℕ) (t : Trace) (workers after : List WorkerValue) (queues : List QueueList) (first seat : View)
    (report : List ReportLine) (begins : AreNew t workers) (count : length after ≡ length workers)
    (heard : HasHeardSome (length workers) (length workers) (worker_in workers) first seat)
    (told : HaveTold (length workers) workers after) (aware : IsAware seat) (many : length queues ≡ t.threads)
    (opened : (k : ℕ) → k < t.threads → delay_in queues k ≡ record { limit = bytes; room = lines_by k t.lines; slots = [] })
    (none : report ≡ []) where
  told_first : HaveTold t.threads workers after
  told_first = subst (λ n. HaveTold n workers after) begins.count told

  heard_first : HasHeardAll t.threads (worker_in workers) seat
  heard_first = subst (λ n. HasHeardAll n (worker_in workers) seat) begins.count
      (workers_tell.all (length workers) (worker_in workers) first seat heard aware)

  at_first : (k : ℕ) → k < t.threads → IsAtLine t 0 k (worker_in after k)
  at_first k few =
      let new = (begins.each k few).new in
      subst (IsAtLine t 0 k) (sym (told_first.told k few)) (record {
        thread = new.stock.thread_is;
        partitions = new.stock.partitions_are;
        rules = ap₂ (λ version plain_from. record { version = version; plain_from = plain_from }) new.stock.version_is new.stock.plain_is;
        going = new.going;
        settled = new.owed;
        room = new.room;
        count = ap (λ (es : List Entry). length es) new.records;
      })

  holds_none : (s : StockValue) → HoldsQueue [] s
  holds_none s = record { each = λ h has. absurd (not_in_none h has); differ = pairs_none (λ (g h : Handle). g.title ≢ h.title) }

  pub steps_begin : HasPlayedUpTo bytes t 0 1 after queues seat report
  steps_begin =
      let (c, begun) =
      turns_grow.begins InTurn t (λ k. false) (worker_in workers) (λ k few. let new = begins.each k few in
      record { lines = lines_by k t.lines; view = new.view; new = new.new; log = new.log }) in
      let (d, grown) =
      turns_grow.ends InTurn t 0 c (λ k. false) (worker_in workers) (λ k. []) (worker_in workers) seat begun
      (λ k few. (refl, sym (head_lines t k), (begins.each k few).new.owed)) (λ k few waits. head_lines t k) heard_first
      (λ some. absurd (omega arith)) in
      record {
        over = 0;
        phase_is = refl;
        here = refl;
        many = count ∙ begins.count;
        count = many;
        main = subst (λ n. IsMain n seat) begins.count heard.main;
        course = d;
        waiting = λ n k. [];
        ends = workers;
        same_count = begins.count;
        ended = grown.ended;
        delayed = record {
          first = λ k few. refl;
          holds = λ n k low high few. holds_none (d.ends n k).stock;
          hears = λ n k low high few. refl;
          stays = λ n k low high few nothing. refl;
          leads = λ n k x low high few one. absurd (omega arith);
        };
        told = told_first;
        each = at_first;
        queued = λ k few. record { is = opened k few; few = omega arith; holds = holds_none (worker_in after k).stock };
        reported = report_first t 1 d (λ n k. []) report none;
      }
