-- A heap was closed in which a delayed run was played: the run that is made of what it left is the delayed run of its trace, and the words
-- hold it.
use Rattle.std.proofs.Common.{◌≡◌, ℕ, ◌<◌, ◌≤◌, List, sym, ◌∙◌, ap, subst, arith}
use Rattle.std.specs.Prelude.{Contains}
use Rattle.std.proofs.lemmas.List.Elements.{All-get_or}
use Rattle.pa_slot.specs.declared.title.Title.{Title}
use Rattle.pa_trace.specs.declared.script.Trace.{Trace}
use Rattle.pa_trace.specs.Limits.{IsWithinLimits}
use Rattle.pa_record.specs.declared.report.ReportLine.{ReportLine}
use Rattle.pa_record.specs.declared.run.Run.{Run}
use Rattle.pa_region.specs.declared.view.View.{View}
use Rattle.pa_region.specs.Views.{free_of}
use Rattle.pa_rules.specs.Told.{Told, told_by, records_of}
use Rattle.pa_rules.specs.Held.{IsHeldIn}
use Rattle.pa_cells.specs.Cells.{Exchange}
use Rattle.pa_delay.specs.Runs.{IsDelayedTold}
use Rattle.pa_heap.specs.Closing.{LeavesWorker}
use Rattle.pa_op_specs.specs.Stocks.{IsStock}
use Rattle.pa_op_specs.specs.Workers.{WorkerValue}
use Rattle.pa_execution.specs.Turns.{InTurn, turns_in}
use Rattle.pa_execution.specs.Courses.{Course}
use Rattle.pa_execution.specs.Gathering.{told_worker}
use Rattle.pa_execution.specs.Lines.{IsLineBy}
use Rattle.pa_execution.specs.Telling.{IsWholeRunBy}
use Rattle.pa_runner.specs.Gone.{IsMadeOf}
use Rattle.pa_runner.specs.Phases.{no_worker, worker_in}
use Rattle.pa_runner.proofs.Gone.{exchanges, is_whole, line_by, holds, has_spans, is_long, is_printable}
use Rattle.pa_delay_runner.specs.Laws.{IsLineWaiting, HaveLists}
use Rattle.pa_delay_runner.specs.Played.{HasPlayedDelayed, IsHeldDelayed}
use Rattle.pa_delay_runner.proofs.Printing.{delayed_acts_name}
use Rattle.pa_delay_runner.proofs.Resting.{waits_free}
use Rattle.pa_delay_runner.proofs.Telling.{flows, delayed_is_told}

module _ (bytes : ℕ) (t : Trace) (workers : List WorkerValue) (seat : View) (report : List ReportLine) (limits : IsWithinLimits t)
    (went : HasPlayedDelayed bytes t workers seat report) (run : Run) (words : List ℕ)
    (made : IsMadeOf t workers seat report run words) where
  abbrev c : Course
  c = went.gone.course

  abbrev told : Told
  told = told_by run

  abbrev last : View
  last = made.closed.last

  abbrev xs : List Exchange
  xs = exchanges InTurn t workers seat report limits went.gone run words made

  abbrev turns : ℕ
  turns = turns_in InTurn t

  whole : IsWholeRunBy InTurn t told c last xs
  whole = is_whole InTurn t workers seat report limits went.gone run words made

  lines : (l : ReportLine) → Contains run.report.items l → IsLineBy InTurn t c last l
  lines = line_by InTurn t workers seat report limits went.gone run words made

  cached : (l : ReportLine) → Contains run.report.items l → IsLineWaiting t c went.waiting l
  cached l member = went.cached l (subst (λ (ls : List ReportLine). Contains ls l) made.report_is member)

  is_told : IsDelayedTold bytes t told
  is_told = delayed_is_told bytes t told c last xs went.waiting whole went.delayed lines cached

  -- ---- what the closing seat has free

  leaves : (k : ℕ) → k < t.threads → LeavesWorker last (worker_in workers k)
  leaves k few =
      let count = went.gone.same_count in
      All-get_or (LeavesWorker last) workers k no_worker (omega arith) made.closed.workers

  -- a worker is as it was at the end of the last line, but that it lent its stake
  lent : (k : ℕ) → k < t.threads → worker_in workers k ≡ told_worker k (c.ends turns k)
  lent k few = went.gone.told.told k few ∙ ap (told_worker k) (sym (went.gone.ended.ends k few))

  frees : (k : ℕ) → k < t.threads → (u : Title) → free_of (c.ends turns k).stock.view u ≤ free_of last u
  frees k few u =
      let same : free_of (worker_in workers k).stock.view u ≡ free_of (c.ends turns k).stock.view u =
      ap (λ (w : WorkerValue). free_of w.stock.view u) (lent k few) in
      let more = (leaves k few).within.frees u in
      omega arith

  lists : HaveLists t c turns
  lists k few =
      let held = (subst (λ (w : WorkerValue). IsStock w.stock) (lent k few) (leaves k few).stock).lists in
      record {
        count = held.count;
        sound = held.sound;
        classes = held.classes;
        few = held.few;
        free = held.free;
        apart = held.apart;
        made = λ p class u among. let seen = held.made p class u among in record { partition = seen.partition; entry = seen.entry };
        well = held.well;
      }

  is_held : IsHeldIn t told words
  is_held = holds InTurn t workers seat report limits went.gone run words made
      (flows bytes t told c last xs went.waiting whole went.delayed)
      (waits_free bytes t told c last xs went.waiting whole went.delayed lines frees lists)

  -- ---- all of it

  pub is_delayed : IsHeldDelayed bytes t run words
  is_delayed = record {
    delayed = is_told;
    held = is_held;
    spans = has_spans InTurn t workers seat report limits went.gone run words made;
    long = is_long InTurn t workers seat report limits went.gone run words made;
    printable = is_printable InTurn t workers seat report limits went.gone run words made is_told.0.clauses.roots
        (delayed_acts_name bytes t.partitions told.roots (records_of t told) is_told.0.caches);
  }
