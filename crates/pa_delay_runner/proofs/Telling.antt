-- A whole run by turns, with queues that went as they must, is the delayed run of its trace.
use Rattle.std.proofs.Common.{ℕ, ◌≤◌, List, subst, arith}
use Rattle.std.specs.Prelude.{Contains}
use Rattle.pa_lists.proofs.Elements.{all_from_members}
use Rattle.pa_lists.proofs.Joined.{map_in}
use Rattle.pa_trace.specs.declared.script.Trace.{Trace}
use Rattle.pa_record.specs.declared.report.ReportLine.{ReportLine}
use Rattle.pa_region.specs.declared.view.View.{View}
use Rattle.pa_rules.specs.declared.played.Played.{Played}
use Rattle.pa_rules.specs.Caches.{no_caches}
use Rattle.pa_rules.specs.FileOrder.{IsInFileOrder}
use Rattle.pa_rules.specs.Legal.{phases_in}
use Rattle.pa_rules.specs.Told.{Told}
use Rattle.pa_legal.specs.Flows.{SlotsFlow}
use Rattle.pa_logs.specs.Said.{LayersSay}
use Rattle.pa_logs.specs.Told.{ToldRecord, played_in}
use Rattle.pa_logs.proofs.Due.{place_is}
use Rattle.pa_logs.proofs.Said.{layers_tell_all}
use Rattle.pa_turns.proofs.Whole.{turns_are_in_order}
use Rattle.pa_cells.specs.declared.handle.Handle.{Handle}
use Rattle.pa_cells.specs.Cells.{Exchange}
use Rattle.pa_delay.specs.Delayed.{no_queues, DelayedTo}
use Rattle.pa_delay.specs.Runs.{AreDelayed, IsDelayedLine, IsDelayedReport, IsDelayedTold}
use Rattle.pa_delay.proofs.Flowing.{delayed_flow}
use Rattle.pa_execution.specs.Turns.{InTurn, turns_in}
use Rattle.pa_execution.specs.Courses.{Course}
use Rattle.pa_execution.specs.Lines.{IsLineBy}
use Rattle.pa_execution.specs.Merged.{told_by_turns, lists_at}
use Rattle.pa_execution.specs.Telling.{IsWholeRunBy}
use Rattle.pa_execution.proofs.Grouping.{all_turns}
use Rattle.pa_execution.proofs.Heaping.{turns_tell}
use Rattle.pa_execution.proofs.Keepers.{courses_tell_all}
use Rattle.pa_execution.proofs.Lining.{courses_tell_lines}
use Rattle.pa_execution.proofs.Turning.{some_turn}
use Rattle.pa_delay_runner.specs.Course.{IsDelayedCourse}
use Rattle.pa_delay_runner.specs.Laws.{queues_at, IsLineWaiting, DelayedIsTold}
use Rattle.pa_delay_runner.proofs.Leading.{leads}
use Rattle.pa_delay_runner.proofs.Reporting.{tallied}

module _ (bytes : ℕ) (t : Trace) (r : Told) (c : Course) (v : View) (xs : List Exchange) (waiting : ℕ → ℕ → List Handle)
    (run : IsWholeRunBy InTurn t r c v xs) (delayed : IsDelayedCourse bytes t (turns_in InTurn t) c waiting) where
  abbrev ts : List ToldRecord
  ts = told_by_turns InTurn t c

  -- all records lead the lists and the queues to those at the end
  pub all_lead : DelayedTo bytes t.partitions r.roots no_caches no_queues (played_in ts) (lists_at t c (turns_in InTurn t))
      (queues_at t c waiting (turns_in InTurn t))
  all_lead =
      let n = turns_in InTurn t in
      subst (λ zs. DelayedTo bytes t.partitions r.roots no_caches no_queues (played_in zs) (lists_at t c n) (queues_at t c waiting n))
      (all_turns InTurn t c run.left.limits run.course)
      (leads bytes t r c v xs waiting run delayed n (some_turn InTurn t) (omega arith))

  are_delayed : AreDelayed bytes t.partitions r.roots (played_in ts)
  are_delayed = (lists_at t c (turns_in InTurn t), queues_at t c waiting (turns_in InTurn t), all_lead)

  pub flows : SlotsFlow t.partitions r.roots (played_in ts)
  flows = delayed_flow bytes t.partitions (played_in ts) r.pools r.roots run.left.journals are_delayed

  module _ (lines : (l : ReportLine) → Contains r.report l → IsLineBy InTurn t c v l) where
    pub says : LayersSay t r v ts
    says = courses_tell_all InTurn t r c v xs run
        (λ l among. courses_tell_lines InTurn t r c v xs run l among (lines l among))

    order : IsInFileOrder (played_in ts) r.pools r.roots r.cells
    order = turns_are_in_order t r v ts c.seats says (turns_tell t r c v xs run)

    module _ (cached : (l : ReportLine) → Contains r.report l → IsLineWaiting t c waiting l) where
      line : (l : ReportLine) → Contains r.report l → IsDelayedLine bytes t.partitions t.threads (played_in ts) r.pools r.roots l
      line l among =
          let place : ℕ × ℕ = (l.phase, l.partition) in
          let at = place_is t.partitions 1 (phases_in t.lines) place
          (subst (λ ns. Contains ns place) run.left.places (map_in (λ (z : ReportLine). (z.phase, z.partition)) r.report l among)) in
          let low : 1 ≤ l.phase = at.low in
          let high = at.high in
          let shared = layers_tell_all.lines t r v ts says flows l among in
          record {
            live = shared.live;
            quarantined = shared.quarantined;
            cached = tallied bytes t r c v xs waiting run delayed l.phase l.partition l.cached low (omega arith) (cached l among);
            root = shared.root;
          }

      report : IsDelayedReport bytes (phases_in t.lines) t.partitions t.threads (played_in ts) r.pools r.roots r.report
      report = record {
        places = run.left.places;
        right = all_from_members (IsDelayedLine bytes t.partitions t.threads (played_in ts) r.pools r.roots) r.report line;
      }

      is_told : IsDelayedTold bytes t r
      is_told =
          let records = says.runner.records in (
            record {
              clauses = layers_tell_all.clauses t r v ts says flows;
              caches = subst (λ (ps : List Played). AreDelayed bytes t.partitions r.roots ps) records are_delayed;
              report = subst
                  (λ (ps : List Played). IsDelayedReport bytes (phases_in t.lines) t.partitions t.threads ps r.pools r.roots r.report)
                  records report;
            },
            subst (λ (ps : List Played). IsInFileOrder ps r.pools r.roots r.cells) records order,
          )

pub delayed_is_told : DelayedIsTold
delayed_is_told bytes t r c v xs waiting run delayed lines cached = is_told bytes t r c v xs waiting run delayed lines cached
