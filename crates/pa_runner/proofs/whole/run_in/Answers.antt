use Rattle.std.proofs.Common.{◌≡◌, ℕ, ◌++◌, List, length, take, drop, sym, ◌∙◌, subst, arith}
use Rattle.std.proofs.lemmas.List.{take_at}
use Rattle.pa_trace.specs.declared.script.Trace.{Trace}
use Rattle.pa_record.specs.declared.report.ReportLine.{ReportLine}
use Rattle.pa_region.specs.declared.view.View.{View}
use Rattle.pa_op_specs.specs.Workers.{WorkerValue}
use Rattle.pa_runner.specs.Opening.{AreNew}
use Rattle.pa_runner.specs.Whole.{HasPlayed}
use Rattle.pa_runner.proofs.whole.run_in.Goals as goal

-- the workers are as many as before
as_many : (t : Trace) (workers after : List WorkerValue) (len : ℕ) (seat : View) (report : List ReportLine) →
    AreNew t workers → length workers ≡ len → HasPlayed t after seat report →
    HasPlayed t (take len (after ++ drop (length after) workers)) seat report
as_many t workers after len seat report new many played =
    subst (λ (ws : List WorkerValue). HasPlayed t ws seat report)
    (sym (take_at after (drop (length after) workers) len (played.gone.same_count ∙ (sym new.count ∙ many)))) played

pub close_run-requires-clause-played : goal.close_run-requires-clause-played
close_run-requires-clause-played g c =
    as_many c.args.trace.now c.in_ok-workers.workers.items c.play_phases.new.workers c.in_ok-workers.workers.len
    c.play_phases.new.seat.view c.in_ok-report.report.items c.in_ok-workers.ensures.new (omega arith) c.in_ok-report.ensures.played
