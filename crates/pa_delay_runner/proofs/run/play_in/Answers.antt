use Rattle.std.proofs.Common.{◌≡◌, ℕ, ◌++◌, List, length, take, drop, sym, ◌∙◌, subst, arith}
use Rattle.std.proofs.lemmas.List.{take_at}
use Rattle.std.proofs.lemmas.Result.{IfOk-weaker}
use Rattle.pa_trace.specs.declared.script.Trace.{Trace}
use Rattle.pa_record.specs.declared.report.ReportLine.{ReportLine}
use Rattle.pa_region.specs.declared.view.View.{View}
use Rattle.pa_op_specs.specs.Workers.{WorkerValue}
use Rattle.pa_runner.specs.Opening.{AreNew}
use Rattle.pa_delay_runner.specs.Played.{HasPlayedDelayed}
use Rattle.pa_delay_runner.proofs.run.play_in.Goals as goal

-- the workers are as many as before
as_many : (bytes : ℕ) (t : Trace) (workers after : List WorkerValue) (len : ℕ) (seat : View) (report : List ReportLine) →
    AreNew t workers → length workers ≡ len → HasPlayedDelayed bytes t after seat report →
    HasPlayedDelayed bytes t (take len (after ++ drop (length after) workers)) seat report
as_many bytes t workers after len seat report new many played =
    subst (λ (ws : List WorkerValue). HasPlayedDelayed bytes t ws seat report)
    (sym (take_at after (drop (length after) workers) len (played.gone.same_count ∙ (sym new.count ∙ many)))) played

pub close_delayed-requires-clause-played : goal.close_delayed-requires-clause-played
close_delayed-requires-clause-played g c = (
  c.args.bytes,
  as_many c.args.bytes c.args.trace.now c.in_ok-workers.workers.items c.play_lines.new.workers c.in_ok-workers.workers.len
      c.play_lines.new.seat.view c.in_ok-report.report.items c.in_ok-workers.ensures.new (omega arith) c.in_ok-report.ensures.played,
)

pub returns : goal.returns
returns g c =
    IfOk-weaker c.close_delayed.result _ _
    (λ out tells. tells c.args.bytes
    (as_many c.args.bytes c.args.trace.now c.in_ok-workers.workers.items c.play_lines.new.workers c.in_ok-workers.workers.len
    c.play_lines.new.seat.view c.in_ok-report.report.items c.in_ok-workers.ensures.new (omega arith) c.in_ok-report.ensures.played))
    c.close_delayed.ensures
