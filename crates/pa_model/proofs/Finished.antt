-- The end of a player that others drive: its run goes on from what was played.
use Rattle.std.proofs.Common.{◌≡◌, ℕ, List, [], refl, sym, ap, subst, arith}
use Rattle.std.proofs.lemmas.List.{append-nil}
use Rattle.pa_trace.specs.declared.script.Trace.{Trace}
use Rattle.pa_trace.specs.Grammar.{IsTraceText}
use Rattle.pa_record.specs.declared.run.Run.{Run}
use Rattle.pa_rules.specs.Told.{told_by, records_of}
use Rattle.pa_player.specs.Asks.{CanEnd}
use Rattle.pa_player.specs.Changes.{phase_ended}
use Rattle.pa_player.specs.Playing.{journals}
use Rattle.pa_player.specs.Told.{IsToldRun, IsToldText, history_in}
use Rattle.pa_player.proofs.Ended.{lists_of, told_same}
use Rattle.pa_player.proofs.Reporting.{end_ready}
use Rattle.pa_model.specs.Player.{Player, trace_so_far, records_so_far, IsGoing, GoesOnFrom, IsFinished, IsPrinted}
use Rattle.pa_model.proofs.AllTold.{all_told}

pub can_end : (p : Player) → IsGoing p → CanEnd p.inner
can_end p going =
    let few = going.within.few in
    end_ready p.lines.head.region p.lines.head.partitions p.lines.head.threads p.lines.items p.inner (omega (arith, few)) going.playing

pub finishes : (p : Player) (run : Run) → IsGoing p → IsToldRun (phase_ended p.inner).told run → IsFinished p (trace_so_far p) run
finishes p run going told =
    let t : Trace = trace_so_far p in
    let all = all_told t p.inner going.rules going.within going.playing in
    let is : told_by run ≡ lists_of (phase_ended p.inner).told = told_same (phase_ended p.inner).told run told in
    let records : records_of t (told_by run) ≡ records_so_far p = ap (records_of t) is in
    let on : GoesOnFrom p (records_so_far p) (lists_of (phase_ended p.inner).told) = record {
      records = ([], sym (append-nil (records_so_far p)));
      journals = λ q. ([], sym (append-nil (journals p.inner q)));
      cells = λ k. ([], sym (append-nil (history_in p.inner.told k)));
    } in
    record {
      trace = refl;
      file = all.file run told;
      core = all.core run told;
      printable = all.printable run told;
      records = records;
      goes_on = subst (λ ps. GoesOnFrom p ps (told_by run)) (sym records) (subst (GoesOnFrom p (records_so_far p)) (sym is) on);
    }

pub is_printed : (p : Player) (front text : List ℕ) → IsGoing p → IsTraceText (trace_so_far p) front →
    IsToldText (phase_ended p.inner).told text
    → IsPrinted p front text
is_printed p front text going traced is =
    record { run = is.run; finished = finishes p is.run going is.lists; traced = traced; printed = is.text }
