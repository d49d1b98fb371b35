use Rattle.std.proofs.Common.{sym, ap, get_or, take, Err, subst}
use Rattle.std.proofs.lemmas.List.{take_more}
use Rattle.std.proofs.lemmas.Option.{slice_get-get_or}
use Rattle.pa_slot.specs.declared.word.Step.TheVariants.{Issue}
use Rattle.pa_machine.specs.declared.event.Event.{Event}
use Rattle.pa_machine.specs.declared.event.Event.TheVariants.{Count}
use Rattle.pa_machine.specs.Events.{State}
use Rattle.pa_machine.specs.Trail.{IsRunTo}
use Rattle.pa_machine.proofs.Lasting.{run_start, run_more, refused_at}
use Rattle.pa_machine.proofs.machine.core_run.Goals as goal

-- the event that a read past the end would give
abbrev no_event : Event
no_event = Count 0 (record { start = 0; len = 0; born = 0 }) Issue

pub loop-index-init : goal.loop-index-init
loop-index-init c = (run_start c.args.core.now c.known_good.ensures, c.known_good.ensures)

pub returns-in-Err-clause-refused : goal.returns-in-Err-clause-refused
returns-in-Err-clause-refused c =
    let same = c.in-Err.ensures.same in
    let event = get_or c.args.events.now c.loop-index.index no_event in
    let why = refused_at c.in-Err.fault event c.loop-index.core (λ e. c.in-Err.ensures.refused (ap Err e))
    (λ e. c.in-Err.ensures.enabled (ap Err e))
    (λ e. c.in-Err.ensures.asks (ap Err e)) in (
      c.loop-index-test.true,
      subst (λ (s : State). IsRunTo c.args.core.now (take c.loop-index.index c.args.events.now) s) (sym same) c.loop-index.invariant.0,
      rw (slice_get-get_or c.args.events.now c.loop-index.index no_event c.loop-index-test.true, same) why,
    )

pub loop-index-preserved : goal.loop-index-preserved
loop-index-preserved c =
    let h = c.in_default.ensures.happens in (
      rw (take_more c.args.events.now c.loop-index.index no_event c.loop-index-test.true)
          (run_more c.args.core.now c.loop-index.core c.step.new.self (take c.loop-index.index c.args.events.now)
          (get_or c.args.events.now c.loop-index.index no_event)
          c.known_good.ensures c.loop-index.invariant.0 h.0 h.1),
      c.in_default.ensures.good,
    )
