use Rattle.std.proofs.Common.{◌∙◌, refl, sym, subst, arith}
use Rattle.pa_slot.specs.declared.word.Step.TheVariants.{Free}
use Rattle.pa_region.specs.declared.view.View.{View}
use Rattle.pa_region.specs.Moves.{HasHandle}
use Rattle.pa_quarantine.proofs.Filling.{open_own, poison_can, poison_more, poison_end, poison_ready}
use Rattle.pa_quarantine.proofs.fill.poison.Goals as goal

pub placed-requires : goal.placed-requires
placed-requires c = let o = open_own c.states_are_owns.ensures c.args.seat.now.view c.args.title c.requires.able.0 in omega arith

pub loop-word-init : goal.loop-word-init
loop-word-init c = record { region = refl; view = refl }

pub poison_next-requires-clause-able : goal.poison_next-requires-clause-able
poison_next-requires-clause-able c =
    poison_can c.states_are_owns.ensures c.owns_change.ensures c.args.title c.loop-word.word c.args.seat.now.view c.loop-word.seat.view
    (omega arith) c.requires.able.0 c.requires.able.1 c.requires.begins c.loop-word.invariant.view

pub loop-word-preserved : goal.loop-word-preserved
loop-word-preserved c = record {
  region = c.poison_next.ensures.region ∙ c.loop-word.invariant.region;
  view = poison_more c.args.title c.loop-word.word c.args.seat.now.view c.loop-word.seat.view c.poison_next.new.seat.view
      c.loop-word.invariant.view c.poison_next.ensures.view;
}

pub returns-clause-view : goal.returns-clause-view
returns-clause-view c =
    let long = c.placed.ensures.well.long in
    poison_end c.args.title c.loop-word.word c.args.seat.now.view c.loop-word.seat.view (omega arith)
    (omega arith) c.loop-word.invariant.view

pub returns-clause-ready : goal.returns-clause-ready
returns-clause-ready c =
    let long = c.placed.ensures.well.long in
    subst (λ (v : View). HasHandle Free c.args.title v)
    (sym (poison_end c.args.title c.loop-word.word c.args.seat.now.view c.loop-word.seat.view (omega arith)
    (omega arith) c.loop-word.invariant.view))
    (poison_ready c.states_are_owns.ensures c.owns_change.ensures c.args.title c.args.seat.now.view c.requires.able.0)
