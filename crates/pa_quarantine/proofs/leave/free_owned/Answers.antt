use Rattle.std.proofs.Common.{refl, sym, subst}
use Rattle.pa_slot.specs.declared.word.Step.TheVariants.{Free}
use Rattle.pa_region.specs.declared.view.View.{View}
use Rattle.pa_region.specs.Moves.{CanCount}
use Rattle.pa_quarantine.proofs.Filling.{poison_ready}
use Rattle.pa_quarantine.proofs.leave.free_owned.Goals as goal

pub free-requires-clause-able : goal.free-requires-clause-able
free-requires-clause-able c =
    subst (λ (v : View). CanCount Free c.args.title v) (sym c.poison.ensures.view) (
      poison_ready c.states_are_owns.ensures c.owns_change.ensures c.args.title c.args.seat.now.view c.requires.able.0,
      c.requires.able.1,
      c.requires.able.2,
      refl,
    )
