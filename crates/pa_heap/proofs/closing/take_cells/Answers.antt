use Rattle.std.proofs.Common.{sym, ◌∙◌, subst}
use Rattle.pa_region.specs.declared.view.View.{View}
use Rattle.pa_heap.specs.Closing.{IsWithin}
use Rattle.pa_heap.proofs.TakingIn.{takes_on, within_on}
use Rattle.pa_heap.proofs.closing.take_cells.Goals as goal

pub loop-waiting-preserved : goal.loop-waiting-preserved
loop-waiting-preserved g c = (
  c.take_parked.ensures.region ∙ c.loop-waiting.invariant.0,
  takes_on c.take_in.new.seat.view c.loop-waiting.seat.view c.take_parked.new.seat.view c.loop-waiting.invariant.1
      c.take_parked.ensures.takes,
)

pub returns-clause-takes : goal.returns-clause-takes
returns-clause-takes g c =
    takes_on c.args.seat.now.view c.take_in.new.seat.view c.loop-waiting.seat.view c.take_in.ensures.takes c.loop-waiting.invariant.1

pub returns-clause-leaves : goal.returns-clause-leaves
returns-clause-leaves g c = record {
  cells = c.into_inner.result;
  histories_are = sym c.close-histories.ensures.histories;
  kept = c.close-histories.ensures.kept.0;
  within = within_on c.into_inner.result.view c.take_in.new.seat.view c.loop-waiting.seat.view
      (subst (λ (v : View). IsWithin v c.take_in.new.seat.view) c.close-histories.ensures.note.0 c.take_in.ensures.within)
      c.loop-waiting.invariant.1.within;
}
