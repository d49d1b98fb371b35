use Rattle.std.proofs.Common.{◌<◌, sym, subst}
use Rattle.std.specs.Prelude.{slice_index_or}
use Rattle.pa_slot.specs.declared.title.Title.{Title}
use Rattle.pa_region.specs.declared.view.View.{View}
use Rattle.pa_region.specs.Views.{free_of}
use Rattle.pa_root.proofs.numbers.numbers_seen.Goals as goal

pub number_seen-number-requires-clause-free : goal.number_seen-number-requires-clause-free
number_seen-number-requires-clause-free c =
    let none : Title = record { start = 0; len = 0; born = 0 } in
    subst (λ (v : View). 0 < free_of v (slice_index_or c.args.titles.now c.loop-i.i none)) (sym c.loop-i.invariant.view)
    (c.requires.free c.loop-i.i none c.loop-i-test.true)
