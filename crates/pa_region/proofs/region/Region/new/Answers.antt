use Rattle.std.proofs.Common.{◌∙◌}
use Rattle.pa_region.proofs.Opens.{opens_with, first_keeps}
use Rattle.pa_region.proofs.region.Region.new.Goals as goal

pub of_words-requires : goal.of_words-requires
of_words-requires c =
    let zeros = c.as_slice.ensures.value ∙ c.in_ok-zeros.ensures.items_if_clones_equal (λ y e. e) in
    opens_with c.args.supers c.args.budget c.as_slice.result.now c.requires.supers.1 c.requires.budget zeros

pub invariant_of-result-2 : goal.invariant_of-result-2
invariant_of-result-2 c =
    let zeros = c.as_slice.ensures.value ∙ c.in_ok-zeros.ensures.items_if_clones_equal (λ y e. e) in
    let made = c.in_ok-table.ensures in
    first_keeps c.args.supers c.args.budget c.as_slice.result.now c.in_ok-table.table.shared.table_id
    c.in_ok-table.seat.table_id c.in_ok-table.seat.me c.requires.supers.1 c.requires.budget zeros made.0 made.2 made.4
