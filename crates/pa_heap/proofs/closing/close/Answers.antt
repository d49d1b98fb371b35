use Rattle.std.proofs.Common.{refl, ◌∙◌, ap}
use Rattle.pa_region.specs.Shares.{byte_word_count}
use Rattle.pa_heap.proofs.Closed.{every_on, taken_all, closed_by}
use Rattle.pa_heap.proofs.closing.close.Goals as goal

pub close-region-requires-clause-stakes : goal.close-region-requires-clause-stakes
close-region-requires-clause-stakes g c =
    every_on c.args.seat.view c.take_cells-cells.new.seat.view
    (taken_all c.args.seat.view c.take_workers.new.seat.view c.take_pool-pool.new.seat.view c.take_root.new.seat.view
    c.take_root-2.new.seat.view
    c.take_root-3.new.seat.view c.take_root-4.new.seat.view c.take_cells-cells.new.seat.view c.take_workers.ensures.takes
    c.take_pool-pool.ensures.takes
    c.take_root.ensures.takes c.take_root-2.ensures.takes c.take_root-3.ensures.takes c.take_root-4.ensures.takes
    c.take_cells-cells.ensures.takes)
    c.requires.stakes

pub returns : goal.returns
returns g c =
    closed_by (byte_word_count g.N.Name.region) c.args.workers.items c.args.seat.view c.take_workers.new.seat.view
    c.take_pool-pool.new.seat.view
    c.take_root.new.seat.view c.take_root-2.new.seat.view c.take_root-3.new.seat.view c.take_root-4.new.seat.view
    c.take_cells-cells.new.seat.view _
    c.take_root.result c.take_root-2.result c.take_root-3.result c.take_root-4.result refl c.journals_fit_the_pool.ensures c.requires.stakes
    c.requires.clean
    c.aware.ensures.aware c.close-region.ensures.end
    (c.close-region.ensures.words ∙ ap byte_word_count c.parts-region.ensures) c.take_workers.ensures.takes
    c.take_workers.ensures.leaves c.take_pool-pool.ensures.takes c.take_pool-pool.ensures.leaves c.take_root.ensures.takes
    c.take_root.ensures.leaves
    c.take_root-2.ensures.takes c.take_root-2.ensures.leaves c.take_root-3.ensures.takes c.take_root-3.ensures.leaves
    c.take_root-4.ensures.takes
    c.take_root-4.ensures.leaves c.take_cells-cells.ensures.takes c.take_cells-cells.ensures.leaves
