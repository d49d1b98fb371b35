use Rattle.std.proofs.Common.{[], ◌∷◌}
use Rattle.pa_thread_state.proofs.Allocated.{maps_title}
use Rattle.pa_thread_state.proofs.stock.Stock.map_title.Goals as goal

pub receive-requires-clause-only : goal.receive-requires-clause-only
receive-requires-clause-only g c = (c.in-Ok.title ∷ [], c.in-Ok.ensures.gave.has)

pub returns-in-Ok-clause-mapped : goal.returns-in-Ok-clause-mapped
returns-in-Ok-clause-mapped g c =
    maps_title c.args.line c.args.partition c.args.shape.slot c.args.self.now c.ask_map.new.self c.receive.new.self c.in-Ok.note.view
    c.in-Ok.title
    c.ask_map.ensures.same c.in-Ok.ensures.gave c.receive.ensures c.kept-in-Ok.ensures.aware
