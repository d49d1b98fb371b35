use Rattle.pa_thread_state.proofs.stock.Stock.put.Goals as goal

pub list-requires-clause-class : goal.list-requires-clause-class
list-requires-clause-class g c = (c.room.ensures.0 c.if-room.true).0
