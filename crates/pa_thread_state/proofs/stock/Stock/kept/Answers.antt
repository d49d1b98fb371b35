use Rattle.std.proofs.Common.{subst}
use Rattle.pa_slot.specs.Links.{AreLinked}
use Rattle.pa_link.specs.Chains.{slot_names}
use Rattle.pa_op_specs.specs.Stocks.{StockValue, titles_in}
use Rattle.pa_thread_state.proofs.Chained.{linked_all}
use Rattle.pa_thread_state.proofs.stock.Stock.kept.Goals as goal

pub returns-clause-links : goal.returns-clause-links
returns-clause-links g c p class =
    subst (λ (s : StockValue). AreLinked s.view.words (slot_names (titles_in s.caches p class))) c.self.view_is
    (linked_all c.self.inside.seat.view c.self.inside.caches p class c.self.invariant.2)
