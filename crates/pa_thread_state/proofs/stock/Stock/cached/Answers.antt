use Rattle.std.proofs.Common.{◌∙◌, length, ap, arith}
use Rattle.std.proofs.lemmas.List.{length-map}
use Rattle.pa_root.specs.Handing.{at_number_seen}
use Rattle.pa_rules.specs.Caches.{listed_slots}
use Rattle.pa_rules.specs.Report.{listed_bytes}
use Rattle.pa_rules.proofs.Tallies.{most_slots}
use Rattle.pa_op_specs.specs.Stocks.{StockValue, listed_in, titles_in}
use Rattle.pa_thread_state.specs.Lists.{lists_in, numbered_in}
use Rattle.pa_thread_state.proofs.Fronting.{list_few}
use Rattle.pa_thread_state.proofs.Staying.{stock_of}
use Rattle.pa_thread_state.proofs.stock.Stock.cached.Goals as goal

pub returns-clause-slots : goal.returns-clause-slots
returns-clause-slots g c =
    (c.sum.ensures c.self.inside.seat.view).slots ∙
    ap (λ (z : StockValue). listed_slots (listed_in z c.args.partition) 0 170) c.self.view_is

pub returns-clause-bytes : goal.returns-clause-bytes
returns-clause-bytes g c =
    (c.sum.ensures c.self.inside.seat.view).bytes
    ∙ ap (λ (z : StockValue). listed_bytes (λ class. length (listed_in z c.args.partition class)) 0 170) c.self.view_is

pub returns-clause-few : goal.returns-clause-few
returns-clause-few g c =
    let v = c.self.inside.seat.view in let cs = c.self.inside.caches in let p = c.args.partition in
    most_slots (numbered_in v cs p) 64 c.sum.result
    (λ class.
    let long = length-map (titles_in (lists_in v cs) p class) (at_number_seen v) in
    let few = list_few (stock_of c.self.inside.thread c.self.inside.partitions c.self.inside.plain_from v c.self.inside.registers cs)
    p class c.self.invariant.1 in
    omega (arith, long, few)) (c.sum.ensures v)
