use Rattle.std.proofs.Common.{◌∙◌, length, sym, subst, ap, arith}
use Rattle.pa_rules.specs.Sizes.{HasClass}
use Rattle.pa_rules.proofs.Versions.{real_in}
use Rattle.pa_op_specs.specs.Stocks.{StockValue, titles_in}
use Rattle.pa_thread_state.proofs.Chained.{as_many, titles_of_list}
use Rattle.pa_thread_state.proofs.stock.Stock.count_listed.Goals as goal

pub len-requires-clause-class : goal.len-requires-clause-class
len-requires-clause-class g c = subst (λ (z : StockValue). HasClass z.caches.version c.args.class) (sym c.self.view_is) c.requires.class

pub returns-clause-count : goal.returns-clause-count
returns-clause-count g c =
    let v = c.self.inside.seat.view in let cs = c.self.inside.caches in let p = c.args.partition in let class = c.args.class in
    let real = subst (λ (z : StockValue). HasClass z.caches.version class) (sym c.self.view_is) c.requires.class in
    c.len.ensures.count v
    ∙ (sym (ap length (titles_of_list v cs p class c.requires.partition real (as_many v cs c.self.invariant.1.lists.count)))
    ∙ ap (λ (z : StockValue). length (titles_in z.caches p class)) c.self.view_is)

pub returns-clause-few : goal.returns-clause-few
returns-clause-few g c =
    let v = c.self.inside.seat.view in let cs = c.self.inside.caches in let p = c.args.partition in let class = c.args.class in
    let real = subst (λ (z : StockValue). HasClass z.caches.version class) (sym c.self.view_is) c.requires.class in
    let counted = c.len.ensures.count v in
    let long = ap length (titles_of_list v cs p class c.requires.partition real (as_many v cs c.self.invariant.1.lists.count)) in
    let few = c.self.invariant.1.lists.few p class in
    let kept = (c.rows_have_bounds.ensures.bounds class (real_in cs.version class real)).few_kept in
    omega (arith, counted, long, few, kept)
