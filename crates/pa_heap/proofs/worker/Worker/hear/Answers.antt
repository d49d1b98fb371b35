use Rattle.std.proofs.Common.{◌≡◌, List, ◌∙◌, sym, ap, subst, arith}
use Rattle.pa_totals.specs.declared.owed.Owed.{Owed}
use Rattle.pa_totals.specs.Settled.{none_owed}
use Rattle.pa_op_specs.specs.Stocks.{StockValue}
use Rattle.pa_op_specs.specs.Workers.{WorkerValue, IsCovered}
use Rattle.pa_thread_state.specs.Changes.{StaysMade}
use Rattle.pa_op_specs.proofs.Stakes.{covered_by_rule}
use Rattle.pa_heap.proofs.worker.Worker.hear.Goals as goal

pub invariant_of-self : goal.invariant_of-self
invariant_of-self g c =
    let budget = ap (λ (z : StockValue). z.view.budget) c.hear.ensures.heard in
    let settled : c.self.inside.account.owed ≡ none_owed = ap (λ (z : WorkerValue). z.owed) c.self.view_is ∙ c.requires.settled in (
      c.self.invariant.0,
      omega (arith, c.self.invariant.1, budget),
      subst (λ (os : List Owed). IsCovered os c.hear.new.self) (sym settled)
          (covered_by_rule c.hear.new.self c.kept.ensures.stock.stake c.kept.ensures.aware),
    )

pub returns-clause-made : goal.returns-clause-made
returns-clause-made g c =
    subst (λ (s : StockValue). StaysMade s c.hear.new.self) (ap (λ (z : WorkerValue). z.stock) c.self.view_is) c.hear.ensures.made
