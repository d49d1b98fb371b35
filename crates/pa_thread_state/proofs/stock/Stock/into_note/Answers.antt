use Rattle.std.proofs.Common.{◌≡◌, ℕ, sym, ◌∙◌, ap, subst}
use Rattle.pa_region.specs.Views.{stake_of}
use Rattle.pa_region.specs.Waiting.{unclean_of}
use Rattle.pa_region.specs.Shares.{Share}
use Rattle.pa_op_specs.specs.Stocks.{StockValue}
use Rattle.pa_thread_state.proofs.stock.Stock.into_note.Goals as goal

pub returns-clause-host : goal.returns-clause-host
returns-clause-host g c =
    let none = subst (λ (s : StockValue). (k : ℕ) → stake_of s.view k ≡ 0) (sym {A = StockValue} c.self.view_is) c.requires in (
      λ k. ap (λ (h : Share). stake_of h.view k) c.note.ensures ∙ none k,
      ap (λ (h : Share). unclean_of h.view) c.note.ensures ∙ c.self.invariant.1.handles.clean,
    )
