-- What a call of a worker's thread state knows: of the thread state, and of the handle of one of its registers.
use Rattle.std.proofs.Common.{◌≡◌, ℕ, ◌<◌, sym, subst}
use Rattle.pa_region.specs.Aware.{IsAware}
use Rattle.pa_cells.specs.declared.handle.Handle.{Handle}
use Rattle.pa_rules.specs.declared.register.Register.TheVariants.{Own}
use Rattle.pa_op_specs.specs.Stocks.{StockValue, IsStock, HasHandleTo, register_in}
use Rattle.pa_op_specs.specs.Workers.{HasItsStake}

-- the thread state is sound, has its stake, and its register has this handle
pub record Holding (s : StockValue) (h : Handle) (reg : ℕ) : Type 0 where
  pub stock : IsStock s
  pub stake : HasItsStake s
  pub below : reg < 64
  pub has : HasHandleTo h (register_in s.registers reg)

-- the fields of a thread state are those of its value
pub inside : (i s : StockValue) (h : Handle) (reg : ℕ) → i ≡ s → Holding s h reg → Holding i h reg
inside i s h reg e holding = subst (λ (z : StockValue). Holding z h reg) (sym e) holding

pub inside_aware : (i s : StockValue) → i ≡ s → IsAware s.view → IsAware i.view
inside_aware i s e aware = subst (λ (z : StockValue). IsAware z.view) (sym e) aware

pub inside_budget : (i s : StockValue) → i ≡ s → 0 < s.view.budget → 0 < i.view.budget
inside_budget i s e some = subst (λ (z : StockValue). 0 < z.view.budget) (sym e) some

pub inside_own : (i s : StockValue) (h : Handle) (reg : ℕ) → i ≡ s → register_in s.registers reg ≡ Own h →
    register_in i.registers reg ≡ Own h
inside_own i s h reg e own = subst (λ (z : StockValue). register_in z.registers reg ≡ Own h) (sym e) own
