-- A reset of a raw_ptr: that it can be made, and the thread state after it.
use Rattle.std.proofs.Common.{◌≡◌, ℕ, ◌<◌, length, refl, ◌∙◌, ap, arith}
use Rattle.std.specs.Prelude.{slice_set}
use Rattle.std.proofs.lemmas.List.{length-set}
use Rattle.pa_slot.specs.declared.word.Step.TheVariants as steps
use Rattle.pa_slot.specs.Titles.{same_title}
use Rattle.pa_slot.specs.Holdings.{one}
use Rattle.pa_region.specs.Moves.{CanCount, after_count}
use Rattle.pa_region.specs.Leaves.{CountLeaves}
use Rattle.pa_cells.specs.declared.handle.Handle.{Handle}
use Rattle.pa_rules.specs.declared.register.Register.TheVariants.{Empty, Ref, Cleared}
use Rattle.pa_op_specs.specs.Stocks.{StockValue, IsStock, register_in, owns_one, seals_one, refs_one}
use Rattle.pa_op_specs.specs.Workers.{HasItsStake}
use Rattle.pa_op_specs.proofs.Registers.{sum_set, made_set}
use Rattle.pa_op_specs.proofs.Seeing.{made_for_kept}
use Rattle.pa_op_specs.proofs.Stakes.{least_is}
use Rattle.pa_op_specs.proofs.Stocks.{register_points, stock_with}

-- the thread state after a reset that found this word
abbrev pub cleared : StockValue → Handle → ℕ → ℕ → StockValue
cleared s h r word = record s { view = after_count steps.Reset h.title word s.view; registers = slice_set s.registers r Cleared }

pub can_reset : (s : StockValue) (r : ℕ) (h : Handle) → IsStock s → HasItsStake s → 0 < s.view.budget → r < 64 →
    register_in s.registers r ≡ Ref h →
    CanCount steps.Reset h.title s.view
can_reset s r h is stake budget below ref = (register_points s r h is below ref, (least_is s.thread s.view is.stake stake).1, budget, tt)

-- the thread state stays sound
pub cleared_stock : CountLeaves → (s : StockValue) (r word : ℕ) (h : Handle) → IsStock s → HasItsStake s → 0 < s.view.budget → r < 64 →
    register_in s.registers r ≡ Ref h →
    IsStock (cleared s h r word)
cleared_stock counts s r word h is stake budget below ref =
    let t = h.title in
    let w = after_count steps.Reset t word s.view in
    let leaves = counts steps.Reset t word s.view (can_reset s r h is stake budget below ref) in
    let rs = s.registers in
    let inside : r < length rs = let n = is.handles.count in omega arith in
    stock_with s w (slice_set rs r Cleared) is
    (record {
      count = length-set rs r Cleared ∙ is.handles.count;
      owns = λ u. let a = leaves.owns u in let b = is.handles.owns u in let c = sum_set (owns_one u) rs r Cleared Empty inside in
          let d : owns_one u (register_in rs r) ≡ 0 = ap (owns_one u) ref in omega arith;
      refs = λ u. let a = leaves.refs u in let b = is.handles.refs u in let c = sum_set (refs_one u) rs r Cleared Empty inside in
          let d : refs_one u (register_in rs r) ≡ one (same_title t u) = ap (refs_one u) ref in omega arith;
      clean = is.handles.clean;
      sealed = λ u. let b = is.handles.sealed u in let c = sum_set (seals_one s.plain_from u) rs r Cleared Empty inside in
          let d : seals_one s.plain_from u (register_in rs r) ≡ 0 = ap (seals_one s.plain_from u) ref in omega arith;
      made = made_set w rs r Cleared inside tt (λ k. made_for_kept s.view w refl (register_in rs k) (is.handles.made k));
    })
    refl (λ u. let a = leaves.frees u in omega arith) leaves.entry.stakes
