-- A copy of a handle: that it can be made, and the thread state after it.
use Rattle.std.proofs.Common.{◌≡◌, ℕ, ◌<◌, false, List, length, refl, ◌∙◌, ap, arith, inl, inr}
use Rattle.std.specs.Prelude.{◌&&◌, slice_set}
use Rattle.std.proofs.lemmas.List.{length-set}
use Rattle.pa_slot.specs.declared.title.Title.{Title}
use Rattle.pa_slot.specs.declared.word.Step.TheVariants as steps
use Rattle.pa_slot.specs.Titles.{same_title}
use Rattle.pa_slot.specs.Holdings.{one}
use Rattle.pa_region.specs.declared.view.OwnTitle.{OwnTitle}
use Rattle.pa_region.specs.Aware.{IsAware}
use Rattle.pa_region.specs.Waiting.{is_unclean}
use Rattle.pa_region.specs.Moves.{CanCount, after_count, busy}
use Rattle.pa_region.specs.Leaves.{CountLeaves, OwnsChange}
use Rattle.pa_cells.specs.declared.handle.Handle.{Handle}
use Rattle.pa_cells.specs.Handles.{is_plain}
use Rattle.pa_rules.specs.declared.register.Register.TheVariants.{Empty, Own, Ref}
use Rattle.pa_op_specs.specs.Stocks.{StockRegister, StockValue, IsStock, HasHandleTo, HasNoHandle, register_in, owns_one, seals_one, refs_one}
use Rattle.pa_op_specs.specs.Workers.{HasItsStake}
use Rattle.pa_op_specs.proofs.Registers.{sum_set, made_set}
use Rattle.pa_op_specs.proofs.Seeing.{made_kept, made_for_kept}
use Rattle.pa_op_specs.proofs.Stakes.{least_is}
use Rattle.pa_thread_state.proofs.Leaving.{unsealed_own}
use Rattle.pa_thread_state.proofs.Parking.{none_owned, none_pointed}
use Rattle.pa_thread_state.proofs.Seals.{own_sealed, seal_owned}
use Rattle.pa_op_specs.proofs.Stocks.{register_has, register_owns, register_points, stock_with}

-- the thread state after a copy that found this word
abbrev pub copied : StockValue → Handle → ℕ → ℕ → StockValue
copied s h to word =
    record s { view = after_count steps.Copy h.title word s.view; registers = slice_set s.registers to (Ref h) }

-- if the register is an owner, its slot is in no plain partition
abbrev pub IsCounted : StockValue → ℕ → Handle → Type 0
IsCounted s from h = register_in s.registers from ≡ Own h → is_plain s.plain_from h ≡ false

-- a seat with a handle can make the copy, if that is counted
pub can_copy : (s : StockValue) (from : ℕ) (h : Handle) → IsStock s → IsAware s.view → HasItsStake s → 0 < s.view.budget → from < 64 →
    HasHandleTo h (register_in s.registers from) → IsCounted s from h → CanCount steps.Copy h.title s.view
can_copy s from h is aware stake budget below (inl own) counted =
    let has = register_owns s from h is below own in
    let none = own_sealed s from h is aware below own ∙ ap one (counted own) in
    let unsealed = unsealed_own s.view h.title is.handles.clean none in
    (omega arith, (least_is s.thread s.view is.stake stake).1, budget, tt)
can_copy s from h is aware stake budget below (inr ref) counted =
    let has = register_points s from h is below ref in
    (omega arith, (least_is s.thread s.view is.stake stake).1, budget, tt)

-- the thread state stays sound
pub copied_stock : CountLeaves → OwnsChange → (s : StockValue) (from to word : ℕ) (h : Handle) → IsStock s → IsAware s.view →
    HasItsStake s → 0 < s.view.budget →
    from < 64 → to < 64 → HasHandleTo h (register_in s.registers from) → IsCounted s from h → HasNoHandle (register_in s.registers to) →
    IsStock (copied s h to word)
copied_stock counts owns s from to word h is aware stake budget below within has counted bare =
    let t = h.title in
    let w = after_count steps.Copy t word s.view in
    let leaves = counts steps.Copy t word s.view (can_copy s from h is aware stake budget below has counted) in
    let rs = s.registers in
    let inside : to < length rs = let n = is.handles.count in omega arith in
    let made = (register_has s from h is below has).1 in
    stock_with s w (slice_set rs to (Ref h)) is
    (record {
      count = long rs inside ∙ is.handles.count;
      owns = λ u. let a = leaves.owns u in let b = is.handles.owns u in let c = sum_set (owns_one u) rs to (Ref h) Empty inside in
          let d = none_owned u (register_in rs to) bare in omega arith;
      refs = λ u. let a = leaves.refs u in let b = is.handles.refs u in let c = sum_set (refs_one u) rs to (Ref h) Empty inside in
          let d = none_pointed u (register_in rs to) bare in omega arith;
      clean = owns.1 t busy (λ (o : OwnTitle). one (is_unclean o.state)) s.view.owns (λ o. refl) ∙ is.handles.clean;
      sealed = λ u.
          let a = owns.1 t busy (λ (o : OwnTitle). one (same_title o.title u && o.sealed)) s.view.owns (λ o. refl) in
          let b = is.handles.sealed u in let c = sum_set (seals_one s.plain_from u) rs to (Ref h) Empty inside in
          let d = none_owned u (register_in rs to) bare in let e = seal_owned s.plain_from u (register_in rs to) in omega arith;
      made = made_set w rs to (Ref h) inside (made_kept h s.view w refl made)
          (λ k. made_for_kept s.view w refl (register_in rs k) (is.handles.made k));
    })
    refl (λ u. let a = leaves.frees u in omega arith) leaves.entry.stakes
  where
    long : (xs : List StockRegister) → to < length xs → length (slice_set xs to (Ref h)) ≡ length xs
    long xs inside = length-set xs to (Ref h)
