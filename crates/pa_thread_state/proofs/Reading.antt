-- A look at a handle's slot, and right after it a load: the thread state after it.
use Rattle.std.proofs.Common.{ℕ, refl, arith}
use Rattle.pa_slot.specs.declared.title.Title.{Title}
use Rattle.pa_region.specs.declared.view.Entry.TheVariants.{Read}
use Rattle.pa_region.specs.declared.view.View.{View}
use Rattle.pa_region.specs.Moves.{after_look}
use Rattle.pa_region.specs.Loads.{after_read, has_own, has_unclean}
use Rattle.pa_region.specs.Leaves.{EntryLeaves, LookLeaves, OwnsChange}
use Rattle.pa_cells.specs.declared.handle.Handle.{Handle}
use Rattle.pa_op_specs.specs.Stocks.{StockValue, IsStock, register_in}
use Rattle.pa_op_specs.specs.Workers.{HasItsStake}
use Rattle.pa_op_specs.proofs.Seeing.{made_for_kept}
use Rattle.pa_op_specs.proofs.Stakes.{least_is}
use Rattle.pa_op_specs.proofs.Stocks.{stock_with}
use Rattle.pa_thread_state.proofs.Looking.{looked_stock, looked_stake}

-- the view after a look that found this word and a read that gave this value
abbrev pub read_view : View → Title → ℕ → ℕ → ℕ → View
read_view v t word place value = after_read t place value (after_look t word v)

abbrev pub read_stock : StockValue → Handle → ℕ → ℕ → ℕ → StockValue
read_stock s h word place value = record s { view = read_view s.view h.title word place value }

-- the thread state stays sound
pub read_sound : LookLeaves → EntryLeaves → OwnsChange → (s : StockValue) (word place value : ℕ) (h : Handle) → IsStock s → HasItsStake s →
    IsStock (read_stock s h word place value)
read_sound looks entries owns s word place value h is stake =
    let t = h.title in
    let u = after_look t word s.view in
    let w = read_view s.view t word place value in
    let there = looked_stock looks owns s word h is stake in
    let has = (least_is s.thread u there.stake (looked_stake looks s word h is stake)).1 in
    let leaves = entries (Read t place value u.since (has_own u t) (has_unclean u t)) u w has refl in
    stock_with (record s { view = u }) w s.registers there
    (record {
      count = there.handles.count;
      owns = there.handles.owns;
      refs = there.handles.refs;
      clean = there.handles.clean;
      sealed = there.handles.sealed;
      made = λ k. made_for_kept u w refl (register_in s.registers k) (there.handles.made k);
    })
    refl (λ x. omega arith) leaves.stakes
