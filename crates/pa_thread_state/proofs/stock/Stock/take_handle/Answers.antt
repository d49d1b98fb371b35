use Rattle.std.proofs.Common.{ℕ, Bool, length, ◌∙◌, refl, sym, subst, ap}
use Rattle.std.specs.Prelude.{slice_set}
use Rattle.pa_region.specs.declared.view.View.{View}
use Rattle.pa_region.specs.Hands.{united}
use Rattle.pa_region.specs.Aware.{IsAware}
use Rattle.pa_region.specs.Shares.{Share, byte_word_count}
use Rattle.pa_cells.specs.declared.handle.Handle.{Handle}
use Rattle.pa_cells.specs.Handles.{ParkedHandle, IsSealedFrom}
use Rattle.pa_op_specs.specs.Stocks.{StockRegister, StockValue, IsStock, HasNoHandle, register_in}
use Rattle.pa_thread_state.specs.Exchanging.{TakesHandleIn, handle_register}
use Rattle.pa_thread_state.proofs.Parking.{taken_stock}
use Rattle.pa_thread_state.proofs.Staying.{stock_of, has_as, after_as, firsts_join}
use Rattle.pa_thread_state.proofs.stock.Stock.take_handle.Goals as goal
use Rattle.pa_region.proofs.LendBack.{none_poisoned}

pub take-requires-clause-able : goal.take-requires-clause-able
take-requires-clause-able g c k t has = none_poisoned c.self.inside.seat.view t c.self.invariant.1.handles.clean

pub invariant_of-self : goal.invariant_of-self
invariant_of-self g c =
    let i = stock_of c.self.inside.thread c.self.inside.partitions c.self.inside.plain_from c.self.inside.seat.view c.self.inside.registers
    c.self.inside.caches in
    let p : ParkedHandle = c.args.parked in
    let view = c.take.ensures.view ∙ ap (λ (n : Share). united i.view n.view) c.parts-handle.ensures.note in
    let reg = c.register_with.ensures ∙ (ap (λ (b : Bool). handle_register b c.parts-handle.result.0) c.parts-handle.ensures.own
    ∙ ap (λ (h : Handle). handle_register p.own h) c.parts-handle.ensures.handle) in
    let both = subst (λ (v : View). IsAware v) view c.aware-2.ensures.aware in
    let bare = subst (λ (z : StockValue). HasNoHandle (register_in z.registers c.args.reg)) (sym c.self.view_is) c.requires.none in
    let long = ap (λ (z : StockValue). length z.view.words) c.self.view_is ∙ (c.kept.ensures.long
    ∙ (ap byte_word_count (sym (ap (λ (n : Share). n.region) c.parts-handle.ensures.note ∙ c.requires.note.0)) ∙ (sym c.aware.ensures.long
    ∙ ap (λ (n : Share). length n.view.words) c.parts-handle.ensures.note))) in
    let rs = slice_set i.registers c.args.reg c.register_with.result in
    let them = has_as i c.take.new.seat.view
    (united i.view p.note.view) rs c.self.inside.caches view refl c.self.invariant.1 c.self.invariant.2
    (subst (λ (r : StockRegister). IsStock (record i { view = united i.view p.note.view; registers = slice_set i.registers c.args.reg r }))
    (sym reg)
    (taken_stock c.takers_have_handles.ensures c.beginnings_join.ensures c.slots_stay_seen.ensures i c.args.reg p c.self.invariant.1
    c.requires.reg bare c.parts-handle.ensures.parked
    (subst (λ (n : ℕ). IsSealedFrom n p) (sym c.self.invariant.3) c.requires.note.1) both))
    (firsts_join i p.note.view c.self.invariant.1 long) in
    (c.take.ensures.region ∙ c.self.invariant.0, them.stock, them.holds, c.self.invariant.3)

pub returns : goal.returns
returns g c =
    let i = stock_of c.self.inside.thread c.self.inside.partitions c.self.inside.plain_from c.self.inside.seat.view c.self.inside.registers
    c.self.inside.caches in
    let p : ParkedHandle = c.args.parked in
    let view = c.take.ensures.view ∙ ap (λ (n : Share). united i.view n.view) c.parts-handle.ensures.note in
    let reg = c.register_with.ensures ∙ (ap (λ (b : Bool). handle_register b c.parts-handle.result.0) c.parts-handle.ensures.own
    ∙ ap (λ (h : Handle). handle_register p.own h) c.parts-handle.ensures.handle) in
    let both = subst (λ (v : View). IsAware v) view c.aware-2.ensures.aware in
    let bare = subst (λ (z : StockValue). HasNoHandle (register_in z.registers c.args.reg)) (sym c.self.view_is) c.requires.none in
    let long = ap (λ (z : StockValue). length z.view.words) c.self.view_is ∙ (c.kept.ensures.long
    ∙ (ap byte_word_count (sym (ap (λ (n : Share). n.region) c.parts-handle.ensures.note ∙ c.requires.note.0)) ∙ (sym c.aware.ensures.long
    ∙ ap (λ (n : Share). length n.view.words) c.parts-handle.ensures.note))) in
    let rs = slice_set i.registers c.args.reg c.register_with.result in
    let them = has_as i c.take.new.seat.view
    (united i.view p.note.view) rs c.self.inside.caches view refl c.self.invariant.1 c.self.invariant.2
    (subst (λ (r : StockRegister). IsStock (record i { view = united i.view p.note.view; registers = slice_set i.registers c.args.reg r }))
    (sym reg)
    (taken_stock c.takers_have_handles.ensures c.beginnings_join.ensures c.slots_stay_seen.ensures i c.args.reg p c.self.invariant.1
    c.requires.reg bare c.parts-handle.ensures.parked
    (subst (λ (n : ℕ). IsSealedFrom n p) (sym c.self.invariant.3) c.requires.note.1) both))
    (firsts_join i p.note.view c.self.invariant.1 long) in
    record {
      taken = subst (λ (z : StockValue). TakesHandleIn c.args.reg p z
          (stock_of i.thread i.partitions i.plain_from c.take.new.seat.view rs c.self.inside.caches)) c.self.view_is
          (record {
            parked = c.parts-handle.ensures.parked;
            aware = subst (λ (n : Share). IsAware n.view) c.parts-handle.ensures.note c.aware.ensures.aware;
            long = long;
            after_is = after_as i c.take.new.seat.view (united i.view p.note.view) rs c.self.inside.caches view them
                ∙ ap (λ (r : StockRegister). record i { view = united i.view p.note.view; registers = slice_set i.registers c.args.reg r })
                reg;
          });
    }
