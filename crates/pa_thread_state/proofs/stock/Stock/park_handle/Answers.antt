use Rattle.std.proofs.Common.{◌≡◌, ℕ, ◌&&◌, [], ◌∷◌, Some, ◌∙◌, refl, sym, subst, ap}
use Rattle.std.specs.Prelude.{slice_set}
use Rattle.pa_slot.specs.Titles.{same_title}
use Rattle.pa_slot.specs.Holdings.{one}
use Rattle.pa_machine.specs.declared.event.Item.{Item}
use Rattle.pa_region.specs.declared.view.View.{View}
use Rattle.pa_region.specs.Views.{sealed_of}
use Rattle.pa_region.specs.Hands.{CanHand, left_after, given_after}
use Rattle.pa_region.specs.Marks.{parcel_of}
use Rattle.pa_cells.specs.Handles.{IsParked, is_plain}
use Rattle.pa_rules.specs.declared.register.Register.TheVariants.{Empty}
use Rattle.pa_op_specs.specs.Stocks.{StockValue, register_in}
use Rattle.pa_op_specs.specs.Workers.{HasItsStake}
use Rattle.pa_thread_state.specs.Exchanging.{Parks, handle_register}
use Rattle.pa_thread_state.proofs.Parking.{can_park, parked_view, parked_stock, handle_made}
use Rattle.pa_thread_state.proofs.Ready.{inside_aware}
use Rattle.pa_thread_state.proofs.Seals.{hands_plain}
use Rattle.pa_thread_state.proofs.Staying.{stock_of, has_as, after_as}
use Rattle.pa_thread_state.proofs.stock.Stock.park_handle.Goals as goal

pub hand-note-requires-clause-able : goal.hand-note-requires-clause-able
hand-note-requires-clause-able g c =
    let i = stock_of c.self.inside.thread c.self.inside.partitions c.self.inside.plain_from c.self.inside.seat.view c.self.inside.registers
    c.self.inside.caches in
    let has = subst (λ (z : StockValue). register_in z.registers c.args.reg ≡ handle_register c.args.own c.args.handle)
    (sym c.self.view_is) c.requires.handle in
    subst (λ (x : Item). CanHand (parcel_of (x ∷ []) 0 []) i.view) (sym c.own_or_ref-item.ensures)
    (can_park i c.args.reg c.args.own c.args.handle c.self.invariant.1 c.requires.reg has)

pub invariant_of-self : goal.invariant_of-self
invariant_of-self g c =
    let i = stock_of c.self.inside.thread c.self.inside.partitions c.self.inside.plain_from c.self.inside.seat.view c.self.inside.registers
    c.self.inside.caches in
    let has = subst (λ (z : StockValue). register_in z.registers c.args.reg ≡ handle_register c.args.own c.args.handle)
    (sym c.self.view_is) c.requires.handle in
    let left = c.hand-note.ensures.left ∙ ap (λ (x : Item). left_after (parcel_of (x ∷ []) 0 []) i.view) c.own_or_ref-item.ensures in
    let stake = subst (λ (z : StockValue). HasItsStake z) (sym c.self.view_is) c.requires.stake in
    let rs = slice_set i.registers c.args.reg Empty in
    let them = has_as i c.hand-note.new.seat.view
    (parked_view i.view c.args.own c.args.handle) rs c.self.inside.caches left refl c.self.invariant.1 c.self.invariant.2
    (parked_stock c.givers_lack_handles.ensures c.hands_keep_seals.ensures i c.args.reg c.args.own c.args.handle c.self.invariant.1
    (inside_aware i c.args.self.now c.self.view_is c.kept.ensures.aware) stake c.requires.reg has)
    (λ p class t among. refl) in
    (c.hand-note.ensures.regions.0 ∙ c.self.invariant.0, them.stock, them.holds, c.self.invariant.3)

pub returns-clause-parks : goal.returns-clause-parks
returns-clause-parks g c =
    let i = stock_of c.self.inside.thread c.self.inside.partitions c.self.inside.plain_from c.self.inside.seat.view c.self.inside.registers
    c.self.inside.caches in
    let has = subst (λ (z : StockValue). register_in z.registers c.args.reg ≡ handle_register c.args.own c.args.handle)
    (sym c.self.view_is) c.requires.handle in
    let left = c.hand-note.ensures.left ∙ ap (λ (x : Item). left_after (parcel_of (x ∷ []) 0 []) i.view) c.own_or_ref-item.ensures in
    let given = c.hand-note.ensures.given ∙ ap (λ (x : Item). given_after (parcel_of (x ∷ []) 0 []) i.view) c.own_or_ref-item.ensures in
    let stake = subst (λ (z : StockValue). HasItsStake z) (sym c.self.view_is) c.requires.stake in
    let rs = slice_set i.registers c.args.reg Empty in
    let them = has_as i c.hand-note.new.seat.view
    (parked_view i.view c.args.own c.args.handle) rs c.self.inside.caches left refl c.self.invariant.1 c.self.invariant.2
    (parked_stock c.givers_lack_handles.ensures c.hands_keep_seals.ensures i c.args.reg c.args.own c.args.handle c.self.invariant.1
    (inside_aware i c.args.self.now c.self.view_is c.kept.ensures.aware) stake c.requires.reg has)
    (λ p class t among. refl) in
    subst (λ (z : StockValue). Parks c.args.reg (Some (record { handle = c.args.handle; own = c.args.own; note = c.hand-note.result })) z
    (stock_of i.thread i.partitions i.plain_from c.hand-note.new.seat.view rs c.self.inside.caches)) c.self.view_is
    (has, given, after_as i c.hand-note.new.seat.view (parked_view i.view c.args.own c.args.handle) rs c.self.inside.caches left them)

pub invariant_of-result : goal.invariant_of-result
invariant_of-result g c =
    let i = stock_of c.self.inside.thread c.self.inside.partitions c.self.inside.plain_from c.self.inside.seat.view c.self.inside.registers
    c.self.inside.caches in
    let has = subst (λ (z : StockValue). register_in z.registers c.args.reg ≡ handle_register c.args.own c.args.handle)
    (sym c.self.view_is) c.requires.handle in
    let given = c.hand-note.ensures.given ∙ ap (λ (x : Item). given_after (parcel_of (x ∷ []) 0 []) i.view) c.own_or_ref-item.ensures in
    subst (λ (v : View). IsParked
    (record { handle = c.args.handle; own = c.args.own; note = record { region = c.hand-note.result.region; view = v } })) (sym given)
    (c.what_was_handed_can_wait.ensures.waits c.args.handle c.args.own c.hand-note.result.region 0 i.view
    (handle_made i c.args.reg c.args.own c.args.handle c.self.invariant.1 has))

pub returns-clause-note : goal.returns-clause-note
returns-clause-note g c =
    let i = stock_of c.self.inside.thread c.self.inside.partitions c.self.inside.plain_from c.self.inside.seat.view c.self.inside.registers
    c.self.inside.caches in
    let has = subst (λ (z : StockValue). register_in z.registers c.args.reg ≡ handle_register c.args.own c.args.handle)
    (sym c.self.view_is) c.requires.handle in
    let given = c.hand-note.ensures.given ∙ ap (λ (x : Item). given_after (parcel_of (x ∷ []) 0 []) i.view) c.own_or_ref-item.ensures in
    let aware = inside_aware i c.args.self.now c.self.view_is c.kept.ensures.aware in (
      c.hand-note.ensures.regions.1 ∙ c.self.invariant.0,
      λ t. ap (λ (v : View). sealed_of v t) given
          ∙ (c.what_was_handed_can_wait.ensures.sealed c.args.handle c.args.own c.hand-note.result.region 0 i.view t
          ∙ (hands_plain c.hands_keep_seals.ensures i c.args.reg c.args.own c.args.handle c.self.invariant.1 aware c.requires.reg has t
          ∙ ap (λ (n : ℕ). one ((c.args.own && same_title c.args.handle.title t) && is_plain n c.args.handle)) c.self.invariant.3)),
    )
