use Rattle.std.proofs.Common.{◌≡◌, ℕ, refl, sym, ◌∙◌, ap, subst}
use Rattle.std.specs.Prelude.{OnOk, OnErr}
use Rattle.pa_op_specs.specs.Stocks.{StockValue}
use Rattle.pa_op_specs.specs.Workers.{HasItsStake}
use Rattle.pa_thread_state.specs.Homing.{ComesHome}
use Rattle.pa_op_specs.proofs.Stakes.{least_is}
use Rattle.pa_thread_state.proofs.Homing.{delivered_has, delivered_same, same_view, any_ok}
use Rattle.pa_thread_state.proofs.Staying.{stock_of, after_as}
use Rattle.pa_thread_state.proofs.stock.Stock.deliver.Goals as goal

pub to_root-requires-clause-lender : goal.to_root-requires-clause-lender
to_root-requires-clause-lender g c =
    let i = stock_of c.self.inside.thread c.self.inside.partitions c.self.inside.plain_from c.self.inside.seat.view c.self.inside.registers
    c.self.inside.caches in
    let stake = subst (λ (z : StockValue). HasItsStake z) (sym c.self.view_is) c.requires.stake in
    ((least_is i.thread i.view c.self.invariant.1.stake stake).1, c.self.invariant.1.handles.clean)

pub invariant_of-self : goal.invariant_of-self
invariant_of-self g c =
    let i = stock_of c.self.inside.thread c.self.inside.partitions c.self.inside.plain_from c.self.inside.seat.view c.self.inside.registers
    c.self.inside.caches in
    let h = c.args.handle.now in
    let w = c.to_root.new.seat.view in
    let cs = c.self.inside.caches in
    let same = same_view c.to_root.result c.to_root.new.seat c.self.inside.seat c.to_root.ensures.same in
    let them = delivered_has c.slots_stay_seen.ensures i cs w c.args.note.view h.class _ h.partition c.args.line h.title c.to_root.result
    refl c.self.invariant.1
    c.self.invariant.2 c.to_root.ensures.comes same in
    (c.to_root.ensures.region, them.stock, them.holds, c.self.invariant.3)

pub returns-clause-alone : goal.returns-clause-alone
returns-clause-alone g c =
    let i = stock_of c.self.inside.thread c.self.inside.partitions c.self.inside.plain_from c.self.inside.seat.view c.self.inside.registers
    c.self.inside.caches in
    let h = c.args.handle.now in
    let w = c.to_root.new.seat.view in
    let cs = c.self.inside.caches in
    let same = same_view c.to_root.result c.to_root.new.seat c.self.inside.seat c.to_root.ensures.same in
    let them = delivered_has c.slots_stay_seen.ensures i cs w c.args.note.view h.class _ h.partition c.args.line h.title c.to_root.result
    refl c.self.invariant.1
    c.self.invariant.2 c.to_root.ensures.comes same in
    any_ok c.to_root.result _ (after_as i w w i.registers cs refl them ∙ ap (λ (z : StockValue). record z { view = w }) c.self.view_is)

pub returns-clause-same : goal.returns-clause-same
returns-clause-same g c =
    let i = stock_of c.self.inside.thread c.self.inside.partitions c.self.inside.plain_from c.self.inside.seat.view c.self.inside.registers
    c.self.inside.caches in
    let h = c.args.handle.now in
    let w = c.to_root.new.seat.view in
    let cs = c.self.inside.caches in
    let same = same_view c.to_root.result c.to_root.new.seat c.self.inside.seat c.to_root.ensures.same in
    let them = delivered_has c.slots_stay_seen.ensures i cs w c.args.note.view h.class _ h.partition c.args.line h.title c.to_root.result
    refl c.self.invariant.1
    c.self.invariant.2 c.to_root.ensures.comes same in
    subst (λ (z : StockValue). OnErr c.to_root.result (stock_of i.thread i.partitions i.plain_from w i.registers cs ≡ z)) c.self.view_is
    (delivered_same i cs w c.to_root.result them same)

pub returns-clause-comes : goal.returns-clause-comes
returns-clause-comes g c =
    let i = stock_of c.self.inside.thread c.self.inside.partitions c.self.inside.plain_from c.self.inside.seat.view c.self.inside.registers
    c.self.inside.caches in
    let h = c.args.handle.now in
    let w = c.to_root.new.seat.view in
    let stake = subst (λ (z : StockValue). HasItsStake z) (sym c.self.view_is) c.requires.stake in
    let least = (least_is i.thread i.view c.self.invariant.1.stake stake).0 in
    subst (λ (z : StockValue). OnOk c.to_root.result (ComesHome h.class z.thread h.partition c.args.line z.view w c.args.note.view h.title))
    c.self.view_is
    (subst (λ (n : ℕ). OnOk c.to_root.result (ComesHome h.class n h.partition c.args.line i.view w c.args.note.view h.title)) least
    c.to_root.ensures.comes)
