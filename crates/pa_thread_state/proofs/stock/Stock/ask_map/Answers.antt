use Rattle.std.proofs.Common.{◌∙◌, ℕ, None, refl, sym, subst, ap}
use Rattle.std.specs.Prelude.{IfOk, IfErr}
use Rattle.pa_root.specs.declared.fault.FillFault.{FillFault}
use Rattle.pa_root.specs.Handing.{MapGives}
use Rattle.pa_op_specs.specs.Stocks.{StockValue}
use Rattle.pa_op_specs.specs.Workers.{HasItsStake}
use Rattle.pa_thread_state.specs.Allocating.{GivesNone, FindsNone}
use Rattle.pa_op_specs.proofs.Stakes.{least_is}
use Rattle.pa_region.specs.Views.{least_stake}
use Rattle.pa_thread_state.proofs.Receiving.{err_weaker, none_has, finds_none}
use Rattle.pa_thread_state.proofs.Staying.{HasThem, stock_of, kept_has, after_as}
use Rattle.pa_thread_state.proofs.stock.Stock.ask_map.Goals as goal
use Rattle.pa_lists.proofs.Tests.{either}

pub map_from-requires-clause-lender : goal.map_from-requires-clause-lender
map_from-requires-clause-lender g c =
    let i = stock_of c.self.inside.thread c.self.inside.partitions c.self.inside.plain_from c.self.inside.seat.view c.self.inside.registers
    c.self.inside.caches in
    let stake = subst (λ (z : StockValue). HasItsStake z) (sym c.self.view_is) c.requires.stake in
    ((least_is i.thread i.view c.self.invariant.1.stake stake).1, c.self.invariant.1.handles.clean)

pub invariant_of-self : goal.invariant_of-self
invariant_of-self g c =
    let i = stock_of c.self.inside.thread c.self.inside.partitions c.self.inside.plain_from c.self.inside.seat.view c.self.inside.registers
    c.self.inside.caches in
    let w = c.map_from.new.seat.view in
    let cs = c.self.inside.caches in
    let r = least_stake i.view.stakes in
    let them = either c.map_from.result (λ a. MapGives r c.args.partition c.args.line c.args.shape.slot i.view w a.0.view a.1)
    (λ (f : FillFault). GivesNone r c.args.line c.args.partition c.args.shape.supers None c.self.inside.seat c.map_from.new.seat f)
    (HasThem i w i.registers cs) c.map_from.ensures.gave c.map_from.ensures.none
    (λ a gives. kept_has c.slots_stay_seen.ensures i w cs refl c.self.invariant.1 c.self.invariant.2 gives.enters.lends.keeps)
    (λ f none. none_has c.slots_stay_seen.ensures i cs c.self.inside.seat c.map_from.new.seat r c.args.line c.args.partition
    c.args.shape.supers None f refl c.self.invariant.1 c.self.invariant.2 refl none) in
    (c.map_from.ensures.region, them.stock, them.holds, c.self.invariant.3)

pub returns-clause-same : goal.returns-clause-same
returns-clause-same g c =
    let i = stock_of c.self.inside.thread c.self.inside.partitions c.self.inside.plain_from c.self.inside.seat.view c.self.inside.registers
    c.self.inside.caches in
    let w = c.map_from.new.seat.view in
    let cs = c.self.inside.caches in
    let r = least_stake i.view.stakes in
    let them = either c.map_from.result (λ a. MapGives r c.args.partition c.args.line c.args.shape.slot i.view w a.0.view a.1)
    (λ (f : FillFault). GivesNone r c.args.line c.args.partition c.args.shape.supers None c.self.inside.seat c.map_from.new.seat f)
    (HasThem i w i.registers cs) c.map_from.ensures.gave c.map_from.ensures.none
    (λ a gives. kept_has c.slots_stay_seen.ensures i w cs refl c.self.invariant.1 c.self.invariant.2 gives.enters.lends.keeps)
    (λ f none. none_has c.slots_stay_seen.ensures i cs c.self.inside.seat c.map_from.new.seat r c.args.line c.args.partition
    c.args.shape.supers None f refl c.self.invariant.1 c.self.invariant.2 refl none) in
    after_as i w w i.registers cs refl them ∙ ap (λ (z : StockValue). record z { view = w }) c.self.view_is

pub returns-clause-gave : goal.returns-clause-gave
returns-clause-gave g c =
    let i = stock_of c.self.inside.thread c.self.inside.partitions c.self.inside.plain_from c.self.inside.seat.view c.self.inside.registers
    c.self.inside.caches in
    let stake = subst (λ (z : StockValue). HasItsStake z) (sym c.self.view_is) c.requires.stake in
    let least = (least_is i.thread i.view c.self.invariant.1.stake stake).0 in
    subst (λ (z : StockValue). IfOk c.map_from.result
    (λ a. MapGives z.thread c.args.partition c.args.line c.args.shape.slot z.view c.map_from.new.seat.view a.0.view a.1)) c.self.view_is
    (subst (λ (r : ℕ). IfOk c.map_from.result
    (λ a. MapGives r c.args.partition c.args.line c.args.shape.slot i.view c.map_from.new.seat.view a.0.view a.1)) least
    c.map_from.ensures.gave)

pub returns-clause-none : goal.returns-clause-none
returns-clause-none g c =
    let i = stock_of c.self.inside.thread c.self.inside.partitions c.self.inside.plain_from c.self.inside.seat.view c.self.inside.registers
    c.self.inside.caches in
    let w = c.map_from.new.seat.view in
    let cs = c.self.inside.caches in
    let r = least_stake i.view.stakes in
    let them = either c.map_from.result (λ a. MapGives r c.args.partition c.args.line c.args.shape.slot i.view w a.0.view a.1)
    (λ (f : FillFault). GivesNone r c.args.line c.args.partition c.args.shape.supers None c.self.inside.seat c.map_from.new.seat f)
    (HasThem i w i.registers cs) c.map_from.ensures.gave c.map_from.ensures.none
    (λ a gives. kept_has c.slots_stay_seen.ensures i w cs refl c.self.invariant.1 c.self.invariant.2 gives.enters.lends.keeps)
    (λ f none. none_has c.slots_stay_seen.ensures i cs c.self.inside.seat c.map_from.new.seat r c.args.line c.args.partition
    c.args.shape.supers None f refl c.self.invariant.1 c.self.invariant.2 refl none) in
    let stake = subst (λ (z : StockValue). HasItsStake z) (sym c.self.view_is) c.requires.stake in
    let least = (least_is i.thread i.view c.self.invariant.1.stake stake).0 in
    subst (λ (z : StockValue). IfErr c.map_from.result
    (FindsNone c.args.line c.args.partition c.args.shape.supers None z (stock_of i.thread i.partitions i.plain_from w i.registers cs)))
    c.self.view_is
    (subst (λ (z : StockValue). IfErr c.map_from.result (FindsNone c.args.line c.args.partition c.args.shape.supers None i z))
    (sym (after_as i w w i.registers cs refl them))
    (err_weaker c.map_from.result (GivesNone r c.args.line c.args.partition c.args.shape.supers None c.self.inside.seat c.map_from.new.seat)
    (FindsNone c.args.line c.args.partition c.args.shape.supers None i (record i { view = w }))
    (λ f none. finds_none i c.self.inside.seat c.map_from.new.seat r c.args.line c.args.partition c.args.shape.supers None f refl least
    none) c.map_from.ensures.none))
