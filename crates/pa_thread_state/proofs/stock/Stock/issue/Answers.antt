use Rattle.std.proofs.Common.{◌<◌, ◌-◌, Bool, ◌∙◌, refl, sym, subst, ap, arith}
use Rattle.std.specs.Prelude.{slice_set}
use Rattle.pa_slot.specs.declared.word.SlotName.{SlotName}
use Rattle.pa_slot.specs.declared.word.Step.TheVariants as steps
use Rattle.pa_record.specs.declared.entry.Answer.TheVariants.{Made}
use Rattle.pa_region.specs.declared.view.View.{View}
use Rattle.pa_region.specs.Aware.{IsAware}
use Rattle.pa_region.specs.Moves.{CanCount}
use Rattle.pa_quarantine.specs.Filling.{zeroed}
use Rattle.pa_cells.specs.Handles.{is_plain}
use Rattle.pa_rules.specs.declared.register.Register.TheVariants.{Own}
use Rattle.pa_op_specs.specs.Stocks.{StockValue, HasNoHandle, register_in}
use Rattle.pa_op_specs.specs.Workers.{HasItsStake}
use Rattle.pa_thread_state.specs.Changes.{IsBack}
use Rattle.pa_thread_state.specs.Allocating.{Issues, after_issue}
use Rattle.pa_thread_state.proofs.Issuing.{can_issue, issue_leaves, issued_view, issued_stock, issues, not_listed}
use Rattle.pa_thread_state.proofs.Looking.{seen_at}
use Rattle.pa_thread_state.proofs.Staying.{stock_of, has_as, firsts_beside, filled_others}
use Rattle.pa_thread_state.proofs.stock.Stock.issue.Goals as goal

pub issue_as-found-requires-clause-able : goal.issue_as-found-requires-clause-able
issue_as-found-requires-clause-able g c =
    let i = stock_of c.self.inside.thread c.self.inside.partitions c.self.inside.plain_from c.self.inside.seat.view c.self.inside.registers
    c.self.inside.caches in
    let t = c.args.handle.title in
    let back = subst (λ (z : StockValue). IsBack c.args.handle z) (sym c.self.view_is) c.requires.back in
    let stake = subst (λ (z : StockValue). HasItsStake z) (sym c.self.view_is) c.requires.stake in
    let budget = subst (λ (z : StockValue). 0 < z.view.budget) (sym c.self.view_is) c.requires.budget in
    can_issue i t c.zero_fill.new.seat.view c.zero_fill.ensures.view c.self.invariant.1 stake budget back.free c.zero_fill.ensures.content

pub invariant_of-self : goal.invariant_of-self
invariant_of-self g c =
    let i = stock_of c.self.inside.thread c.self.inside.partitions c.self.inside.plain_from c.self.inside.seat.view c.self.inside.registers
    c.self.inside.caches in
    let h = c.args.handle in
    let back = subst (λ (z : StockValue). IsBack h z) (sym c.self.view_is) c.requires.back in
    let bare = subst (λ (z : StockValue). HasNoHandle (register_in z.registers c.args.reg)) (sym c.self.view_is) c.requires.none in
    let stake = subst (λ (z : StockValue). HasItsStake z) (sym c.self.view_is) c.requires.stake in
    let budget = subst (λ (z : StockValue). 0 < z.view.budget) (sym c.self.view_is) c.requires.budget in
    let can = can_issue i h.title c.zero_fill.new.seat.view c.zero_fill.ensures.view c.self.invariant.1 stake budget back.free
    c.zero_fill.ensures.content in
    let plain = is_plain i.plain_from h in
    let flag = c.is_plain-plain.ensures ∙ ap (λ (z : StockValue). is_plain z.plain_from h) (sym c.self.view_is) in
    let view = c.issue_as-found.ensures.view
    ∙ (ap (λ (v : View). after_issue c.is_plain-plain.result h.title c.issue_as-found.result.0 v) c.zero_fill.ensures.view
    ∙ ap (λ (b : Bool). issued_view b i.view h.title c.issue_as-found.result.0) flag) in
    let x = issued_view plain i.view h.title c.issue_as-found.result.0 in
    let leaves = issue_leaves c.counted_steps_leave.ensures c.sealed_steps_leave.ensures plain h.title c.issue_as-found.result.0
    (zeroed h.title i.view) (subst (λ (v : View). CanCount steps.Issue h.title v) c.zero_fill.ensures.view can) in
    let rs = slice_set i.registers c.args.reg (Own h) in
    let them = has_as i c.issue_as-found.new.seat.view x rs c.self.inside.caches view refl c.self.invariant.1 c.self.invariant.2
    (issued_stock c.counted_steps_leave.ensures c.sealed_steps_leave.ensures c.owns_change.ensures i c.args.reg c.issue_as-found.result.0 h
    c.self.invariant.1
    (subst (λ (v : View). CanCount steps.Issue h.title v) c.zero_fill.ensures.view can) c.requires.reg bare back)
    (firsts_beside _ i x h.title c.self.invariant.1
    (subst (λ (z : StockValue). IsAware z.view) (sym c.self.view_is) c.kept.ensures.aware) c.placed.ensures.well
    (let has = back.free in omega arith) (not_listed i h back)
    (λ q out. leaves.others q out ∙ filled_others 0 h.title i.view.words q out)) in
    (c.issue_as-found.ensures.region ∙ (c.zero_fill.ensures.region ∙ c.self.invariant.0), them.stock, them.holds, c.self.invariant.3)

pub returns : goal.returns
returns g c =
    let i = stock_of c.self.inside.thread c.self.inside.partitions c.self.inside.plain_from c.self.inside.seat.view c.self.inside.registers
    c.self.inside.caches in
    let h = c.args.handle in
    let back = subst (λ (z : StockValue). IsBack h z) (sym c.self.view_is) c.requires.back in
    let bare = subst (λ (z : StockValue). HasNoHandle (register_in z.registers c.args.reg)) (sym c.self.view_is) c.requires.none in
    let stake = subst (λ (z : StockValue). HasItsStake z) (sym c.self.view_is) c.requires.stake in
    let budget = subst (λ (z : StockValue). 0 < z.view.budget) (sym c.self.view_is) c.requires.budget in
    let can = can_issue i h.title c.zero_fill.new.seat.view c.zero_fill.ensures.view c.self.invariant.1 stake budget back.free
    c.zero_fill.ensures.content in
    let plain = is_plain i.plain_from h in
    let flag = c.is_plain-plain.ensures ∙ ap (λ (z : StockValue). is_plain z.plain_from h) (sym c.self.view_is) in
    let view = c.issue_as-found.ensures.view
    ∙ (ap (λ (v : View). after_issue c.is_plain-plain.result h.title c.issue_as-found.result.0 v) c.zero_fill.ensures.view
    ∙ ap (λ (b : Bool). issued_view b i.view h.title c.issue_as-found.result.0) flag) in
    let x = issued_view plain i.view h.title c.issue_as-found.result.0 in
    let leaves = issue_leaves c.counted_steps_leave.ensures c.sealed_steps_leave.ensures plain h.title c.issue_as-found.result.0
    (zeroed h.title i.view) (subst (λ (v : View). CanCount steps.Issue h.title v) c.zero_fill.ensures.view can) in
    let rs = slice_set i.registers c.args.reg (Own h) in
    let them = has_as i c.issue_as-found.new.seat.view x rs c.self.inside.caches view refl c.self.invariant.1 c.self.invariant.2
    (issued_stock c.counted_steps_leave.ensures c.sealed_steps_leave.ensures c.owns_change.ensures i c.args.reg c.issue_as-found.result.0 h
    c.self.invariant.1
    (subst (λ (v : View). CanCount steps.Issue h.title v) c.zero_fill.ensures.view can) c.requires.reg bare back)
    (firsts_beside _ i x h.title c.self.invariant.1
    (subst (λ (z : StockValue). IsAware z.view) (sym c.self.view_is) c.kept.ensures.aware) c.placed.ensures.well
    (let has = back.free in omega arith) (not_listed i h back)
    (λ q out. leaves.others q out ∙ filled_others 0 h.title i.view.words q out)) in
    subst (λ (z : StockValue). Issues h c.args.reg
    (Made (record { slot = c.slot_name-slot.result; found = c.issue_as-found.result }) (h.title.len - 8)) z
    (stock_of i.thread i.partitions i.plain_from c.issue_as-found.new.seat.view rs c.self.inside.caches)) c.self.view_is
    (subst (λ (n : SlotName). Issues h c.args.reg (Made (record { slot = n; found = c.issue_as-found.result }) (h.title.len - 8)) i
    (stock_of i.thread i.partitions i.plain_from c.issue_as-found.new.seat.view rs c.self.inside.caches)) (sym c.slot_name-slot.ensures)
    (subst (λ ls. Issues h c.args.reg (Made (seen_at h c.issue_as-found.result.0) (h.title.len - 8)) i
    (record i { view = c.issue_as-found.new.seat.view; registers = rs; caches = ls })) (sym them.same)
    (issues i c.args.reg c.issue_as-found.result.0 h c.zero_fill.new.seat.view c.issue_as-found.new.seat.view c.zero_fill.ensures.view
    (c.issue_as-found.ensures.view
    ∙ ap (λ (b : Bool). after_issue b h.title c.issue_as-found.result.0 c.zero_fill.new.seat.view) flag)
    can c.issue_as-found.ensures.found c.aware.ensures.aware c.placed.ensures.well.long)))
