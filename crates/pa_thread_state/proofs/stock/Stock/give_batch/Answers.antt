use Rattle.std.proofs.Common.{◌≡◌, ◌/◌, ◌<◌, List, length, drop, ◌∙◌, refl, sym, subst, ap, arith}
use Rattle.std.specs.Prelude.{Contains}
use Rattle.std.proofs.lemmas.List.{length-take, length-drop}
use Rattle.std.proofs.lemmas.List.Elements.{All-weaker, All-contains_itself}
use Rattle.pa_slot.proofs.Outcomes.{any_err}
use Rattle.pa_slot.specs.declared.title.Title.{Title}
use Rattle.pa_region.specs.declared.view.View.{View}
use Rattle.pa_region.specs.Views.{free_of}
use Rattle.pa_cache.specs.Caches.{HoldsFree, batch_after}
use Rattle.pa_root.specs.Handing.{HasSeenFill}
use Rattle.pa_op_specs.specs.Stocks.{StockValue, IsStock, titles_in}
use Rattle.pa_op_specs.specs.Workers.{HasItsStake}
use Rattle.pa_thread_state.specs.Giving.{GivesBatch, HandsBack, TakesBack}
use Rattle.pa_op_specs.proofs.Stakes.{least_is}
use Rattle.pa_thread_state.proofs.HandedBack.{taken_free, taken_seen, taken_thread, taken_budget, taken_stake, batch_done, back_stock}
use Rattle.pa_thread_state.proofs.Refused.{refused}
use Rattle.pa_thread_state.proofs.Staying.{stock_of, has_still, after_as, firsts_left}
use Rattle.pa_thread_state.proofs.stock.Stock.give_batch.Goals as goal

pub give_titles-requires-clause-lender : goal.give_titles-requires-clause-lender
give_titles-requires-clause-lender g c =
    let i = stock_of c.self.inside.thread c.self.inside.partitions c.self.inside.plain_from c.self.inside.seat.view c.self.inside.registers
    c.self.inside.caches in
    let s = c.args.self.now in let b = c.take_batch-titles.new.self in let p = c.args.partition in let class = c.args.class in
    let keep = c.args.keep in
    let is = c.kept.ensures.stock in let takes = c.take_batch-titles.ensures.rest in
    let stake = subst (λ (z : StockValue). HasItsStake z) (sym c.self.view_is) (taken_stake s b p class keep is takes c.requires.stake) in
    ((least_is i.thread i.view c.self.invariant.1.stake stake).1, c.self.invariant.1.handles.clean)

pub give_titles-requires-clause-some : goal.give_titles-requires-clause-some
give_titles-requires-clause-some g c =
    let ts = titles_in c.args.self.now.caches c.args.partition c.args.class in
    let e : length c.take_batch-titles.result.items ≡ length (batch_after c.args.keep ts) =
    ap (λ (us : List Title). length us) c.take_batch-titles.ensures.titles in
    let some = c.requires.some in
    omega (arith, length-take 16 (drop c.args.keep ts), length-drop c.args.keep ts)

pub give_titles-requires-clause-free : goal.give_titles-requires-clause-free
give_titles-requires-clause-free g c =
    let s = c.args.self.now in let b = c.take_batch-titles.new.self in let p = c.args.partition in let class = c.args.class in
    let keep = c.args.keep in
    let is = c.kept.ensures.stock in let takes = c.take_batch-titles.ensures.rest in
    let ts = c.take_batch-titles.result.items in
    subst (λ (z : StockValue). HoldsFree z.view ts) (sym c.self.view_is)
    (All-weaker (Contains ts) (λ t. 0 < free_of b.view t)
    (λ t among. taken_free s b p class keep is takes t (subst (λ us. Contains us t) c.take_batch-titles.ensures.titles among)) ts
    (All-contains_itself ts))

pub give_titles-requires-clause-named : goal.give_titles-requires-clause-named
give_titles-requires-clause-named g c t among =
    let s = c.args.self.now in let b = c.take_batch-titles.new.self in let p = c.args.partition in let class = c.args.class in
    let keep = c.args.keep in
    let is = c.kept.ensures.stock in let takes = c.take_batch-titles.ensures.rest in
    subst (λ (z : StockValue). HasSeenFill p z.view t) (sym c.self.view_is)
    (taken_seen s b p class keep is takes t (subst (λ us. Contains us t) c.take_batch-titles.ensures.titles among))

pub invariant_of-self-2 : goal.invariant_of-self-2
invariant_of-self-2 g c =
    let i = stock_of c.self.inside.thread c.self.inside.partitions c.self.inside.plain_from c.self.inside.seat.view c.self.inside.registers
    c.self.inside.caches in
    let s = c.args.self.now in let b = c.take_batch-titles.new.self in let p = c.args.partition in let class = c.args.class in
    let keep = c.args.keep in
    let is = c.kept.ensures.stock in let takes = c.take_batch-titles.ensures.rest in
    let w = c.give_titles.new.seat.view in let cs = c.self.inside.caches in let line = c.args.line in
    let titles = c.take_batch-titles.result.items in
    let stake = subst (λ (z : StockValue). HasItsStake z) (sym c.self.view_is) (taken_stake s b p class keep is takes c.requires.stake) in
    let least = (least_is i.thread i.view c.self.invariant.1.stake stake).0 in
    let hands = subst (λ r. HandsBack r line p titles i.view w) least c.in_ok-give_titles.ensures.gave in
    let done = batch_done s b p class keep is takes c.kept_numbers_stay.ensures c.slots_stay_seen.ensures w titles line
    c.kept-2.ensures.stock c.kept-2.ensures.aware
    c.aware.ensures.aware c.requires.partition c.requires.class c.take_batch-titles.ensures.titles c.take_batch-titles.ensures.different
    (subst (λ (z : StockValue). HandsBack z.thread line p titles z.view w) c.self.view_is hands) in
    let now = subst (λ (z : StockValue). IsStock (record z { view = w })) (sym c.self.view_is) done.0 in
    let them = has_still i w i.registers cs refl c.self.invariant.1 c.self.invariant.2 now
    (firsts_left i w hands.left now (ap (λ (v : View). v.words) hands.left_is) hands.enters.lends.keeps) in
    (c.give_titles.ensures.region, them.stock, them.holds, c.self.invariant.3)

pub returns-clause-gives : goal.returns-clause-gives
returns-clause-gives g c =
    let i = stock_of c.self.inside.thread c.self.inside.partitions c.self.inside.plain_from c.self.inside.seat.view c.self.inside.registers
    c.self.inside.caches in
    let s = c.args.self.now in let b = c.take_batch-titles.new.self in let p = c.args.partition in let class = c.args.class in
    let keep = c.args.keep in
    let is = c.kept.ensures.stock in let takes = c.take_batch-titles.ensures.rest in
    let w = c.give_titles.new.seat.view in let cs = c.self.inside.caches in let line = c.args.line in
    let titles = c.take_batch-titles.result.items in
    let stake = subst (λ (z : StockValue). HasItsStake z) (sym c.self.view_is) (taken_stake s b p class keep is takes c.requires.stake) in
    let least = (least_is i.thread i.view c.self.invariant.1.stake stake).0 in
    let hands = subst (λ r. HandsBack r line p titles i.view w) least c.in_ok-give_titles.ensures.gave in
    let done = batch_done s b p class keep is takes c.kept_numbers_stay.ensures c.slots_stay_seen.ensures w titles line
    c.kept-2.ensures.stock c.kept-2.ensures.aware
    c.aware.ensures.aware c.requires.partition c.requires.class c.take_batch-titles.ensures.titles c.take_batch-titles.ensures.different
    (subst (λ (z : StockValue). HandsBack z.thread line p titles z.view w) c.self.view_is hands) in
    let now = subst (λ (z : StockValue). IsStock (record z { view = w })) (sym c.self.view_is) done.0 in
    let them = has_still i w i.registers cs refl c.self.invariant.1 c.self.invariant.2 now
    (firsts_left i w hands.left now (ap (λ (v : View). v.words) hands.left_is) hands.enters.lends.keeps) in
    subst (GivesBatch line p class keep s)
    (sym (after_as i w w i.registers cs refl them ∙ ap (λ (z : StockValue). record z { view = w }) c.self.view_is)) done.1

pub invariant_of-self : goal.invariant_of-self
invariant_of-self g c =
    let i = stock_of c.self.inside.thread c.self.inside.partitions c.self.inside.plain_from c.self.inside.seat.view c.self.inside.registers
    c.self.inside.caches in
    let w = c.give_titles.new.seat.view in let back = c.in_err-give_titles.ensures.back in
    let them = has_still i w i.registers c.self.inside.caches refl c.self.invariant.1 c.self.invariant.2
    (back_stock c.slots_stay_seen.ensures i w c.self.invariant.1 back) (λ p class t among. back.words (t.start / 8)) in
    (c.give_titles.ensures.region, them.stock, them.holds, c.self.invariant.3)

pub returns-in_err-give_titles-clause-budget : goal.returns-in_err-give_titles-clause-budget
returns-in_err-give_titles-clause-budget g c =
    let s = c.args.self.now in let b = c.take_batch-titles.new.self in let p = c.args.partition in let class = c.args.class in
    let keep = c.args.keep in
    let is = c.kept.ensures.stock in let takes = c.take_batch-titles.ensures.rest in
    c.in_err-give_titles.ensures.back.budget ∙
    (ap (λ (z : StockValue). z.view.budget) c.self.view_is ∙ taken_budget s b p class keep is takes)

pub returns-in_err-give_titles-clause-stake : goal.returns-in_err-give_titles-clause-stake
returns-in_err-give_titles-clause-stake g c =
    let s = c.args.self.now in let b = c.take_batch-titles.new.self in let p = c.args.partition in let class = c.args.class in
    let keep = c.args.keep in
    let is = c.kept.ensures.stock in let takes = c.take_batch-titles.ensures.rest in
    let stake = subst (λ (z : StockValue). HasItsStake z) (sym c.self.view_is) (taken_stake s b p class keep is takes c.requires.stake) in
    any_err c.from_residual.result _ (record {
      thread = ap (λ (z : StockValue). z.thread) c.self.view_is ∙ taken_thread s b p class keep is takes;
      stake = subst (λ n. 0 < n) (sym (c.in_err-give_titles.ensures.back.stakes c.self.inside.thread)) stake;
    })

pub returns-in_err-give_titles-clause-refused : goal.returns-in_err-give_titles-clause-refused
returns-in_err-give_titles-clause-refused g c =
    let i = stock_of c.self.inside.thread c.self.inside.partitions c.self.inside.plain_from c.self.inside.seat.view c.self.inside.registers
    c.self.inside.caches in
    let w = c.give_titles.new.seat.view in let back = c.in_err-give_titles.ensures.back in
    let them = has_still i w i.registers c.self.inside.caches refl c.self.invariant.1 c.self.invariant.2
    (back_stock c.slots_stay_seen.ensures i w c.self.invariant.1 back) (λ p class t among. back.words (t.start / 8)) in
    any_err c.from_residual.result _
    (refused c.args.self.now c.take_batch-titles.new.self _ w c.args.partition c.args.class c.args.keep c.kept.ensures.stock
    c.requires.partition c.requires.class c.take_batch-titles.ensures.rest
    (subst (λ (z : StockValue). TakesBack z.view w) c.self.view_is back)
    (after_as i w w i.registers c.self.inside.caches refl them ∙ ap (λ (z : StockValue). record z { view = w }) c.self.view_is))
