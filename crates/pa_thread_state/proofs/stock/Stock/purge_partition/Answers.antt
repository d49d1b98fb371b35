use Rattle.std.proofs.Common.{◌≡◌, ◌<◌, length, refl, ◌∙◌, sym, subst, ap, arith, inl, inr}
use Rattle.pa_slot.proofs.Outcomes.{any_err}
use Rattle.pa_region.specs.Shares.{Share}
use Rattle.pa_region.specs.Views.{stake_of}
use Rattle.pa_root.specs.Handing.{PurgeEnters}
use Rattle.pa_buckets.specs.Limits.{first_class}
use Rattle.pa_rules.specs.Caches.{listed_slots}
use Rattle.pa_rules.specs.Sizes.{HasClass}
use Rattle.pa_rules.proofs.Versions.{real_in}
use Rattle.pa_op_specs.specs.Stocks.{StockValue, titles_in, listed_in}
use Rattle.pa_op_specs.specs.Workers.{HasItsStake}
use Rattle.pa_thread_state.specs.Giving.{GivesTail}
use Rattle.pa_thread_state.specs.Purging.{GivesLists, PurgesRoot}
use Rattle.pa_thread_state.specs.Stopping.{StopsTail}
use Rattle.pa_op_specs.proofs.Stakes.{least_is}
use Rattle.pa_thread_state.proofs.Purging.{AreLeft, is_cleared, left_more, left_part, left_real, left_some, left_start, lists_none, lists_stake, lists_thread, lists_more, purges_root}
use Rattle.pa_thread_state.proofs.Staying.{stock_of, kept_has, same_has, after_as}
use Rattle.pa_thread_state.proofs.stock.Stock.purge_partition.Goals as goal

pub lists-init : goal.lists-init
lists-init g c =
    let s = c.args.self.now in let p = c.args.partition in
    let at : c.first_class-number.result ≡ first_class s.caches.version = c.first_class-number.ensures ∙ ap first_class c.version.ensures in
    let slots : c.cached-slots.result.slots ≡ listed_slots (listed_in s p) 0 170 = c.cached-slots.ensures.slots in
    record {
      some = subst (λ n. GivesLists c.args.line p n s s) (sym at) (lists_none c.args.line p s);
      left = subst (λ n. AreLeft s p n c.cached-slots.result.slots) (sym at) (left_start s p c.cached-slots.result.slots slots);
      slots = slots;
      budget = refl;
    }

pub class_numbered-class-requires : goal.class_numbered-class-requires
class_numbered-class-requires g c =
    let s = c.args.self.now in
    real_in s.caches.version c.lists.number
    (left_real s c.args.partition c.lists.number c.lists.left c.lists.invariant.left c.lists-test.true)

pub count_listed-left-requires-clause-class : goal.count_listed-left-requires-clause-class
count_listed-left-requires-clause-class g c =
    let s = c.args.self.now in
    let real = left_real s c.args.partition c.lists.number c.lists.left c.lists.invariant.left c.lists-test.true in
    subst (λ v. HasClass v c.class_numbered-class.result) (sym c.lists.invariant.some.given.version)
    (subst (HasClass s.caches.version) (sym c.class_numbered-class.ensures) real)

pub give_tail-requires-clause-class : goal.give_tail-requires-clause-class
give_tail-requires-clause-class g c =
    let s = c.args.self.now in
    let real = left_real s c.args.partition c.lists.number c.lists.left c.lists.invariant.left c.lists-test.true in
    subst (λ v. HasClass v c.class_numbered-class.result) (sym c.lists.invariant.some.given.version)
    (subst (HasClass s.caches.version) (sym c.class_numbered-class.ensures) real)

pub give_tail-requires-clause-stake : goal.give_tail-requires-clause-stake
give_tail-requires-clause-stake g c =
    lists_stake c.args.line c.args.partition c.lists.number c.args.self.now c.lists.self c.lists.invariant.some c.requires.stake

pub overflow_sub-left : goal.overflow_sub-left
overflow_sub-left g c =
    let counted = c.count_listed-left.ensures.count ∙
    ap (λ k. length (titles_in c.lists.self.caches c.args.partition k)) c.class_numbered-class.ensures in
    left_part c.args.line c.args.partition c.lists.number c.lists.left c.count_listed-left.result c.args.self.now c.lists.self
    c.kept-in-lists.ensures.stock
    c.lists.invariant.some c.lists.invariant.left c.lists-test.true counted

pub lists-preserved : goal.lists-preserved
lists-preserved g c =
    let p = c.args.partition in let n = c.lists.number in let line = c.args.line in
    let s = c.args.self.now in let now = c.lists.self in let next = c.give_tail.new.self in
    let is = c.kept-in-lists.ensures.stock in
    let below = left_some s p n c.lists.left c.lists.invariant.left c.lists-test.true in
    let at = c.class_numbered-class.ensures in
    let tail = subst (λ k. GivesTail line p k 0 now next) at c.in_ok-give_tail.ensures.gives in
    let counted = c.count_listed-left.ensures.count ∙ ap (λ k. length (titles_in now.caches p k)) at in
    record {
      some = lists_more line p n s now next is c.lists.invariant.some tail below;
      left = left_more line p n c.lists.left c.count_listed-left.result s now is c.lists.invariant.some c.lists.invariant.left
          c.lists-test.true counted;
      slots = c.lists.invariant.slots;
      budget = c.give_tail.ensures.budget ∙ c.lists.invariant.budget;
    }

pub lists-smaller : goal.lists-smaller
lists-smaller g c =
    let below = left_some c.args.self.now c.args.partition c.lists.number c.lists.left c.lists.invariant.left c.lists-test.true in
    omega (arith, below)

pub overflow_add-number : goal.overflow_add-number
overflow_add-number g c =
    let s = c.args.self.now in
    let real = real_in s.caches.version c.lists.number
    (left_real s c.args.partition c.lists.number c.lists.left c.lists.invariant.left c.lists-test.true) in
    omega (arith, real)

pub purge_root-requires-clause-lender : goal.purge_root-requires-clause-lender
purge_root-requires-clause-lender g c =
    let i = stock_of c.self.inside.thread c.self.inside.partitions c.self.inside.plain_from c.self.inside.seat.view c.self.inside.registers
    c.self.inside.caches in
    let has = lists_stake c.args.line c.args.partition c.lists.number c.args.self.now c.lists.self c.lists.invariant.some
    c.requires.stake in
    let stake = subst (λ (z : StockValue). HasItsStake z) (sym c.self.view_is) has in
    ((least_is i.thread i.view c.self.invariant.1.stake stake).1, c.self.invariant.1.handles.clean)

pub invariant_of-self : goal.invariant_of-self
invariant_of-self g c =
    let i = stock_of c.self.inside.thread c.self.inside.partitions c.self.inside.plain_from c.self.inside.seat.view c.self.inside.registers
    c.self.inside.caches in
    let them = same_has i c.purge_root.new.seat.view c.self.inside.caches refl c.self.invariant.1 c.self.invariant.2
    (ap (λ (n : Share). n.view) c.in_err-purge_root.ensures.err) in
    (c.purge_root.ensures.region, them.stock, them.holds, c.self.invariant.3)

pub invariant_of-self-2 : goal.invariant_of-self-2
invariant_of-self-2 g c =
    let i = stock_of c.self.inside.thread c.self.inside.partitions c.self.inside.plain_from c.self.inside.seat.view c.self.inside.registers
    c.self.inside.caches in
    let w = c.purge_root.new.seat.view in
    let them = kept_has c.slots_stay_seen.ensures i w c.self.inside.caches refl c.self.invariant.1 c.self.invariant.2
    c.in_ok-purge_root.ensures.entered.1.lends.keeps in
    (c.purge_root.ensures.region, them.stock, them.holds, c.self.invariant.3)

pub returns-clause-purges : goal.returns-clause-purges
returns-clause-purges g c =
    let i = stock_of c.self.inside.thread c.self.inside.partitions c.self.inside.plain_from c.self.inside.seat.view c.self.inside.registers
    c.self.inside.caches in
    let p = c.args.partition in let line = c.args.line in let s = c.args.self.now in let now = c.lists.self in
    let w = c.purge_root.new.seat.view in
    let them = kept_has c.slots_stay_seen.ensures i w c.self.inside.caches refl c.self.invariant.1 c.self.invariant.2
    c.in_ok-purge_root.ensures.entered.1.lends.keeps in
    let has = lists_stake line p c.lists.number s now c.lists.invariant.some c.requires.stake in
    let stake = subst (λ (z : StockValue). HasItsStake z) (sym c.self.view_is) has in
    let least = (least_is i.thread i.view c.self.invariant.1.stake stake).0 in
    let none : c.lists.left ≡ 0 = omega (arith, c.lists-test.false) in
    let left = subst (AreLeft s p c.lists.number) none c.lists.invariant.left in
    let entered = subst (λ r. PurgeEnters r p line i.view w) least c.in_ok-purge_root.ensures.entered in
    let enters = subst (λ (z : StockValue). PurgeEnters z.thread p line z.view w) c.self.view_is entered in
    subst (λ (z : StockValue). PurgesRoot line p c.cached-slots.result.slots s z)
    (sym (after_as i w w i.registers c.self.inside.caches refl them ∙ ap (λ (z : StockValue). record z { view = w }) c.self.view_is))
    (purges_root c.kept_numbers_stay.ensures s now w line p c.lists.number c.cached-slots.result.slots c.kept-2.ensures.aware
    c.aware.ensures.aware c.requires.partition
    c.lists.invariant.some left enters c.lists.invariant.slots)

pub returns-in_err-give_tail-clause-stake : goal.returns-in_err-give_tail-clause-stake
returns-in_err-give_tail-clause-stake g c = any_err c.from_residual.result _ (record {
  thread = c.in_err-give_tail.ensures.stake.thread
      ∙ lists_thread c.args.line c.args.partition c.lists.number c.args.self.now c.lists.self c.lists.invariant.some;
  stake = c.in_err-give_tail.ensures.stake.stake;
})

pub returns-in_err-purge_root-clause-stake : goal.returns-in_err-purge_root-clause-stake
returns-in_err-purge_root-clause-stake g c =
    let has = lists_stake c.args.line c.args.partition c.lists.number c.args.self.now c.lists.self c.lists.invariant.some
    c.requires.stake in
    let stake = subst (λ (z : StockValue). HasItsStake z) (sym c.self.view_is) has in
    any_err c.from_residual-in_err-purge_root.result _ (record {
      thread = ap (λ (z : StockValue). z.thread) c.self.view_is
          ∙ lists_thread c.args.line c.args.partition c.lists.number c.args.self.now c.lists.self c.lists.invariant.some;
      stake = subst (λ (n : Share). 0 < stake_of n.view c.self.inside.thread) (sym c.in_err-purge_root.ensures.err) stake;
    })

pub returns-in_err-give_tail-clause-stops : goal.returns-in_err-give_tail-clause-stops
returns-in_err-give_tail-clause-stops g c =
    let now = c.lists.self in let next = c.give_tail.new.self in
    any_err c.from_residual.result _ (record {
      classes = c.lists.number;
      between = now;
      gave = c.lists.invariant.some;
      stopped = inl (
        left_real c.args.self.now c.args.partition c.lists.number c.lists.left c.lists.invariant.left c.lists-test.true,
        subst (λ k. StopsTail c.args.line c.args.partition k 0 now next) c.class_numbered-class.ensures c.in_err-give_tail.ensures.stops,
      );
    })

pub returns-in_err-purge_root-clause-stops : goal.returns-in_err-purge_root-clause-stops
returns-in_err-purge_root-clause-stops g c =
    let i = stock_of c.self.inside.thread c.self.inside.partitions c.self.inside.plain_from c.self.inside.seat.view c.self.inside.registers
    c.self.inside.caches in
    let now = c.lists.self in let w = c.purge_root.new.seat.view in
    let same = ap (λ (n : Share). n.view) c.in_err-purge_root.ensures.err in
    let them = same_has i w c.self.inside.caches refl c.self.invariant.1 c.self.invariant.2 same in
    let none : c.lists.left ≡ 0 = omega (arith, c.lists-test.false) in
    let left = subst (AreLeft c.args.self.now c.args.partition c.lists.number) none c.lists.invariant.left in
    any_err c.from_residual-in_err-purge_root.result _ (record {
      classes = c.lists.number;
      between = now;
      gave = c.lists.invariant.some;
      stopped = inr (
        is_cleared c.args.line c.args.partition c.lists.number c.args.self.now c.lists.self c.lists.invariant.some left,
        after_as i w i.view i.registers c.self.inside.caches same them ∙ c.self.view_is,
      );
    })
