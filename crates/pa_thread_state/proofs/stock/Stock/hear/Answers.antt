use Rattle.std.proofs.Common.{◌∙◌, refl, sym, subst, ap, length}
use Rattle.pa_region.specs.declared.view.View.{View}
use Rattle.pa_region.specs.Hands.{united}
use Rattle.pa_region.specs.Aware.{IsAware}
use Rattle.pa_region.specs.Shares.{byte_word_count}
use Rattle.pa_rules.specs.Caches.{SameLists}
use Rattle.pa_op_specs.specs.Stocks.{StockValue, IsForThread, listed_in}
use Rattle.pa_op_specs.specs.Plays.{KeepsApart}
use Rattle.pa_thread_state.specs.Changes.{StaysMade}
use Rattle.pa_thread_state.proofs.Handing.{heard_stock, heard_lists, heard_apart}
use Rattle.pa_thread_state.proofs.Ready.{inside_aware}
use Rattle.pa_thread_state.proofs.Staying.{stock_of, has_as, after_as, firsts_join}
use Rattle.pa_thread_state.proofs.stock.Stock.hear.Goals as goal
use Rattle.pa_region.proofs.LendBack.{none_poisoned}

pub take-requires-clause-able : goal.take-requires-clause-able
take-requires-clause-able g c k t has = none_poisoned c.self.inside.seat.view t c.self.invariant.1.handles.clean

pub invariant_of-self : goal.invariant_of-self
invariant_of-self g c =
    let i = stock_of c.self.inside.thread c.self.inside.partitions c.self.inside.plain_from c.self.inside.seat.view c.self.inside.registers
    c.self.inside.caches in
    let for = subst (λ (z : StockValue). IsForThread z.thread c.args.note.view) (sym c.self.view_is) c.requires.note in
    let n = c.args.note.view in
    let long = ap (λ (z : StockValue). length z.view.words) c.self.view_is ∙
    (c.kept.ensures.long ∙ (ap byte_word_count (sym c.requires.regions.1) ∙ sym c.aware.ensures.long)) in
    let both = subst (λ (v : View). IsAware v) c.take.ensures.view c.aware-2.ensures.aware in
    let them = has_as i c.take.new.seat.view
    (united i.view n) i.registers c.self.inside.caches c.take.ensures.view refl c.self.invariant.1 c.self.invariant.2
    (heard_stock c.beginnings_join.ensures c.slots_stay_seen.ensures i n c.self.invariant.1 for both)
    (firsts_join i n c.self.invariant.1 long) in
    (c.take.ensures.region ∙ c.self.invariant.0, them.stock, them.holds, c.self.invariant.3)

pub returns-clause-heard : goal.returns-clause-heard
returns-clause-heard g c =
    let i = stock_of c.self.inside.thread c.self.inside.partitions c.self.inside.plain_from c.self.inside.seat.view c.self.inside.registers
    c.self.inside.caches in
    let for = subst (λ (z : StockValue). IsForThread z.thread c.args.note.view) (sym c.self.view_is) c.requires.note in
    let n = c.args.note.view in
    let long = ap (λ (z : StockValue). length z.view.words) c.self.view_is ∙
    (c.kept.ensures.long ∙ (ap byte_word_count (sym c.requires.regions.1) ∙ sym c.aware.ensures.long)) in
    let both = subst (λ (v : View). IsAware v) c.take.ensures.view c.aware-2.ensures.aware in
    let them = has_as i c.take.new.seat.view
    (united i.view n) i.registers c.self.inside.caches c.take.ensures.view refl c.self.invariant.1 c.self.invariant.2
    (heard_stock c.beginnings_join.ensures c.slots_stay_seen.ensures i n c.self.invariant.1 for both)
    (firsts_join i n c.self.invariant.1 long) in
    after_as i c.take.new.seat.view (united i.view n) i.registers c.self.inside.caches c.take.ensures.view them
    ∙ ap (λ (z : StockValue). record z { view = united z.view n }) c.self.view_is

pub returns-clause-lists : goal.returns-clause-lists
returns-clause-lists g c =
    let i = stock_of c.self.inside.thread c.self.inside.partitions c.self.inside.plain_from c.self.inside.seat.view c.self.inside.registers
    c.self.inside.caches in
    let for = subst (λ (z : StockValue). IsForThread z.thread c.args.note.view) (sym c.self.view_is) c.requires.note in
    let n = c.args.note.view in
    let long = ap (λ (z : StockValue). length z.view.words) c.self.view_is ∙
    (c.kept.ensures.long ∙ (ap byte_word_count (sym c.requires.regions.1) ∙ sym c.aware.ensures.long)) in
    let both = subst (λ (v : View). IsAware v) c.take.ensures.view c.aware-2.ensures.aware in
    let them = has_as i c.take.new.seat.view
    (united i.view n) i.registers c.self.inside.caches c.take.ensures.view refl c.self.invariant.1 c.self.invariant.2
    (heard_stock c.beginnings_join.ensures c.slots_stay_seen.ensures i n c.self.invariant.1 for both)
    (firsts_join i n c.self.invariant.1 long) in
    subst (λ (z : StockValue). SameLists
    (listed_in (stock_of i.thread i.partitions i.plain_from c.take.new.seat.view i.registers c.self.inside.caches))
    (listed_in z)) c.self.view_is
    (subst (λ (z : StockValue). SameLists (listed_in z) (listed_in i))
    (sym (after_as i c.take.new.seat.view (united i.view n) i.registers c.self.inside.caches c.take.ensures.view them))
    (heard_lists c.free_numbers_stay.ensures i n c.self.invariant.1
    (inside_aware i c.args.self.now c.self.view_is c.kept.ensures.aware) c.aware.ensures.aware both long))

pub returns-clause-apart : goal.returns-clause-apart
returns-clause-apart g c =
    let i = stock_of c.self.inside.thread c.self.inside.partitions c.self.inside.plain_from c.self.inside.seat.view c.self.inside.registers
    c.self.inside.caches in
    let for = subst (λ (z : StockValue). IsForThread z.thread c.args.note.view) (sym c.self.view_is) c.requires.note in
    let n = c.args.note.view in
    let long = ap (λ (z : StockValue). length z.view.words) c.self.view_is ∙
    (c.kept.ensures.long ∙ (ap byte_word_count (sym c.requires.regions.1) ∙ sym c.aware.ensures.long)) in
    let both = subst (λ (v : View). IsAware v) c.take.ensures.view c.aware-2.ensures.aware in
    let them = has_as i c.take.new.seat.view
    (united i.view n) i.registers c.self.inside.caches c.take.ensures.view refl c.self.invariant.1 c.self.invariant.2
    (heard_stock c.beginnings_join.ensures c.slots_stay_seen.ensures i n c.self.invariant.1 for both)
    (firsts_join i n c.self.invariant.1 long) in
    subst
    (λ (z : StockValue). KeepsApart z (stock_of i.thread i.partitions i.plain_from c.take.new.seat.view i.registers c.self.inside.caches))
    c.self.view_is
    (subst (λ (z : StockValue). KeepsApart i z)
    (sym (after_as i c.take.new.seat.view (united i.view n) i.registers c.self.inside.caches c.take.ensures.view them))
    (heard_apart c.free_numbers_stay.ensures i n
    (inside_aware i c.args.self.now c.self.view_is c.kept.ensures.aware) c.aware.ensures.aware both long))

pub returns-clause-made : goal.returns-clause-made
returns-clause-made g c =
    let i = stock_of c.self.inside.thread c.self.inside.partitions c.self.inside.plain_from c.self.inside.seat.view c.self.inside.registers
    c.self.inside.caches in
    let for = subst (λ (z : StockValue). IsForThread z.thread c.args.note.view) (sym c.self.view_is) c.requires.note in
    let n = c.args.note.view in
    let long = ap (λ (z : StockValue). length z.view.words) c.self.view_is ∙
    (c.kept.ensures.long ∙ (ap byte_word_count (sym c.requires.regions.1) ∙ sym c.aware.ensures.long)) in
    let both = subst (λ (v : View). IsAware v) c.take.ensures.view c.aware-2.ensures.aware in
    let them = has_as i c.take.new.seat.view
    (united i.view n) i.registers c.self.inside.caches c.take.ensures.view refl c.self.invariant.1 c.self.invariant.2
    (heard_stock c.beginnings_join.ensures c.slots_stay_seen.ensures i n c.self.invariant.1 for both)
    (firsts_join i n c.self.invariant.1 long) in
    subst
    (λ (z : StockValue). StaysMade z (stock_of i.thread i.partitions i.plain_from c.take.new.seat.view i.registers c.self.inside.caches))
    c.self.view_is
    (subst (λ (z : StockValue). StaysMade i z)
    (sym (after_as i c.take.new.seat.view (united i.view n) i.registers c.self.inside.caches c.take.ensures.view them))
    (λ h m. c.slots_stay_seen.ensures h i.view (united i.view n) m
    (c.beginnings_join.ensures i.view n h.partition both).0))
