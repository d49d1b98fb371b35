use Rattle.std.proofs.Common.{◌≡◌, ◌*◌, ◌∙◌, refl, sym, subst, ap}
use Rattle.std.specs.Prelude.{List, replicate}
use Rattle.pa_region.specs.Waiting.{unclean_of}
use Rattle.pa_region.specs.Shares.{Share}
use Rattle.pa_rules.specs.declared.register.Register.TheVariants.{Empty}
use Rattle.pa_op_specs.specs.Stocks.{StockRegister, IsStock, register_in}
use Rattle.pa_thread_state.proofs.Beginning.{new_stock, no_titles, all_empty}
use Rattle.pa_thread_state.proofs.Chained.{none_of}
use Rattle.pa_rules.specs.Sizes.{class_total}
use Rattle.pa_thread_state.specs.Lists.{lists_in}
use Rattle.pa_thread_state.proofs.Staying.{stock_of}
use Rattle.pa_thread_state.proofs.stock.Stock.open.Goals as goal

pub invariant_of-result : goal.invariant_of-result
invariant_of-result g c =
    let same = c.seat-seat.ensures.same in let cs = c.in_ok-caches.caches in
    let none = none_of c.args.note.view cs c.args.version c.in_ok-caches.ensures.version (c.in_ok-caches.ensures.lists c.args.note.view) in (
      ap (λ (x : Share). x.region) same ∙ c.requires.region,
      subst (λ (rs : List StockRegister). IsStock
          (stock_of c.args.thread c.args.partitions c.args.plain_from c.seat-seat.result.view rs cs))
          (sym c.empty_registers-registers.ensures)
          (subst (λ (x : Share). IsStock (stock_of c.args.thread c.args.partitions c.args.plain_from x.view (replicate 64 Empty) cs))
          (sym same)
          (new_stock c.args.thread c.args.partitions c.args.plain_from c.args.note.view (lists_in c.args.note.view cs) c.requires.note
          (subst (λ (x : Share). unclean_of x.view ≡ 0) same c.seat-seat.ensures.clean) c.requires.partitions none)),
      c.in_ok-caches.ensures.holds c.seat-seat.result.view,
      c.requires.plain,
    )

pub returns : goal.returns
returns g c = record {
  thread_is = refl;
  partitions_are = refl;
  plain_is = refl;
  version_is = c.in_ok-caches.ensures.version;
  view = ap (λ (x : Share). x.view) c.seat-seat.ensures.same;
  registers = λ i. subst (λ (rs : List StockRegister). register_in rs i ≡ Empty) (sym c.empty_registers-registers.ensures) (all_empty 64 i);
  lists = λ p n. let cs = c.in_ok-caches.caches in let v = c.seat-seat.result.view in
      no_titles (4 * class_total cs.version) (lists_in v cs) p n
      (none_of v cs c.args.version c.in_ok-caches.ensures.version (c.in_ok-caches.ensures.lists v));
}
