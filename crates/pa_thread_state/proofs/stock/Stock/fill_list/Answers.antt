use Rattle.std.proofs.Common.{sym, ◌∙◌, ap, subst}
use Rattle.std.specs.Prelude.{List}
use Rattle.pa_slot.specs.declared.title.Title.{Title}
use Rattle.pa_rules.specs.Sizes.{HasClass}
use Rattle.pa_op_specs.specs.Stocks.{StockValue}
use Rattle.pa_thread_state.specs.Allocating.{BecomesList, CanLoad}
use Rattle.pa_thread_state.proofs.Allocated.{fill_can_load, fills_list}
use Rattle.pa_thread_state.proofs.stock.Stock.fill_list.Goals as goal

pub receive-requires-clause-only : goal.receive-requires-clause-only
receive-requires-clause-only g c = (c.in-Ok.titles.items, c.in-Ok.ensures.gave.has)

pub load-requires-clause-can : goal.load-requires-clause-can
load-requires-clause-can g c =
    subst (λ (ts : List Title). CanLoad c.args.partition c.args.class ts c.receive.new.self) (sym c.as_slice.ensures.value)
    (fill_can_load c.args.line c.args.partition c.args.class c.args.self.now c.ask_fill.new.self c.receive.new.self c.in-Ok.note.view
    c.in-Ok.titles.items
    c.remove-title.result c.remove-title.new.self.items c.ask_fill.ensures.same c.in-Ok.ensures.gave c.remove-title.ensures.value
    c.remove-title.ensures.items
    c.receive.ensures c.kept.ensures.stock c.kept.ensures.aware c.kept-in-Ok.ensures.aware c.kept-in-Ok-2.ensures.aware c.requires.partition
    c.requires.class c.requires.empty)

pub load-requires-clause-class : goal.load-requires-clause-class
load-requires-clause-class g c =
    let asked = ap (λ (z : StockValue). z.caches.version) c.ask_fill.ensures.same in
    let got = ap (λ (z : StockValue). z.caches.version) c.receive.ensures.after_is in
    subst (λ v. HasClass v c.args.class) (sym (got ∙ asked)) c.requires.class

pub returns-in-Ok-clause-filled : goal.returns-in-Ok-clause-filled
returns-in-Ok-clause-filled g c =
    fills_list c.args.line c.args.partition c.args.class c.args.self.now c.ask_fill.new.self c.receive.new.self c.load.new.self
    c.in-Ok.note.view c.in-Ok.titles.items
    c.remove-title.result c.remove-title.new.self.items c.ask_fill.ensures.same c.in-Ok.ensures.gave c.remove-title.ensures.value
    c.remove-title.ensures.items
    c.receive.ensures c.kept-in-Ok.ensures.aware c.kept-in-Ok-2.ensures.aware c.requires.class c.requires.empty
    (subst (λ (ts : List Title). BecomesList c.args.partition c.args.class ts c.receive.new.self c.load.new.self) c.as_slice.ensures.value
    c.load.ensures.loaded)
