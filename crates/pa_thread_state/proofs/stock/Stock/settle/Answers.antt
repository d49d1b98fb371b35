use Rattle.std.proofs.Common.{sym, ◌∙◌}
use Rattle.std.proofs.lemmas.Bool.{false≢true}
use Rattle.pa_thread_state.proofs.Homing.{no_list, home_settles, spill_settles}
use Rattle.pa_thread_state.proofs.Refused.{left_alone, no_class}
use Rattle.pa_thread_state.proofs.stock.Stock.settle.Goals as goal

pub spill-requires-clause-real : goal.spill-requires-clause-real
spill-requires-clause-real g c = (c.keeps_list.ensures.0 c.if-keeps_list.true).0

pub spill-requires-clause-some : goal.spill-requires-clause-some
spill-requires-clause-some g c = (c.keeps_list.ensures.0 c.if-keeps_list.true).1

pub returns-in-None-clause-settled : goal.returns-in-None-clause-settled
returns-in-None-clause-settled g c =
    home_settles c.args.line c.args.handle.now c.args.self.now c.send_home.new.self c.send_home.result
    (no_class c.args.handle.now c.args.self.now c.in-None.is) c.send_home.ensures.home

pub returns-in-None-clause-left : goal.returns-in-None-clause-left
returns-in-None-clause-left g c =
    left_alone c.args.line c.args.handle.now c.args.self.now c.send_home.new.self c.send_home.result
    (no_class c.args.handle.now c.args.self.now c.in-None.is) c.send_home.ensures.keeps c.send_home.ensures.back

pub returns-then-keeps_list-clause-settled : goal.returns-then-keeps_list-clause-settled
returns-then-keeps_list-clause-settled g c =
    let keeps = c.keeps_list.ensures.0 c.if-keeps_list.true in
    spill_settles c.args.line c.in-Some.class c.args.handle.now c.args.self.now c.spill.new.self c.spill.result c.in-Some.is keeps.0 keeps.1
    c.spill.ensures.spills

pub returns-else-keeps_list-clause-settled : goal.returns-else-keeps_list-clause-settled
returns-else-keeps_list-clause-settled g c =
    let sent = c.send_home-else-keeps_list in
    home_settles c.args.line c.args.handle.now c.args.self.now sent.new.self sent.result
    (no_list c.args.handle.now c.args.self.now c.in-Some.class c.in-Some.is
    (λ keeps. false≢true (sym c.if-keeps_list.false ∙ c.keeps_list.ensures.1 keeps))) sent.ensures.home

pub returns-else-keeps_list-clause-left : goal.returns-else-keeps_list-clause-left
returns-else-keeps_list-clause-left g c =
    let sent = c.send_home-else-keeps_list in
    left_alone c.args.line c.args.handle.now c.args.self.now sent.new.self sent.result
    (no_list c.args.handle.now c.args.self.now c.in-Some.class c.in-Some.is
    (λ keeps. false≢true (sym c.if-keeps_list.false ∙ c.keeps_list.ensures.1 keeps))) sent.ensures.keeps sent.ensures.back
