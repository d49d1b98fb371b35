use Rattle.std.proofs.Common.{None, option_map, subst}
use Rattle.pa_region.specs.Views.{least_stake}
use Rattle.pa_region.proofs.LendBack.{lends_again}
use Rattle.pa_root.specs.Asking.{IsAskedFor}
use Rattle.pa_root.proofs.Lists.{hosts_kept}
use Rattle.pa_root.proofs.Refusing.{ToldNone, refused_by}
use Rattle.pa_root.proofs.root.Ledger.ask_room.Goals as goal

pub append-requires-clause-lender : goal.append-requires-clause-lender
append-requires-clause-lender g c =
    (lends_again c.ask_pool.new.self.seat.now.view c.show_seen.new.from.view
    (c.show_seen.ensures.shown.giver 0).keeps c.ask_pool.ensures.again).0

pub append-requires-clause-host : goal.append-requires-clause-host
append-requires-clause-host g c =
    let p = g.row.P in
    let w1 = c.ask_pool.new.root.view in
    hosts_kept p w1 c.show_seen.new.to.view (c.show_seen.ensures.shown.taker 0).keeps
    (hosts_kept p c.args.self.now.seat.view w1 (c.ask_pool.ensures.root 0).keeps c.requires.host)

pub returns-in_default-None-clause-refused : goal.returns-in_default-None-clause-refused
returns-in_default-None-clause-refused g c =
    let p = g.row.P in let line = c.args.asking.now.line in let count = c.args.count in let class = c.args.class in
    let asked = c.in_ok-asked.field-0.0 in
    let v = c.args.asking.now.seat.now.view in let a = c.ask_pool.new.self.seat.now.view in let b = c.show_seen.new.from.view in
    let after = c.append.new.lender.view in
    let w = c.args.self.now.seat.view in let w1 = c.ask_pool.new.root.view in let w2 = c.show_seen.new.to.view in
    let x = c.append.new.host.view in
    let js = c.args.self.now.journal.items in let js_now = c.append.new.journal.items in
    let (m, noted) = c.append.ensures.noted in
    let asks : IsAskedFor (least_stake v.stakes) line p count None asked v a w1 =
    subst (λ o. IsAskedFor (least_stake v.stakes) line p count (option_map (λ n. n.0) o) asked v a w1) c.in_default-None.is-1
    c.in_ok-asked.ensures.asked in
    let told : ToldNone line p count c.append.result asked class v a b after w w1 w2 x m js js_now = record {
      lender = c.requires.lender;
      host = c.requires.host;
      aware = c.aware.ensures.aware;
      now_aware = c.append.ensures.aware.1;
      asks = asks;
      own = c.ask_pool.ensures.root 0;
      same = c.ask_pool.ensures.lists;
      shown = c.show_seen.ensures.shown;
      noted = noted;
      long = c.requires.listed;
      index = c.append.ensures.index;
      journal = c.append.ensures.journal;
    } in
    refused_by line p count c.append.result asked class v a b after w w1 w2 x m js js_now told
