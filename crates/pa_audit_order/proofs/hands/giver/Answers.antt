use Rattle.std.proofs.Common.{None}
use Rattle.pa_lists.proofs.Members.{not_some}
use Rattle.pa_rules.specs.Cells.{history_at}
use Rattle.pa_audit_order.proofs.Handing.{giver_is, giver_all, given_all}
use Rattle.pa_audit_order.proofs.hands.giver.Goals as goal

pub returns-in-Some-clause-some : goal.returns-in-Some-clause-some
returns-in-Some-clause-some c =
    giver_is (history_at c.args.cells.now) c.args.records.now c.args.told c.in-Some.line c.record_on.result c.requires.rising
    c.requires.swaps c.requires.exchanges c.requires.among
    c.in-Some.ensures.some c.record_on.ensures.some

pub returns-in-Some-clause-all : goal.returns-in-Some-clause-all
returns-in-Some-clause-all c = λ j x here hands.
    giver_all (history_at c.args.cells.now) c.args.records.now c.args.told x c.in-Some.line j c.record_on.result c.requires.rising
    c.requires.swaps c.requires.exchanges c.requires.among
    c.in-Some.ensures.all c.record_on.ensures.some c.record_on.ensures.none here hands

pub returns-in-None-clause-all : goal.returns-in-None-clause-all
returns-in-None-clause-all c = λ j x here hands.
    absurd (not_some (x.line)
    (given_all (history_at c.args.cells.now) c.args.records.now c.args.told x None c.requires.rising c.requires.swaps c.requires.exchanges
    c.requires.among c.in-None.ensures.all hands))
