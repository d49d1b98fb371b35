use Rattle.std.proofs.Common.{refl, subst}
use Rattle.pa_rules.specs.Cells.{history_at}
use Rattle.pa_dangle.specs.Origins.{first_register}
use Rattle.pa_dangle.specs.Ways.{IsPutFor}
use Rattle.pa_dangle.proofs.Tracing.{way_some, way_none}
use Rattle.pa_dangle.proofs.ways.way_by.Goals as goal

pub returns-in-Some : goal.returns-in-Some
returns-in-Some c =
    let cells = history_at c.args.cells.now in
    let ps = c.args.records.now in
    let told = c.args.told in
    let last = subst (λ o. IsPutFor cells ps told c.args.at (first_register told.op) o) c.in-Some.is c.requires.last in
    way_some cells ps c.args.at c.in-Some.put told _ c.way_back.result
    (first_register told.op) c.requires.rising c.requires.told refl last c.way_back.ensures

pub returns-in-None : goal.returns-in-None
returns-in-None c = λ line origin.
    let cells = history_at c.args.cells.now in
    let ps = c.args.records.now in
    let told = c.args.told in
    let last = subst (λ o. IsPutFor cells ps told c.args.at (first_register told.op) o) c.in-None.is c.requires.last in
    way_none cells ps c.args.at line told (first_register told.op) c.requires.rising c.requires.told refl last origin
