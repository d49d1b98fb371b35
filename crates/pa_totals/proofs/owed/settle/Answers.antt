use Rattle.std.proofs.Common.{◌+◌, ◌*◌, sym, ◌∙◌, ap, subst}
use Rattle.pa_region.specs.declared.view.View.{View}
use Rattle.pa_region.specs.Totals.{CanAdd}
use Rattle.pa_totals.specs.Settled.{after_owed}
use Rattle.pa_totals.proofs.Settling.{adds_each}
use Rattle.pa_totals.proofs.owed.settle.Goals as goal

pub add_owed-requires-clause-able : goal.add_owed-requires-clause-able
add_owed-requires-clause-able c =
    (adds_each c.additions_stand_in_logs.ensures c.args.partition c.args.owed.now c.args.seat.now.view c.requires.able).issued

pub add_owed-requires-2-clause-able : goal.add_owed-requires-2-clause-able
add_owed-requires-2-clause-able c =
    let each = adds_each c.additions_stand_in_logs.ensures c.args.partition c.args.owed.now c.args.seat.now.view c.requires.able in
    subst (λ (v : View). CanAdd (4 * c.args.partition + 1) c.args.owed.now.freed v) (sym c.add_owed.ensures.view) each.freed

pub add_owed-requires-3-clause-able : goal.add_owed-requires-3-clause-able
add_owed-requires-3-clause-able c =
    let each = adds_each c.additions_stand_in_logs.ensures c.args.partition c.args.owed.now c.args.seat.now.view c.requires.able in
    let two = c.add_owed-2.ensures.view ∙
    ap (λ (v : View). after_owed (4 * c.args.partition + 1) c.args.owed.now.freed v) c.add_owed.ensures.view in
    subst (λ (v : View). CanAdd (4 * c.args.partition + 2) c.args.owed.now.entered v) (sym two) each.entered

pub add_owed-requires-4-clause-able : goal.add_owed-requires-4-clause-able
add_owed-requires-4-clause-able c =
    let each = adds_each c.additions_stand_in_logs.ensures c.args.partition c.args.owed.now c.args.seat.now.view c.requires.able in
    let two = c.add_owed-2.ensures.view ∙
    ap (λ (v : View). after_owed (4 * c.args.partition + 1) c.args.owed.now.freed v) c.add_owed.ensures.view in
    let three = c.add_owed-3.ensures.view ∙ ap (λ (v : View). after_owed (4 * c.args.partition + 2) c.args.owed.now.entered v) two in
    subst (λ (v : View). CanAdd (4 * c.args.partition + 3) c.args.owed.now.left v) (sym three) each.left
