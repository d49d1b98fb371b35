use Rattle.std.proofs.Common.{sym, ◌∙◌, ap, subst}
use Rattle.pa_region.specs.declared.view.View.{View}
use Rattle.pa_totals.specs.Settled.{CanSettle, after_settle, owed_at}
use Rattle.pa_totals.proofs.Settling.{settles_each}
use Rattle.pa_totals.proofs.owed.settle_all.Goals as goal

pub settle-requires-clause-able : goal.settle-requires-clause-able
settle-requires-clause-able c = (settles_each c.additions_stand_in_logs.ensures c.args.owed.now c.args.seat.now.view c.requires.able).first

pub settle-requires-2-clause-able : goal.settle-requires-2-clause-able
settle-requires-2-clause-able c =
    let each = settles_each c.additions_stand_in_logs.ensures c.args.owed.now c.args.seat.now.view c.requires.able in
    subst (λ (v : View). CanSettle 1 (owed_at c.args.owed.now 1) v) (sym c.settle.ensures.view) each.second

pub settle-requires-3-clause-able : goal.settle-requires-3-clause-able
settle-requires-3-clause-able c =
    let each = settles_each c.additions_stand_in_logs.ensures c.args.owed.now c.args.seat.now.view c.requires.able in
    let two = c.settle-2.ensures.view ∙ ap (λ (v : View). after_settle 1 (owed_at c.args.owed.now 1) v) c.settle.ensures.view in
    subst (λ (v : View). CanSettle 2 (owed_at c.args.owed.now 2) v) (sym two) each.third

pub settle-requires-4-clause-able : goal.settle-requires-4-clause-able
settle-requires-4-clause-able c =
    let each = settles_each c.additions_stand_in_logs.ensures c.args.owed.now c.args.seat.now.view c.requires.able in
    let two = c.settle-2.ensures.view ∙ ap (λ (v : View). after_settle 1 (owed_at c.args.owed.now 1) v) c.settle.ensures.view in
    let three = c.settle-3.ensures.view ∙ ap (λ (v : View). after_settle 2 (owed_at c.args.owed.now 2) v) two in
    subst (λ (v : View). CanSettle 3 (owed_at c.args.owed.now 3) v) (sym three) each.fourth
