use Rattle.std.proofs.Common.{◌≡◌, ◌+◌, refl, sym, subst, arith}
use Rattle.pa_rules.specs.declared.verdict.Place.TheVariants as places
use Rattle.pa_rules.specs.Cells.{history_at}
use Rattle.pa_rules.specs.RecordDemands.{SeenDemand}
use Rattle.pa_audit_order.specs.Cuts.{TellsBelow}
use Rattle.pa_audit_order.proofs.Climbing.{none_exchanged, seen_met}
use Rattle.pa_audit_order.proofs.Meeting.{below_more, below_all}
use Rattle.pa_audit_order.proofs.seen.seen_meets.Goals as goal

pub returns-then-branch : goal.returns-then-branch
returns-then-branch c =
    seen_met (history_at c.args.cells.now) c.args.records.now c.requires.rising c.requires.phases
    (none_exchanged c.args.cells.now (c.if-has_no_exchange.ensures.0 refl))
    (c.in_ok-numbers_rise.ensures c.if-branch.true)

pub loop-thread-preserved : goal.loop-thread-preserved
loop-thread-preserved c =
    let ps = c.args.records.now in
    let cells = history_at c.args.cells.now in
    let t = c.loop-thread.thread in
    subst (TellsBelow ps (t + 1) (λ i. SeenDemand cells ps (places.Record i))) (sym c.earlier-first.ensures)
    (below_more ps (λ i. SeenDemand cells ps (places.Record i)) t c.loop-thread.first c.in_ok-told.told c.loop-thread.invariant
    c.in_ok-told.ensures)

pub returns : goal.returns
returns c =
    let ps = c.args.records.now in
    let cells = history_at c.args.cells.now in
    let end : c.loop-thread.thread ≡ 16 = omega arith in
    below_all cells ps c.loop-thread.first c.requires.within
    (subst (λ z. TellsBelow ps z (λ i. SeenDemand cells ps (places.Record i)) c.loop-thread.first) end c.loop-thread.invariant)
