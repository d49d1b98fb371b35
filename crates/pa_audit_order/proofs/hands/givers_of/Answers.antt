use Rattle.std.proofs.Common.{◌≡◌, ◌+◌, length, sym, subst, arith}
use Rattle.std.proofs.lemmas.List.Elements.{Contains-get_or}
use Rattle.pa_rules.specs.Cells.{history_at}
use Rattle.pa_audit_order.specs.Steps.{AreGivers}
use Rattle.pa_audit_order.proofs.Handing.{givers_more, givers_start}
use Rattle.pa_audit_order.proofs.hands.givers_of.Goals as goal

pub loop-record-init : goal.loop-record-init
loop-record-init c =
    subst (λ zs. AreGivers (history_at c.args.cells.now) c.args.records.now zs 0) (sym c.new-givers.ensures.items)
    (givers_start (history_at c.args.cells.now) c.args.records.now)

pub giver-giver-requires-clause-among : goal.giver-giver-requires-clause-among
giver-giver-requires-clause-among c = Contains-get_or c.args.records.now c.loop-record.record-index _ c.loop-record-test.true

pub loop-record-preserved : goal.loop-record-preserved
loop-record-preserved c =
    let l = c.loop-record in
    let k = l.record-index in
    subst (λ zs. AreGivers (history_at c.args.cells.now) c.args.records.now zs (k + 1)) (sym c.in_ok-push.ensures.items)
    (givers_more (history_at c.args.cells.now) c.args.records.now l.givers.items k _ c.giver-giver.result c.loop-record-test.true
    (record { some = c.giver-giver.ensures.some; all = c.giver-giver.ensures.all }) l.invariant)

pub returns : goal.returns
returns c =
    let l = c.loop-record in
    let end : l.record-index ≡ length c.args.records.now = omega (arith, c.loop-record-test.false, l.auto.record-index-end) in
    subst (λ n. AreGivers (history_at c.args.cells.now) c.args.records.now l.givers.items n) end l.invariant
