use Rattle.std.proofs.Common.{◌↔◌, List, ◌++◌, map, subst}
use Rattle.std.specs.Prelude.{IsTrue}
use Rattle.std.proofs.Math.Seq.{take_all}
use Rattle.pa_record.specs.declared.numbered.Numbered.{Numbered}
use Rattle.pa_audit_holders.specs.Owners.{AllFit, HasOwners, move_on}
use Rattle.pa_audit_records.specs.ByKeys.{value_at}
use Rattle.pa_audit_holders.proofs.Moving.{moved_start, moved_more}
use Rattle.pa_audit_holders.proofs.moves.move_slots.Goals as goal

pub loop-slot-init : goal.loop-slot-init
loop-slot-init c = moved_start c.args.records.now c.args.mover.line c.args.course c.args.slots.now (value_at c.args.owners.now)

pub loop-slot-preserved : goal.loop-slot-preserved
loop-slot-preserved c =
    moved_more c.args.records.now c.args.mover.line c.args.course c.args.slots.now (value_at c.args.owners.now)
    (value_at c.loop-slot.owners) (value_at c.move_slot.new.owners) c.loop-slot.slot-index _ c.loop-slot.all c.in_ok-fits.fits
    c.both-all.result c.loop-slot-test.true c.loop-slot.invariant c.in_ok-fits.ensures.owners c.in_ok-fits.ensures.fits c.both-all.ensures

pub returns-clause-owners : goal.returns-clause-owners
returns-clause-owners c = λ ms own.
    let l = c.loop-slot in
    subst (λ (xs : List Numbered). HasOwners c.args.records.now (ms ++ map (move_on c.args.mover.line c.args.course) xs)
    (value_at l.owners)) (take_all l.slot-index c.args.slots.now c.loop-slot-test.false) (l.invariant.owners ms own)

pub returns-clause-fits : goal.returns-clause-fits
returns-clause-fits c = λ ms own.
    let l = c.loop-slot in
    subst (λ (xs : List Numbered). IsTrue l.all ↔ AllFit c.args.records.now ms (map (move_on c.args.mover.line c.args.course) xs))
    (take_all l.slot-index c.args.slots.now c.loop-slot-test.false) (l.invariant.fits ms own)
