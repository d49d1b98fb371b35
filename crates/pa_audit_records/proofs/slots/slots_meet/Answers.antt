use Rattle.std.proofs.Common.{◌+◌, length, ap, refl}
use Rattle.pa_audit_records.specs.ByKeys.{value_at}
use Rattle.std.proofs.lemmas.Bool.{false≢true}
use Rattle.pa_rules.specs.declared.verdict.Place.TheVariants as places
use Rattle.pa_rules.specs.RecordDemands.{SlotsDemand}
use Rattle.pa_audit_records.proofs.Telling.{tells_at, tells_none}
use Rattle.pa_audit_records.proofs.Fitting.{slot_met, slot_fits}
use Rattle.pa_audit_records.proofs.Going.{slots_met}
use Rattle.pa_audit_records.proofs.slots.slots_meet.Goals as goal
use Rattle.pa_lists.proofs.Indexed.{none_past}
use Rattle.pa_lists.proofs.Tests.{met_more}

pub returns-then-branch : goal.returns-then-branch
returns-then-branch c = slots_met c.args.records.now (c.in_ok-stand_in_order.ensures c.if-branch.true)

pub returns-then-not-mark_fits : goal.returns-then-not-mark_fits
returns-then-not-mark_fits c =
    let ps = c.args.records.now in
    let i = c.loop-record.record-index in
    tells_at (λ k. SlotsDemand ps (places.Record k)) i c.loop-record.at c.loop-record.invariant.at
    (λ asks. false≢true (c.if-not-mark_fits.ensures.1
    (slot_fits ps (value_at c.in_ok-firsts.firsts) (value_at c.in_ok-reached.reached) i c.loop-record.at _ c.loop-record.invariant.at
    c.requires.rising c.in_ok-firsts.ensures c.in_ok-reached.ensures.reached c.in_ok-reached.ensures.all
    c.loop-record-test.true asks))) c.loop-record.invariant.met

pub loop-record-preserved : goal.loop-record-preserved
loop-record-preserved c =
    let ps = c.args.records.now in
    let i = c.loop-record.record-index in
    record {
      met =
          met_more (λ k. SlotsDemand ps (places.Record k)) i c.loop-record.invariant.met
          (slot_met ps (value_at c.in_ok-firsts.firsts) (value_at c.in_ok-reached.reached) i c.loop-record.at _ c.loop-record.invariant.at
          c.requires.rising c.in_ok-firsts.ensures c.in_ok-reached.ensures.reached c.loop-record-test.true
          (c.if-not-mark_fits.ensures.0 refl));
      at = ap (λ n. n + 1) c.loop-record.invariant.at;
    }

pub returns : goal.returns
returns c =
    let ps = c.args.records.now in
    tells_none (λ k. SlotsDemand ps (places.Record k)) (length ps) c.loop-record.record-index c.loop-record-test.false
    c.loop-record.invariant.met (λ j past x m at is. absurd (none_past ps j x past at))
