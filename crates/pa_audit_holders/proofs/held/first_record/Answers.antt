use Rattle.std.proofs.Common.{◌+◌, ◌≤◌, length, ap, arith}
use Rattle.pa_rules.specs.declared.verdict.Place.TheVariants as places
use Rattle.pa_rules.specs.Roots.{journal_at}
use Rattle.pa_rules.specs.HeapDemands.{HoldersDemand}
use Rattle.pa_audit_holders.proofs.Holding.{record_fits, record_next, record_stops, records_all}
use Rattle.pa_audit_holders.proofs.held.first_record.Goals as goal

pub returns-then-not-both : goal.returns-then-not-both
returns-then-not-both c =
    let l = c.loop-record in
    let ps = c.args.records.now in
    let roots = journal_at c.args.roots.now in
    record_stops (λ i. HoldersDemand ps roots (places.Record i)) l.at l.record-index c.both.result l.invariant.at
    (record_fits ps roots l.record-index _ c.is_issued-issued.result c.stays_there-stays.result c.both.result c.loop-record-test.true
    c.is_issued-issued.ensures c.stays_there-stays.ensures c.both.ensures) c.if-not-both.true
    l.invariant.met

pub loop-record-preserved : goal.loop-record-preserved
loop-record-preserved c =
    let l = c.loop-record in
    let ps = c.args.records.now in
    let roots = journal_at c.args.roots.now in
    record {
      at = ap (λ n. n + 1) l.invariant.at;
      met =
          record_next (λ i. HoldersDemand ps roots (places.Record i)) l.at l.record-index c.both.result l.invariant.at
          (record_fits ps roots l.record-index _ c.is_issued-issued.result c.stays_there-stays.result c.both.result
          c.loop-record-test.true c.is_issued-issued.ensures c.stays_there-stays.ensures c.both.ensures)
          c.if-not-both.false l.invariant.met;
    }

pub returns : goal.returns
returns c =
    let l = c.loop-record in
    let at = l.invariant.at in
    let test = c.loop-record-test.false in
    let end : length c.args.records.now ≤ l.at = omega (arith, at, test) in
    records_all c.args.records.now (journal_at c.args.roots.now) l.at end l.invariant.met
