use Rattle.std.proofs.Common.{◌+◌, length, ap, refl}
use Rattle.std.proofs.lemmas.Bool.{false≢true}
use Rattle.pa_rules.specs.declared.verdict.Place.TheVariants as places
use Rattle.pa_rules.specs.Cells.{history_at}
use Rattle.pa_rules.specs.RecordDemands.{CellsDemand}
use Rattle.pa_audit_records.proofs.Telling.{tells_at, tells_none}
use Rattle.pa_audit_records.proofs.Exchanging.{swap_met, swap_fits}
use Rattle.pa_audit_records.proofs.cells.swaps_meet.Goals as goal
use Rattle.pa_lists.proofs.Indexed.{none_past}
use Rattle.pa_lists.proofs.Tests.{met_more}

pub returns-then-not-swap_fits : goal.returns-then-not-swap_fits
returns-then-not-swap_fits c =
    let ps = c.args.records.now in
    let cells = history_at c.args.cells.now in
    let i = c.loop-record.record-index in
    tells_at (λ k. CellsDemand cells ps (places.Record k)) i c.loop-record.at c.loop-record.invariant.at
    (λ asks. false≢true (c.if-not-swap_fits.ensures.1 (swap_fits cells ps i _ c.loop-record-test.true asks))) c.loop-record.invariant.met

pub loop-record-preserved : goal.loop-record-preserved
loop-record-preserved c =
    let ps = c.args.records.now in
    let cells = history_at c.args.cells.now in
    let i = c.loop-record.record-index in
    record {
      met = met_more (λ k. CellsDemand cells ps (places.Record k)) i c.loop-record.invariant.met
          (swap_met cells ps i _ c.loop-record-test.true (c.if-not-swap_fits.ensures.0 refl));
      at = ap (λ n. n + 1) c.loop-record.invariant.at;
    }

pub returns : goal.returns
returns c =
    let ps = c.args.records.now in
    let cells = history_at c.args.cells.now in
    tells_none (λ k. CellsDemand cells ps (places.Record k)) (length ps) c.loop-record.record-index c.loop-record-test.false
    c.loop-record.invariant.met (λ j past x k reg at op. absurd (none_past ps j x past at))
