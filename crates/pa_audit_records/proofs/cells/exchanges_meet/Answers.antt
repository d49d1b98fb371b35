use Rattle.std.proofs.Common.{◌+◌, ◌≤◌, length, ap, subst, rules, refl, arith}
use Rattle.pa_audit_records.specs.ByKeys.{value_at}
use Rattle.std.specs.Prelude.{IfNone}
use Rattle.pa_rules.specs.declared.verdict.Place.TheVariants as places
use Rattle.pa_rules.specs.Cells.{history_at}
use Rattle.pa_rules.specs.RecordDemands.{CellsDemand}
use Rattle.pa_audit_records.specs.Exchanges.{AreLinesKnown}
use Rattle.pa_audit_records.proofs.Exchanging.{known_none, history_past, pair_at, cells_more, cells_all}
use Rattle.pa_audit_records.proofs.cells.exchanges_meet.Goals as goal

pub loop-history-init : goal.loop-history-init
loop-history-init c = record {
  cell = refl;
  met = λ k j less. absurd (omega (arith, less));
  lines = known_none (history_at c.args.cells.now) (value_at c.new-known.result) (λ q. search rules);
}

pub returns-in-Some : goal.returns-in-Some
returns-in-Some c =
    let cells = history_at c.args.cells.now in
    let ps = c.args.records.now in
    pair_at (λ k j. CellsDemand cells ps (places.Cell k j)) c.loop-history.cell c.in-Some.at c.in_ok-at.field-0 c.in-Some.is
    c.loop-history.invariant.met c.in_ok-at.ensures.tells

pub loop-history-preserved : goal.loop-history-preserved
loop-history-preserved c =
    let cells = history_at c.args.cells.now in
    let ps = c.args.records.now in
    record {
      cell = ap (λ n. n + 1) c.loop-history.invariant.cell;
      met = cells_more (λ k j. CellsDemand cells ps (places.Cell k j)) c.loop-history.cell c.in_ok-at.field-0 c.in_default.is
          c.loop-history.invariant.met c.in_ok-at.ensures.tells;
      lines = subst (λ o. IfNone o (AreLinesKnown cells (value_at c.cell_meets.new.known) (c.loop-history.cell + 1) 0)) c.in_default.is
          c.in_ok-at.ensures.known;
    }

pub returns : goal.returns
returns c =
    let cells = history_at c.args.cells.now in
    let ps = c.args.records.now in
    let end : length c.args.cells.now ≤ c.loop-history.cell = omega arith in
    cells_all (λ k j. CellsDemand cells ps (places.Cell k j)) (length c.args.cells.now) c.loop-history.cell end
    c.loop-history.invariant.met (λ k j past e at. absurd (history_past c.args.cells.now k j e past at))
