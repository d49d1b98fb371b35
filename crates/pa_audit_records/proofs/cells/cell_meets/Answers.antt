use Rattle.std.proofs.Common.{◌+◌, ◌≤◌, length, ap, ◌∙◌, subst, rules, refl}
use Rattle.pa_audit_records.specs.ByKeys.{value_at}
use Rattle.pa_rules.specs.declared.verdict.Place.TheVariants as places
use Rattle.pa_rules.specs.Cells.{history_at}
use Rattle.pa_rules.specs.RecordDemands.{CellsDemand}
use Rattle.pa_audit_records.proofs.Telling.{tells_at, tells_none}
use Rattle.pa_audit_records.proofs.Exchanging.{cell_start, cell_more, cell_not, cell_end, history_is, exchange_here}
use Rattle.pa_audit_records.proofs.cells.cell_meets.Goals as goal
use Rattle.pa_lists.proofs.Indexed.{none_past}

pub loop-entry-init : goal.loop-entry-init
loop-entry-init c = record {
  at = refl;
  cell = cell_start (history_at c.args.cells.now) c.args.records.now (value_at c.args.known.now)
      (value_at c.new-last.result) c.args.cell c.requires.known (λ q. search rules);
}

pub returns-in-None-clause-tells : goal.returns-in-None-clause-tells
returns-in-None-clause-tells c =
    let ps = c.args.records.now in
    let cells = history_at c.args.cells.now in
    let k = c.args.cell in
    let j = c.loop-entry.entry-index in
    let is = c.entries-entries.ensures.entries ∙
    history_is c.args.cells.now k c.index-cells-cell.result c.requires.cell c.index-cells-cell.is in
    tells_at (λ i. CellsDemand cells ps (places.Cell k i)) j c.loop-entry.at c.loop-entry.invariant.at
    (cell_not cells ps (value_at c.loop-entry.known)
    (value_at c.loop-entry.last) c.loop-entry.phase c.loop-entry.given k j _ c.loop-entry.invariant.cell
    (exchange_here c.args.cells.now k j c.entries-entries.result.now _ is c.loop-entry-test.true) c.in-None.ensures.none)
    c.loop-entry.invariant.cell.met

pub loop-entry-preserved : goal.loop-entry-preserved
loop-entry-preserved c =
    let ps = c.args.records.now in
    let cells = history_at c.args.cells.now in
    let k = c.args.cell in
    let j = c.loop-entry.entry-index in
    let is = c.entries-entries.ensures.entries ∙
    history_is c.args.cells.now k c.index-cells-cell.result c.requires.cell c.index-cells-cell.is in
    record {
      at = ap (λ n. n + 1) c.loop-entry.invariant.at;
      cell =
          cell_more cells ps (value_at c.loop-entry.known) (value_at c.put.new.self) (value_at c.loop-entry.last)
          (value_at c.put-in-loop-entry.new.self) c.loop-entry.phase 0 c.loop-entry.given k j _
          c.in-Some.told c.requires.rising c.loop-entry.invariant.cell
          (exchange_here c.args.cells.now k j c.entries-entries.result.now _ is c.loop-entry-test.true) c.in-Some.ensures.some.0
          c.in-Some.ensures.some.1 c.in_ok-put.ensures.puts c.in_ok-put-2.ensures.puts;
    }

pub returns-clause-tells : goal.returns-clause-tells
returns-clause-tells c =
    let ps = c.args.records.now in
    let cells = history_at c.args.cells.now in
    let k = c.args.cell in
    let is = c.entries-entries.ensures.entries ∙
    history_is c.args.cells.now k c.index-cells-cell.result c.requires.cell c.index-cells-cell.is in
    let end : length (cells k) ≤ c.loop-entry.entry-index = subst (λ zs. length zs ≤ c.loop-entry.entry-index) is c.loop-entry-test.false in
    tells_none (λ i. CellsDemand cells ps (places.Cell k i)) (length (cells k)) c.loop-entry.entry-index end c.loop-entry.invariant.cell.met
    (λ i past e at. absurd (none_past (cells k) i e past at))

pub returns-clause-known : goal.returns-clause-known
returns-clause-known c =
    let cells = history_at c.args.cells.now in
    let k = c.args.cell in
    let is = c.entries-entries.ensures.entries ∙
    history_is c.args.cells.now k c.index-cells-cell.result c.requires.cell c.index-cells-cell.is in
    let end : length (cells k) ≤ c.loop-entry.entry-index = subst (λ zs. length zs ≤ c.loop-entry.entry-index) is c.loop-entry-test.false in
    cell_end cells (value_at c.loop-entry.known) k c.loop-entry.entry-index end c.loop-entry.invariant.cell.lines
