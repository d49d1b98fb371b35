-- What is reported is its lists.
use Rattle.pa_rules.specs.Told.{Told}
use Rattle.std.proofs.Common.{List, ℕ, ap, ◌≡◌, ◌∙◌}
use Rattle.pa_record.specs.declared.entry.Entry.{Entry}
use Rattle.pa_rules.specs.Roots.{Journals}
use Rattle.pa_record.specs.declared.pool.PoolEntry.{PoolEntry}
use Rattle.pa_record.specs.declared.history.CellEntry.{CellEntry}
use Rattle.pa_record.specs.declared.report.ReportLine.{ReportLine}

-- two runs' contents with the same lists are the same
pub same_lists : (a b : Told) → a.entries ≡ b.entries → a.roots ≡ b.roots → a.pools ≡ b.pools → a.cells ≡ b.cells → a.report ≡ b.report →
    a ≡ b
same_lists a b entries roots pools cells report =
    let first : List Entry → Told = λ x. record a { entries = x } in
    let second : Journals → Told = λ x. record a { entries = b.entries; roots = x } in
    let third : List PoolEntry → Told = λ x. record a { entries = b.entries; roots = b.roots; pools = x } in
    let fourth : (ℕ → List CellEntry) → Told = λ x. record b { cells = x; report = a.report } in
    let fifth : List ReportLine → Told = λ x. record b { report = x } in
    ap first entries ∙ (ap second roots ∙ (ap third pools ∙ (ap fourth cells ∙ ap fifth report)))
