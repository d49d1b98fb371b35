-- The places of a run's text, and the numbers of their lines.
use Rattle.std.specs.Prelude.{ℕ, ◌+◌, length, take, sum_by}
use Rattle.pa_record.specs.declared.run.Run.{Run}
use Rattle.pa_rules.specs.declared.verdict.Place.{Place}
use Rattle.pa_rules.specs.declared.verdict.Place.TheVariants as places

-- the first line of the journals: after the head, which is line 1, and all records
abbrev pub roots_at : Run → ℕ
roots_at r = 2 + length r.entries.items

-- the first line of the pool's entries: after those of all journals
abbrev pub pool_at : Run → ℕ
pool_at r = roots_at r + sum_by length r.roots.items

-- the first line of the histories of the cells: after the pool's entries
abbrev pub cells_at : Run → ℕ
cells_at r = pool_at r + length r.pool.items

-- the first line of the report: after all histories
abbrev pub report_at : Run → ℕ
report_at r = cells_at r + sum_by length r.cells.items

-- the line of a place: after the records and after the report's lines comes the line that follows them
abbrev pub line_at : Run → Place → ℕ
line_at r (places.Record i) = 2 + i
line_at r (places.Root p j) = roots_at r + sum_by length (take p r.roots.items) + j
line_at r (places.Pool j) = pool_at r + j
line_at r (places.Cell k j) = cells_at r + sum_by length (take k r.cells.items) + j
line_at r (places.Report i) = report_at r + i
