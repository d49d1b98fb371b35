-- When two runs have the same lists.
use Rattle.std.specs.Prelude.{◌≡◌}
use Rattle.pa_record.specs.declared.run.Run.{Run}

-- the second run has the lists of the first
pub record HasListsOf (a b : Run) : Type 0 where
  pub entries : b.entries.items ≡ a.entries.items
  pub roots : b.roots.items ≡ a.roots.items
  pub pool : b.pool.items ≡ a.pool.items
  pub cells : b.cells.items ≡ a.cells.items
  pub report : b.report.items ≡ a.report.items
