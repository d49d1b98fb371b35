-- What a run is made of, but for its report.
use Rattle.std.specs.Prelude.{ℕ, List}
use Rattle.pa_trace.specs.declared.script.Rules.{Rules}
use Rattle.pa_trace.specs.Rules.{rules_of}
use Rattle.pa_record.specs.declared.history.CellEntry.{CellEntry}
use Rattle.pa_record.specs.declared.pool.PoolEntry.{PoolEntry}
use Rattle.pa_record.specs.declared.root.RootEntry.{RootEntry}
use Rattle.pa_trace.specs.declared.script.Trace.{Trace}
use Rattle.pa_rules.specs.declared.played.Played.{Played}
use Rattle.pa_rules.specs.Roots.{Journals}
use Rattle.pa_rules.specs.Told.{Told, records_of}

-- what a run is made of, but for its report, with the numbers of its trace's head and its rules
pub record Parts : Type 0 where
  pub supers : ℕ
  pub partitions : ℕ
  pub threads : ℕ
  pub rules : Rules
  pub ps : List Played
  pub pools : List PoolEntry
  pub roots : Journals
  pub cells : ℕ → List CellEntry

-- the parts of what a run of the trace contains
abbrev pub parts_of : Trace → Told → Parts
parts_of t r =
    record {
      supers = t.region;
      partitions = t.partitions;
      threads = t.threads;
      rules = rules_of t;
      ps = records_of t r;
      pools = r.pools;
      roots = r.roots;
      cells = r.cells;
    }

-- the line of an entry of a journal
abbrev pub entry_line : RootEntry → ℕ
entry_line e = e.line

-- the line of an entry of the pool
abbrev pub pool_line : PoolEntry → ℕ
pool_line e = e.line

-- the line of an exchange
abbrev pub cell_line : CellEntry → ℕ
cell_line e = e.line
