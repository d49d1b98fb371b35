-- What follows from ops that a worker played one after the other: in every run that fits, the transitions of its registers and
-- of its lists, that each log segment is what its answer requires, what it counted, and the bytes that it booked to totals words.
use Rattle.std.specs.Prelude.{◌≡◌, ℕ, List, ◌++◌, Contains}
use Rattle.pa_region.specs.declared.view.View.{View}
use Rattle.pa_logs.specs.Told.{ToldRecord, played_in}
use Rattle.pa_logs.specs.Touches.{AreTold}
use Rattle.pa_logs.specs.Rows.{HasRows}
use Rattle.pa_logs.specs.Reported.{CacheLeadsTo}
use Rattle.pa_op_specs.specs.Stocks.{regs_of, listed_in}
use Rattle.pa_op_specs.specs.Counts.{CountsBy}
use Rattle.pa_op_specs.specs.Workers.{WorkerValue}
use Rattle.pa_op_specs.specs.Booking.{BooksBy}
use Rattle.pa_op_specs.specs.Outcomes.{Outcome, IsOutcome, IsSeenOf, ActsAreOf, row_facts}
use Rattle.pa_op_specs.specs.Plays.{PlaysSome, PlaysAll}

-- A run of this many partitions became this, in which these records were made, by the run's rules,
-- by a seat that had this view after them.
pub record FitsAll (o : Outcome) (partitions : ℕ) (v : View) (xs : List ToldRecord) : Type 0 where
  pub many : o.partitions ≡ partitions
  pub rules : (x : ToldRecord) → Contains xs x → x.played.rules ≡ o.rules
  pub run : IsOutcome o
  pub seen : IsSeenOf o v
  pub acts : (x : ToldRecord) → Contains xs x → ActsAreOf o x

-- Two plays one after the other are one play. In every run that fits, what was played has the answers, lists, log segments, counts
-- and bytes that the rules require.
pub record PlaysFollow : Type 0 where
  pub some : (w v : WorkerValue) (xs : List ToldRecord) → PlaysAll w xs v → PlaysSome w xs v
  pub composes : (w u v : WorkerValue) (xs ys : List ToldRecord) → PlaysAll w xs u → PlaysAll u ys v → PlaysAll w (xs ++ ys) v
  pub rows : (o : Outcome) (w v : WorkerValue) (xs : List ToldRecord) → PlaysSome w xs v → FitsAll o w.stock.partitions v.stock.view xs →
      HasRows (row_facts o) (regs_of w.stock.registers) (played_in xs)
  pub lists : (o : Outcome) (w v : WorkerValue) (xs : List ToldRecord) → PlaysAll w xs v → FitsAll o w.stock.partitions v.stock.view xs →
      CacheLeadsTo o.partitions o.roots (listed_in w.stock) (played_in xs) (listed_in v.stock)
  pub told : (o : Outcome) (w v : WorkerValue) (xs : List ToldRecord) → PlaysSome w xs v → FitsAll o w.stock.partitions v.stock.view xs →
      AreTold o.sizes xs
  pub counts : (o : Outcome) (w v : WorkerValue) (xs : List ToldRecord) → PlaysSome w xs v →
      FitsAll o w.stock.partitions v.stock.view xs → CountsBy o.homes (played_in xs) w.counts v.counts
  pub bytes : (o : Outcome) (w v : WorkerValue) (xs : List ToldRecord) → PlaysSome w xs v →
      FitsAll o w.stock.partitions v.stock.view xs → BooksBy o.homes o.sizes (played_in xs) w v
