use Rattle.std.proofs.Common.{◌≡◌, ◌≤◌, length}
use Rattle.pa_runner.specs.Phases.{worker_in}
use Rattle.pa_runner.specs.Reporting.{IsReported}
use Rattle.pa_runner.proofs.phases.Playing.report_phase.Given as goal

-- the lines of the partitions before are at the end of the report
abbrev pub invariant-loop-partition : goal.invariant-loop-partition
invariant-loop-partition g l = record {
  region : l.seat.region ≡ l.fn.seat.region;
  low : l.partition ≤ l.partitions;
  reported : IsReported l.phase l.partition (length l.workers)
      (worker_in l.workers) l.fn.seat.view l.seat.view l.fn.report.items l.report.items;
}
