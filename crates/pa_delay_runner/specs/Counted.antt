-- The lines of a phase's report, with what waits in queues.
use Rattle.std.specs.Prelude.{◌≡◌, ℕ, List}
use Rattle.std.specs.List.{AllZip}
use Rattle.pa_record.specs.declared.report.ReportLine.{ReportLine}
use Rattle.pa_record.specs.declared.report.Tally.{Tally}
use Rattle.pa_cells.specs.declared.handle.Handle.{Handle}
use Rattle.pa_delay.specs.Queue.{queued_slots, queued_bytes}
use Rattle.pa_op_specs.specs.Workers.{WorkerValue}
use Rattle.pa_execution.specs.Lines.{sum_over}
use Rattle.pa_delay_runner.specs.Course.{IsCachedWith}

-- The tally is what these queues have of partition p.
pub record IsQueuedBy (p threads : ℕ) (queues : ℕ → List Handle) (tally : Tally) : Type 0 where
  pub slots : tally.slots ≡ sum_over (λ k. queued_slots p (queues k)) threads
  pub bytes : tally.bytes ≡ sum_over (λ k. queued_bytes p (queues k)) threads

-- The line is as before, but for what is cached: that is what lists and queues have.
pub record IsRecounted (threads : ℕ) (workers : ℕ → WorkerValue) (queues : ℕ → List Handle) (before after : ReportLine) : Type 0 where
  pub rest : after ≡ record before { cached = after.cached }
  pub cached : IsCachedWith before.partition threads workers queues after.cached

-- each of the lines is as before, but for what is cached
abbrev pub AreRecounted : ℕ → (ℕ → WorkerValue) → (ℕ → List Handle) → (before after : List ReportLine) → Type 0
AreRecounted threads workers queues before after = AllZip (IsRecounted threads workers queues) before after
