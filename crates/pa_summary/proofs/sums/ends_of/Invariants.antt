use Rattle.std.proofs.Common.{◌≡◌, ◌+◌, ◌*◌, ◌≤◌, drop}
use Rattle.pa_summary.specs.SummaryText.{phase_sum}
use Rattle.pa_summary.proofs.sums.ends_of.Given as goal

-- with the lines that are left the sums are whole
abbrev pub invariant-loop-line : goal.invariant-loop-line
invariant-loop-line l = record {
  live_slots : l.live_slots + phase_sum l.phase (λ x. x.live.slots) (drop l.line-index l.report) ≡ phase_sum l.phase
      (λ x. x.live.slots) l.report;
  live_bytes : l.live_bytes + phase_sum l.phase (λ x. x.live.bytes) (drop l.line-index l.report) ≡ phase_sum l.phase
      (λ x. x.live.bytes) l.report;
  slots : l.slots + phase_sum l.phase (λ x. x.quarantined.slots) (drop l.line-index l.report) ≡ phase_sum l.phase
      (λ x. x.quarantined.slots) l.report;
  bytes : l.bytes + phase_sum l.phase (λ x. x.quarantined.bytes) (drop l.line-index l.report) ≡ phase_sum l.phase
      (λ x. x.quarantined.bytes) l.report;
  few_live_slots : l.live_slots ≤ 18446744073709551616 * l.line-index;
  few_live_bytes : l.live_bytes ≤ 18446744073709551616 * l.line-index;
  few_slots : l.slots ≤ 18446744073709551616 * l.line-index;
  few_bytes : l.bytes ≤ 18446744073709551616 * l.line-index;
}
