-- The plain partitions of a trace are its last ones.
use Rattle.std.proofs.Common.{ℕ, ◌≤◌, ◌+◌, arith}
use Rattle.std.proofs.lemmas.Bool.{le-leb, leb-true}
use Rattle.pa_trace.specs.declared.script.Trace.{Trace}
use Rattle.pa_trace.specs.Limits.{IsWithinLimits}
use Rattle.pa_trace.specs.Rules.{rules_of}
use Rattle.pa_trace.proofs.Versions.{plain_parted}
use Rattle.pa_examples.specs.Plain.{PlainPartitionsAreLast}

past_first : (t : Trace) (partition : ℕ) → IsWithinLimits t → (rules_of t).plain_from ≤ partition → t.partitions ≤ partition + t.plain
past_first t partition h past = omega (arith, past, plain_parted t h.head)

among_last : (t : Trace) (partition : ℕ) → IsWithinLimits t → t.partitions ≤ partition + t.plain → (rules_of t).plain_from ≤ partition
among_last t partition h last = omega (arith, last, plain_parted t h.head)

pub plain_partitions_are_last : PlainPartitionsAreLast
plain_partitions_are_last = record {
  parted = λ t h. plain_parted t h.head;
  asks = λ t reg partition size h.
      (λ yes. past_first t partition h (leb-true _ _ yes), λ last. le-leb _ _ (among_last t partition h last));
}
