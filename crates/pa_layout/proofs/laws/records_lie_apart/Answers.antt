use Rattle.std.proofs.Common.{arith}
use Rattle.pa_layout.proofs.Intervals.{metadata}
use Rattle.pa_layout.proofs.laws.records_lie_apart.Goals as goal

pub returns : goal.returns
returns c = record {
  metadata = λ x super page h. (omega arith, metadata _ (omega arith) (omega arith));
  apart = λ x super page other page' h g. (omega arith, omega arith);
}
