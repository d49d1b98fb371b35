use Rattle.std.proofs.Common.{arith}
use Rattle.pa_layout.proofs.Intervals.{payload, payload_bounds}
use Rattle.pa_layout.proofs.laws.payload_is_whole_pages.Goals as goal

pub returns : goal.returns
returns c super page k is_page in_page = (
  λ kind. let bounds = payload_bounds _ kind in (omega arith, omega arith),
  λ inner. payload _ (omega arith) (omega arith),
)
