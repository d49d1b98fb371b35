use Rattle.std.proofs.Common.{arith}
use Rattle.pa_layout.proofs.Intervals.{payload, last_guard}
use Rattle.pa_layout.proofs.bytes.kind_of.Goals as goal

pub returns-then-page-eq-LAST_PAGE : goal.returns-then-page-eq-LAST_PAGE
returns-then-page-eq-LAST_PAGE c = last_guard _ (omega arith) (omega arith)

pub returns-else-page-eq-LAST_PAGE : goal.returns-else-page-eq-LAST_PAGE
returns-else-page-eq-LAST_PAGE c = payload _ (omega arith) (omega arith)
