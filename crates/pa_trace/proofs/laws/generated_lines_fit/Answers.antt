use Rattle.pa_trace.proofs.Generated.{generated_length, generated_within, generated_apart}
use Rattle.pa_trace.proofs.laws.generated_lines_fit.Goals as goal

pub returns-clause-lines : goal.returns-clause-lines
returns-clause-lines c = generated_length

pub returns-clause-limits : goal.returns-clause-limits
returns-clause-limits c = generated_within

pub returns-clause-cells : goal.returns-clause-cells
returns-clause-cells c = generated_apart
