use Rattle.pa_lists.proofs.Tests.{on_ok}
use Rattle.pa_trace.specs.Printed.{line_text}
use Rattle.pa_trace.proofs.writing.push_line.Goals as goal

pub returns-clause-pushed : goal.returns-clause-pushed
returns-clause-pushed c = on_ok c.print_line.result _ _ c.print_line.ensures.pushed (λ e. (line_text c.args.line, c.line_is.ensures, e))
