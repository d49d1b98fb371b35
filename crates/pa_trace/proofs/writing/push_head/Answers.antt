use Rattle.pa_lists.proofs.Tests.{on_ok}
use Rattle.pa_trace.specs.Printed.{head_text}
use Rattle.pa_trace.proofs.writing.push_head.Goals as goal

pub returns-clause-pushed : goal.returns-clause-pushed
returns-clause-pushed c = on_ok c.print_head.result _ _ c.print_head.ensures.pushed (λ e. (head_text c.args.head, c.head_is.ensures, e))
