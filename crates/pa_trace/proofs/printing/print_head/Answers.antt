use Rattle.pa_lists.proofs.Tests.{on_ok}
use Rattle.pa_trace.proofs.Printed.{head_joined}
use Rattle.pa_trace.proofs.printing.print_head.Goals as goal

pub returns-clause-pushed : goal.returns-clause-pushed
returns-clause-pushed c =
    on_ok c.push_byte.result _ _ c.push_byte.ensures.pushed
    (head_joined c.args.head c.args.out.now c.push_field.new.out c.push_field-2.new.out c.push_field-3.new.out c.push_field-4.new.out
    c.push_plain.new.out c.push_byte.new.out
    c.in_ok-push_field.ensures.pushed c.in_ok-push_field-2.ensures.pushed c.in_ok-push_field-3.ensures.pushed
    c.in_ok-push_field-4.ensures.pushed c.in_ok-push_plain.ensures.pushed)
