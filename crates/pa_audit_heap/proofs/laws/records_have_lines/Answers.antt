use Rattle.pa_audit_heap.proofs.Rising.{due_have_lines}
use Rattle.pa_audit_heap.proofs.laws.records_have_lines.Goals as goal

pub returns : goal.returns
returns c = due_have_lines
