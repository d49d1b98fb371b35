use Rattle.pa_trace.proofs.Texts.{one_text_trace, one_trace}
use Rattle.pa_trace.proofs.laws.one_text.Goals as goal

pub returns-clause-text : goal.returns-clause-text
returns-clause-text c = one_text_trace

pub returns-clause-trace : goal.returns-clause-trace
returns-clause-trace c = one_trace
