use Rattle.pa_trace.proofs.Lengths.{trace_length}
use Rattle.pa_trace.proofs.laws.short_text.Goals as goal

pub returns : goal.returns
returns c = λ t text within h. record { limits = within; text = h; short = trace_length t text within h }
