use Rattle.pa_trace.proofs.Fields.{number_some, number_none}
use Rattle.pa_script.proofs.line.number_in.Goals as goal

pub returns-in-Some : goal.returns-in-Some
returns-in-Some c = number_some c.args.bytes.now c.in-Some.found.0 c.in-Some.found.1.now c.in-Some.ensures.found

pub returns-in-None : goal.returns-in-None
returns-in-None c = number_none c.args.bytes.now c.in-None.ensures.none
