use Rattle.pa_trace.proofs.Fields.{word_some, word_none}
use Rattle.pa_trace.proofs.field.word_in.Goals as goal

pub returns-in-Some : goal.returns-in-Some
returns-in-Some c =
    let found = c.in-Some.ensures.found in
    word_some c.args.bytes.now c.in-Some.found.0 c.in-Some.found.1.now found.0 found.1

pub returns-in-None : goal.returns-in-None
returns-in-None c = word_none c.args.bytes.now c.in-None.ensures.none
