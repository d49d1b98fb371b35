use Rattle.pa_text.proofs.Numerals.{answers_found, answers_none}
use Rattle.pa_text.proofs.reading.number_at.Goals as goal

pub returns-clause-found : goal.returns-clause-found
returns-clause-found c = answers_found c.args.bytes.now c.number_of.result c.number_of.ensures

pub returns-clause-none : goal.returns-clause-none
returns-clause-none c = answers_none c.args.bytes.now c.number_of.result c.number_of.ensures
