use Rattle.pa_text.proofs.Numerals.{one_numeral, one_value, decimal_numeral}
use Rattle.pa_text.proofs.reading.one_spelling.Goals as goal

pub returns-clause-spelling : goal.returns-clause-spelling
returns-clause-spelling c = one_numeral

pub returns-clause-number : goal.returns-clause-number
returns-clause-number c = one_value

pub returns-clause-printed : goal.returns-clause-printed
returns-clause-printed c = decimal_numeral
