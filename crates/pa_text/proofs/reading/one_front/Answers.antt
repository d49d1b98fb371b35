use Rattle.pa_text.proofs.Splitting.{split_number, split_word, split_slot}
use Rattle.pa_text.proofs.reading.one_front.Goals as goal

pub returns-clause-number : goal.returns-clause-number
returns-clause-number c = split_number

pub returns-clause-word : goal.returns-clause-word
returns-clause-word c = split_word

pub returns-clause-slot : goal.returns-clause-slot
returns-clause-slot c = split_slot
