use Rattle.pa_examples.proofs.worked.HeldWords.{words_are_held, map_is_held}
use Rattle.pa_examples.proofs.laws.worked_words_are_held.Goals as goal

pub returns-clause-words : goal.returns-clause-words
returns-clause-words c = words_are_held

pub returns-clause-map : goal.returns-clause-map
returns-clause-map c = map_is_held
