use Rattle.pa_shelf.proofs.Starting.{shown_is_in_words}
use Rattle.pa_shelf.proofs.laws.shown_is_in_words.Goals as goal

pub returns : goal.returns
returns c = shown_is_in_words
