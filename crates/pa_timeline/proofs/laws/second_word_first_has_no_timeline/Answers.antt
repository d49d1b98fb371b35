use Rattle.pa_timeline.proofs.Unordered.{second_word_has_none}
use Rattle.pa_timeline.proofs.laws.second_word_first_has_no_timeline.Goals as goal

pub returns : goal.returns
returns c = second_word_has_none
