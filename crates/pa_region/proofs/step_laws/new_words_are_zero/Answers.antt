use Rattle.pa_region.proofs.FirstLists.{blank_at}
use Rattle.pa_region.proofs.step_laws.new_words_are_zero.Goals as goal

pub returns : goal.returns
returns c n q = blank_at n q
