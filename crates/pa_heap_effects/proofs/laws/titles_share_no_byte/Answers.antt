use Rattle.pa_heap_effects.proofs.Sharing.{titles_share_no_byte}
use Rattle.pa_heap_effects.proofs.laws.titles_share_no_byte.Goals as goal

pub returns : goal.returns
returns c = titles_share_no_byte
