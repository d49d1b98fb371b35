use Rattle.std.proofs.Common.{sym, ◌∙◌, ap}
use Rattle.pa_region.specs.Shares.{byte_word_count}
use Rattle.pa_thread_state.proofs.heap.Heap.open.Goals as goal

pub open-requires-clause-whole : goal.open-requires-clause-whole
open-requires-clause-whole g c = ap byte_word_count (sym c.requires.region.1) ∙ c.is_whole.ensures
