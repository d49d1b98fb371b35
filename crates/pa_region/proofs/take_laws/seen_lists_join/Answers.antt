use Rattle.pa_region.proofs.JoinLists.{among_append}
use Rattle.pa_region.proofs.take_laws.seen_lists_join.Goals as goal

pub returns : goal.returns
returns c v w k = among_append k v.seen_lists w.seen_lists
