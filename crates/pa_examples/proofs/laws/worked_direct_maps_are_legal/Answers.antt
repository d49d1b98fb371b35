use Rattle.pa_examples.proofs.worked.Told.{direct_map_is_told}
use Rattle.pa_examples.proofs.worked.Runs.{direct_map_is_filed}
use Rattle.pa_examples.proofs.laws.worked_direct_maps_are_legal.Goals as goal

pub returns-clause-told : goal.returns-clause-told
returns-clause-told c = direct_map_is_told

pub returns-clause-filed : goal.returns-clause-filed
returns-clause-filed c = direct_map_is_filed
