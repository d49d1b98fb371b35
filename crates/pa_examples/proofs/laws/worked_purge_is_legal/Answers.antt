use Rattle.pa_examples.proofs.worked.PurgeFiled.{purge_is_told, purge_is_filed}
use Rattle.pa_examples.proofs.laws.worked_purge_is_legal.Goals as goal

pub returns-clause-told : goal.returns-clause-told
returns-clause-told c = purge_is_told

pub returns-clause-filed : goal.returns-clause-filed
returns-clause-filed c = purge_is_filed
