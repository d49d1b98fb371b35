use Rattle.pa_examples.proofs.worked.WritesFiled.{writes_are_told, writes_are_filed}
use Rattle.pa_examples.proofs.laws.worked_writes_are_legal.Goals as goal

pub returns-clause-told : goal.returns-clause-told
returns-clause-told c = writes_are_told

pub returns-clause-filed : goal.returns-clause-filed
returns-clause-filed c = writes_are_filed
