use Rattle.pa_examples.proofs.worked.EarlyLegal.{early_read_is_told, early_read_is_legal}
use Rattle.pa_examples.proofs.laws.worked_early_read_is_legal.Goals as goal

pub returns-clause-told : goal.returns-clause-told
returns-clause-told c = early_read_is_told

pub returns-clause-legal : goal.returns-clause-legal
returns-clause-legal c = early_read_is_legal
