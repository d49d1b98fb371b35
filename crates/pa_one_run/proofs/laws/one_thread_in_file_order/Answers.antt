use Rattle.pa_rules.specs.Told.{told_by}
use Rattle.pa_one_run.proofs.OneThread.{one_thread}
use Rattle.pa_one_run.proofs.laws.one_thread_in_file_order.Goals as goal

pub returns : goal.returns
returns c = λ t r limits one legal. (legal, one_thread t (told_by r) limits one legal)
