use Rattle.pa_record.proofs.OneRun.{one_run, one_text}
use Rattle.pa_record.proofs.whole.one_run_for_a_text.Goals as goal

pub returns-clause-run : goal.returns-clause-run
returns-clause-run c = one_run

pub returns-clause-text : goal.returns-clause-text
returns-clause-text c = one_text
