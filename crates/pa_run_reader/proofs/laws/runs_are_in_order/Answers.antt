use Rattle.pa_run_reader.proofs.Telling.{items_text, items_ordered}
use Rattle.pa_run_reader.proofs.laws.runs_are_in_order.Goals as goal

pub returns : goal.returns
returns c = record { text = items_text; order = items_ordered }
