use Rattle.pa_record.proofs.OneEntry.{one_root, one_pool, one_cell}
use Rattle.pa_record.proofs.numbers.one_entry_for_its_numbers.Goals as goal

pub returns-clause-root : goal.returns-clause-root
returns-clause-root c = one_root

pub returns-clause-pool : goal.returns-clause-pool
returns-clause-pool c = one_pool

pub returns-clause-cell : goal.returns-clause-cell
returns-clause-cell c = one_cell
