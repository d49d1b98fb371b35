use Rattle.std.proofs.Common.{ap, ◌∙◌, arith}
use Rattle.pa_buckets.specs.Table.{slot_of}
use Rattle.pa_buckets.proofs.Points.{table_slot}
use Rattle.pa_buckets.proofs.classes.slot_size.Goals as goal

pub returns-clause-size : goal.returns-clause-size
returns-clause-size c = table_slot _ _ (let real = c.class.invariant in omega arith) ∙ ap slot_of c.class.view_is
