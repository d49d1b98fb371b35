use Rattle.std.proofs.Common.{ap, ◌∙◌, arith}
use Rattle.pa_buckets.specs.Table.{span_shape_of}
use Rattle.pa_buckets.proofs.Points.{table_span}
use Rattle.pa_buckets.proofs.classes.span_of.Goals as goal

pub returns-clause-shape : goal.returns-clause-shape
returns-clause-shape c = table_span _ _ (let real = c.class.invariant in omega arith) ∙ ap span_shape_of c.class.view_is
