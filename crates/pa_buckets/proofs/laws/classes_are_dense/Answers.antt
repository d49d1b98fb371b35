use Rattle.pa_buckets.proofs.Dense.{dense_sizes, sizes_kept, classes_alike}
use Rattle.pa_buckets.proofs.laws.classes_are_dense.Goals as goal

pub returns : goal.returns
returns c = record { sizes = dense_sizes; kept = sizes_kept; alike = classes_alike }
