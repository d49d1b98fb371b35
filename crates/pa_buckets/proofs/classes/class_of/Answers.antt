use Rattle.std.proofs.Common.{ltb, refl, arith, rules}
use Rattle.std.proofs.lemmas.Bool.{true≢false}
use Rattle.std.proofs.lemmas.List.Sorted.{IsPartitionPoint-from_clause}
use Rattle.pa_buckets.proofs.Points.{sparse, table_parted, class_at, no_class_at, class_in_range}
use Rattle.pa_buckets.proofs.classes.class_of.Goals as goal

pub returns-then-at-lt-SPARSE-clause-least : goal.returns-then-at-lt-SPARSE-clause-least
returns-then-at-lt-SPARSE-clause-least c =
    class_at _ _
    (IsPartitionPoint-from_clause (λ r. ltb r.slot c.args.raw) sparse _ c.partition_point-at.ensures.partitioned
    (table_parted c.args.raw) (λ a r q k. search rules))
    c.if-at-lt-SPARSE.true

pub returns-then-at-lt-SPARSE-clause-refused : goal.returns-then-at-lt-SPARSE-clause-refused
returns-then-at-lt-SPARSE-clause-refused c =
    let class = returns-then-at-lt-SPARSE-clause-least c in
    (λ e. absurd (true≢false e), λ above. absurd (omega (arith, class_in_range _ _ class)))

pub returns-else-at-lt-SPARSE-clause-refused : goal.returns-else-at-lt-SPARSE-clause-refused
returns-else-at-lt-SPARSE-clause-refused c = (
  λ _. no_class_at _ _
      (IsPartitionPoint-from_clause (λ r. ltb r.slot c.args.raw) sparse _ c.partition_point-at.ensures.partitioned
      (table_parted c.args.raw) (λ a r q k. search rules))
      c.if-at-lt-SPARSE.false,
  λ _. refl,
)
