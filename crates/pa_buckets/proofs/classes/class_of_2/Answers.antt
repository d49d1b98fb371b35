use Rattle.std.proofs.Common.{ltb, refl, arith, rules}
use Rattle.std.proofs.lemmas.Bool.{true≢false}
use Rattle.std.proofs.lemmas.List.Sorted.{IsPartitionPoint-from_clause}
use Rattle.pa_buckets.proofs.Points.{dense, table_parted_2, class_at_2, no_class_at_2, class_in_range_2}
use Rattle.pa_buckets.proofs.classes.class_of_2.Goals as goal

pub returns-then-number-lt-COUNT-clause-least : goal.returns-then-number-lt-COUNT-clause-least
returns-then-number-lt-COUNT-clause-least c =
    class_at_2 _ _
    (IsPartitionPoint-from_clause (λ r. ltb r.slot c.args.raw) dense _ c.partition_point-number.ensures.partitioned
    (table_parted_2 c.args.raw) (λ a r q k. search rules))
    c.if-number-lt-COUNT.true

pub returns-then-number-lt-COUNT-clause-refused : goal.returns-then-number-lt-COUNT-clause-refused
returns-then-number-lt-COUNT-clause-refused c =
    let class = returns-then-number-lt-COUNT-clause-least c in
    (λ e. absurd (true≢false e), λ above. absurd (omega (arith, class_in_range_2 _ _ class)))

pub returns-else-number-lt-COUNT-clause-refused : goal.returns-else-number-lt-COUNT-clause-refused
returns-else-number-lt-COUNT-clause-refused c = (
  λ _. no_class_at_2 _ _
      (IsPartitionPoint-from_clause (λ r. ltb r.slot c.args.raw) dense _ c.partition_point-number.ensures.partitioned
      (table_parted_2 c.args.raw) (λ a r q k. search rules))
      c.if-number-lt-COUNT.false,
  λ _. refl,
)
