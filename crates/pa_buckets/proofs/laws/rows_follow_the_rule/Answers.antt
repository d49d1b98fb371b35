use Rattle.pa_buckets.proofs.SpanRule.{FollowsRule-of, tight_rows}
use Rattle.pa_buckets.proofs.laws.rows_follow_the_rule.Goals as goal

pub returns : goal.returns
returns c = record { follows = FollowsRule-of; tight = tight_rows }
