use Rattle.pa_buckets.proofs.SpanRule.{FollowsRule-unique}
use Rattle.pa_buckets.proofs.laws.rule_gives_one_span.Goals as goal

pub returns : goal.returns
returns c = FollowsRule-unique
