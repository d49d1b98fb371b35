use Rattle.std.proofs.Common.{arith}
use Rattle.pa_rules.proofs.Versions.{class_end, class_few, class_some}
use Rattle.pa_rules.proofs.lists.class_total.Goals as goal

pub returns-clause-some : goal.returns-clause-some
returns-clause-some c = omega (arith, c.first_class.ensures, c.past_class.ensures, class_some c.args.version)

pub returns-clause-few : goal.returns-clause-few
returns-clause-few c = omega (arith, c.first_class.ensures, c.past_class.ensures, class_few c.args.version)

pub overflow_sub-result : goal.overflow_sub-result
overflow_sub-result c = omega (arith, c.first_class.ensures, c.past_class.ensures, class_end c.args.version)
