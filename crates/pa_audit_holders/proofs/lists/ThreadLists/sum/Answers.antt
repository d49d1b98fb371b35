use Rattle.pa_audit_holders.proofs.Summing.{sum_few, sum_small}
use Rattle.pa_audit_holders.proofs.lists.ThreadLists.sum.Goals as goal

pub returns-clause-few : goal.returns-clause-few
returns-clause-few c = sum_few (record { version = c.self.inside.version; lists = c.self.inside.lists.items }) c.self.inside.sums
    c.args.partition _ c.self.invariant c.requires.partition (c.self.invariant.right.each c.args.partition c.requires.partition)

pub returns-clause-small : goal.returns-clause-small
returns-clause-small c = sum_small (record { version = c.self.inside.version; lists = c.self.inside.lists.items }) c.self.inside.sums
    c.args.partition _ c.self.invariant c.requires.partition (c.self.invariant.right.each c.args.partition c.requires.partition)
