use Rattle.std.specs.Prelude.{nat_eq}
use Rattle.std.specs.HashMap.{get}
use Rattle.pa_audit_records.proofs.Putting.{salted_put}
use Rattle.pa_audit_records.proofs.by_key.ByKey.replace.Goals as goal

pub returns-clause-puts : goal.returns-clause-puts
returns-clause-puts g c =
    salted_put (get nat_eq c.args.self.now.values) (get nat_eq c.insert.new.self) c.args.self.now.salt c.args.key c.args.value
    c.in_ok-old.ensures.updates.1 c.in_ok-old.ensures.updates.2
