use Rattle.std.proofs.Common.{refl}
use Rattle.pa_machine.proofs.Enabling.{well_counted}
use Rattle.pa_machine.proofs.tables.Tables.can_count.Goals as goal

pub can_step-requires : goal.can_step-requires
can_step-requires c = well_counted c.args.self.now c.args.actor c.args.title c.args.step c.requires (c.if-may_count.ensures.0 refl)
