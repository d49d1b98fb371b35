use Rattle.std.proofs.Common.{refl}
use Rattle.pa_machine.proofs.Enabling.{well_free, well_open}
use Rattle.pa_machine.proofs.tables.Tables.may_count.Goals as goal

pub content_is-requires : goal.content_is-requires
content_is-requires c = well_free c.args.self.now c.args.actor c.args.title c.requires.sound (c.if-holds_free.ensures.0 refl)

pub is_settled-requires : goal.is_settled-requires
is_settled-requires c = well_open c.args.self.now c.args.actor c.args.title c.requires.sound (c.if-holds_open.ensures.0 refl)
