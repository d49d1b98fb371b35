use Rattle.std.proofs.Common.{refl}
use Rattle.pa_machine.proofs.Enabling.{well_raw}
use Rattle.pa_machine.proofs.tables.Tables.may_cut.Goals as goal

pub count_word-requires : goal.count_word-requires
count_word-requires c =
    let t = c.args.title in
    let aligned = c.if-not-is_aligned.ensures.0 refl in
    well_raw c.args.self.now c.args.actor t c.requires.sound (c.if-holds_raw.ensures.0 refl) aligned.0 aligned.1 aligned.2
