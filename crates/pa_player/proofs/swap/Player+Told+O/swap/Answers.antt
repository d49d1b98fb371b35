use Rattle.std.proofs.Common.{ap, length}
use Rattle.pa_trace.specs.declared.script.Op.TheVariants as ops
use Rattle.pa_record.specs.declared.entry.Answer.TheVariants as answers
use Rattle.pa_player.specs.Changes.{swapped}
use Rattle.pa_player.specs.Told.{history_in}
use Rattle.pa_player.proofs.Swaps.{swap_plays}
use Rattle.pa_player.proofs.Branches.{plays_as}
use Rattle.pa_player.proofs.swap.Player+Told+O.swap.Goals as goal

pub returns-clause-played : goal.returns-clause-played
returns-clause-played g c =
    let p = c.args.self.now in
    plays_as p c.args.thread (ops.Swap c.args.cell c.args.reg) (swapped c.args.thread c.args.cell c.args.reg p) c.exchange.new.self
    (answers.Swapped (length (history_in p.told c.args.cell)))
    (answers.Swapped c.in_ok-entry.entry) c.in_ok-entry.ensures.swapped (ap (λ n. answers.Swapped n) c.in_ok-entry.ensures.place)
    (swap_plays p c.args.thread c.args.cell c.args.reg)
