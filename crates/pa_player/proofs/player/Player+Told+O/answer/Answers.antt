use Rattle.std.proofs.Common.{sym, subst}
use Rattle.pa_trace.specs.declared.script.Op.{Op}
use Rattle.pa_player.specs.Plays.{Plays}
use Rattle.pa_player.proofs.player.Player+Told+O.answer.Goals as goal

pub returns-in-Copy-clause-played : goal.returns-in-Copy-clause-played
returns-in-Copy-clause-played g c =
    subst (λ (o : Op). Plays c.args.self.now c.args.thread o c.copy.new.self c.copy.result) (sym c.in-Copy.is) c.copy.ensures

pub returns-in-Write-clause-played : goal.returns-in-Write-clause-played
returns-in-Write-clause-played g c =
    subst (λ (o : Op). Plays c.args.self.now c.args.thread o c.write.new.self c.write.result) (sym c.in-Write.is) c.write.ensures
