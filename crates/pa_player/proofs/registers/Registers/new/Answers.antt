use Rattle.std.proofs.Common.{arith}
use Rattle.pa_player.proofs.Empty.{are_clear}
use Rattle.pa_player.proofs.registers.Registers.new.Goals as goal

pub returns : goal.returns
returns c = are_clear c.args.threads c.loop.of.items (omega (arith, c.loop.invariant.0)) c.loop.invariant.1
