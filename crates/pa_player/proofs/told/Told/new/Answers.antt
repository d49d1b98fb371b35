use Rattle.std.proofs.Common.{refl, arith}
use Rattle.pa_player.proofs.Empty.{empties}
use Rattle.pa_player.proofs.told.Told.new.Goals as goal

pub returns : goal.returns
returns g c = record {
  entries = c.requires.entries;
  journals = record { count = refl; empty = c.requires.journals };
  pools = grind (arith, c.new-2.ensures);
  histories = record { count = omega (arith, c.loop.invariant.0); empty = empties c.loop.histories.items c.loop.invariant.1 };
  report = grind (arith, c.new-3.ensures);
  line = refl;
}
