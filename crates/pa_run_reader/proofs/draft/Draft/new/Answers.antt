use Rattle.std.proofs.Common.{arith}
use Rattle.pa_run_reader.proofs.draft.Draft.new.Goals as goal

pub returns : goal.returns
returns c = record {
  entries = grind (arith, c.new-2.ensures);
  journals = omega (arith, c.loop.invariant.0);
  roots = c.loop.invariant.1;
  pool = grind (arith, c.new-3.ensures);
  histories = omega (arith, c.loop-2.invariant.0);
  cells = c.loop-2.invariant.1;
  report = grind (arith, c.new-4.ensures);
}
