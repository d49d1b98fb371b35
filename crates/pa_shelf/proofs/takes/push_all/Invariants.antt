use Rattle.std.proofs.Common.{◌≡◌}
use Rattle.pa_shelf.proofs.Pushing.{ArePushed}
use Rattle.pa_shelf.proofs.takes.push_all.Given as goal

-- this many of the last ones are on the chain
abbrev pub invariant-loop-done : goal.invariant-loop-done
invariant-loop-done l = record {
  region : l.own.region ≡ l.initial.own.region;
  pushed : ArePushed l.initial.own.view l.own.view l.first l.from l.count l.done l.chain;
}
