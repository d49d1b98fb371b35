use Rattle.std.proofs.Common.{◌≡◌}
use Rattle.pa_record.specs.Root.{Root, decommitted_times}
use Rattle.pa_record.specs.Sound.{IsSound}
use Rattle.pa_shelf.specs.Moving.{Rewritten}
use Rattle.pa_shelf.specs.Shelves.{ShowsRoot}
use Rattle.pa_shelf.proofs.shelf.Shelf.purge.Given as goal

-- this many spans were decommitted
abbrev pub invariant-loop-done : goal.invariant-loop-done
invariant-loop-done l = record {
  region : l.own.region ≡ l.initial.own.region;
  shown : (r : Root) → IsSound r → ShowsRoot l.initial.own.view l.initial.self r → ShowsRoot l.own.view l.self (decommitted_times l.done r);
  rest : Rewritten l.initial.own.view l.own.view;
}
