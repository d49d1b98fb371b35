use Rattle.std.proofs.Common.{◌≡◌, ◌+◌, ◌*◌, ◌≤◌, drop}
use Rattle.pa_record.specs.Root.{Root, all_returned}
use Rattle.pa_link.specs.Chains.{slot_names}
use Rattle.pa_shelf.specs.Moving.{Rewritten}
use Rattle.pa_shelf.specs.Shelves.{AreBack}
use Rattle.pa_shelf.proofs.shelf.Shelf.give_all.Given as goal

-- the slots from this one on are still to come back
abbrev pub invariant-loop-title : goal.invariant-loop-title
invariant-loop-title l = record {
  region : l.own.region ≡ l.initial.own.region;
  left : (r : Root) → AreBack l.initial.own.view l.initial.self l.titles r → (z : Root) ×
      AreBack l.own.view l.self (drop l.title-index l.titles) z ×
      (all_returned (slot_names (drop l.title-index l.titles)) z ≡ all_returned (slot_names l.titles) r);
  turn : l.self.lists.turn ≤ l.initial.self.lists.turn + 2 * l.title-index;
  rest : Rewritten l.initial.own.view l.own.view;
}
