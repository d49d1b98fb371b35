use Rattle.std.proofs.Common.{◌≡◌, ◌*◌, take}
use Rattle.pa_shelf.specs.Counting.{sum_of_supers, no_sums, AreAdded, AreSumsOf}
use Rattle.pa_shelf.proofs.counts.sums_of.Given as goal

-- the super pages before this one were counted
abbrev pub invariant-loop-at : goal.invariant-loop-at
invariant-loop-at l = record {
  seat : l.own ≡ l.initial.own;
  added : AreAdded (λ f. sum_of_supers f l.initial.own.view.words (take l.at-index l.supers)) no_sums l.sums;
  below : AreSumsOf (126 * l.at-index) l.sums;
}
