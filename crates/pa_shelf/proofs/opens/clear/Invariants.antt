use Rattle.std.proofs.Common.{◌≡◌, [], ◌∷◌}
use Rattle.pa_meta.specs.Stores.{Rerecorded}
use Rattle.pa_shelf.specs.Opening.{AreBlankBelow}
use Rattle.pa_shelf.proofs.opens.clear.Given as goal

-- the payload pages before this one have records of no span
abbrev pub invariant-loop-page : goal.invariant-loop-page
invariant-loop-page l = record {
  region : l.own.region ≡ l.initial.own.region;
  view : Rerecorded (l.at ∷ []) l.initial.own.view l.own.view;
  blank : AreBlankBelow l.own.view.words l.at.number l.page;
}
