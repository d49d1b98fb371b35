use Rattle.std.proofs.Common.{map, sym, subst}
use Rattle.std.specs.Prelude.{All}
use Rattle.pa_record.specs.Spans.{name_of}
use Rattle.pa_record.specs.Root.{IsOut}
use Rattle.pa_place.specs.Placed.{IsStep}
use Rattle.pa_place.proofs.placement.Placement.give.Goals as goal

pub give-requires-clause-out : goal.give-requires-clause-out
give-requires-clause-out c = subst (λ r. All (IsOut r) (map name_of c.args.titles.now)) (sym c.self.view_is) c.requires.out

pub returns-clause-step : goal.returns-clause-step
returns-clause-step c = λ n. subst (λ z. IsStep n n z c.give.new.self.root) c.self.view_is (c.give.ensures.step n)
