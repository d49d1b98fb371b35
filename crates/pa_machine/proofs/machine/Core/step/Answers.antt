use Rattle.std.proofs.Common.{refl, sym, subst}
use Rattle.pa_machine.specs.Events.{State, IsSameShape}
use Rattle.pa_machine.specs.Tables.{state_of}
use Rattle.pa_machine.proofs.Holding.{same_shape}
use Rattle.pa_machine.proofs.Returning.{only_returns}
use Rattle.pa_machine.proofs.Noting.{keeps_content}
use Rattle.pa_machine.proofs.machine.Core.step.Goals as goal
use Rattle.pa_machine.proofs.machine.Core.step.Goals.{in-Ok, in-Err}

pub returns-clause-returns : goal.returns-clause-returns
returns-clause-returns c = elim c.match-make.branch [
  | in-Ok w ↦ rw (w.result-is, ← c.self.view_is)
      (only_returns c.args.event.now (state_of c.self.inside.tables) (state_of c.make.new.self) c.self.invariant.good
      (c.if-not-is_enabled.ensures.0 refl) w.in-Ok.ensures.ok)
  | in-Err w ↦ rw w.result-is tt
]

pub returns-clause-content : goal.returns-clause-content
returns-clause-content c = elim c.match-make.branch [
  | in-Ok w ↦ rw (w.result-is, ← c.self.view_is)
      (λ last k. keeps_content c.args.event.now (state_of c.self.inside.tables) (state_of c.make.new.self) last c.self.invariant.good
      (c.if-not-is_enabled.ensures.0 refl) w.in-Ok.ensures.ok k)
  | in-Err w ↦ rw w.result-is tt
]

pub returns-clause-shape : goal.returns-clause-shape
returns-clause-shape c = elim c.match-make.branch [
  | in-Ok w ↦ rw (← c.self.view_is)
      (same_shape c.args.event.now (state_of c.self.inside.tables) (state_of c.make.new.self) w.in-Ok.ensures.ok)
  | in-Err w ↦ rw (← c.self.view_is)
      (subst (λ (s : State). IsSameShape (state_of c.self.inside.tables) s) (sym w.in-Err.ensures.err) (refl, refl))
]
