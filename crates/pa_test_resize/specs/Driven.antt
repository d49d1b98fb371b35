-- A player that tests drive.
use Rattle.std.specs.Prelude.{◌≡◌, [], ◌∷◌, ◌++◌}
use Rattle.pa_trace.specs.declared.script.Line.{Line}
use Rattle.pa_model.specs.Player.{Player, IsGoing}

-- one line more was played
pub record IsDriven (p : Player) (line : Line) (q : Player) : Type 0 where
  pub going : IsGoing q
  pub head : q.lines.head ≡ p.lines.head
  pub lines : q.lines.items ≡ p.lines.items ++ line ∷ []
