-- The lines of a trace so far.
use Rattle.std.specs.Prelude.{List, [], ◌∷◌, ◌++◌}
use Rattle.pa_trace.specs.declared.line.Head.{Head}
use Rattle.pa_trace.specs.declared.script.Line.{Line}

-- the head of a trace, and the lines so far
pub record LinesSoFar : Type 0 where
  pub head : Head
  pub items : List Line

-- the head, and no line yet
abbrev pub no_lines : Head → LinesSoFar
no_lines head = record { head = head; items = [] }

-- so_far with one more line at its end
abbrev pub with_line : Line → LinesSoFar → LinesSoFar
with_line line so_far = record { head = so_far.head; items = so_far.items ++ line ∷ [] }
