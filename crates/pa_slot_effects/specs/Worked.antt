-- A trace of four ops, for which the laws of their turns hold one after the other.
use Rattle.std.specs.Prelude.{List, [], ◌∷◌}
use Rattle.pa_trace.specs.declared.script.Line.{Line}
use Rattle.pa_trace.specs.declared.script.Line.TheVariants.{Do}
use Rattle.pa_trace.specs.declared.script.Op.TheVariants.{Alloc, Copy, Free, Reset}
use Rattle.pa_rules.specs.declared.played.Played.{Played}
use Rattle.pa_slot_effects.specs.Shown.{Shown}
use Rattle.pa_slot_effects.specs.Known.{IsToldTo}

-- a slot is made, pointed to, freed and left
abbrev pub worked_lines : List Line
worked_lines = Do 0 (Alloc 0 0 1) ∷ Do 0 (Copy 0 1) ∷ Do 0 (Free 0) ∷ Do 0 (Reset 1) ∷ []

-- some records of one thread are those of the worked lines, and leave some state
abbrev pub WorkedTurns : Type 0
WorkedTurns = (ps : List Played) × (a : Shown) × IsToldTo 1 worked_lines ps a
