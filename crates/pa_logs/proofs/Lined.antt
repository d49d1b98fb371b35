-- The records of a trace: those of an earlier phase have smaller lines.
use Rattle.std.proofs.Common.{◌<◌, List, subst}
use Rattle.std.specs.Prelude.{Contains}
use Rattle.pa_trace.specs.declared.script.Line.{Line}
use Rattle.pa_lists.proofs.Joined.{map_in}
use Rattle.pa_trace.specs.declared.script.Rules.{Rules}
use Rattle.pa_rules.specs.declared.played.Played.{Played}
use Rattle.pa_rules.specs.Played.{AreLines, op_line_of}
use Rattle.pa_rules.proofs.Lined.{lines_phases}

pub phases_rise : (rules : Rules) (ls : List Line) (ps : List Played) → AreLines rules ls ps → (x y : Played) → Contains ps x →
    Contains ps y → x.phase < y.phase → x.line < y.line
phases_rise rules ls ps are x y first second late =
    lines_phases rules 2 1 ls (op_line_of x) (op_line_of y)
    (subst (λ os. Contains os (op_line_of x)) are (map_in op_line_of ps x first))
    (subst (λ os. Contains os (op_line_of y)) are (map_in op_line_of ps y second)) late
