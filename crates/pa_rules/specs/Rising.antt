-- Records whose lines rise.
use Rattle.std.specs.Prelude.{◌<◌, List, AllPairs}
use Rattle.pa_rules.specs.declared.played.Played.{Played}

-- each record's line is greater than those of the records before it
abbrev pub RiseByLine : List Played → Type 0
RiseByLine ps = AllPairs (λ (x y : Played). x.line < y.line) ps
