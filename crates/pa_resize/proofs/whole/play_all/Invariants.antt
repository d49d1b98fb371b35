use Rattle.std.proofs.Common.{◌≡◌, ◌+◌, take}
use Rattle.pa_resize.specs.Playing.{IsScriptPlayed, script_head}
use Rattle.pa_resize.proofs.whole.play_all.Given as goal

-- the first lines were played
abbrev pub invariant-loop-line : goal.invariant-loop-line
invariant-loop-line g l = record {
  played : IsScriptPlayed (script_head l.script) (take l.line-index l.script.lines) l.player l.verdicts.items;
  number : l.number ≡ l.line-index + 2;
}
