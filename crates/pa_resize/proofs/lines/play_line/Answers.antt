use Rattle.std.proofs.Common.{None, Some, sym, subst}
use Rattle.pa_script.specs.declared.script.ScriptLine.{ScriptLine}
use Rattle.pa_resize.specs.Playing.{PlaysScriptLine}
use Rattle.pa_resize.proofs.Steps.{plays_plain, plays_resize}
use Rattle.pa_resize.proofs.lines.play_line.Goals as goal

pub returns-in_ok-line-in-Plain : goal.returns-in_ok-line-in-Plain
returns-in_ok-line-in-Plain g c =
    let p = c.args.player.now in
    let q = c.line.new.self in
    subst (λ (l : ScriptLine). PlaysScriptLine p l None q) (sym c.in-Plain.is)
    (plays_plain p q c.in-Plain.line c.in_ok-line-in-Plain.field-0 c.in_ok-line-in-Plain.ensures.played)

pub returns-in_ok-verdict-in-Resize : goal.returns-in_ok-verdict-in-Resize
returns-in_ok-verdict-in-Resize g c =
    let p = c.args.player.now in
    let q = c.resize.new.player in
    let v = c.in_ok-verdict-in-Resize.verdict in
    subst (λ (l : ScriptLine). PlaysScriptLine p l (Some v) q) (sym c.in-Resize.is)
    (plays_resize p q c.in-Resize.thread c.in-Resize.reg c.in-Resize.size v c.in_ok-verdict-in-Resize.ensures)
