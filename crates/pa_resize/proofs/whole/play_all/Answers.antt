use Rattle.std.proofs.Common.{◌<◌, ◌≤◌, List, [], length, get_or, refl, ap, sym, subst, arith}
use Rattle.pa_script.specs.declared.script.ScriptLine.{ScriptLine}
use Rattle.pa_script.specs.declared.script.ScriptLine.TheVariants.{Plain}
use Rattle.pa_trace.specs.declared.line.Head.{Head}
use Rattle.pa_trace.specs.declared.script.Line.TheVariants.{Phase}
use Rattle.pa_resize.specs.Playing.{IsScriptPlayed, script_head}
use Rattle.pa_resize.proofs.Scripts.{script_begins, next_few, next_within, next_played, all_played}
use Rattle.pa_resize.proofs.whole.play_all.Goals as goal

pub loop-line-init : goal.loop-line-init
loop-line-init g c =
    let s = c.args.script.now in
    let p = c.args.player.now in
    record {
      played = subst (λ vs. IsScriptPlayed (script_head s) [] p vs) (sym c.new-verdicts.ensures.items)
          (script_begins (script_head s) p c.requires.new);
      number = refl;
    }

pub play_line-requires : goal.play_line-requires
play_line-requires g c =
    let s = c.args.script.now in
    let i = c.loop-line.line-index in
    let line = get_or c.as_slice-line-items.result.now i (Plain Phase) in
    let is = ap (λ (z : List ScriptLine). get_or z i (Plain Phase)) c.as_slice-line-items.ensures in
    let lt : i < length s.lines =
    omega (arith, ap (λ (z : List ScriptLine). length z) c.as_slice-line-items.ensures, c.loop-line-test.true) in
    let h = c.loop-line.invariant.played in
    record {
      going = h.going;
      first = ap (λ (k : Head). k.version) h.head;
      few = next_few s i c.loop-line.player line (Plain Phase) c.loop-line.verdicts.items c.requires.within lt is h;
      within = next_within s i c.loop-line.player line (Plain Phase) c.loop-line.verdicts.items c.requires.within lt is h;
    }

pub loop-line-preserved : goal.loop-line-preserved
loop-line-preserved g c =
    let s = c.args.script.now in
    let i = c.loop-line.line-index in
    let line = get_or c.as_slice-line-items.result.now i (Plain Phase) in
    let is = ap (λ (z : List ScriptLine). get_or z i (Plain Phase)) c.as_slice-line-items.ensures in
    let lt : i < length s.lines =
    omega (arith, ap (λ (z : List ScriptLine). length z) c.as_slice-line-items.ensures, c.loop-line-test.true) in
    let h = c.loop-line.invariant in
    record {
      played = next_played s i c.loop-line.player line (Plain Phase) c.loop-line.verdicts.items c.requires.within lt is h.played
          c.play_line.new.player c.note.new.verdicts.items c.loop-line.number
          c.in_ok-verdict.verdict c.in_ok-verdict.ensures h.number c.in_ok-note.ensures;
      number = omega (arith, h.number);
    }

pub returns : goal.returns
returns g c =
    let s = c.args.script.now in
    let size = ap (λ (z : List ScriptLine). length z) c.as_slice-line-items.ensures in
    let past : length s.lines ≤ c.loop-line.line-index = omega (arith, size, c.loop-line-test.false) in
    all_played s c.loop-line.line-index c.loop-line.player c.loop-line.verdicts.items past c.loop-line.invariant.played
