use Rattle.std.proofs.Common.{◌≡◌, ◌<◌, ◌≤◌, List, length, get_or, ap, sym, subst, arith}
use Rattle.pa_trace.specs.declared.line.Head.{Head}
use Rattle.pa_trace.specs.declared.script.Line.{Line}
use Rattle.pa_trace.specs.declared.script.Line.TheVariants.{Phase}
use Rattle.pa_trace.specs.Grammar.{head_of_trace}
use Rattle.pa_player.specs.Begun.{IsBegun}
use Rattle.pa_player.specs.Changes.{phase_ended}
use Rattle.pa_model.specs.Played.{IsAllTold}
use Rattle.pa_model.proofs.AllTold.{all_told}
use Rattle.pa_player.proofs.Outcome.{if_ok}
use Rattle.pa_player.proofs.Reporting.{end_ready}
use Rattle.pa_player.proofs.Start.{begins_playing}
use Rattle.pa_player.proofs.Trace.{line_ready, line_more, goes_on, all_played}
use Rattle.pa_model.proofs.whole.told_of.Goals as goal

pub loop-line-init : goal.loop-line-init
loop-line-init c =
    let t = c.args.trace.now in
    let begun = subst (λ (h : Head). IsBegun h c.in_ok-player.player) c.head.ensures c.in_ok-player.ensures in
    (begins_playing (head_of_trace t) c.in_ok-player.player c.requires.within.head begun, begun.rules)

pub line-requires : goal.line-requires
line-requires c =
    let t = c.args.trace.now in
    let i = c.loop-line.line-index in
    let size = ap (λ (z : List Line). length z) c.as_slice-lines.ensures in
    let is = ap (λ (z : List Line). get_or z i Phase) c.as_slice-lines.ensures in
    let lt : i < length t.lines = omega (arith, size, c.loop-line-test.true) in
    line_ready t i c.loop-line.player (get_or c.as_slice-lines.result.now i Phase) Phase c.loop-line.invariant.1 c.requires.within lt is
    c.loop-line.invariant.0

pub loop-line-preserved : goal.loop-line-preserved
loop-line-preserved c =
    let t = c.args.trace.now in
    let i = c.loop-line.line-index in
    let size = ap (λ (z : List Line). length z) c.as_slice-lines.ensures in
    let is = ap (λ (z : List Line). get_or z i Phase) c.as_slice-lines.ensures in
    let lt : i < length t.lines = omega (arith, size, c.loop-line-test.true) in
    line_more t i c.loop-line.player c.line.new.self
    (get_or c.as_slice-lines.result.now i Phase) Phase c.loop-line.invariant.1 c.requires.within lt is c.loop-line.invariant.0
    (goes_on c.loop-line.player (get_or c.as_slice-lines.result.now i Phase) _ c.line.new.self c.in_ok-line.ensures.played)

pub finish-requires : goal.finish-requires
finish-requires c =
    let t = c.args.trace.now in
    let size = ap (λ (z : List Line). length z) c.as_slice-lines.ensures in
    let past : length t.lines ≤ c.loop-line.line-index = omega (arith, size, c.loop-line-test.false) in
    let few = c.requires.within.few in
    end_ready t.region t.partitions t.threads t.lines c.loop-line.player (omega arith)
    (all_played t c.loop-line.line-index c.loop-line.player past c.loop-line.invariant.0)

pub returns : goal.returns
returns c =
    let t = c.args.trace.now in
    let p = c.loop-line.player in
    let size = ap (λ (z : List Line). length z) c.as_slice-lines.ensures in
    let past : length t.lines ≤ c.loop-line.line-index = omega (arith, size, c.loop-line-test.false) in
    let playing = all_played t c.loop-line.line-index p past c.loop-line.invariant.0 in
    if_ok c.finish.result (λ told. told ≡ (phase_ended p).told) (IsAllTold t) c.finish.ensures
    (λ told is. subst (IsAllTold t) (sym is) (all_told t p c.loop-line.invariant.1 c.requires.within playing))
