use Rattle.std.proofs.Common.{◌≡◌, ◌<◌, List, length, get_or, ap, subst, arith}
use Rattle.pa_trace.specs.declared.line.Head.{Head}
use Rattle.pa_trace.specs.declared.script.Line.{Line}
use Rattle.pa_trace.specs.declared.script.Line.TheVariants.{Phase}
use Rattle.pa_model.specs.Player.{IsNew}
use Rattle.pa_test_resize.proofs.Driving.{driven_none, driven_few, driven_within, driven_more}
use Rattle.pa_test_resize.proofs.lines.driven.Goals as goal

pub loop-line-init : goal.loop-line-init
loop-line-init c =
    driven_none c.args.trace.now c.in_ok-player.player
    (subst (λ (h : Head). IsNew h c.in_ok-player.player) c.head.ensures c.in_ok-player.ensures)

pub play_line-requires : goal.play_line-requires
play_line-requires c =
    let t = c.args.trace.now in
    let i = c.loop-line.line-index in
    let line = get_or c.as_slice-line-items.result.now i Phase in
    let is = ap (λ (z : List Line). get_or z i Phase) c.as_slice-line-items.ensures in
    let lt : i < length t.lines = omega (arith, ap (λ (z : List Line). length z) c.as_slice-line-items.ensures, c.loop-line-test.true) in
    let h = c.loop-line.invariant in
    record {
      going = h.going;
      few = driven_few t i c.loop-line.player line Phase c.requires lt is h;
      within = driven_within t i c.loop-line.player line Phase c.requires lt is h;
    }

pub loop-line-preserved : goal.loop-line-preserved
loop-line-preserved c =
    let t = c.args.trace.now in
    let i = c.loop-line.line-index in
    let line = get_or c.as_slice-line-items.result.now i Phase in
    let is = ap (λ (z : List Line). get_or z i Phase) c.as_slice-line-items.ensures in
    let lt : i < length t.lines = omega (arith, ap (λ (z : List Line). length z) c.as_slice-line-items.ensures, c.loop-line-test.true) in
    driven_more t i c.loop-line.player line Phase c.requires lt is c.loop-line.invariant c.play_line.new.player c.in_ok-play_line.ensures

pub new-requires-clause-version : goal.new-requires-clause-version
new-requires-clause-version c = rw c.head.ensures c.requires.version

pub new-requires-clause-within : goal.new-requires-clause-within
new-requires-clause-within c = rw c.head.ensures c.requires.head
