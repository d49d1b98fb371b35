use Rattle.std.proofs.Common.{◌≡◌, ◌∙◌, refl, sym, subst, arith}
use Rattle.std.proofs.lemmas.Bool.{false≢true}
use Rattle.pa_slot.specs.Count.{refs_of}
use Rattle.pa_model.specs.Player.{Owns}
use Rattle.pa_resize.proofs.Steps.{resizes_not, resizes_shared, resizes_large, resizes_kept, resizes_no_room, resizes_moved}
use Rattle.pa_resize.proofs.lines.resize.Goals as goal

pub returns-in_default : goal.returns-in_default
returns-in_default g c =
    let p = c.args.player.now in
    resizes_not p c.args.thread c.args.reg c.args.size c.requires.first c.requires.going
    (subst (Owns p c.args.thread c.args.reg) c.in_default.is c.own.ensures.owned)

pub returns-then-refs-gt0 : goal.returns-then-refs-gt0
returns-then-refs-gt0 g c =
    let p = c.args.player.now in
    let owned = subst (Owns p c.args.thread c.args.reg) c.in-Some.is c.own.ensures.owned in
    resizes_shared p c.args.thread c.args.reg c.args.size c.in-Some.owned owned c.requires.first c.in_ok-seen.seen c.in_ok-seen.value
    c.look.new.player c.in_ok-seen.ensures
    (omega (arith, c.if-refs-gt0.true, c.refs.ensures))

pub returns-then-size-gt-GREATEST_SIZE : goal.returns-then-size-gt-GREATEST_SIZE
returns-then-size-gt-GREATEST_SIZE g c =
    let p = c.args.player.now in
    let owned = subst (Owns p c.args.thread c.args.reg) c.in-Some.is c.own.ensures.owned in
    resizes_large p c.args.thread c.args.reg c.args.size c.in-Some.owned owned c.requires.first c.in_ok-seen.seen c.in_ok-seen.value
    c.look.new.player c.in_ok-seen.ensures
    (omega (arith, c.if-refs-gt0.false, c.refs.ensures)) c.if-size-gt-GREATEST_SIZE.true

pub returns-then-slot_size_for-owned : goal.returns-then-slot_size_for-owned
returns-then-slot_size_for-owned g c =
    let p = c.args.player.now in
    let owned = subst (Owns p c.args.thread c.args.reg) c.in-Some.is c.own.ensures.owned in
    resizes_kept p c.args.thread c.args.reg c.args.size c.in-Some.owned owned c.requires.first c.in_ok-seen.seen c.in_ok-seen.value
    c.look.new.player c.in_ok-seen.ensures
    (omega (arith, c.if-refs-gt0.false, c.refs.ensures)) c.if-size-gt-GREATEST_SIZE.false
    (sym c.slot_size_for.ensures ∙ c.if-slot_size_for-owned.true)

pub returns-then-is_full : goal.returns-then-is_full
returns-then-is_full g c =
    let p = c.args.player.now in
    let owned = subst (Owns p c.args.thread c.args.reg) c.in-Some.is c.own.ensures.owned in
    let alone : refs_of c.in_ok-seen.seen.found.0 ≡ 0 = omega (arith, c.if-refs-gt0.false, c.refs.ensures) in
    resizes_no_room p c.args.thread c.args.reg c.args.size c.in-Some.owned owned c.requires.first c.in_ok-seen.seen c.in_ok-seen.value
    c.look.new.player c.in_ok-answer.answer c.in_ok-seen.ensures (
      alone,
      c.if-size-gt-GREATEST_SIZE.false,
      λ same. c.if-slot_size_for-owned.false (c.slot_size_for.ensures ∙ same),
    ) c.play_op.new.player c.in_ok-answer.ensures.went
    (c.if-is_full.ensures.0 refl)

pub returns : goal.returns
returns g c =
    let p = c.args.player.now in
    let owned = subst (Owns p c.args.thread c.args.reg) c.in-Some.is c.own.ensures.owned in
    let alone : refs_of c.in_ok-seen.seen.found.0 ≡ 0 = omega (arith, c.if-refs-gt0.false, c.refs.ensures) in
    resizes_moved p c.args.thread c.args.reg c.args.size c.in-Some.owned owned c.requires.first c.in_ok-seen.seen c.in_ok-seen.value
    c.look.new.player c.in_ok-answer.answer c.in_ok-seen.ensures (
      alone,
      c.if-size-gt-GREATEST_SIZE.false,
      λ same. c.if-slot_size_for-owned.false (c.slot_size_for.ensures ∙ same),
    ) c.play_op.new.player c.hand_over.new.player
    c.in_ok-answer.ensures.went (λ full. absurd (false≢true (c.if-is_full.ensures.1 full))) c.in_ok-hand_over.ensures
