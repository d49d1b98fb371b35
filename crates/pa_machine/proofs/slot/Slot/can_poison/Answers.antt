use Rattle.std.proofs.Common.{◌≡◌, ◌∙◌, ◌<◌, refl, arith}
use Rattle.std.proofs.lemmas.Bool.Decides.{nat_tests}
use Rattle.pa_machine.proofs.Reading.{owner_is}
use Rattle.pa_machine.proofs.slot.Slot.can_poison.Goals as goal

pub returns-then-owner-actor : goal.returns-then-owner-actor
returns-then-owner-actor c =
    let owner = c.in-Some.owner in
    let done = c.progress.ensures in
    let words = c.content_words.ensures in
    let same : owner.actor ≡ c.args.actor = c.if-owner-actor.true in (
      λ yes.
          let below : c.progress.result < c.content_words.result = grind (arith, nat_tests) in
          (owner.state, owner.sealed, c.in-Some.is ∙ owner_is owner c.args.actor owner.state same refl, rw (← done, ← words) below),
      λ h.
          let state : h.0 ≡ owner.state = let e = c.in-Some.is in let f = h.2 in cc in
          let room = h.3 in
          let below : c.progress.result < c.content_words.result = rw (done, words, ← state) room in
          grind (arith, nat_tests),
    )
