use Rattle.std.proofs.Common.{◌∙◌, ap}
use Rattle.pa_region.specs.Shares.{Share}
use Rattle.pa_test_region.proofs.Sharing.{given_can, gave_ref}
use Rattle.pa_test_region.proofs.quarantine_threads.give_ref.Goals as goal

pub returns-clause-given : goal.returns-clause-given
returns-clause-given c = (
  given_can c.args.title c.args.stake c.args.seat.now.view c.seat.result.view
      (ap (λ (s : Share). s.view) c.seat.ensures.same ∙ c.hand.ensures.given)
      c.requires.stake.0 c.requires.stake.1,
  c.seat.ensures.clean,
)

pub returns-clause-left : goal.returns-clause-left
returns-clause-left c =
    let same = ap (λ (s : Share). s.view) c.seat.ensures.same in
    gave_ref c.args.title c.args.stake c.args.seat.now.view c.hand.new.seat.view c.seat.result.view c.hand.ensures.left
    (same ∙ c.hand.ensures.given)
    (rw same c.hand.ensures.parted) c.requires.able.0 c.requires.able.1
