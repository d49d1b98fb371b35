use Rattle.std.proofs.Common.{◌≡◌, OnOk, sym, subst, arith}
use Rattle.pa_region.specs.Views.{least_stake}
use Rattle.pa_root.specs.Handing.{HasSeenFill, GiveTakes}
use Rattle.pa_thread_state.proofs.giving.give_to.Goals as goal

pub give_in-requires : goal.give_in-requires
give_in-requires g c =
    let low = c.requires.partition in
    let at : c.args.partition ≡ 0 = omega arith in (
      omega arith,
      (
        (c.requires.regions.0, c.requires.regions.1),
        (
          c.requires.lender,
          (
            c.requires.some,
            (
              c.requires.has,
              (c.requires.once, (λ t among. subst (λ p. HasSeenFill p c.args.note.view t) at (c.requires.named t among))),
            ),
          ),
        ),
      ),
    )

pub give_in-requires-in-1 : goal.give_in-requires-in-1
give_in-requires-in-1 g c =
    let low = c.requires.partition in
    let at : c.args.partition ≡ 1 = omega arith in (
      omega arith,
      (
        (c.requires.regions.0, c.requires.regions.1),
        (
          c.requires.lender,
          (
            c.requires.some,
            (
              c.requires.has,
              (c.requires.once, (λ t among. subst (λ p. HasSeenFill p c.args.note.view t) at (c.requires.named t among))),
            ),
          ),
        ),
      ),
    )

pub give_in-requires-in-2 : goal.give_in-requires-in-2
give_in-requires-in-2 g c =
    let low = c.requires.partition in
    let at : c.args.partition ≡ 2 = omega arith in (
      omega arith,
      (
        (c.requires.regions.0, c.requires.regions.1),
        (
          c.requires.lender,
          (
            c.requires.some,
            (
              c.requires.has,
              (c.requires.once, (λ t among. subst (λ p. HasSeenFill p c.args.note.view t) at (c.requires.named t among))),
            ),
          ),
        ),
      ),
    )

pub give_in-requires-in_default : goal.give_in-requires-in_default
give_in-requires-in_default g c =
    let low = c.requires.partition in
    let at : c.args.partition ≡ 3 = omega arith in (
      omega arith,
      (
        (c.requires.regions.0, c.requires.regions.1),
        (
          c.requires.lender,
          (
            c.requires.some,
            (
              c.requires.has,
              (c.requires.once, (λ t among. subst (λ p. HasSeenFill p c.args.note.view t) at (c.requires.named t among))),
            ),
          ),
        ),
      ),
    )

pub returns-in_default-clause-took : goal.returns-in_default-clause-took
returns-in_default-clause-took g c =
    let low = c.requires.partition in
    let last : c.args.partition ≡ 3 = omega arith in
    subst (λ p. OnOk c.give_in-in_default.result
    (GiveTakes (least_stake c.args.seat.now.view.stakes) p c.args.line c.args.seat.now.view c.give_in-in_default.new.seat.view
    c.args.note.view c.args.titles.items))
    (sym last) c.give_in-in_default.ensures.took
