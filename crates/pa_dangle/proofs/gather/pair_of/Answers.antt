use Rattle.std.proofs.Common.{subst, arith}
use Rattle.pa_rules.specs.Cells.{history_at}
use Rattle.pa_rules.specs.Played.{marks_of}
use Rattle.pa_dangle.specs.declared.numbers.Kind.TheVariants.{Freed}
use Rattle.pa_dangle.specs.Steps.{IsLastStep, NoStepBelow}
use Rattle.pa_dangle.proofs.Coupling.{pair_is, free_is, issue_is}
use Rattle.pa_dangle.proofs.gather.pair_of.Goals as goal

pub returns-in_err-free-clause-none : goal.returns-in_err-free-clause-none
returns-in_err-free-clause-none c =
    let ps = c.args.records.now in
    let none = subst (λ n. NoStepBelow Freed (marks_of ps) c.args.seen.slot n) c.number.ensures c.in_err-free.ensures.none in
    rw c.from_residual.ensures
    (free_is (history_at c.args.cells.now) ps c.args.told c.args.seen c.args.origin
    (record {
      rising = c.requires.rising;
      slots = c.requires.slots;
      among = c.requires.told;
      saw = c.requires.seen;
      comes = c.requires.origin;
    }) none)

pub returns-in_err-made-clause-none : goal.returns-in_err-made-clause-none
returns-in_err-made-clause-none c =
    let ps = c.args.records.now in
    let (m, found) = c.in_ok-free.ensures.some in
    let last = subst (λ n. IsLastStep Freed (marks_of ps) c.args.seen.slot n c.in_ok-free.free c.in_ok-free.at m) c.number.ensures found in
    rw c.from_residual-in_err-made.ensures
    (issue_is (history_at c.args.cells.now) ps c.args.told c.args.seen c.args.origin
    (record {
      rising = c.requires.rising;
      slots = c.requires.slots;
      among = c.requires.told;
      saw = c.requires.seen;
      comes = c.requires.origin;
    }) c.in_ok-free.free c.in_ok-free.at m last
    c.in_err-made.ensures.none)

pub returns-clause-some : goal.returns-clause-some
returns-clause-some c =
    let ps = c.args.records.now in
    let (m, found) = c.in_ok-free.ensures.some in
    let (i, issue) = c.in_ok-made.ensures.some in
    let last = subst (λ n. IsLastStep Freed (marks_of ps) c.args.seen.slot n c.in_ok-free.free c.in_ok-free.at m) c.number.ensures found in
    rw c.use_of.ensures
    (pair_is (history_at c.args.cells.now) ps c.args.told c.args.seen c.args.origin
    (record {
      rising = c.requires.rising;
      slots = c.requires.slots;
      among = c.requires.told;
      saw = c.requires.seen;
      comes = c.requires.origin;
    }) c.in_ok-free.free c.in_ok-free.at m last
    c.in_ok-made.made c.in_ok-made.field-0-1 i issue (omega arith))
