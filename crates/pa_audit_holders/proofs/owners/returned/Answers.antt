use Rattle.std.proofs.Common.{◌+◌, refl, sym, ap}
use Rattle.pa_rules.specs.Played.{mark_at, mark_of_answer, step_of}
use Rattle.pa_audit_holders.proofs.owners.returned.Goals as goal

pub returns-then-returns-clause-some : goal.returns-then-returns-clause-some
returns-then-returns-clause-some c =
    let x = c.args.told in (
      mark_at x.line c.in-Done.seen (step_of x.op),
      c.in-Some.step,
      ap (mark_of_answer x.line x.op) c.in-Done.is,
      refl,
      sym c.in-Some.ensures,
      c.returns.ensures.0 c.if-returns.true,
      sym (ap (λ n. n + 1) c.number.ensures),
    )
