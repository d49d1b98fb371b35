use Rattle.std.proofs.Common.{subst}
use Rattle.std.proofs.lemmas.Bool.{false≢true}
use Rattle.pa_rules.specs.declared.played.Played.{Played}
use Rattle.pa_audit_order.specs.Given.{IsOther}
use Rattle.pa_audit_order.proofs.Reading.{one_next}
use Rattle.pa_audit_order.proofs.contents.is_freed_meanwhile.Goals as goal

pub returns-in-Some : goal.returns-in-Some
returns-in-Some c =
    let free = c.in-Some.free in
    let next = c.in-Some.ensures.some in (
      λ yes. (free, next, c.is_other.ensures.0 yes),
      λ (y, there, other).
          c.is_other.ensures.1
          (subst (λ (z : Played). IsOther z c.args.told)
          (one_next c.args.records.now c.args.slot c.args.number y free c.requires.one there next) other),
    )

pub returns-in-None : goal.returns-in-None
returns-in-None c = (λ yes. absurd (false≢true yes), λ (y, there, other). absurd (c.in-None.ensures.none y there))
