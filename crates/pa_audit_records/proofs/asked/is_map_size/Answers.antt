use Rattle.std.proofs.Common.{◌≡◌, Bool, true, false, not, refl, sym, ◌∙◌, ap, arith}
use Rattle.std.proofs.lemmas.Bool.{false≢true}
use Rattle.pa_rules.proofs.Versions.{raw_least}
use Rattle.pa_audit_records.proofs.asked.is_map_size.Goals as goal

pub returns-then-size-gt-GREATEST_SIZE-clause-asked : goal.returns-then-size-gt-GREATEST_SIZE-clause-asked
returns-then-size-gt-GREATEST_SIZE-clause-asked c =
    let large = c.if-size-gt-GREATEST_SIZE.true in
    (λ yes. absurd (false≢true yes), λ (above, within). absurd (omega arith))

true_if : (b : Bool) → false ≡ not b → b ≡ true
true_if true same = refl
true_if false same = same

pub returns-clause-asked : goal.returns-clause-asked
returns-clause-asked c =
    let small = c.if-size-gt-GREATEST_SIZE.false in
    let least = raw_least c.args.version in
    let raw = c.raw_of.ensures in (
      λ yes. (let above = c.class_in.ensures.refused.0 (c.is_none.ensures ∙ ap not yes) in omega arith, small),
      λ (above, within). true_if c.is_none.result (sym (c.class_in.ensures.refused.1 (omega arith)) ∙ c.is_none.ensures),
    )

pub returns-clause-large : goal.returns-clause-large
returns-clause-large c =
    let least = raw_least c.args.version in
    let raw = c.raw_of.ensures in
    λ yes. let above = c.class_in.ensures.refused.0 (c.is_none.ensures ∙ ap not yes) in omega arith
