use Rattle.std.proofs.Common.{◌+◌, ◌-◌, ◌<◌, max, arith, ap, sym, ◌∙◌, subst}
use Rattle.pa_buckets.specs.Classes.{IsClassIn}
use Rattle.pa_buckets.specs.Limits.{greatest_raw}
use Rattle.pa_rules.specs.Sizes.{IsMapSize}
use Rattle.pa_rules.proofs.Versions.{raw_least}
use Rattle.pa_direct.specs.declared.maps.Shape.{Shape}
use Rattle.pa_rules.proofs.Sizes.{sizes_fit}
use Rattle.pa_audit_records.proofs.usable.usable_for.Goals as goal

pub returns-in-Some : goal.returns-in-Some
returns-in-Some c =
    let of : IsClassIn c.args.version (max c.args.size 1 + 8) c.in-Some.class =
    subst (λ n. IsClassIn c.args.version n c.in-Some.class) c.raw_of.ensures c.in-Some.ensures.least in
    ap (λ z. z - 8) (c.slot_size.ensures.size ∙ sym (sizes_fit.class c.args.version c.args.size c.in-Some.class of))

pub returns-in-Some-shape : goal.returns-in-Some-shape
returns-in-Some-shape c =
    let large : greatest_raw c.args.version < c.raw_of.result = grind (arith, c.in-None.ensures.refused) in
    let least = raw_least c.args.version in
    let direct : IsMapSize c.args.version c.args.size = (omega (arith, large, least, c.raw_of.ensures), c.requires) in
    ap (λ (z : Shape). z.slot - 8) c.in-Some-shape.ensures.shape ∙
    ap (λ z. z - 8) (sym (sizes_fit.direct c.args.version c.args.size direct))
