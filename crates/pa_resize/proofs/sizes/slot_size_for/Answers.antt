use Rattle.std.proofs.Common.{◌+◌, ◌<◌, max, arith, ap, sym, ◌∙◌, subst}
use Rattle.pa_buckets.specs.Classes.{IsClassOf}
use Rattle.pa_direct.specs.Shapes.{IsDirectSize}
use Rattle.pa_direct.specs.declared.maps.Shape.{Shape}
use Rattle.pa_rules.proofs.Sizes.{sizes_fit}
use Rattle.pa_resize.proofs.sizes.slot_size_for.Goals as goal

pub returns-in-Some : goal.returns-in-Some
returns-in-Some c =
    let of : IsClassOf (max c.args.size 1 + 8) c.in-Some.class =
    subst (λ n. IsClassOf n c.in-Some.class) c.raw_of.ensures c.in-Some.ensures.least in
    c.slot_size.ensures.size ∙ sym (sizes_fit.class 1 c.args.size c.in-Some.class of)

pub returns-in-Some-shape : goal.returns-in-Some-shape
returns-in-Some-shape c =
    let large : 917504 < c.raw_of.result = grind (arith, c.in-None.ensures.refused) in
    let direct : IsDirectSize c.args.size = (omega (arith, large, c.raw_of.ensures), c.requires) in
    ap (λ (z : Shape). z.slot) c.in-Some-shape.ensures.shape ∙ sym (sizes_fit.direct 1 c.args.size direct)
