use Rattle.std.proofs.Common.{subst}
use Rattle.std.proofs.lemmas.Bool.{eqb-true, eq-eqb}
use Rattle.pa_rules.specs.Contents.{IsContent}
use Rattle.pa_audit_order.proofs.Reading.{one_content}
use Rattle.pa_audit_order.proofs.contents.gives_content.Goals as goal

pub returns : goal.returns
returns c =
    let ps = c.args.records.now in
    let s = c.args.slot in
    let k = c.args.number in (
      λ yes. subst (λ z. IsContent ps s k z) (eqb-true c.content.result c.args.value yes) c.content.ensures,
      λ is. eq-eqb c.content.result c.args.value (one_content ps s k c.content.result c.args.value c.requires.one c.content.ensures is),
    )
