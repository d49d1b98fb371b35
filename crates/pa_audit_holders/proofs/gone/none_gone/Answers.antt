use Rattle.std.proofs.Common.{◌∙◌, arith, refl, sym}
use Rattle.pa_audit_records.specs.ByKeys.{value_at}
use Rattle.std.proofs.lemmas.Bool.{false≢true}
use Rattle.pa_audit_holders.proofs.Going.{none_next}
use Rattle.pa_audit_holders.proofs.gone.none_gone.Goals as goal

pub loop-slot-init : goal.loop-slot-init
loop-slot-init c = λ before h i n d less. absurd (omega (arith, less))

pub loop-slot-preserved : goal.loop-slot-preserved
loop-slot-preserved c =
    none_next (value_at c.args.gone.now) c.args.slots.now c.loop-slot.slot-index _ c.loop-slot-test.true c.loop-slot.invariant
    (λ before h gone. false≢true (sym c.if-has.false ∙ (c.has.ensures before h).1 gone))

pub returns-then-has : goal.returns-then-has
returns-then-has c = λ before h. (
  λ no. absurd (false≢true no),
  λ none. let (n, gone) = (c.has.ensures before h).0 c.if-has.true in absurd (none c.loop-slot.slot-index n _ c.loop-slot-test.true gone),
)

pub returns : goal.returns
returns c = λ before h. let end = c.loop-slot-test.false in
    (λ yes i n d less gone. c.loop-slot.invariant before h i n d (omega (arith, less, end)) gone, λ none. refl)
