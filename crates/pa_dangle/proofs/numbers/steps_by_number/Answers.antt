use Rattle.std.proofs.Common.{length, sym, subst}
use Rattle.std.proofs.lemmas.Result.{IfOk-weaker}
use Rattle.std.specs.Ordering.{nat_cmp}
use Rattle.std.specs.BTreeMap.{get}
use Rattle.pa_dangle.specs.declared.numbers.Kind.TheVariants.{Issued, Freed}
use Rattle.pa_dangle.specs.Steps.{AreStepsOf}
use Rattle.pa_dangle.proofs.Finding.{numbered_as, one_of_kind, steps_of}
use Rattle.pa_dangle.proofs.numbers.steps_by_number.Goals as goal

pub by_number-requires-clause-one : goal.by_number-requires-clause-one
by_number-requires-clause-one c = one_of_kind (numbered_as Issued) c.args.records.now c.requires.rising c.requires.slots

pub by_number-requires-in-Freed-clause-one : goal.by_number-requires-in-Freed-clause-one
by_number-requires-in-Freed-clause-one c = one_of_kind (numbered_as Freed) c.args.records.now c.requires.rising c.requires.slots

pub returns-in-Issued : goal.returns-in-Issued
returns-in-Issued c =
    let ps = c.args.records.now in
    IfOk-weaker c.by_number.result _ _
    (λ m h. subst (λ k. AreStepsOf k ps (get nat_cmp m) (length ps)) (sym c.in-Issued.is)
    (steps_of Issued ps (get nat_cmp m) (length ps) h))
    c.by_number.ensures

pub returns-in-Freed : goal.returns-in-Freed
returns-in-Freed c =
    let ps = c.args.records.now in
    IfOk-weaker c.by_number-in-Freed.result _ _
    (λ m h. subst (λ k. AreStepsOf k ps (get nat_cmp m) (length ps)) (sym c.in-Freed.is) (steps_of Freed ps (get nat_cmp m) (length ps) h))
    c.by_number-in-Freed.ensures
