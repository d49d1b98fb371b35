use Rattle.std.proofs.Common.{◌<◌, [], ◌∷◌, refl, sym, ◌∙◌, ap, subst, arith}
use Rattle.pa_region.specs.declared.marks.Mark.TheVariants.{Keeper}
use Rattle.pa_region.specs.declared.view.View.{View}
use Rattle.pa_region.specs.Lists.{keeper_of}
use Rattle.pa_region.specs.Hands.{left_after, given_after}
use Rattle.pa_region.specs.Marks.{parcel_of}
use Rattle.pa_region.specs.Shares.{Share}
use Rattle.pa_region.specs.Lending.{CanLend, CanHost}
use Rattle.pa_test_region.proofs.lending.a_stake_is_lent_on.Goals as goal

pub enter_both-requires-clause-lender : goal.enter_both-requires-clause-lender
enter_both-requires-clause-lender g c =
    let root = c.hand.ensures.left ∙ ap (λ (v : View). left_after (parcel_of [] 0 (Keeper 2 ∷ [])) v) c.in_ok-region.ensures.view in
    subst (λ (v : View). CanLend v) (sym (c.hand-2.ensures.left ∙ ap (λ (v : View). left_after (parcel_of [] 0 (Keeper 4 ∷ [])) v) root))
    (omega arith, omega arith)

pub enter_both-requires-clause-host : goal.enter_both-requires-clause-host
enter_both-requires-clause-host g c =
    let root = c.hand.ensures.left ∙ ap (λ (v : View). left_after (parcel_of [] 0 (Keeper 2 ∷ [])) v) c.in_ok-region.ensures.view in
    let pool = ap (λ (h : Share). h.view) c.seat-pool.ensures.same ∙
    (c.hand-2.ensures.given ∙ ap (λ (v : View). given_after (parcel_of [] 0 (Keeper 4 ∷ [])) v) root) in
    subst (λ (v : View). CanHost v × (0 < keeper_of v 4)) (sym pool) (((λ k. refl), refl), omega arith)
