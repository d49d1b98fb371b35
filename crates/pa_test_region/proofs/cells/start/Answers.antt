use Rattle.std.proofs.Common.{◌≡◌, [], ◌∷◌, sym, ◌∙◌, subst, ap}
use Rattle.pa_region.specs.declared.marks.Mark.TheVariants as mark
use Rattle.pa_region.specs.declared.view.View.{View}
use Rattle.pa_region.specs.Hands.{left_after, given_after}
use Rattle.pa_region.specs.Marks.{parcel_of}
use Rattle.pa_region.specs.Shares.{Share}
use Rattle.pa_region.specs.Lending.{CanLend}
use Rattle.pa_test_region.specs.CellSlots.{IsFresh}
use Rattle.pa_test_region.proofs.CellSlots.{first_left, first_fresh, second_lends}
use Rattle.pa_test_region.proofs.cells.start.Goals as goal

pub returns-clause-fresh : goal.returns-clause-fresh
returns-clause-fresh c =
    let keeper = c.hand-keeper.ensures.left ∙
    ap (λ (v : View). left_after (parcel_of [] 0 (mark.Keeper 5 ∷ [])) v) c.in_ok-region.ensures.view in
    let is : c.hand.new.seat.view ≡ first_left =
    c.hand.ensures.left ∙ ap (λ (v : View). left_after (parcel_of [] 0 (mark.Stake 1 ∷ [])) v) keeper in
    subst IsFresh (sym is) (first_fresh c.a_new_region_can_be_cut.ensures c.new_words_are_zero.ensures)

pub returns-clause-second : goal.returns-clause-second
returns-clause-second c =
    let keeper = c.hand-keeper.ensures.left ∙
    ap (λ (v : View). left_after (parcel_of [] 0 (mark.Keeper 5 ∷ [])) v) c.in_ok-region.ensures.view in
    let same = ap (λ (s : Share). s.view) c.seat-second.ensures.same in
    let is = same ∙ (c.hand.ensures.given ∙ ap (λ (v : View). given_after (parcel_of [] 0 (mark.Stake 1 ∷ [])) v) keeper) in (
      ap (λ (s : Share). s.region) c.seat-second.ensures.same
          ∙ (c.hand.ensures.regions.1 ∙ (c.hand-keeper.ensures.regions.0 ∙ c.in_ok-region.ensures.region)),
      subst (λ (v : View). CanLend v) (sym is) second_lends,
    )
