use Rattle.std.proofs.Common.{◌≡◌, ◌*◌, ◌≤◌, [], ◌∙◌, refl, sym, subst, ap}
use Rattle.pa_region.specs.declared.view.View.{View}
use Rattle.pa_region.specs.Waiting.{unclean_of}
use Rattle.pa_region.specs.Lists.{list_of}
use Rattle.pa_region.specs.Lending.{HostsKeeper}
use Rattle.pa_region.specs.Hands.{left_after, given_after}
use Rattle.pa_pool.specs.Pools.{CanOpen}
use Rattle.pa_root.specs.Laws.{IsFirstView}
use Rattle.pa_thread_state.specs.Starts.{HasAllStakes, keeper_parcel, stakes_parcel}
use Rattle.pa_thread_state.proofs.Parting.{first_root, second_root, third_root, fourth_root, cells_part, pool_opens, budget_there, stakes_are_all}
use Rattle.pa_thread_state.proofs.heap.part_all.Goals as goal

pub part_stakes-workers-requires-clause-budget : goal.part_stakes-workers-requires-clause-budget
part_stakes-workers-requires-clause-budget c =
    let one = c.part-first.ensures.left ∙ ap (left_after (keeper_parcel 0)) c.requires.first in
    let two = c.part-second.ensures.left ∙ ap (left_after (keeper_parcel 1)) one in
    let three = c.part-third.ensures.left ∙ ap (left_after (keeper_parcel 2)) two in
    let four = c.part-fourth.ensures.left ∙ ap (left_after (keeper_parcel 3)) three in
    let five = c.part-cells.ensures.left ∙ ap (left_after (keeper_parcel 5)) four in
    subst (λ (v : View). c.args.budget ≤ v.budget) (sym five) (budget_there (262144 * c.args.supers) c.args.budget)

pub part_stakes-workers-requires-clause-clean : goal.part_stakes-workers-requires-clause-clean
part_stakes-workers-requires-clause-clean c =
    let one = c.part-first.ensures.left ∙ ap (left_after (keeper_parcel 0)) c.requires.first in
    let two = c.part-second.ensures.left ∙ ap (left_after (keeper_parcel 1)) one in
    let three = c.part-third.ensures.left ∙ ap (left_after (keeper_parcel 2)) two in
    let four = c.part-fourth.ensures.left ∙ ap (left_after (keeper_parcel 3)) three in
    let five = c.part-cells.ensures.left ∙ ap (left_after (keeper_parcel 5)) four in
    ap (λ (v : View). unclean_of v) five

pub returns-clause-first : goal.returns-clause-first
returns-clause-first c =
    subst (λ (v : View). IsFirstView 0 v) (sym (c.part-first.ensures.given ∙ ap (given_after (keeper_parcel 0)) c.requires.first))
    (first_root (262144 * c.args.supers) c.args.budget)

pub returns-clause-second : goal.returns-clause-second
returns-clause-second c =
    let one = c.part-first.ensures.left ∙ ap (left_after (keeper_parcel 0)) c.requires.first in
    subst (λ (v : View). IsFirstView 1 v) (sym (c.part-second.ensures.given ∙ ap (given_after (keeper_parcel 1)) one))
    (second_root (262144 * c.args.supers) c.args.budget)

pub returns-clause-third : goal.returns-clause-third
returns-clause-third c =
    let one = c.part-first.ensures.left ∙ ap (left_after (keeper_parcel 0)) c.requires.first in
    let two = c.part-second.ensures.left ∙ ap (left_after (keeper_parcel 1)) one in
    subst (λ (v : View). IsFirstView 2 v) (sym (c.part-third.ensures.given ∙ ap (given_after (keeper_parcel 2)) two))
    (third_root (262144 * c.args.supers) c.args.budget)

pub returns-clause-fourth : goal.returns-clause-fourth
returns-clause-fourth c =
    let one = c.part-first.ensures.left ∙ ap (left_after (keeper_parcel 0)) c.requires.first in
    let two = c.part-second.ensures.left ∙ ap (left_after (keeper_parcel 1)) one in
    let three = c.part-third.ensures.left ∙ ap (left_after (keeper_parcel 2)) two in
    subst (λ (v : View). IsFirstView 3 v) (sym (c.part-fourth.ensures.given ∙ ap (given_after (keeper_parcel 3)) three))
    (fourth_root (262144 * c.args.supers) c.args.budget)

pub returns-clause-cells : goal.returns-clause-cells
returns-clause-cells c =
    let one = c.part-first.ensures.left ∙ ap (left_after (keeper_parcel 0)) c.requires.first in
    let two = c.part-second.ensures.left ∙ ap (left_after (keeper_parcel 1)) one in
    let three = c.part-third.ensures.left ∙ ap (left_after (keeper_parcel 2)) two in
    let four = c.part-fourth.ensures.left ∙ ap (left_after (keeper_parcel 3)) three in
    subst (λ (v : View). HostsKeeper 5 v × (list_of 5 v ≡ [])) (sym (c.part-cells.ensures.given ∙ ap (given_after (keeper_parcel 5)) four))
    (cells_part (262144 * c.args.supers) c.args.budget)

pub returns-clause-workers : goal.returns-clause-workers
returns-clause-workers c =
    let one = c.part-first.ensures.left ∙ ap (left_after (keeper_parcel 0)) c.requires.first in
    let two = c.part-second.ensures.left ∙ ap (left_after (keeper_parcel 1)) one in
    let three = c.part-third.ensures.left ∙ ap (left_after (keeper_parcel 2)) two in
    let four = c.part-fourth.ensures.left ∙ ap (left_after (keeper_parcel 3)) three in
    let five = c.part-cells.ensures.left ∙ ap (left_after (keeper_parcel 5)) four in
    subst (λ (v : View). HasAllStakes c.args.budget v) (sym (c.part_stakes-workers.ensures.given
    ∙ ap (given_after (stakes_parcel c.args.budget)) five)) (stakes_are_all (262144 * c.args.supers) c.args.budget)

pub returns-clause-pool : goal.returns-clause-pool
returns-clause-pool c =
    let one = c.part-first.ensures.left ∙ ap (left_after (keeper_parcel 0)) c.requires.first in
    let two = c.part-second.ensures.left ∙ ap (left_after (keeper_parcel 1)) one in
    let three = c.part-third.ensures.left ∙ ap (left_after (keeper_parcel 2)) two in
    let four = c.part-fourth.ensures.left ∙ ap (left_after (keeper_parcel 3)) three in
    let five = c.part-cells.ensures.left ∙ ap (left_after (keeper_parcel 5)) four in
    let six = c.part_stakes-workers.ensures.left ∙ ap (left_after (stakes_parcel c.args.budget)) five in
    subst (λ (v : View). CanOpen c.args.supers v) (sym six)
    (pool_opens c.args.supers (262144 * c.args.supers) c.args.budget refl c.requires.supers)

pub returns-clause-clean : goal.returns-clause-clean
returns-clause-clean c =
    let one = c.part-first.ensures.left ∙ ap (left_after (keeper_parcel 0)) c.requires.first in
    let two = c.part-second.ensures.left ∙ ap (left_after (keeper_parcel 1)) one in
    let three = c.part-third.ensures.left ∙ ap (left_after (keeper_parcel 2)) two in
    let four = c.part-fourth.ensures.left ∙ ap (left_after (keeper_parcel 3)) three in
    let five = c.part-cells.ensures.left ∙ ap (left_after (keeper_parcel 5)) four in
    let six = c.part_stakes-workers.ensures.left ∙ ap (left_after (stakes_parcel c.args.budget)) five in
    ap (λ (v : View). unclean_of v) six
