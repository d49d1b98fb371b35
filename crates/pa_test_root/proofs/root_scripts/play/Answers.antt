use Rattle.std.proofs.Common.{[], ap, sym, subst, refl, ◌∙◌, ◌*◌}
use Rattle.pa_region.specs.declared.view.View.{View}
use Rattle.pa_region.specs.Hands.{left_after, given_after}
use Rattle.pa_region.specs.Marks.{parcel_of}
use Rattle.pa_region.specs.Shares.{Share}
use Rattle.pa_pool.specs.Pools.{CanOpen}
use Rattle.pa_root.specs.Laws.{IsFirstView}
use Rattle.pa_test_root.proofs.RootParts.{root_parcel, root_part, pool_opens}
use Rattle.pa_test_root.proofs.RootNotes.{others, others_lend}
use Rattle.pa_test_root.proofs.root_scripts.play.Goals as goal

pub play_by-requires-clause-lender : goal.play_by-requires-clause-lender
play_by-requires-clause-lender g c =
    others_lend (262144 * c.args.supers) c.seat-seat.result.view c.hand.result.view c.in_ok-region.first.view
    (ap (λ (s : Share). s.view) c.seat-seat.ensures.same) c.hand.ensures.given c.in_ok-region.ensures.view

pub play_by-requires-clause-first : goal.play_by-requires-clause-first
play_by-requires-clause-first g c =
    let left = c.hand.ensures.left ∙ ap (left_after (parcel_of [] 0 others)) c.in_ok-region.ensures.view in
    subst (λ (v : View). IsFirstView 0 v) (sym (c.hand-root.ensures.given ∙ ap (given_after root_parcel) left))
    (root_part (262144 * c.args.supers))

pub play_by-requires-clause-able : goal.play_by-requires-clause-able
play_by-requires-clause-able g c =
    let left = c.hand.ensures.left ∙ ap (left_after (parcel_of [] 0 others)) c.in_ok-region.ensures.view in
    let rest = ap (λ (s : Share). s.view) c.note.ensures ∙ (c.hand-root.ensures.left ∙ ap (left_after root_parcel) left) in
    subst (λ (v : View). CanOpen c.args.supers v) (sym rest) (pool_opens c.args.supers (262144 * c.args.supers) refl c.requires.supers.1)
