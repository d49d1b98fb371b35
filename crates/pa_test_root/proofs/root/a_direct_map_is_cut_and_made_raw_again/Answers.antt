use Rattle.std.proofs.Common.{◌≡◌, ◌<◌, List, [], ◌∷◌, refl, sym, ◌∙◌, ap, subst, arith}
use Rattle.pa_slot.specs.declared.title.Title.{Title}
use Rattle.pa_region.specs.declared.view.Stake.{Stake}
use Rattle.pa_region.specs.declared.view.View.{View}
use Rattle.pa_region.specs.Views.{least_stake, HasStake}
use Rattle.pa_region.specs.Waiting.{unclean_of}
use Rattle.pa_region.specs.Cuts.{after_cut}
use Rattle.pa_region.specs.Hands.{left_after}
use Rattle.pa_region.specs.Start.{first_view}
use Rattle.pa_root.specs.Filling.{frees_parcel}
use Rattle.pa_root.proofs.Showing.{all_stakes}
use Rattle.pa_test_root.proofs.root.a_direct_map_is_cut_and_made_raw_again.Goals as goal

-- who handed a free title over still has its stakes
still_lends : (t : Title) (v : View) → HasStake v → unclean_of v ≡ 0 → HasStake (left_after (frees_parcel (t ∷ [])) (after_cut t v))
    × (unclean_of (left_after (frees_parcel (t ∷ [])) (after_cut t v)) ≡ 0)
still_lends t v has clean = (subst (λ (ss : List Stake). least_stake ss < 16) (sym (all_stakes v.stakes)) has, clean)

pub uncut_with-requires-clause-lender : goal.uncut_with-requires-clause-lender
uncut_with-requires-clause-lender g c =
    let t = c.cut_map-title.result in
    let cut = c.hand-note.ensures.left ∙ ap (λ (v : View). left_after (frees_parcel (t ∷ [])) v)
    (c.cut_map-title.ensures.view ∙ ap (after_cut t) c.in_ok-region.ensures.view) in
    subst (λ (v : View). HasStake v × (unclean_of v ≡ 0)) (sym cut) (still_lends t (first_view 262144 0) (omega arith) refl)
