use Rattle.std.proofs.Common.{◌<◌, [], ◌∷◌, sym, ◌∙◌, subst}
use Rattle.std.specs.Prelude.{All}
use Rattle.std.proofs.lemmas.List.Elements.{All-nil, All-cons}
use Rattle.pa_slot.specs.declared.title.Title.{Title}
use Rattle.pa_region.specs.declared.view.View.{View}
use Rattle.pa_region.specs.Views.{free_of}
use Rattle.pa_lists.proofs.Members.{first_in, later_in}
use Rattle.pa_root.specs.Filling.{after_cuts}
use Rattle.pa_root.proofs.Batches.{free_cut}
use Rattle.pa_test_root.proofs.root.two_slots_stand_side_by_side.Goals as goal

-- both slots of a row of two are free
both_free : (a b : Title) (v : View) → All (λ t. 0 < free_of (after_cuts (a ∷ b ∷ []) v) t) (a ∷ b ∷ [])
both_free a b v =
    let P : Title → Type 0 = λ t. 0 < free_of (after_cuts (a ∷ b ∷ []) v) t in
    All-cons P a (b ∷ []) (free_cut (a ∷ b ∷ []) v a (first_in a (b ∷ [])))
    (All-cons P b [] (free_cut (a ∷ b ∷ []) v b (later_in a b (b ∷ []) (first_in b []))) (All-nil P))

pub numbers_seen-batch-requires-clause-free : goal.numbers_seen-batch-requires-clause-free
numbers_seen-batch-requires-clause-free g c =
    let a : Title = record { start = 16384; len = 32; born = 0 } in
    let b : Title = record { start = 16416; len = 32; born = 0 } in
    subst (λ (v : View). All (λ t. 0 < free_of v t) (a ∷ b ∷ [])) (sym (c.number_seen.ensures.view ∙ c.cut_beside.ensures.view))
    (both_free a b c.in_ok-region.seat.view)
