use Rattle.std.proofs.Common.{◌≡◌, ℕ, ◌<◌, [], ◌∷◌, sym, ◌∙◌, ap, subst, arith, inl, inr}
use Rattle.pa_region.specs.declared.marks.Mark.TheVariants.{Keeper}
use Rattle.pa_region.specs.declared.view.View.{View}
use Rattle.pa_region.specs.Views.{stake_of}
use Rattle.pa_region.specs.Hands.{IsParted, left_after}
use Rattle.pa_region.specs.Marks.{parcel_of}
use Rattle.pa_region.specs.Start.{first_view}
use Rattle.pa_region.specs.Lending.{CanLend, Keeps}
use Rattle.pa_region.proofs.FirstLists.{stake_count}
use Rattle.pa_test_region.proofs.lending.a_lent_stake_makes_entries.Goals as goal

-- the seat that handed the pool's keeper over has every stake, and so has who keeps that and takes something in
every_stake : (l s n f : View) → l ≡ left_after (parcel_of [] 0 (Keeper 4 ∷ [])) (first_view 262144 16) → Keeps l s → IsParted f s n →
    (k : ℕ) → k < 16 → 0 < stake_of f k
every_stake l s n f is keeps parted k below =
    let p = parted.stakes k in
    let c = keeps.stakes k in
    let first : stake_of l k ≡ stake_of (first_view 262144 16) k = ap (λ (v : View). stake_of v k) is in
    elim (stake_count 0 16 k) [
      | inl y ↦ let z = y.2 in omega arith
      | inr m ↦ absurd (m.0 (omega arith, omega arith))
    ]

pub two_entries-requires-clause-lender : goal.two_entries-requires-clause-lender
two_entries-requires-clause-lender g c =
    subst (λ (v : View). CanLend v)
    (sym (c.hand-keeper.ensures.left ∙ ap (λ (v : View). left_after (parcel_of [] 0 (Keeper 4 ∷ [])) v) c.in_ok-region.ensures.view))
    (omega arith, omega arith)

pub close-closed-requires-clause-stakes : goal.close-closed-requires-clause-stakes
close-closed-requires-clause-stakes g c =
    every_stake c.hand-keeper.new.seat.view c.two_entries.new.lender.view c.note-note.result.view c.take.new.seat.view
    (c.hand-keeper.ensures.left ∙ ap (λ (v : View). left_after (parcel_of [] 0 (Keeper 4 ∷ [])) v) c.in_ok-region.ensures.view)
    c.two_entries.ensures.lender c.take.ensures.parted

pub list_and_log_meet-requires : goal.list_and_log_meet-requires
list_and_log_meet-requires g c =
    every_stake c.hand-keeper.new.seat.view c.two_entries.new.lender.view c.note-note.result.view c.take.new.seat.view
    (c.hand-keeper.ensures.left ∙ ap (λ (v : View). left_after (parcel_of [] 0 (Keeper 4 ∷ [])) v) c.in_ok-region.ensures.view)
    c.two_entries.ensures.lender c.take.ensures.parted 0 (omega arith)

pub stake-requires : goal.stake-requires
stake-requires g c = c.two_entries.ensures.able.0.0
