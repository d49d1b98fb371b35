-- What a new heap parts the first seat of its region into, and the seat with which its workers begin.
use Rattle.std.specs.Prelude.{◌≡◌, ℕ, ◌+◌, [], ◌∷◌, map}
use Rattle.pa_slot.specs.declared.title.Title.{Title}
use Rattle.pa_slot.specs.Holdings.{RawByte}
use Rattle.pa_region.specs.declared.marks.Mark.TheVariants.{Stake, Keeper}
use Rattle.pa_region.specs.declared.view.View.{View}
use Rattle.pa_region.specs.Views.{HasEveryStake, held_of_view, free_of, own_of, ref_of, seen_of}
use Rattle.pa_region.specs.Lists.{keeper_of, lease_of, list_of}
use Rattle.pa_region.specs.Takes.{log_of}
use Rattle.pa_region.specs.Hands.{Parcel, numbers_from}
use Rattle.pa_region.specs.Marks.{parcel_of}
use Rattle.pa_region.specs.Start.{stakes_from}
use Rattle.pa_region.specs.Waiting.{unclean_of}

-- a parcel of keeper k and nothing else
abbrev pub keeper_parcel : ℕ → Parcel
keeper_parcel k = parcel_of [] 0 (Keeper k ∷ [])

-- a parcel of the 16 stakes and this many counted steps, without titles
abbrev pub stakes_parcel : ℕ → Parcel
stakes_parcel budget = parcel_of [] budget (map Stake (numbers_from 0 16))

-- The view has every stake, each with an empty log, and this many counted steps, and nothing more: no title, no byte, no keeper and
-- no lease. It has seen no step, and nothing of any list.
pub record HasAllStakes (budget : ℕ) (v : View) : Type 0 where
  pub all : v.stakes ≡ stakes_from 0 16
  pub stakes : HasEveryStake v
  pub clean : unclean_of v ≡ 0
  pub logs : (k : ℕ) → log_of k v ≡ []
  pub budget_is : v.budget ≡ budget
  pub titles : (t : Title) → free_of v t + own_of v t + ref_of v t ≡ 0
  pub raws : (b : ℕ) → held_of_view v (RawByte b) ≡ 0
  pub keepers : (k : ℕ) → keeper_of v k ≡ 0
  pub leases : (n : ℕ) → lease_of v n ≡ 0
  pub seen : (t : Title) → seen_of v t ≡ 0
  pub lists : (k : ℕ) → list_of k v ≡ []
