-- How marks and items make a parcel, and which stakes a seat has.
use Rattle.std.specs.Prelude.{◌≡◌, ℕ, ◌<◌, List, [], ◌∷◌, ◌++◌, Bool, false, ◌==◌, nat_lt, slice_index_or}
use Rattle.std.specs.List.{list_any}
use Rattle.pa_machine.specs.declared.event.Item.{Item}
use Rattle.pa_region.specs.declared.marks.Mark.{Mark}
use Rattle.pa_region.specs.declared.marks.Mark.TheVariants.{Stake, Keeper, Lease}
use Rattle.pa_region.specs.declared.view.View.{View}
use Rattle.pa_region.specs.Views.{stake_of}
use Rattle.pa_region.specs.Hands.{Parcel}

-- the mark is the stake with this number
abbrev pub names_stake : ℕ → Mark → Bool
names_stake k (Stake number) = number == k
names_stake k (Keeper number) = false
names_stake k (Lease number) = false

-- the mark is the keeper with this number
abbrev pub names_keeper : ℕ → Mark → Bool
names_keeper k (Stake number) = false
names_keeper k (Keeper number) = number == k
names_keeper k (Lease number) = false

-- the stake with this number is among the marks
abbrev pub marked_stake : List Mark → ℕ → Bool
marked_stake marks k = list_any (names_stake k) marks

-- the keeper with this number is among the marks
abbrev pub marked_keeper : List Mark → ℕ → Bool
marked_keeper marks k = list_any (names_keeper k) marks

-- the number of the lease, if the mark is one
abbrev pub lease_of_mark : Mark → List ℕ
lease_of_mark (Stake number) = []
lease_of_mark (Keeper number) = []
lease_of_mark (Lease number) = number ∷ []

-- the leases among the marks, in their order
abbrev pub marked_leases : List Mark → List ℕ
marked_leases [] = []
marked_leases (m ∷ ms) = lease_of_mark m ++ marked_leases ms

-- a parcel of these items, this many counted steps, and what is marked
abbrev pub parcel_of : List Item → ℕ → List Mark → Parcel
parcel_of items budget marks = record {
  items = items;
  budget = budget;
  stakes = marked_stake marks;
  keepers = marked_keeper marks;
  leases = marked_leases marks;
}

-- for each of the 16 numbers, whether the view has that stake
abbrev pub AreStakes : List Bool → View → Type 0
AreStakes has v = (k : ℕ) → k < 16 → slice_index_or has k false ≡ nat_lt 0 (stake_of v k)
