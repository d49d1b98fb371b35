-- An entry in a keeper's list: how it changes the stepping seat's view.
use Rattle.std.specs.Prelude.{ℕ, ◌<◌, List, [], ◌∷◌, ◌++◌, Bool, ◌==◌}
use Rattle.pa_region.specs.declared.view.Entry.TheVariants.{Entered}
use Rattle.pa_region.specs.declared.view.Keeper.{Keeper}
use Rattle.pa_region.specs.declared.view.Made.{Made}
use Rattle.pa_region.specs.declared.view.View.{View}
use Rattle.pa_region.specs.Views.{least_stake, HasStake}
use Rattle.pa_region.specs.Moves.{changed, noted, no_deeds}
use Rattle.pa_region.specs.Lists.{keeper_of, list_of}

-- the entry with these numbers: it is made with the least stake, and carries what the view has seen
abbrev pub new_entry : List ℕ → View → Made
new_entry numbers v = record { stake = least_stake v.stakes; numbers = numbers; seen = v.seen }

-- a keeper's list with one more entry, at its end
abbrev pub with_made : Made → Keeper → Keeper
with_made m q = record q { entries = q.entries ++ m ∷ [] }

-- the keeper has number k
abbrev pub is_keeper : ℕ → Keeper → Bool
is_keeper k q = q.number == k

-- The view after the entry, which is now at the end of the list of keeper k, in the log of the least stake,
-- and in what the view has seen of the list
abbrev pub after_enter : ℕ → List ℕ → View → View
after_enter k numbers v = record v {
  stakes = noted (Entered k (new_entry numbers v)) v.stakes;
  since = no_deeds;
  keepers = changed (is_keeper k) (with_made (new_entry numbers v)) v.keepers;
  seen_lists = record { keeper = k; entries = list_of k v ++ new_entry numbers v ∷ [] } ∷ v.seen_lists;
}

-- a seat with this view may append to that list: it has the keeper and a stake
abbrev pub CanEnter : ℕ → View → Type 0
CanEnter k v = (0 < keeper_of v k) × HasStake v
