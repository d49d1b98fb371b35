-- The first seat's view.
use Rattle.std.specs.Prelude.{ℕ, zero, suc, ◌*◌, List, [], ◌∷◌}
use Rattle.pa_region.specs.declared.view.Stake.{Stake}
use Rattle.pa_region.specs.declared.view.Keeper.{Keeper}
use Rattle.pa_region.specs.declared.view.View.{View}
use Rattle.pa_region.specs.Moves.{no_deeds}

-- this many words, all 0
unfoldable pub blank : ℕ → List ℕ
blank zero = []
blank (suc count) = 0 ∷ blank count

-- `count` stakes from number `from` on, with empty logs
abbrev pub stakes_from : ℕ → ℕ → List Stake
stakes_from from zero = []
stakes_from from (suc count) = record { number = from; log = [] } ∷ stakes_from (suc from) count

-- `count` keepers from number `from` on, with empty lists
abbrev pub keepers_from : ℕ → ℕ → List Keeper
keepers_from from zero = []
keepers_from from (suc count) = record { number = from; entries = [] } ∷ keepers_from (suc from) count

-- the view of the first seat, in a region of this many words, which are 0: all bytes as raw with the floor 0, the whole
-- budget, every stake, every keeper and every lease
abbrev pub first_view : ℕ → ℕ → View
first_view words budget = record {
  raws = record { start = 0; len = 8 * words; floor = 0 } ∷ [];
  frees = [];
  uncut = [];
  owns = [];
  refs = [];
  words = blank words;
  budget = budget;
  stakes = stakes_from 0 16;
  since = no_deeds;
  keepers = keepers_from 0 6;
  leases = record { single = []; from = 0 ∷ [] };
  seen = [];
  seen_lists = [];
}
