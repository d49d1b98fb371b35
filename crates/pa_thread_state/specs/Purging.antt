-- A purge of one partition: its lists go back whole, and then its root is purged.
use Rattle.std.specs.Prelude.{◌≡◌, ℕ, ◌-◌, ◌==◌, ◌&&◌, ◌++◌, List, [], nat_lt, if◌then◌else◌}
use Rattle.pa_slot.specs.declared.title.Title.{Title}
use Rattle.pa_buckets.specs.Limits.{class_count, first_class, past_class}
use Rattle.pa_record.specs.declared.root.RootAct.{RootAct}
use Rattle.pa_rules.specs.Caches.{purge_acts, listed_slots}
use Rattle.pa_rules.specs.Sizes.{class_total}
use Rattle.pa_op_specs.specs.Stocks.{StockValue, titles_in, listed_in}
use Rattle.pa_thread_state.specs.Giving.{Gives}

-- the lists without those of partition p
abbrev pub without_lists : ℕ → (ℕ → ℕ → List Title) → ℕ → ℕ → List Title
without_lists p lists q c = if q == p then [] else lists q c

-- All lists of partition p went back, this many slots in all, and its root was purged.
abbrev pub PurgesRoot : (line p slots : ℕ) (before after : StockValue) → Type 0
PurgesRoot line p slots before after =
    (slots ≡ listed_slots (listed_in before p) 0 class_count)
    × Gives line p (purge_acts (listed_in before p) 0 class_count) (without_lists p (titles_in before.caches)) before after

-- partition p has no title in any list
abbrev pub IsCleared : ℕ → StockValue → Type 0
IsCleared p s = (class : ℕ) → titles_in s.caches p class ≡ []

-- the lists without those of partition p and of the classes before `classes`
abbrev pub without_classes : ℕ → ℕ → (ℕ → ℕ → List Title) → ℕ → ℕ → List Title
without_classes p classes lists q c = if (q == p) && nat_lt c classes then [] else lists q c

-- The lists of the classes before `classes` of partition p went back, and the acts so far are the first of those of the whole purge.
pub record GivesLists (line p classes : ℕ) (before after : StockValue) : Type 0 where
  pub acts : List RootAct
  pub given : Gives line p acts (without_classes p classes (titles_in before.caches)) before after
  pub rest :
      acts ++ purge_acts (listed_in before p) classes (past_class before.caches.version - classes)
      ≡ purge_acts (listed_in before p) (first_class before.caches.version) (class_total before.caches.version)
