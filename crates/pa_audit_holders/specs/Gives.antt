-- Slots that go back to a root, and the entries of a line that say so.
use Rattle.std.specs.Prelude.{◌≡◌, ℕ, ◌+◌, ◌<◌, ◌≤◌, List, ◌++◌, length, drop, Option, Some, None}
use Rattle.pa_buckets.specs.Limits.{class_count}
use Rattle.pa_record.specs.declared.numbered.Numbered.{Numbered}
use Rattle.pa_record.specs.declared.root.RootAct.{RootAct}
use Rattle.pa_rules.specs.Roots.{Journals}
use Rattle.pa_rules.specs.Caches.{Cache, acts_of, all_listed, gives, listed_slots, purge_acts}

-- Of the entries from one index on, those up to another index give back these slots, or no first part of them does.
abbrev pub TellsGives : List RootAct → ℕ → List Numbered → Option ℕ → Type 0
TellsGives acts at xs (Some end) = (drop at acts ≡ gives xs ++ drop end acts) × (end ≤ length acts)
TellsGives acts at xs None = (rest : List RootAct) → drop at acts ≡ gives xs ++ rest → ⊥

-- what a purge does in a partition whose lists these are
unfoldable pub whole_purge : (ℕ → List Numbered) → List RootAct
whole_purge lists = purge_acts lists 0 class_count

-- how many slots a thread's lists of one partition have, of all classes
unfoldable pub whole_count : (ℕ → List Numbered) → ℕ
whole_count lists = listed_slots lists 0 class_count

-- A line's entries purge the partition whose lists these are, and that many slots are left to be counted. With none, the entries don't
-- purge it, or the lists have more slots than there are to count.
abbrev pub TellsPurge : List RootAct → (ℕ → List Numbered) → ℕ → Option ℕ → Type 0
TellsPurge acts lists slots (Some left) = (acts ≡ whole_purge lists) × (slots ≡ whole_count lists + left)
TellsPurge acts lists slots None = acts ≡ whole_purge lists → whole_count lists ≤ slots → ⊥

-- a line's entries purge all partitions, whose lists have that many slots
abbrev pub PurgesAll : ℕ → Journals → ℕ → ℕ → Cache → Type 0
PurgesAll partitions roots line slots cache =
    ((p : ℕ) → p < partitions → acts_of roots line p ≡ whole_purge (cache p)) × (slots ≡ all_listed cache 0 partitions)
