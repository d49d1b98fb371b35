-- What contracts see of the root of a partition over a region, and what its type keeps.
use Rattle.std.specs.Prelude.{◌≡◌, ℕ, ◌+◌, ◌*◌, ◌<◌, ◌≤◌, ◌⊎◌, List, Some, Contains, map}
use Rattle.pa_slot.specs.declared.title.Title.{Title}
use Rattle.pa_slot.specs.declared.word.SlotName.{SlotName}
use Rattle.pa_slot.specs.Titles.{Covers}
use Rattle.pa_layout.specs.Pages.{page_place, supers_for}
use Rattle.pa_trace.specs.Limits.{most_partitions}
use Rattle.pa_region.specs.declared.view.Made.{Made}
use Rattle.pa_region.specs.declared.view.View.{View}
use Rattle.pa_region.specs.Views.{free_of, own_of, ref_of, low_of, undone_of, seen_of}
use Rattle.pa_region.specs.Lists.{list_of, lease_of}
use Rattle.pa_region.specs.Lending.{HostsKeeper}
use Rattle.pa_record.specs.declared.taken.SuperPage.{SuperPage}
use Rattle.pa_record.specs.declared.root.RootEntry.{RootEntry}
use Rattle.pa_record.specs.Numbers.{root_numbers}
use Rattle.pa_record.specs.Spans.{name_of}
use Rattle.pa_record.specs.Root.{Root, new_root, root_replayed, IsJournal, IsOut}
use Rattle.pa_record.specs.Sound.{IsMade, IsMapBy}
use Rattle.pa_legal.specs.Numbers.{moves_of, at_end, IsNumbered}
use Rattle.pa_pool.specs.Calls.{HasSeenTake}
use Rattle.pa_root.specs.Reading.{pools_seen}

-- The root of a partition, as contracts see it: the view of its seat, its journal, and what it has:
-- super pages, spans and direct maps.
pub record RootState : Type 0 where
  pub view : View
  pub journal : List RootEntry
  pub root : Root

-- The journal of partition p. Its seat has keeper p, and that list is the journal as numbers. The seat can be lent a stake. The
-- journal is one of a root, with what the seat has seen of the pool's entries, and the root is what it replays to.
pub record HasJournal (p : ℕ) (s : RootState) : Type 0 where
  pub partition : p < most_partitions
  pub hosts : HostsKeeper p s.view
  pub listed : map (λ (m : Made). m.numbers) (list_of p s.view) ≡ map root_numbers s.journal
  pub fits : IsJournal (pools_seen s.view) s.journal
  pub replayed : s.root ≡ root_replayed (pools_seen s.view) s.journal new_root

-- What is known of slots. The seat holds free what was made and is with the root: each slot that was made is free here or out of the
-- root, and what is free here was made and isn't out. It has no handle and no budget.
pub record HoldsMade (s : RootState) : Type 0 where
  pub has : (t : Title) → IsMade s.root t → (0 < free_of s.view t) ⊎ IsOut s.root (name_of t)
  pub made : (t : Title) → 0 < free_of s.view t → IsMade s.root t
  pub with_root : (t : Title) → 0 < free_of s.view t → IsOut s.root (name_of t) → ⊥
  pub unused : (t : Title) → own_of s.view t + ref_of s.view t ≡ 0
  pub budget : s.view.budget ≡ 0

-- What is known of numbers. By its journal the root gives each slot out at the number at which it has it, which is 0 at first. Of
-- each title that its seat holds free, this is the number that the seat has seen.
pub record KnowsNumbers (s : RootState) : Type 0 where
  pub numbered : (name : SlotName) → IsNumbered (Some 0) (moves_of s.journal name)
  pub known : (t : Title) → 0 < free_of s.view t → at_end (Some 0) (moves_of s.journal (name_of t)) ≡ Some (seen_of s.view t)

-- the byte b lies in the `count` super pages from `first` on
abbrev pub IsInRun : ℕ → ℕ → ℕ → Type 0
IsInRun first count b = (2097152 * first ≤ b) × (b < 2097152 * (first + count))

-- a slot of the super page that this entry of the pool took was made, and has the byte b
abbrev pub IsInMade : Root → ℕ → ℕ → Type 0
IsInMade r born b = (t : Title) × IsMade r t × (t.born ≡ born) × Covers t b

-- byte b is in the super page that entry j of the pool took for the root, and in no slot that was made of it
abbrev pub IsInSuperRest : Root → ℕ → ℕ → Type 0
IsInSuperRest r j b = (at : SuperPage) × Contains r.supers at × (at.born ≡ j) × IsInRun at.number 1 b × (IsInMade r j b → ⊥)

-- byte b is in the super pages of the direct map that entry j of the pool took for the root, and not in its slot
abbrev pub IsInMapRest : Root → ℕ → ℕ → Type 0
IsInMapRest r j b =
    (t : Title) × (first : ℕ) × Contains r.maps t × (t.born ≡ j) × (t.start ≡ page_place first 1) × IsInRun first (supers_for t.len) b
    × (Covers t b → ⊥)

-- byte b is one of the rest of what entry j of the pool took for the root, for slots or for a direct map
abbrev pub IsInRest : Root → ℕ → ℕ → Type 0
IsInRest r j b = IsInSuperRest r j b ⊎ IsInMapRest r j b

-- What is known of the other bytes. Each byte of the rest is raw, with a floor of at most the index of the entry of the pool that
-- took it, and it is in the rest of one such entry alone.
pub record HasRest (s : RootState) : Type 0 where
  pub raw : (j b : ℕ) → IsInRest s.root j b → 0 < low_of s.view b j
  pub one : (j k b : ℕ) → IsInRest s.root j b → IsInRest s.root k b → j ≡ k

-- the root's seat has the leases of what the root has: of each super page, and of each direct map
pub record KeepsLeases (s : RootState) : Type 0 where
  pub supers : (at : SuperPage) → Contains s.root.supers at → 0 < lease_of s.view at.born
  pub maps : (t : Title) → Contains s.root.maps t → 0 < lease_of s.view t.born

-- What is known of direct maps. Each that the journal made is mapped, or the seat uncut it. And of each that is mapped
-- the seat has seen the take of the pool, for this partition, that found its super pages.
pub record KnowsMaps (p : ℕ) (s : RootState) : Type 0 where
  pub mapped : (t : Title) → IsMapBy s.journal t → Contains s.root.maps t ⊎ (0 < undone_of s.view t)
  pub taken : (t : Title) → Contains s.root.maps t →
      (first : ℕ) × (t.start ≡ page_place first 1) × HasSeenTake p t.born first (supers_for t.len) s.view

-- What the type of the root of partition p keeps.
--   journal: its journal is its keeper's list, and replays to the root
--   titles: its seat holds free what was made and isn't out
--   numbers: it holds each at the number that the journal says
--   rest: all other bytes of its super pages are raw
--   leases: it has the lease of each entry of the pool by which it has super pages
--   maps: each direct map that its journal made is mapped, or its seat uncut it, and its seat has seen the take of each mapped one
pub record IsRootSound (p : ℕ) (s : RootState) : Type 0 where
  pub journal : HasJournal p s
  pub titles : HoldsMade s
  pub numbers : KnowsNumbers s
  pub rest : HasRest s
  pub leases : KeepsLeases s
  pub maps : KnowsMaps p s
