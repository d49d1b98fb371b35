-- What a root has is its own: each of its super pages and direct maps is the run that its entry of the pool took,
-- and a slot lies in the super page of the entry that it names.
use Rattle.std.specs.Prelude.{◌≡◌, ℕ, List, Contains}
use Rattle.pa_slot.specs.declared.title.Title.{Title}
use Rattle.pa_layout.specs.Pages.{page_place, supers_for}
use Rattle.pa_record.specs.declared.taken.SuperPage.{SuperPage}
use Rattle.pa_record.specs.declared.pool.PoolEntry.{PoolEntry}
use Rattle.pa_record.specs.declared.root.RootEntry.{RootEntry}
use Rattle.pa_record.specs.declared.root.RootAct.{RootAct}
use Rattle.pa_record.specs.Pool.{FoundRun}
use Rattle.pa_record.specs.Root.{Root, new_root, root_next, root_replayed, RootActFits, IsJournal, asked_by}
use Rattle.pa_record.specs.Sound.{IsSound, IsBornBelow, AsksFrom, IsMade, IsInOwn}

-- the direct map starts right after the first partition page of the super pages that its entry of the pool took
abbrev pub IsMapTaken : List PoolEntry → Title → Type 0
IsMapTaken pools t = (first : ℕ) × FoundRun pools t.born (supers_for t.len) first × (t.start ≡ page_place first 1)

-- each super page and each direct map of the root is the run that its entry of the pool took
pub record IsTakenBy (pools : List PoolEntry) (r : Root) : Type 0 where
  pub supers : (at : SuperPage) → Contains r.supers at → FoundRun pools at.born 1 at.number
  pub maps : (t : Title) → Contains r.maps t → IsMapTaken pools t

-- Each entry that fits keeps all super pages and direct maps of the root the runs that the pool's entries took, so a journal
-- does. A slot that was made of such a root lies in the super page of its own entry.
pub record RootsAreTaken : Type 0 where
  pub next : (pools : List PoolEntry) (act : RootAct) (n : ℕ) (r : Root) → IsSound r → IsBornBelow n r → AsksFrom n (asked_by act) →
      RootActFits pools act r → IsTakenBy pools r → IsTakenBy pools (root_next pools act r)
  pub journal : (pools : List PoolEntry) (journal : List RootEntry) → IsJournal pools journal →
      IsTakenBy pools (root_replayed pools journal new_root)
  pub own : (pools : List PoolEntry) (r : Root) (t : Title) → IsSound r → IsTakenBy pools r → IsMade r t → IsInOwn pools t
