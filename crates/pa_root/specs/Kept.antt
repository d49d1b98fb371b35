-- What the type of a root keeps: the state that its seat and its journal have, and that the records and chains in the metadata pages and
-- in the free slots are those of this state's root.
use Rattle.std.specs.Prelude.{ℕ, List}
use Rattle.pa_region.specs.declared.view.View.{View}
use Rattle.pa_record.specs.declared.root.RootEntry.{RootEntry}
use Rattle.pa_record.specs.Root.{Root, new_root, root_replayed}
use Rattle.pa_shelf.specs.Shelves.{ShelfParts, ShowsRoot}
use Rattle.pa_root.specs.Reading.{pools_seen}
use Rattle.pa_root.specs.Keeping.{RootState, IsRootSound}
use Rattle.pa_root.specs.Laws.{HaveBatches}

-- the root that a journal replays to, with what the view has seen of the pool's entries
abbrev pub root_of : View → List RootEntry → Root
root_of v journal = root_replayed (pools_seen v) journal new_root

-- a root's state, from its seat's view and its journal
abbrev pub state_of : View → List RootEntry → RootState
state_of v journal = record { view = v; journal = journal; root = root_of v journal }

-- A root of partition p has this view of its seat, this journal and this shelf: its state is sound, each entry's batch has at most 16
-- slots, and the shelf shows with the view the root that the journal replays to.
pub record IsKept (p : ℕ) (v : View) (journal : List RootEntry) (l : ShelfParts) : Type 0 where
  pub sound : IsRootSound p (state_of v journal)
  pub batches : HaveBatches journal
  pub shown : ShowsRoot v l (root_of v journal)
