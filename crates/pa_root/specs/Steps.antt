-- The steps of a fill: the super page that a root opens for it, the slots that it cuts, and what it hands over.
use Rattle.std.specs.Prelude.{◌≡◌, ℕ, ◌≤◌, List, [], ◌∷◌, ◌++◌, length, Option, Some, None}
use Rattle.pa_slot.specs.declared.title.Title.{Title}
use Rattle.pa_region.specs.declared.view.Entry.TheVariants.{Entered}
use Rattle.pa_region.specs.declared.view.Made.{Made}
use Rattle.pa_region.specs.declared.view.View.{View}
use Rattle.pa_region.specs.Hands.{left_after, given_after}
use Rattle.pa_region.specs.Lending.{Keeps, Lends}
use Rattle.pa_region.specs.Lists.{list_of}
use Rattle.pa_region.specs.Aware.{IsAware}
use Rattle.pa_region.specs.Shares.{Share}
use Rattle.pa_record.specs.declared.numbered.Numbered.{Numbered}
use Rattle.pa_record.specs.declared.root.RootEntry.{RootEntry}
use Rattle.pa_record.specs.declared.root.RootAct.TheVariants as act
use Rattle.pa_record.specs.Numbers.{pool_numbers}
use Rattle.pa_record.specs.Pool.{FoundNone}
use Rattle.pa_record.specs.Root.{Root}
use Rattle.pa_pool.specs.Calls.{take_entry}
use Rattle.pa_shelf.specs.Shelves.{ShelfParts, ShowsRoot}
use Rattle.pa_root.specs.declared.fault.FillFault.{FillFault}
use Rattle.pa_root.specs.declared.fault.FillFault.TheVariants.{Full, OutOfMemory}
use Rattle.pa_root.specs.Reading.{pools_seen}
use Rattle.pa_root.specs.Keeping.{RootState}
use Rattle.pa_root.specs.Handing.{IsFullFor, numbered_by, root_entry}
use Rattle.pa_root.specs.Laws.{HasEntryMore}
use Rattle.pa_root.specs.Making.{IsEnteredAt}
use Rattle.pa_root.specs.Filling.{IsReadyFor, IsCutFor, ready_root, fill_taken, frees_parcel}

-- The pool was asked for `count` super pages and had none. Entry j of the journal says so and names the pool's entry, which comes
-- after those that the root's seat had seen. That seat had the view w and has `w_now`, and the journal was js.
pub record IsRefusedBy (j r p line count : ℕ) (class : Option ℕ) (v after w w_now : View) (js js_now : List RootEntry) : Type 0 where
  pub full : IsFullFor j r p line count class v after
  pub entered : HasEntryMore p (root_entry line (act.Full class full.asked)) w w_now
  pub journal : js_now ≡ js ++ root_entry line (act.Full class full.asked) ∷ []
  pub none : FoundNone (pools_seen w_now) full.asked count
  pub later : length (list_of 4 w) ≤ full.asked
  pub keeps : Keeps w w_now
  pub aware : IsAware w
  pub now_aware : IsAware w_now

-- Why the root got no super pages. None are free, as entry j of the journal says, or it ran out of memory, and nothing changed.
abbrev pub RefusesRoom :
    (r p line count : ℕ) → Option ℕ → (seat seat_now own own_now : Share) → (js js_now : List RootEntry) → FillFault → Type 0
RefusesRoom r p line count class a b w w_now js js_now (Full j) =
    IsRefusedBy j r p line count class a.view b.view w.view w_now.view js js_now
RefusesRoom r p line count class a b w w_now js js_now OutOfMemory = (b ≡ a) × (w_now ≡ w) × (js_now ≡ js)

-- a root's state, from its parts
abbrev pub root_of_parts : View → List RootEntry → Root → RootState
root_of_parts v journal r = record { view = v; journal = journal; root = r }

-- What the caller's seat knows once the pool was asked for a root that is to fill: the pool gave a super page by entry `index`,
-- which was made with the stake r.
pub record PoolGave (r p line index : ℕ) (v after : View) : Type 0 where
  pub first : ℕ
  pub made : Made
  pub is_made : IsEnteredAt index r 4 (pool_numbers (take_entry line p 1 (Some first))) v after made
  pub lends : Lends r (Entered 4 made ∷ []) v after

-- if the pool was asked, it gave a super page by its entry of that index, and if not, the caller's view is as it was
abbrev pub AskedIf : (r p line : ℕ) → Option ℕ → View → View → Type 0
AskedIf r p line None v after = after ≡ v
AskedIf r p line (Some index) v after = PoolGave r p line index v after

-- The root s is ready for a fill, with the super page that it asked for, if it had to: its seat has the view u, which shows it.
pub record IsOpenedFor (r p line class : ℕ) (asked : Option ℕ) (s : RootState) (v after u : View) (l : ShelfParts) : Type 0 where
  pub ready : IsReadyFor p class asked s u
  pub shown : ShowsRoot u l (ready_root asked s u)
  pub told : AskedIf r p line asked v after

-- A fill took its slots and cut those that are new. Then it handed all of them over, each at its number: the root's seat has
-- the view `left`, and the note the other.
pub record IsTakenOut (p class : ℕ) (asked : Option ℕ) (s : RootState) (u left note : View) (titles : List Title)
    (slots : List Numbered) (root : Root) : Type 0 where
  pub between : View
  pub new : List Title
  pub cut : IsCutFor p class asked s u between new
  pub titles_are : titles ≡ (fill_taken class asked s u).titles
  pub root_is : root ≡ (fill_taken class asked s u).root
  pub left_is : left ≡ left_after (frees_parcel titles) between
  pub note_is : note ≡ given_after (frees_parcel titles) between
  pub slots_are : slots ≡ numbered_by between titles
