-- What a fill and a direct map ensure of their root: its journal has one more entry, the one that was made for the caller.
use Rattle.std.specs.Prelude.{◌≡◌, ℕ, List, [], ◌∷◌, ◌++◌, Option}
use Rattle.pa_slot.specs.declared.title.Title.{Title}
use Rattle.pa_buckets.specs.Bands.{fill_of}
use Rattle.pa_region.specs.declared.view.View.{View}
use Rattle.pa_region.specs.Shares.{Share}
use Rattle.pa_record.specs.declared.root.RootAct.TheVariants as act
use Rattle.pa_record.specs.Spans.{name_of}
use Rattle.pa_root.specs.declared.fault.FillFault.{FillFault}
use Rattle.pa_root.specs.declared.fault.FillFault.TheVariants.{Full, OutOfMemory}
use Rattle.pa_root.specs.Keeping.{RootState}
use Rattle.pa_root.specs.Handing.{FillGives, MapGives, IsFullFor, numbered_by, root_entry}

-- A fill of a class gave these titles in a note, and the root's journal has the entry that names them.
pub record FillTells (r p line class : ℕ) (v after note : View) (titles : List Title) (s s_now : RootState) : Type 0 where
  pub gives : FillGives r p line class (fill_of class) v after note titles
  pub journal : s_now.journal ≡ s.journal ++ root_entry line (act.Fill class gives.asked (numbered_by note titles)) ∷ []

-- A direct map of this many bytes was made, the note has its title, and the root's journal has the entry that names it.
pub record MapTells (r p line len : ℕ) (v after note : View) (title : Title) (s s_now : RootState) : Type 0 where
  pub gives : MapGives r p line len v after note title
  pub journal : s_now.journal ≡ s.journal ++ root_entry line (act.Map title.born (name_of title) len) ∷ []

-- The pool had no such super pages, as entry j of the journal says. The root has what it had.
pub record FullTells (j r p line count : ℕ) (class : Option ℕ) (v after : View) (s s_now : RootState) : Type 0 where
  pub full : IsFullFor j r p line count class v after
  pub journal : s_now.journal ≡ s.journal ++ root_entry line (act.Full class full.asked) ∷ []
  pub same : s_now.root ≡ s.root

-- Why a fill or a direct map gave none. There is no room, as entry j of the journal says,
-- or it ran out of memory, and nothing changed.
abbrev pub NoneGiven : (r p line count : ℕ) → Option ℕ → (seat seat_now : Share) → (s s_now : RootState) → FillFault → Type 0
NoneGiven r p line count class a b s s_now (Full j) = FullTells j r p line count class a.view b.view s s_now
NoneGiven r p line count class a b s s_now OutOfMemory = (s_now ≡ s) × (b ≡ a)
