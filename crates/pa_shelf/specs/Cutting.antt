-- The slots of a span that are cut before one is taken from it.
use Rattle.std.specs.Prelude.{◌≡◌, ℕ, ◌+◌, ◌-◌, ◌*◌, ◌<◌, ◌≤◌, List, [], ◌∷◌, Contains, slice_index}
use Rattle.pa_slot.specs.declared.title.Title.{Title}
use Rattle.pa_slot.specs.Titles.{Covers}
use Rattle.pa_slot.specs.Holdings.{RawByte}
use Rattle.pa_buckets.specs.Table.{slots_of}
use Rattle.pa_record.specs.declared.taken.SuperPage.{SuperPage}
use Rattle.pa_record.specs.Spans.{Span, title_at, more_slots}
use Rattle.pa_record.specs.Root.{Root}
use Rattle.pa_record.specs.Sound.{IsSound}
use Rattle.pa_region.specs.declared.view.View.{View}
use Rattle.pa_region.specs.Views.{free_of, held_of_view}
use Rattle.pa_region.specs.Aware.{IsAware}
use Rattle.pa_region.specs.Cuts.{CanCut, after_cut}
use Rattle.pa_records.specs.Words.{record_byte}
use Rattle.pa_meta.specs.Stores.{IsPayloadOf}
use Rattle.pa_shelf.specs.declared.cuts.NewSlots.{NewSlots}
use Rattle.pa_shelf.specs.Shelves.{ShelfParts, KeepsRecords, ShowsRoot}
use Rattle.pa_shelf.specs.Taking.{HasSlotAt, IsTakeAt}

-- How many slots are cut before one is taken from s. If its list is empty,
-- those that are provisioned then and were never made are cut, else none.
abbrev pub count_cut : List ℕ → Span → ℕ
count_cut [] s = more_slots s - s.made
count_cut (n ∷ rest) s = 0

-- the slots that are cut before one is taken from s, from the first one on that was never made
abbrev pub cut_before : Span → NewSlots
cut_before s = record { first = title_at s s.made; count = count_cut s.free s }

-- the title has no byte in common with a record of these super pages
abbrev pub IsBesideRecords : List SuperPage → Title → Type 0
IsBesideRecords supers t = (u b : ℕ) → IsPayloadOf supers u → Covers t b → record_byte u ≤ b → b < record_byte u + 32 → ⊥

-- A seat cut titles out of raw bytes beside the records of these super pages: it has these records as before, holds free what it held
-- free, has no byte raw that wasn't, and no word is another but those that were raw.
pub record AreCutOut (supers : List SuperPage) (v w : View) : Type 0 where
  pub records : KeepsRecords supers v w
  pub frees : (t : Title) → 0 < free_of v t → 0 < free_of w t
  pub words : (q : ℕ) → held_of_view v (RawByte (8 * q)) ≡ 0 → slice_index w.words q ≡ slice_index v.words q
  pub raws : (b : ℕ) → 0 < held_of_view w (RawByte b) → 0 < held_of_view v (RawByte b)

-- Cuts go on one by one, and slots of a root's spans lie beside the records. A root that is shown stays shown. And a slot can be taken
-- from a span once its new slots were cut, if those that were made before and aren't provisioned are held.
pub record CutsKeepShown : Type 0 where
  pub none : (supers : List SuperPage) (v : View) → AreCutOut supers v v
  pub more : (supers : List SuperPage) (v w : View) (t : Title) → AreCutOut supers v w → CanCut t w → IsBesideRecords supers t →
      AreCutOut supers v (after_cut t w)
  pub beside : (supers : List SuperPage) (r : Root) (s : Span) (n : ℕ) → IsSound r → Contains r.spans s → n < slots_of s.class →
      IsBesideRecords supers (title_at s n)
  pub shown : (v w : View) (l : ShelfParts) (r : Root) → IsAware v → IsSound r → ShowsRoot v l r → AreCutOut l.supers v w → ShowsRoot w l r
  pub able : (v w : View) (l : ShelfParts) (at : ℕ) (r : Root) (s : Span) → IsAware v → HasSlotAt v l at r s → AreCutOut l.supers v w →
      (s.free ≡ [] → (n : ℕ) → s.provisioned ≤ n → n < s.made → 0 < free_of v (title_at s n)) →
      (s.free ≡ [] → (n : ℕ) → s.made ≤ n → n < more_slots s → 0 < free_of w (title_at s n)) → IsTakeAt w l at r s
