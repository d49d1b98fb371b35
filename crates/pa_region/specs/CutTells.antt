-- What callers may cut, as laws: in a new region, beside what was cut before, and from the bytes of a title that was uncut.
use Rattle.std.specs.Prelude.{List, slice_index, slice_set, ◌⊎◌, ◌≡◌, ℕ, ◌+◌, ◌*◌, ◌%◌, ◌<◌, ◌≤◌}
use Rattle.pa_slot.specs.declared.title.Title.{Title}
use Rattle.pa_slot.specs.Titles.{Covers}
use Rattle.pa_region.specs.declared.view.View.{View}
use Rattle.pa_region.specs.Views.{low_of}
use Rattle.pa_region.specs.Cuts.{CanCut, after_cut, after_uncut}
use Rattle.pa_region.specs.Start.{first_view}

-- in a new region each title inside can be cut
abbrev pub FirstCanCut : Type 0
FirstCanCut =
    (words budget : ℕ) (t : Title) → t.start % 8 ≡ 0 → t.len % 8 ≡ 0 → 16 ≤ t.len → t.start + t.len ≤ 8 * words →
    CanCut t (first_view words budget)

-- A cut leaves what can be cut of other bytes. So a title that could be cut beside another one still can.
abbrev pub CutLeavesOthers : Type 0
CutLeavesOthers =
    ((t : Title) (v : View) (b n : ℕ) → (Covers t b → ⊥) → low_of (after_cut t v) b n ≡ low_of v b n) ×
    ((t u : Title) (v : View) → CanCut u v → (t.start + t.len ≤ u.start) ⊎ (u.start + u.len ≤ t.start) → CanCut u (after_cut t v))

-- From the bytes of a title that was uncut, titles that are born later can be cut, and from other bytes as before. So the
-- same range can be cut again.
abbrev pub UncutGivesBack : Type 0
UncutGivesBack =
    ((t : Title) (v : View) (b n : ℕ) → Covers t b → t.born < n → 0 < low_of (after_uncut t v) b n) ×
    ((t : Title) (v : View) (b n : ℕ) → (Covers t b → ⊥) → low_of (after_uncut t v) b n ≡ low_of v b n) ×
    ((t u : Title) (v : View) → u.start ≡ t.start → u.len ≡ t.len → t.born < u.born → u.start % 8 ≡ 0 → u.len % 8 ≡ 0 → 16 ≤ u.len →
    CanCut u (after_uncut t v))

-- a word that is 0 stays 0 if a count word is set to 0
abbrev pub CutsLeaveZero : Type 0
CutsLeaveZero = (words : List ℕ) (place word : ℕ) → slice_index words word ≡ 0 → slice_index (slice_set words place 0) word ≡ 0
