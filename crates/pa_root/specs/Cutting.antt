-- Titles that are cut side by side, and direct maps' titles.
use Rattle.std.specs.Prelude.{◌≡◌, ℕ, zero, suc, ◌+◌, ◌*◌, ◌%◌, ◌<◌, ◌≤◌, List, [], ◌∷◌, ◌++◌, Contains}
use Rattle.pa_slot.specs.declared.title.Title.{Title}
use Rattle.pa_layout.specs.Pages.{page_place, supers_for}
use Rattle.pa_region.specs.declared.view.View.{View}
use Rattle.pa_region.specs.Views.{low_of, seen_of}
use Rattle.pa_region.specs.Cuts.{CanCut}
use Rattle.pa_root.specs.Keeping.{IsInRun}
use Rattle.pa_root.specs.Filling.{CanCutAll, after_cuts}

-- the title with number n among those side by side from the first one on, which has number 0
abbrev pub title_beside : Title → ℕ → Title
title_beside first n = record { start = first.start + first.len * n; len = first.len; born = first.born }

-- `count` titles side by side with the first one, from number `from` on
abbrev pub titles_beside : Title → ℕ → ℕ → List Title
titles_beside first from zero = []
titles_beside first from (suc count) = title_beside first from ∷ titles_beside first (from + 1) count

-- the seat has seen no step on any of these titles
abbrev pub NoneSeen : View → List Title → Type 0
NoneSeen v ts = (t : Title) → Contains ts t → seen_of v t ≡ 0

-- Titles that can be cut can be cut in two parts, and the view is then the same. Cuts leave what was seen of each title.
pub record CutsGoOn : Type 0 where
  pub parts : (ts us : List Title) (v : View) → CanCutAll (ts ++ us) v → CanCutAll ts v × CanCutAll us (after_cuts ts v)
  pub view : (ts us : List Title) (v : View) → after_cuts (ts ++ us) v ≡ after_cuts us (after_cuts ts v)
  pub seen : (ts : List Title) (v : View) (t : Title) → seen_of (after_cuts ts v) t ≡ seen_of v t

-- the title of a direct map of this many bytes in the super pages from `first` on, which this entry of the pool took
abbrev pub map_beside : (first born len : ℕ) → Title
map_beside first born len = record { start = page_place first 1; len = len; born = born }

-- A title of a direct map can be cut out of super pages that are raw, with floors of at most its `born`.
abbrev pub MapsCanBeCut : Type 0
MapsCanBeCut =
    (first born len : ℕ) (v : View) → len % 8 ≡ 0 → 16 ≤ len → ((b : ℕ) → IsInRun first (supers_for len) b → 0 < low_of v b born) →
    CanCut (map_beside first born len) v
