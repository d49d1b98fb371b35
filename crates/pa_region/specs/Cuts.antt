-- Cutting a title out of raw bytes, and its reverse, the uncut: what they need of the stepping seat's view, and do to it.
use Rattle.std.specs.Prelude.{◌≡◌, ℕ, ◌+◌, ◌%◌, ◌<◌, ◌≤◌, ◌∷◌, true, slice_set}
use Rattle.pa_slot.specs.declared.title.Title.{Title}
use Rattle.pa_slot.specs.Titles.{Covers, count_place}
use Rattle.pa_region.specs.declared.view.RawRange.{RawRange}
use Rattle.pa_region.specs.declared.view.Entry.TheVariants.{Uncut}
use Rattle.pa_region.specs.declared.view.View.{View}
use Rattle.pa_region.specs.Views.{free_of, low_of, HasStake}
use Rattle.pa_region.specs.Moves.{without, is_title_of, noted, no_deeds}
use Rattle.pa_region.specs.Hands.{outside}

-- A seat with this view may cut the title: it consists of whole words, at least two, and each byte of it is raw in the view, with
-- a floor of at most its `born`.
pub record CanCut (t : Title) (v : View) : Type 0 where
  pub start_aligned : t.start % 8 ≡ 0
  pub len_aligned : t.len % 8 ≡ 0
  pub long : 16 ≤ t.len
  pub floors : (b : ℕ) → Covers t b → 0 < low_of v b t.born

-- the view with the title free in place of its raw bytes
abbrev pub titled : Title → View → View
titled t v = record v { raws = outside t.start (t.start + t.len) v.raws; frees = t ∷ v.frees }

-- the view after a cut: the title's count word is 0, and it is free
abbrev pub after_cut : Title → View → View
after_cut t v = record (titled t v) { words = slice_set v.words (count_place t) 0; since = record v.since { stored = true } }

-- a title's bytes as a raw range: only titles that are born later can be cut out of it
abbrev pub raw_again : Title → RawRange
raw_again t = record { start = t.start; len = t.len; floor = t.born + 1 }

-- the view after a free title was uncut: the entry in its log says so, and so does its own list
abbrev pub after_uncut : Title → View → View
after_uncut t v = record v {
  raws = raw_again t ∷ v.raws;
  frees = without (is_title_of t) v.frees;
  uncut = t ∷ v.uncut;
  stakes = noted (Uncut t) v.stakes;
  since = no_deeds;
}

-- a seat with this view may uncut the title: it holds it free, and has a stake
abbrev pub CanUncut : Title → View → Type 0
CanUncut t v = (0 < free_of v t) × HasStake v
