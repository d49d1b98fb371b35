-- What contracts see of a region and of a seat, and what a step reports to its seat.
use Rattle.std.specs.Prelude.{◌≡◌, ℕ, ◌+◌, ◌-◌, ◌*◌, ◌<◌, ◌≤◌, length}
use Rattle.atomic_table.specs.Table.{Me}
use Rattle.atomic_table.specs.Seated.{TableId}
use Rattle.pa_slot.specs.declared.title.Title.{Title}
use Rattle.pa_slot.specs.declared.word.Step.{Step}
use Rattle.pa_slot.specs.declared.word.Step.TheVariants.{Issue, Copy, Reset, Free, Write}
use Rattle.pa_slot.specs.Count.{CanStep}
use Rattle.pa_slot.specs.Titles.{IsWellFormed, count_place}
use Rattle.pa_slot.specs.Holdings.{RawByte}
use Rattle.pa_layout.specs.Limits.{most_words}
use Rattle.pa_region.specs.declared.view.View.{View}
use Rattle.pa_region.specs.Views.{held_of_view, own_of, ref_of, HasTitle}
use Rattle.pa_region.specs.Moves.{IsFound, after_count, after_sealed, after_look}

-- a seat: its region and its view
pub record Share : Type 0 where
  pub region : TableId
  pub view : View

-- how many words the region has for bytes
abbrev pub byte_word_count : TableId → ℕ
byte_word_count region = region.words - 16

-- What a seat's type keeps. The region has at most 64 super pages. Each title and each raw byte that the view holds lies in it. The
-- view's list of words is as long as the region's.
pub record IsSeatSound (region : TableId) (v : View) : Type 0 where
  pub small : byte_word_count region ≤ most_words
  pub well : (t : Title) → HasTitle v t → IsWellFormed (byte_word_count region) t
  pub raw : (b : ℕ) → 0 < held_of_view v (RawByte b) → b < 8 * byte_word_count region
  pub long : length v.words ≡ byte_word_count region

-- what each step adds to the word
abbrev pub adds : Step → ℕ
adds Issue = 16777217
adds Copy = 16777218
adds Reset = 16777214
adds Free = 16777215
adds Write = 16777216

-- what a counted step reports: the view after it, and what was found
abbrev pub CountTells : {S : Type 0} → Step → Title → Me S View → ℕ → Me S View → Type 0
CountTells step t me word after =
    (after.0 ≡ after_count step t word me.0) × (after.1 ≡ me.1) × CanStep step word × IsFound t word me.0

-- what a sealed issue reports: the view after it, and what was found
abbrev pub SealedTells : {S : Type 0} → Title → Me S View → ℕ → Me S View → Type 0
SealedTells t me word after =
    (after.0 ≡ after_sealed t word me.0) × (after.1 ≡ me.1) × CanStep Issue word × IsFound t word me.0

-- the view has a handle of the title
abbrev pub IsUser : Title → View → Type 0
IsUser t v = 0 < own_of v t + ref_of v t

-- the offset of the title's count word, in bytes
abbrev pub count_offset : Title → ℕ
count_offset t = 8 * count_place t

-- A counted step was made and found this word. The seat is of the same region, and its view is the one after the step. The step was
-- enabled at the word, which is one that the view could find.
pub record IsStepMade (step : Step) (t : Title) (word : ℕ) (before after : Share) : Type 0 where
  pub region : after.region ≡ before.region
  pub view : after.view ≡ after_count step t word before.view
  pub enabled : CanStep step word
  pub found : IsFound t word before.view

-- An issue was made, found this word, and its Own is sealed. The seat is of the same region, and its view is the one after the step.
-- The step was enabled at the word, which is one that the view could find.
pub record IsSealedMade (t : Title) (word : ℕ) (before after : Share) : Type 0 where
  pub region : after.region ≡ before.region
  pub view : after.view ≡ after_sealed t word before.view
  pub enabled : CanStep Issue word
  pub found : IsFound t word before.view

-- a look was made and found this word
pub record IsLooked (t : Title) (word : ℕ) (before after : Share) : Type 0 where
  pub region : after.region ≡ before.region
  pub view : after.view ≡ after_look t word before.view
  pub found : IsFound t word before.view
