-- How a load changes the stepping seat's view, what it requires of it, and what its value is.
use Rattle.std.specs.Prelude.{◌≡◌, ℕ, ◌*◌, ◌/◌, ◌%◌, ◌<◌, ◌⊎◌, Bool, false, ◌&&◌, nat_lt, Some, slice_index}
use Rattle.std.specs.List.{sum_by}
use Rattle.pa_slot.specs.declared.title.Title.{Title}
use Rattle.pa_slot.specs.Count.{held_of}
use Rattle.pa_slot.specs.Run.{IsFree}
use Rattle.pa_slot.specs.Titles.{same_title, Covers, content_count, content_place, content_at, poison}
use Rattle.pa_slot.specs.Holdings.{one}
use Rattle.pa_region.specs.declared.view.OwnTitle.{OwnTitle}
use Rattle.pa_region.specs.declared.view.Entry.TheVariants.{Looked, Read}
use Rattle.pa_region.specs.declared.view.View.{View}
use Rattle.pa_region.specs.Views.{free_of, own_of, HasStake}
use Rattle.pa_region.specs.Moves.{noted, no_deeds, after_look, IsFound}
use Rattle.pa_region.specs.Stores.{HasRawWord}
use Rattle.pa_region.specs.Pairs.{last_entry, least_log}
use Rattle.pa_region.specs.Waiting.{is_unclean}
use Rattle.pa_region.specs.Shares.{IsUser, count_offset}

-- whether a view has the title's Own
abbrev pub has_own : View → Title → Bool
has_own v t = nat_lt 0 (own_of v t)

-- whether a view has the title's Own in another state than clean
abbrev pub has_unclean : View → Title → Bool
has_unclean v t = nat_lt 0 (sum_by (λ (o : OwnTitle). one (same_title o.title t && is_unclean o.state)) v.owns)

-- the view after a read of the title's content word number `place`, which gave this value: the entry in its log
abbrev pub after_read : Title → ℕ → ℕ → View → View
after_read t place value v = record v {
  stakes = noted (Read t place value v.since (has_own v t) (has_unclean v t)) v.stakes;
  since = no_deeds;
}

-- the offset of a content word, in bytes
abbrev pub content_offset : Title → ℕ → ℕ
content_offset t place = 8 * content_place t place

-- the word at the byte offset is raw in the view, or a word of a title that it holds free
abbrev pub IsPlain : View → ℕ → Type 0
IsPlain v at_byte = HasRawWord v at_byte ⊎ ((t : Title) × (0 < free_of v t) × Covers t at_byte)

-- a seat with this view may load the word at the offset: a plain word, or with a stake a word of a title that it has a handle of
abbrev pub CanLoad : ℕ → View → Type 0
CanLoad at_byte v = (at_byte % 8 ≡ 0) × (IsPlain v at_byte ⊎ ((t : Title) × Covers t at_byte × IsUser t v × HasStake v))

-- What a read returns: through an Own the word that the view knows. And poison, if a look right before it found the
-- bit 0 and nothing was handed over since.
abbrev pub ReadTells : Title → ℕ → View → ℕ → Type 0
ReadTells t place v value =
    (0 < own_of v t → value ≡ content_at v.words t place) ×
    ((found : ℕ) → last_entry (least_log v.stakes) ≡ Some (Looked t found) → held_of found ≡ 0 → v.since.handed ≡ false → value ≡ poison)

-- What a load returns. A plain word is the one that the view knows, and the view stays as it is. The count word of a title that it
-- holds free is a free one. The load of a count word of a handle is a look, and of a content word a read.
pub record LoadTells (at_byte : ℕ) (v : View) (word : ℕ) (after : View) : Type 0 where
  pub plain : IsPlain v at_byte → (after ≡ v) × (word ≡ slice_index v.words (at_byte / 8))
  pub free : (t : Title) → at_byte ≡ count_offset t → 0 < free_of v t → IsFree word × IsFound t word v
  pub look : (t : Title) → at_byte ≡ count_offset t → IsUser t v → (after ≡ after_look t word v) × IsFound t word v
  pub read : (t : Title) (place : ℕ) → at_byte ≡ content_offset t place → place < content_count t → IsUser t v →
      (after ≡ after_read t place word v) × ReadTells t place v word
