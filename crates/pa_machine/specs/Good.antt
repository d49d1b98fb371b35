-- When the core is good, said of its words and of what all actors together hold.
use Rattle.std.specs.Prelude.{◌≡◌, ℕ, ◌*◌, ◌<◌, ◌≤◌, ◌⊎◌, List, length}
use Rattle.pa_slot.specs.declared.title.Title.{Title}
use Rattle.pa_slot.specs.declared.title.OwnState.{OwnState}
use Rattle.pa_slot.specs.declared.title.OwnState.TheVariants.{Clean, Poisoned}
use Rattle.pa_slot.specs.Count.{held_of, refs_of}
use Rattle.pa_slot.specs.Run.{IsFree, IsQuarantined}
use Rattle.pa_slot.specs.Titles.{Covers, IsWellFormed, count_word, content_count, HasContentFrom, IsUniform, IsPoisonedTo}
use Rattle.pa_slot.specs.Holdings.{Thing, RawByte, FreeTitle, OwnOf, OwnAs, SealedOwn, RefOf, IsTitleHeld}

-- the byte is a raw byte of exactly one actor and in no held title, or it is nobody's raw byte and in a held title
abbrev pub IsByteGood : (Thing → ℕ) → ℕ → Type 0
IsByteGood total b =
    ((total (RawByte b) ≡ 1) × ((t : Title) → IsTitleHeld total t → Covers t b → ⊥))
    ⊎ ((total (RawByte b) ≡ 0) × ((t : Title) × IsTitleHeld total t × Covers t b))

-- Part 1, of the number of words: each byte of the region is raw once or in one held title, and nothing lies outside. The
-- held titles are well formed, and two that share a byte are one.
pub record IsDivided (words : ℕ) (total : Thing → ℕ) : Type 0 where
  pub bytes : (b : ℕ) → b < 8 * words → IsByteGood total b
  pub outside : (b : ℕ) → 8 * words ≤ b → total (RawByte b) ≡ 0
  pub well : (t : Title) → IsTitleHeld total t → IsWellFormed words t
  pub apart : (t u : Title) (b : ℕ) → IsTitleHeld total t → IsTitleHeld total u → Covers t b → Covers u b → t ≡ u

-- Part 2, of one held title with the count word w: its bit and its count are the numbers of Own and Ref handles over
-- all actors. Exactly one actor holds it free if both are 0, and none does otherwise.
pub record IsCounted (w : ℕ) (total : Thing → ℕ) (t : Title) : Type 0 where
  pub owns : held_of w ≡ total (OwnOf t)
  pub refs : refs_of w ≡ total (RefOf t)
  pub free : IsFree w → total (FreeTitle t) ≡ 1
  pub taken : (IsFree w → ⊥) → total (FreeTitle t) ≡ 0

-- Part 3, of one held title: an Own that is poisoned in its first words has poison in them, and if there is a
-- Ref and no Own, every content word is poison
pub record IsPoisonKept (words : List ℕ) (total : Thing → ℕ) (t : Title) : Type 0 where
  pub progress : (j : ℕ) → 0 < total (OwnAs t (Poisoned j)) → (j ≤ content_count t) × IsPoisonedTo words t j
  pub quarantine : IsQuarantined (count_word words t) → IsPoisonedTo words t (content_count t)

-- Part 4, of one held title: the content words of a clean Own are all equal. While there are Refs an Own is clean, or
-- it is poisoned in its first words and the others are all equal.
pub record IsContentKept (words : List ℕ) (total : Thing → ℕ) (t : Title) : Type 0 where
  pub clean : 0 < total (OwnAs t Clean) → IsUniform words t
  pub shared : (state : OwnState) → 0 < refs_of (count_word words t) → 0 < total (OwnAs t state) →
      (state ≡ Clean) ⊎ ((j : ℕ) × (state ≡ Poisoned j) × (value : ℕ) × HasContentFrom words t j value)

-- Part 5, of one held title: no Ref points to a title whose Own is sealed
abbrev pub IsSealKept : List ℕ → (Thing → ℕ) → Title → Type 0
IsSealKept words total t = 0 < total (SealedOwn t) → refs_of (count_word words t) ≡ 0

-- the core is good: all five parts hold
pub record IsGood (words : List ℕ) (total : Thing → ℕ) : Type 0 where
  pub divided : IsDivided (length words) total
  pub counted : (t : Title) → IsTitleHeld total t → IsCounted (count_word words t) total t
  pub poison_kept : (t : Title) → IsTitleHeld total t → IsPoisonKept words total t
  pub content_kept : (t : Title) → IsTitleHeld total t → IsContentKept words total t
  pub seal_kept : (t : Title) → IsTitleHeld total t → IsSealKept words total t
