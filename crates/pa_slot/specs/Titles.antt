-- Titles: where they lie, which words they have, and when two of them overlap.
use Rattle.std.specs.Prelude.{◌≡◌, ℕ, ◌+◌, ◌-◌, ◌*◌, ◌/◌, ◌%◌, ◌<◌, ◌≤◌, List, slice_index, Bool, true, false, ◌==◌, ◌&&◌}
use Rattle.pa_slot.specs.declared.title.Title.{Title}
use Rattle.pa_slot.specs.declared.title.OwnState.{OwnState}
use Rattle.pa_slot.specs.declared.title.OwnState.TheVariants.{Clean, Dirty, Poisoned}

-- the byte b lies in the title
abbrev pub Covers : Title → ℕ → Type 0
Covers t b = (t.start ≤ b) × (b < t.start + t.len)

-- the title is well formed in a region of that many words
pub record IsWellFormed (words : ℕ) (t : Title) : Type 0 where
  pub start_aligned : t.start % 8 ≡ 0
  pub len_aligned : t.len % 8 ≡ 0
  pub long : 16 ≤ t.len
  pub inside : t.start + t.len ≤ 8 * words

-- how many content words the title has
abbrev pub content_count : Title → ℕ
content_count t = t.len / 8 - 1

-- which word of the region is the title's content word i, counted from 0
abbrev pub content_place : Title → ℕ → ℕ
content_place t i = t.start / 8 + i

-- which word of the region is the title's count word: the last of its words
abbrev pub count_place : Title → ℕ
count_place t = t.start / 8 + content_count t

-- the title's content word i
abbrev pub content_at : List ℕ → Title → ℕ → ℕ
content_at words t i = slice_index words (content_place t i)

-- the title's count word
abbrev pub count_word : List ℕ → Title → ℕ
count_word words t = slice_index words (count_place t)

-- the word at the byte offset `at` is a content word of the title
abbrev pub IsContentOf : Title → ℕ → Type 0
IsContentOf t at = (t.start ≤ at) × (at + 8 < t.start + t.len)

-- each content word from number j on has this value
abbrev pub HasContentFrom : List ℕ → Title → ℕ → ℕ → Type 0
HasContentFrom words t j value = (i : ℕ) → j ≤ i → i < content_count t → content_at words t i ≡ value

-- the content words are all equal
abbrev pub IsUniform : List ℕ → Title → Type 0
IsUniform words t = (value : ℕ) × HasContentFrom words t 0 value

-- the word that fills the content of a title before it is freed: each byte is 239, which is ef in hexadecimal
abbrev pub poison : ℕ
poison = 17289301308300324847

-- the first j content words are poison
abbrev pub IsPoisonedTo : List ℕ → Title → ℕ → Type 0
IsPoisonedTo words t j = (i : ℕ) → i < j → content_at words t i ≡ poison

-- the test whether two titles are one
abbrev pub same_title : Title → Title → Bool
same_title t u = (t.start == u.start) && ((t.len == u.len) && (t.born == u.born))

-- the test whether two states of an Own are one, a poisoned one with the same progress
abbrev pub same_state : OwnState → OwnState → Bool
same_state Clean Clean = true
same_state Clean Dirty = false
same_state Clean (Poisoned k) = false
same_state Dirty Clean = false
same_state Dirty Dirty = true
same_state Dirty (Poisoned k) = false
same_state (Poisoned j) Clean = false
same_state (Poisoned j) Dirty = false
same_state (Poisoned j) (Poisoned k) = j == k

-- how many content words an Own has poisoned so far
abbrev pub progress : OwnState → ℕ
progress Clean = 0
progress Dirty = 0
progress (Poisoned j) = j
