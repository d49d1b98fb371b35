-- A history up to a number: its words, its content, and what the next step leaves of them.
use Rattle.std.proofs.Common.{◌≡◌, ℕ, ◌≤◌, List, [], ◌∷◌, length, refl, sym, ◌∙◌, ap, arith, inl, inr}
use Rattle.std.proofs.lemmas.Bool.{cases_lt, lt-ltb, le-ltb}
use Rattle.pa_slot.specs.Count.{number_of}
use Rattle.pa_region.specs.History.{Done, reached, IsLegal, IsWordIn, content_of}
use Rattle.pa_region.specs.Contents.{up_to, content_at_number, word_at_number}
use Rattle.pa_region.proofs.LogPart.{reached_number}

-- up to a number that the history doesn't pass, it is the whole history
pub up_to_all : (k : ℕ) (history : List Done) → length history ≤ k → up_to k history ≡ history
up_to_all k [] short = refl
up_to_all k (d ∷ older) short = rw (lt-ltb (length older) k (omega arith)) refl

-- up to 0 it is nothing
pub up_to_none : (history : List Done) → up_to 0 history ≡ []
up_to_none [] = refl
up_to_none (d ∷ older) = rw (le-ltb (length older) 0 (omega arith)) (up_to_none older)

-- one more step changes nothing up to a number that was within
pub up_to_more : (k : ℕ) (d : Done) (history : List Done) → k ≤ length history → up_to k (d ∷ history) ≡ up_to k history
up_to_more k d history within = rw (le-ltb (length history) k within) refl

-- the content at a number that was reached stays after one more step
pub content_within : (k : ℕ) (d : Done) (history : List Done) → k ≤ length history →
    content_at_number k (d ∷ history) ≡ content_at_number k history
content_within k d history within = ap content_of (up_to_more k d history within)

-- the word with a number that was reached stays after one more step
pub word_within : (k : ℕ) (d : Done) (history : List Done) → k ≤ length history →
    word_at_number k (d ∷ history) ≡ word_at_number k history
word_within k d history within = ap reached (up_to_more k d history within)

-- the content at the number of the last word is the history's
pub content_last : (history : List Done) → content_at_number (length history) history ≡ content_of history
content_last history = ap content_of (up_to_all (length history) history (omega arith))

-- a history has as many steps up to a number within it
pub up_to_length : (k : ℕ) (history : List Done) → k ≤ length history → length (up_to k history) ≡ k
up_to_length k [] within = omega arith
up_to_length k (d ∷ older) within = elim (cases_lt (length older) k) [
  | inl y ↦ rw (lt-ltb (length older) k y) (omega arith)
  | inr n ↦ rw (le-ltb (length older) k n) (up_to_length k older n)
]

-- a legal history is legal up to any number
pub up_to_legal : (k : ℕ) (history : List Done) → IsLegal history → IsLegal (up_to k history)
up_to_legal k [] legal = legal
up_to_legal k (d ∷ older) legal = elim (cases_lt (length older) k) [
  | inl y ↦ rw (lt-ltb (length older) k y) legal
  | inr n ↦ rw (le-ltb (length older) k n) (up_to_legal k older legal.1)
]

-- a word of a history is the one with its number
pub word_found : (word : ℕ) (history : List Done) → IsLegal history → IsWordIn word history →
    (number_of word ≤ length history) × (word_at_number (number_of word) history ≡ word)
word_found word [] legal is = (omega arith, sym is)
word_found word (d ∷ older) legal (inl e) =
    let n = reached_number (d ∷ older) legal in
    let m : number_of word ≡ number_of (reached (d ∷ older)) = ap number_of e in
    (omega arith, ap reached (up_to_all (number_of word) (d ∷ older) (omega arith)) ∙ sym e)
word_found word (d ∷ older) legal (inr is) =
    let again = word_found word older legal.1 is in
    let n = again.0 in
    (omega arith, word_within (number_of word) d older again.0 ∙ again.1)
