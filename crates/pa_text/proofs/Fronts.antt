-- A word at the start of bytes: by a test of their first bytes, and by its parts.
use Rattle.std.proofs.Common.{◌≡◌, ℕ, true, false, List, ◌++◌, length, take, drop, refl, sym, ap, ◌∙◌}
use Rattle.std.specs.Prelude.{nat_eq}
use Rattle.std.specs.Cmp.Lexicographic.{pointwise}
use Rattle.std.proofs.lemmas.Bool.{false_from_ne_true}
use Rattle.std.proofs.lemmas.Bool.Decides.{Decides-eqb}
use Rattle.std.proofs.lemmas.Slice.Eq.{slice_eq-Decides}
use Rattle.std.proofs.lemmas.List.{take-append-drop, take_at, drop_at}

-- two words that the test finds equal are one
pub word_same : (a b : List ℕ) → pointwise nat_eq a b ≡ true → a ≡ b
word_same a b e = (slice_eq-Decides Decides-eqb a b _ refl).0 e

-- bytes that pass the test are the word and what follows it
pub front_parts : (word bytes : List ℕ) → pointwise nat_eq (take (length word) bytes) word ≡ true → bytes ≡ word ++ drop (length word) bytes
front_parts word bytes e =
    sym (take-append-drop (length word) bytes) ∙
    ap (λ (x : List ℕ). x ++ drop (length word) bytes) (word_same (take (length word) bytes) word e)

-- a word and what follows it pass the test
pub front_found : (word bytes rest : List ℕ) → bytes ≡ word ++ rest
    → (pointwise nat_eq (take (length word) bytes) word ≡ true) × (drop (length word) bytes ≡ rest)
front_found word bytes rest e =
    let same : pointwise nat_eq word word ≡ true = (slice_eq-Decides Decides-eqb word word _ refl).1 refl in
    rw (e, take_at word rest (length word) refl, drop_at word rest (length word) refl, same) (refl, refl)

-- bytes that the word stands in front of with no rest don't pass the test
pub front_none : (word bytes : List ℕ) → ((rest : List ℕ) → bytes ≡ word ++ rest → ⊥)
    → pointwise nat_eq (take (length word) bytes) word ≡ false
front_none word bytes h =
    false_from_ne_true (pointwise nat_eq (take (length word) bytes) word) (λ e. h (drop (length word) bytes) (front_parts word bytes e))
