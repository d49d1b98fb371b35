-- Words in which a title's first content words are set to one value.
use Rattle.std.proofs.Common.{◌≡◌, ℕ, zero, suc, ◌/◌, ◌<◌, ◌≤◌, List, length, get_or, refl, ◌∙◌, arith, ◌⊎◌, inl, inr}
use Rattle.std.proofs.lemmas.List.{length-set, get_or-set_same, get_or-set_other}
use Rattle.std.proofs.lemmas.Bool.{cases_eq}
use Rattle.pa_slot.specs.declared.title.Title.{Title}
use Rattle.pa_slot.specs.Titles.{content_place}
use Rattle.pa_region.specs.Moves.{filled_with}

-- there are as many words
pub filled_long : (value : ℕ) (t : Title) (n : ℕ) (words : List ℕ) → length (filled_with value t n words) ≡ length words
unfolding filled_with
filled_long value t zero words = refl
filled_long value t (suc n) words = length-set (filled_with value t n words) (content_place t n) value ∙ filled_long value t n words

-- each of these words has the value
pub filled_here : (value : ℕ) (t : Title) (n : ℕ) (words : List ℕ) (i : ℕ) → i < n → content_place t i < length words →
    get_or (filled_with value t n words) (content_place t i) 0 ≡ value
unfolding filled_with
filled_here value t zero words i below inside = absurd (omega arith)
filled_here value t (suc n) words i below inside =
    let long = filled_long value t n words in
    elim (cases_eq i n) [
      | inl y ↦ rw y (get_or-set_same (filled_with value t n words) (content_place t n) value 0 (omega arith))
      | inr m ↦ get_or-set_other (filled_with value t n words) (content_place t n) (content_place t i) value 0 (λ e. m (omega arith))
          ∙ filled_here value t n words i (omega arith) inside
    ]

-- the others are as before
pub filled_beside : (value : ℕ) (t : Title) (n : ℕ) (words : List ℕ) (q : ℕ) → (q < t.start / 8) ⊎ (content_place t n ≤ q) →
    get_or (filled_with value t n words) q 0 ≡ get_or words q 0
unfolding filled_with
filled_beside value t zero words q out = refl
filled_beside value t (suc n) words q out =
    get_or-set_other (filled_with value t n words) (content_place t n) q value 0
    (λ e. elim out [ inl y ↦ absurd (omega arith) | inr m ↦ absurd (omega arith) ])
    ∙ filled_beside value t n words q (elim out [ inl y ↦ inl y | inr m ↦ inr (omega arith) ])
