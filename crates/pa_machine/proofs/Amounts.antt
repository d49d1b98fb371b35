-- What one piece of a title counts as.
use Rattle.std.proofs.Common.{◌≡◌, ℕ, ◌<◌, Bool, true, false, List, [], ◌∷◌, length, refl, arith, ◌⊎◌, inl, inr, set}
use Rattle.std.proofs.lemmas.List.{get_or-set_other, get_or-set_same}
use Rattle.pa_slot.specs.declared.title.Title.{Title}
use Rattle.pa_slot.specs.declared.title.OwnState.{OwnState}
use Rattle.pa_slot.specs.Count.{held_of, refs_of}
use Rattle.pa_slot.specs.Run.{IsFree}
use Rattle.pa_slot.specs.Titles.{content_count, content_place, count_place, count_word, content_at, IsWellFormed}
use Rattle.pa_slot.specs.Holdings.{FreePiece, OwnPiece, RefPiece, FreeTitle, OwnOf, OwnAs, SealedOwn, RefOf, one, held_in}
use Rattle.pa_machine.specs.Events.{returned_at}
use Rattle.pa_slot.proofs.Same.{title_self, state_self, state_tells}
use Rattle.std.proofs.lemmas.Bool.Decides.{eqb_tells}

pub free_self : (t : Title) → held_in (FreePiece t ∷ []) (FreeTitle t) ≡ 1
free_self t = rw (title_self t) refl

pub own_self : (sealed : Bool) (t : Title) (a : OwnState) → held_in (OwnPiece sealed t a ∷ []) (OwnOf t) ≡ 1
own_self sealed t a = rw (title_self t) refl

pub ref_self : (t : Title) → held_in (RefPiece t ∷ []) (RefOf t) ≡ 1
ref_self t = rw (title_self t) refl

pub state_here : (sealed : Bool) (t : Title) (a : OwnState) → held_in (OwnPiece sealed t a ∷ []) (OwnAs t a) ≡ 1
state_here sealed t a = rw (title_self t, state_self a) refl

pub state_apart : (sealed : Bool) (t : Title) (a b : OwnState) → (a ≡ b → ⊥) → held_in (OwnPiece sealed t a ∷ []) (OwnAs t b) ≡ 0
state_apart sealed t a b ne = elim (state_tells a b) [
  | inl y ↦ absurd (ne y.1)
  | inr n ↦ rw (title_self t, n.0) refl
]

-- an Own counts as a sealed one if it is sealed
pub seal_self : (sealed : Bool) (t : Title) (a : OwnState) → held_in (OwnPiece sealed t a ∷ []) (SealedOwn t) ≡ one sealed
seal_self true t a = rw (title_self t) refl
seal_self false t a = rw (title_self t) refl

-- what a step that leaves the word w gives back: the title if bit and count are 0, else nothing
pub returned_cases : (w : ℕ) (t : Title) →
    (IsFree w × (returned_at w t ≡ FreePiece t ∷ [])) ⊎ ((IsFree w → ⊥) × (returned_at w t ≡ []))
returned_cases w t = elim (eqb_tells (held_of w) 0) [
  | inl h ↦ elim (eqb_tells (refs_of w) 0) [
    | inl c ↦ inl ((h.1, c.1), rw (h.0, c.0) refl)
    | inr n ↦ inr (λ f. n.1 f.1, rw (h.0, n.0) refl)
  ]
  | inr n ↦ inr (λ f. n.1 f.0, rw n.0 refl)
]

-- a count word that was written has the value that was written
pub word_written : (words : List ℕ) (t : Title) (v : ℕ) → IsWellFormed (length words) t → count_word (set words (count_place t) v) t ≡ v
word_written words t v well =
    let a = well.len_aligned in let b = well.long in let c = well.inside in let d = well.start_aligned in
    get_or-set_same words (count_place t) v 0 (omega arith)

-- a write of the count word leaves each content word as it was
pub content_unwritten : (words : List ℕ) (t : Title) (v i : ℕ) → i < content_count t →
    content_at (set words (count_place t) v) t i ≡ content_at words t i
content_unwritten words t v i below = get_or-set_other words (count_place t) (content_place t i) v 0 (λ e. omega arith)

-- a content word that was written has the value that was written
pub content_written : (words : List ℕ) (t : Title) (v i : ℕ) → IsWellFormed (length words) t → i < content_count t →
    content_at (set words (content_place t i) v) t i ≡ v
content_written words t v i well below =
    let a = well.len_aligned in let b = well.long in let c = well.inside in let d = well.start_aligned in
    get_or-set_same words (content_place t i) v 0 (omega arith)

-- a write of one content word leaves the other ones as they were
pub content_other : (words : List ℕ) (t : Title) (v i k : ℕ) → (k ≡ i → ⊥) →
    content_at (set words (content_place t i) v) t k ≡ content_at words t k
content_other words t v i k ne = get_or-set_other words (content_place t i) (content_place t k) v 0 (λ e. ne (omega arith))

-- a write of a content word leaves the count word as it was
pub word_unwritten : (words : List ℕ) (t : Title) (v i : ℕ) → i < content_count t →
    count_word (set words (content_place t i) v) t ≡ count_word words t
word_unwritten words t v i below = get_or-set_other words (content_place t i) (count_place t) v 0 (λ e. omega arith)
