-- The stakes that are marked, with one mark more.
use Rattle.std.proofs.Common.{◌≡◌, ℕ, ◌+◌, ◌<◌, ◌≤◌, List, Bool, false, not, ◌&&◌, ◌||◌, ◌∙◌, length, take, get_or, set, ap, sym, arith, inl, inr, eqb}
use Rattle.std.proofs.lemmas.Bool.Decides.{eqb_tells}
use Rattle.std.proofs.lemmas.List.{get_or-set_other}
use Rattle.std.proofs.lemmas.List.Folds.{list_any_more}
use Rattle.std.proofs.lemmas.Grind.{get_or-set_at}
use Rattle.pa_region.specs.declared.marks.Mark.{Mark}
use Rattle.pa_region.specs.Marks.{names_stake, marked_stake}

-- of the 16 stakes, the mark at this place is the one with the number k, if that is below 16
abbrev NamesOnly : List Mark → ℕ → Mark → ℕ → Type 0
NamesOnly marks i d k = (j : ℕ) → j < 16 → names_stake j (get_or marks i d) ≡ eqb k j

one_more : (marks : List Mark) (i : ℕ) (d : Mark) (k j : ℕ) → i < length marks → NamesOnly marks i d k → j < 16 →
    marked_stake (take (i + 1) marks) j ≡ (marked_stake (take i marks) j || eqb k j)
one_more marks i d k j small names few =
    list_any_more (names_stake j) marks i d small ∙ ap (λ b. marked_stake (take i marks) j || b) (names j few)

pub marked_more : (has stakes : List Bool) (marks : List Mark) (i : ℕ) (d : Mark) (k j : ℕ) →
    length has ≡ 16 → i < length marks → NamesOnly marks i d k → k < 16 → j < 16 →
    get_or has j false ≡ (get_or stakes j false && marked_stake (take i marks) j) →
    get_or (set has k (get_or stakes k false)) j false ≡ (get_or stakes j false && marked_stake (take (i + 1) marks) j)
marked_more has stakes marks i d k j long small names there few before =
    let more = one_more marks i d k j small names few in
    elim (eqb_tells k j) [
      | inl y ↦
          let now = get_or-set_at has k j (get_or stakes k false) false (sym y.1) (omega arith) in
          let same = ap (λ n. get_or stakes n false) y.1 in
          grind arith
      | inr n ↦ let now = get_or-set_other has k j (get_or stakes k false) false (λ e. n.1 (sym e)) in grind arith
    ]

pub unmarked_more : (has stakes : List Bool) (marks : List Mark) (i : ℕ) (d : Mark) (k j : ℕ) →
    length has ≡ 16 → i < length marks → NamesOnly marks i d k → k < 16 → j < 16 →
    get_or has j false ≡ (get_or stakes j false && not (marked_stake (take i marks) j)) →
    get_or (set has k false) j false ≡ (get_or stakes j false && not (marked_stake (take (i + 1) marks) j))
unmarked_more has stakes marks i d k j long small names there few before =
    let more = one_more marks i d k j small names few in
    elim (eqb_tells k j) [
      | inl y ↦ let now = get_or-set_at has k j false false (sym y.1) (omega arith) in grind arith
      | inr n ↦ let now = get_or-set_other has k j false false (λ e. n.1 (sym e)) in grind arith
    ]

-- a mark that is none of the 16 stakes changes nothing
pub none_more : (marks : List Mark) (i : ℕ) (d : Mark) (k j : ℕ) → i < length marks → NamesOnly marks i d k → 16 ≤ k → j < 16 →
    marked_stake (take (i + 1) marks) j ≡ marked_stake (take i marks) j
none_more marks i d k j small names past few =
    let more = one_more marks i d k j small names few in
    elim (eqb_tells k j) [ inl y ↦ absurd (let same = y.1 in omega arith) | inr n ↦ grind arith ]
