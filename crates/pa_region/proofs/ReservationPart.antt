-- The second part after a step: reservations.
use Rattle.std.proofs.Common.{◌≡◌, ℕ, ◌+◌, ◌*◌, ◌≤◌, List, length, sym, ◌∙◌, subst, arith, inl, inr}
use Rattle.std.proofs.lemmas.Bool.{cases_lt}
use Rattle.pa_slot.specs.declared.title.Title.{Title}
use Rattle.pa_slot.specs.Titles.{same_title, Covers}
use Rattle.pa_slot.specs.Holdings.{Thing, RawByte, one, IsTitleHeld}
use Rattle.pa_slot.proofs.Same.{title_one}
use Rattle.pa_region.specs.Rule.{Holders, Reservations}

-- A step on a held title keeps the part: floors and uncut titles stay, the same titles are held, and one log names this
-- title once more.
pub reservations_count : (t : Title) (words : List ℕ) (total later : Thing → ℕ) (idle : Title → ℕ) (budget steps : ℕ) (low : ℕ → ℕ → ℕ)
    (low_after : ℕ → ℕ → ℕ)
    (named named_after uncut uncut_after : Title → ℕ) →
    Reservations total low named uncut → Holders words total idle budget steps → IsTitleHeld total t →
    ((u : Title) → IsTitleHeld later u → IsTitleHeld total u) →
    ((b n : ℕ) → low_after b n ≡ low b n) → ((b n : ℕ) → low b n ≤ total (RawByte b)) →
    ((u : Title) → named_after u ≡ named u + one (same_title t u)) → ((u : Title) → uncut_after u ≡ uncut u) →
    Reservations later low_after named_after uncut_after
reservations_count t words total later idle budget steps low low_after named named_after uncut uncut_after r h held back same_low within
    names same_uncut = record {
      floors = λ u b known covers. same_low b u.born ∙ elim (title_one t u) [
        | inl y ↦
            let raw = none_raw b (subst (λ (z : Title). Covers z b) (sym y.1) covers) in
            let l = within b u.born in
            omega arith
        | inr n ↦
            let e = names u in let z = n.0 in
            r.floors u b (omega arith) covers
      ];
      later = λ u k b known other ne covers inside. elim (title_one t u) [
        | inl y ↦ absurd (ne (sym y.1 ∙
            h.good.divided.apart t k b held (back k other) (subst (λ (z : Title). Covers z b) (sym y.1) covers) inside))
        | inr n ↦
            let e = names u in let z = n.0 in
            r.later u k b (omega arith) (back k other) ne covers inside
      ];
      gone = λ u known other. let f = same_uncut u in r.gone u (omega arith) (back u other);
    }
  where
    none_raw : (b : ℕ) → Covers t b → total (RawByte b) ≡ 0
    none_raw b covers = elim (cases_lt b (8 * length words)) [
      | inl below ↦ elim (h.good.divided.bytes b below) [ inl x ↦ absurd (x.1 t held covers) | inr x ↦ x.0 ]
      | inr past ↦ h.good.divided.outside b past
    ]

-- nothing that is read changes
pub reservations_same : (total later : Thing → ℕ) (low low_after : ℕ → ℕ → ℕ) (named named_after uncut uncut_after : Title → ℕ) →
    Reservations total low named uncut → ((u : Title) → IsTitleHeld later u → IsTitleHeld total u) → ((b n : ℕ) → low_after b n ≡ low b n) →
    ((u : Title) → named_after u ≡ named u) → ((u : Title) → uncut_after u ≡ uncut u) → Reservations later low_after named_after uncut_after
reservations_same total later low low_after named named_after uncut uncut_after r back same_low same_named same_uncut = record {
  floors = λ u b known covers. let e = same_named u in same_low b u.born ∙ r.floors u b (omega arith) covers;
  later = λ u k b known other ne covers inside. let e = same_named u in r.later u k b (omega arith) (back k other) ne covers inside;
  gone = λ u known other. let f = same_uncut u in r.gone u (omega arith) (back u other);
}
