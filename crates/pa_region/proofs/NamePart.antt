-- The second part after a step: titles that logs name.
use Rattle.std.proofs.Common.{◌≡◌, ℕ, ◌+◌, ◌<◌, ◌≤◌, sym, ◌∙◌, ap, subst, arith, inl, inr}
use Rattle.pa_slot.specs.declared.title.Title.{Title}
use Rattle.pa_slot.specs.Titles.{same_title, IsWellFormed}
use Rattle.pa_slot.specs.Holdings.{Thing, one, IsTitleHeld}
use Rattle.pa_machine.specs.Good.{IsDivided}
use Rattle.pa_slot.proofs.Same.{title_tells, title_one}
use Rattle.pa_region.specs.Rule.{Reservations, Named}

-- nothing that is read changes, and all titles stay held
pub named_same : (words after : ℕ) (total later : Thing → ℕ) (named named_after uncut uncut_after : Title → ℕ) →
    Named words total named uncut → after ≡ words →
    ((u : Title) → IsTitleHeld total u → IsTitleHeld later u) → ((u : Title) → named_after u ≡ named u) →
    ((u : Title) → uncut_after u ≡ uncut u) →
    Named after later named_after uncut_after
named_same words after total later named named_after uncut uncut_after n count stays names same_uncut = record {
  well = λ u known. let e = names u in rw count (n.well u (omega arith));
  one_name = λ u x known other start born. let e = names u in let f = names x in n.one_name u x (omega arith) (omega arith) start born;
  held = λ u known none. let e = names u in let f = same_uncut u in stays u (n.held u (omega arith) (omega arith));
}

-- A step on a held title, which one log names once more, keeps the part: a title that no log says was uncut
-- stays held.
pub named_more : (t : Title) (words after : ℕ) (total later : Thing → ℕ) (low : ℕ → ℕ → ℕ)
    (named named_after uncut uncut_after : Title → ℕ) →
    Named words total named uncut → Reservations total low named uncut → IsDivided words total → IsTitleHeld total t → after ≡ words →
    ((u : Title) → uncut_after u ≡ 0 → IsTitleHeld total u → IsTitleHeld later u) →
    ((u : Title) → named_after u ≡ named u + one (same_title t u)) → ((u : Title) → uncut u ≤ uncut_after u) →
    Named after later named_after uncut_after
named_more t words after total later low named named_after uncut uncut_after n r divided held count stays names grows = record {
  well = λ u known. elim (title_one t u) [
    | inl y ↦ rw count (subst (λ (z : Title). IsWellFormed words z) y.1 (divided.well t held))
    | inr m ↦ let e = names u in let z = m.0 in rw count (n.well u (omega arith))
  ];
  one_name = λ u x known other start born.
      let e = names u in let f = names x in
      elim (title_one t u) [
        | inl y ↦ elim (title_one t x) [
          | inl z ↦ sym y.1 ∙ z.1
          | inr m ↦ let z = m.0 in let a = ap (λ (k : Title). k.start) y.1 in let b = ap (λ (k : Title). k.born) y.1 in sym y.1 ∙
              same_name x (omega arith) (a ∙ start) (b ∙ born)
        ]
        | inr m ↦
            let z = m.0 in
            elim (title_one t x) [
              | inl y ↦ let a = ap (λ (k : Title). k.start) y.1 in let b = ap (λ (k : Title). k.born) y.1 in
                  sym (same_name u (omega arith) (a ∙ sym start) (b ∙ sym born)) ∙ y.1
              | inr o ↦ let z1 = o.0 in n.one_name u x (omega arith) (omega arith) start born
            ]
      ];
  held = λ u known none. elim (title_one t u) [
    | inl y ↦ stays u none (subst (λ (z : Title). IsTitleHeld total z) y.1 held)
    | inr m ↦ let e = names u in let z = m.0 in let g = grows u in stays u none (n.held u (omega arith) (omega arith))
  ];
}
  where
    -- a title that was named before, of this one's name, is this one
    same_name : (u : Title) → 0 < named u → t.start ≡ u.start → t.born ≡ u.born → t ≡ u
    same_name u known start born = elim (title_tells t u) [
      | inl y ↦ y.1
      | inr m ↦
          let a = (n.well u known).long in
          let b = (divided.well t held).long in
          let less = r.later u t t.start known held (λ e. m.1 (sym e)) (omega arith, omega arith) (omega arith, omega arith) in
          absurd (omega arith)
    ]
