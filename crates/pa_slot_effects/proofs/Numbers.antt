-- A slot's number is how many of its steps come before: kept by each line.
use Rattle.std.proofs.Common.{◌≡◌, ℕ, ◌+◌, ◌<◌, ◌≤◌, inl, inr, List, [], ◌∷◌, ◌++◌, true, false, cond, Option, Some, None, is_some, Contains, refl, sym, ap, ◌∙◌, subst, arith, ltb}
use Rattle.std.proofs.lemmas.Bool.{lt-ltb, le-ltb, and_left, and_right, and_from}
use Rattle.std.proofs.lemmas.List.Sums.{sum_by_push}
use Rattle.std.proofs.lemmas.List.Elements.{Contains-push_cases}
use Rattle.pa_slot.specs.declared.word.SlotName.{SlotName}
use Rattle.pa_slot.specs.declared.word.Step.{Step}
use Rattle.pa_slot.specs.Count.{number_of, CanStep, stepped}
use Rattle.pa_slot.specs.Run.{Mark, same_slot}
use Rattle.pa_slot.proofs.Runs.{same_slot_cases, same_slot_yes, same_slot_no, number_stepped}
use Rattle.pa_rules.specs.FileOrder.{is_step_before, steps_before, AreNumbersInFileOrder}
use Rattle.pa_slot_effects.specs.Known.{HasNumbers}

-- how many steps come before a line, with a mark more
steps_push : (ms : List Mark) (n : Mark) (s : SlotName) (l : ℕ) →
    steps_before s l (ms ++ n ∷ []) ≡ steps_before s l ms + cond (is_step_before s l n) 1 0
steps_push ms n s l = sum_by_push (λ m. cond (is_step_before s l m) 1 0) ms n

steps_late : (ms : List Mark) (n : Mark) (s : SlotName) (l : ℕ) → l ≤ n.line → steps_before s l (ms ++ n ∷ []) ≡ steps_before s l ms
steps_late ms n s l le =
    let none : is_step_before s l n ≡ false =
    and_right (same_slot n.slot s) _ (and_left (ltb n.line l) (is_some n.step) (le-ltb n.line l le)) in
    steps_push ms n s l ∙ (rw none (omega arith))

steps_look : (ms : List Mark) (n : Mark) (s : SlotName) (l : ℕ) → n.step ≡ None → steps_before s l (ms ++ n ∷ []) ≡ steps_before s l ms
steps_look ms n s l e =
    let none : is_step_before s l n ≡ false =
    and_right (same_slot n.slot s) _ (and_right (ltb n.line l) (is_some n.step) (ap (λ (o : Option Step). is_some o) e)) in
    steps_push ms n s l ∙ (rw none (omega arith))

steps_other : (ms : List Mark) (n : Mark) (s : SlotName) (l : ℕ) → (n.slot ≡ s → ⊥) → steps_before s l (ms ++ n ∷ []) ≡ steps_before s l ms
steps_other ms n s l ne =
    let none : is_step_before s l n ≡ false = and_left (same_slot n.slot s) _ (same_slot_no n.slot s ne) in
    steps_push ms n s l ∙ (rw none (omega arith))

steps_more : (ms : List Mark) (n : Mark) (p : Step) (l : ℕ) → n.line < l → n.step ≡ Some p →
    steps_before n.slot l (ms ++ n ∷ []) ≡ steps_before n.slot l ms + 1
steps_more ms n p l lt e =
    let one : is_step_before n.slot l n ≡ true =
    and_from (same_slot n.slot n.slot) _ (same_slot_yes n.slot n.slot refl)
    (and_from (ltb n.line l) (is_some n.step) (lt-ltb n.line l lt) (ap (λ (o : Option Step). is_some o) e)) in
    steps_push ms n n.slot l ∙ (rw one refl)

-- the order with one mark more
order_more : (ms : List Mark) (n : Mark) (line : ℕ) → ((m : Mark) → Contains ms m → m.line < line) → n.line ≡ line →
    AreNumbersInFileOrder ms
    → number_of n.found ≡ steps_before n.slot line ms → AreNumbersInFileOrder (ms ++ n ∷ [])
order_more ms n line rising at o number m c = elim (Contains-push_cases ms n m c) [
  | inl a ↦ o m a ∙ sym (steps_late ms n m.slot m.line (omega (arith, rising m a)))
  | inr q ↦
      let P : Mark → Type 0 = λ x. number_of x.found ≡ steps_before x.slot x.line (ms ++ n ∷ []) in
      subst P q (number ∙ ap (λ l. steps_before n.slot l ms) (sym at) ∙ sym (steps_late ms n n.slot n.line (omega arith)))
]

rising_more : (ms : List Mark) (n : Mark) (line : ℕ) → ((m : Mark) → Contains ms m → m.line < line) → n.line ≡ line
    → (m : Mark) → Contains (ms ++ n ∷ []) m → m.line < line + 1
rising_more ms n line rising at m c = elim (Contains-push_cases ms n m c) [
  | inl a ↦ omega (arith, rising m a)
  | inr q ↦ omega (arith, ap (λ (x : Mark). x.line) q)
]

-- no marks
pub numbers_none : (line : ℕ) → 2 ≤ line → HasNumbers [] line (λ s. 0)
numbers_none line le = record {
  rising = λ m c. absurd (omega (arith, c.1));
  counts = λ s l h. refl;
  found = λ m c. absurd (omega (arith, c.1));
  order = λ m c. absurd (omega (arith, c.1));
  few = λ s. omega arith;
}

-- a line that reports no slot
pub numbers_later : (ms : List Mark) (line : ℕ) (word : SlotName → ℕ) → HasNumbers ms line word → HasNumbers ms (line + 1) word
numbers_later ms line word h = record {
  rising = λ m c. omega (arith, h.rising m c);
  counts = λ s l le. h.counts s l (omega arith);
  found = h.found;
  order = h.order;
  few = λ s. omega (arith, h.few s);
}

-- a line that looks at a slot
pub numbers_look : (ms : List Mark) (n : Mark) (line : ℕ) (word : SlotName → ℕ) → HasNumbers ms line word → n.line ≡ line → n.step ≡ None
    → n.found ≡ word n.slot → HasNumbers (ms ++ n ∷ []) (line + 1) word
numbers_look ms n line word h at none found = record {
  rising = rising_more ms n line h.rising at;
  counts = λ s l le. h.counts s l (omega arith) ∙ sym (steps_look ms n s l none);
  found = λ m c. elim (Contains-push_cases ms n m c) [
    | inl a ↦ h.found m a
    | inr q ↦
        let P : Mark → Type 0 = λ x. number_of x.found ≤ number_of (word x.slot) in
        subst P q (omega (arith, ap number_of found))
  ];
  order = order_more ms n line h.rising at h.order (ap number_of found ∙ h.counts n.slot line (omega arith));
  few = λ s. omega (arith, h.few s);
}

-- a line that steps a slot
pub numbers_step : (ms : List Mark) (n : Mark) (p : Step) (line : ℕ) (word next : SlotName → ℕ) → HasNumbers ms line word → n.line ≡ line →
    n.step ≡ Some p
    → n.found ≡ word n.slot → CanStep p n.found → next n.slot ≡ stepped p n.found → ((s : SlotName) → (s ≡ n.slot → ⊥) → next s ≡ word s)
    → HasNumbers (ms ++ n ∷ []) (line + 1) next
numbers_step ms n p line word next h at step found can here other =
    let up : number_of (next n.slot) ≡ number_of (word n.slot) + 1 =
    ap number_of here ∙ number_stepped p n.found can ∙ ap (λ x. number_of x + 1) found in
    let counted : (l : ℕ) → line + 1 ≤ l → number_of (next n.slot) ≡ steps_before n.slot l (ms ++ n ∷ []) = λ l le.
    up ∙ ap (λ x. x + 1) (h.counts n.slot l (omega arith)) ∙ sym (steps_more ms n p l (omega arith) step) in
    record {
      rising = rising_more ms n line h.rising at;
      counts = λ s l le. elim (same_slot_cases n.slot s) [
        | inl q ↦
            let P : SlotName → Type 0 = λ x. number_of (next x) ≡ steps_before x l (ms ++ n ∷ []) in
            subst P q (counted l le)
        | inr ne ↦ ap number_of (other s (λ q. ne (sym q))) ∙ h.counts s l (omega arith) ∙ sym (steps_other ms n s l ne)
      ];
      found = λ m c. elim (Contains-push_cases ms n m c) [
        | inl a ↦ elim (same_slot_cases m.slot n.slot) [
          | inl e ↦ omega (arith, h.found m a, up, ap (λ x. number_of (word x)) e, ap (λ x. number_of (next x)) e)
          | inr ne ↦ omega (arith, h.found m a, ap number_of (other m.slot ne))
        ]
        | inr q ↦
            let P : Mark → Type 0 = λ x. number_of x.found ≤ number_of (next x.slot) in
            subst P q (omega (arith, ap number_of found, up))
      ];
      order = order_more ms n line h.rising at h.order (ap number_of found ∙ h.counts n.slot line (omega arith));
      few = λ s. elim (same_slot_cases s n.slot) [
        | inl e ↦ omega (arith, up, h.few n.slot, ap (λ x. number_of (next x)) e)
        | inr ne ↦ omega (arith, h.few s, ap number_of (other s ne))
      ];
    }
