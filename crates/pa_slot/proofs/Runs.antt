-- Marks in which each step of a slot finds the slot's word so far: they have one run for each slot, which ends there.
use Rattle.std.proofs.Common.{◌≡◌, ℕ, ◌+◌, ◌<◌, ◌⊎◌, inl, inr, List, [], ◌∷◌, ◌++◌, true, false, Option, Some, None, IsSome, Contains, refl, sym, ap, ◌∙◌, subst, arith, rules, add-one}
use Rattle.std.proofs.lemmas.Bool.{cases_eq, eq-eqb, ne_eqb, eqb-true, and_parts}
use Rattle.std.proofs.lemmas.List.Elements.{Contains-append_left, Contains-push, Contains-push_cases}
use Rattle.pa_slot.specs.declared.word.SlotName.{SlotName}
use Rattle.pa_slot.specs.declared.word.Step.{Step}
use Rattle.pa_slot.specs.declared.word.Step.TheVariants.{Issue, Copy, Reset, Free, Write}
use Rattle.pa_slot.specs.Count.{number_of, CanStep, stepped}
use Rattle.pa_slot.specs.Run.{Mark, IsFirstAt, IsRunFrom, Slots, same_slot}
use Rattle.pa_slot.specs.Runs.{IsPath, HasPath, HasRuns}
use Rattle.pa_slot.specs.declared.word.Step.TheVariants as steps

-- two names with the same start and born are one
pub slot_parts : (s t : SlotName) → s.start ≡ t.start → s.born ≡ t.born → s ≡ t
slot_parts s t a b =
    let f : ℕ → SlotName = λ x. record { start = x; born = s.born } in
    let g : ℕ → SlotName = λ y. record { start = t.start; born = y } in
    ap f a ∙ ap g b

-- two names are one if the test says so, and only there
pub same_slot_cases : (s t : SlotName) → (s ≡ t) ⊎ (s ≡ t → ⊥)
same_slot_cases s t = elim (cases_eq s.start t.start) [
  | inl a ↦ elim (cases_eq s.born t.born) [
    | inl b ↦ inl (slot_parts s t a b)
    | inr b ↦ inr (λ e. b (ap (λ (x : SlotName). x.born) e))
  ]
  | inr a ↦ inr (λ e. a (ap (λ (x : SlotName). x.start) e))
]

pub same_slot_yes : (s t : SlotName) → s ≡ t → same_slot s t ≡ true
same_slot_yes s t e = rw (
  eq-eqb s.start t.start (ap (λ (x : SlotName). x.start) e),
  eq-eqb s.born t.born (ap (λ (x : SlotName). x.born) e),
) refl

pub same_slot_eq : (s t : SlotName) → same_slot s t ≡ true → s ≡ t
same_slot_eq s t h =
    let k = and_parts _ _ h in
    slot_parts s t (eqb-true s.start t.start k.0) (eqb-true s.born t.born k.1)

pub same_slot_no : (s t : SlotName) → (s ≡ t → ⊥) → same_slot s t ≡ false
same_slot_no s t ne = elim (cases_eq s.start t.start) [
  | inl a ↦ elim (cases_eq s.born t.born) [
    | inl b ↦ absurd (ne (slot_parts s t a b))
    | inr b ↦ rw (eq-eqb s.start t.start a, ne_eqb s.born t.born b) refl
  ]
  | inr a ↦ rw (ne_eqb s.start t.start a) refl
]

-- a step adds one to the number
pub number_stepped : (p : Step) (w : ℕ) → CanStep p w → number_of (stepped p w) ≡ number_of w + 1
number_stepped Issue w h = omega (arith, h)
number_stepped Copy w h = omega (arith, h)
number_stepped Reset w h = omega (arith, h)
number_stepped Free w h = omega (arith, h)
number_stepped Write w h = omega (arith, h)

-- a step that was made is some step
pub none_some : (p : Step) → None ≡ Some p → ⊥
none_some p e = cc

pub some_same : (p q : Step) → Some p ≡ Some q → p ≡ q
some_same p q e = cc

pub some_is : (p : Step) → IsSome (Some p)
some_is p = search rules

none_is : (o : Option Step) → o ≡ None → IsSome o → ⊥
none_is None e i = search rules
none_is (Some p) e i = cc

-- a path in a longer list of marks, and one more step
pub path_kept : (ms ns : List Mark) (s : SlotName) (u : ℕ) (vs : List ℕ) (w : ℕ)
    → ((v : ℕ) (m : Mark) (p : Step) → IsFirstAt ms s v m p → IsFirstAt ns s v m p) → IsPath ms s u vs w → IsPath ns s u vs w
path_kept ms ns s u [] w k h = h
path_kept ms ns s u (v ∷ vs) w k h = (h.0, h.1, k u h.0 h.1 h.2, h.3, h.4, path_kept ms ns s v vs w k h.5)

pub path_push : (ms : List Mark) (s : SlotName) (u : ℕ) (vs : List ℕ) (w : ℕ) (m : Mark) (p : Step)
    → IsPath ms s u vs w → IsFirstAt ms s w m p → CanStep p w → IsPath ms s u (vs ++ stepped p w ∷ []) (stepped p w)
path_push ms s u [] w m p h f c =
    let F : ℕ → Type 0 = λ x. IsFirstAt ms s x m p in
    let G : ℕ → Type 0 = λ x. CanStep p x in
    (m, p, subst F (sym h) f, subst G (sym h) c, ap (stepped p) (sym h), refl)
path_push ms s u (v ∷ vs) w m p h f c = (h.0, h.1, h.2, h.3, h.4, path_push ms s v vs w m p h.5 f c)

-- the last word of a path is among its words
pub path_last : (ms : List Mark) (s : SlotName) (u : ℕ) (vs : List ℕ) (w : ℕ) → IsPath ms s u vs w → Contains (u ∷ vs) w
path_last ms s u [] w h = (0, omega arith, h)
path_last ms s u (v ∷ vs) w h =
    let k = path_last ms s v vs w h.5 in
    (k.0 + 1, omega (arith, k.1), rw add-one k.2)

-- a path that ends where no step was made is the run
pub run_of_path : (ms : List Mark) (s : SlotName) (u : ℕ) (vs : List ℕ) (w : ℕ)
    → ((m : Mark) (p : Step) → IsFirstAt ms s w m p → CanStep p w → ⊥) → IsPath ms s u vs w → IsRunFrom ms s u vs
run_of_path ms s u [] w e h =
    let F : ℕ → Type 0 = λ x. (m : Mark) (p : Step) → IsFirstAt ms s x m p → CanStep p x → ⊥ in
    subst F (sym h) e
run_of_path ms s u (v ∷ vs) w e h = (h.0, h.1, h.2, h.3, h.4, run_of_path ms s v vs w e h.5)

-- a first step stays the first if a mark comes after it
pub first_kept : (ms : List Mark) (n : Mark) (s : SlotName) (u : ℕ) (m : Mark) (p : Step) → ((k : Mark) → Contains ms k → k.line < n.line)
    → IsFirstAt ms s u m p → IsFirstAt (ms ++ n ∷ []) s u m p
first_kept ms n s u m p rising f = record {
  among = Contains-append_left ms (n ∷ []) m f.among;
  slot = f.slot;
  found = f.found;
  step = f.step;
  least = λ k c e g i. elim (Contains-push_cases ms n k c) [
    | inl in' ↦ f.least k in' e g i
    | inr q ↦ rw (sym q) (omega (arith, rising m f.among))
  ];
}

-- no marks: every word is 0
pub runs_none : (word : SlotName → ℕ) → ((s : SlotName) → word s ≡ 0) → HasRuns [] word
runs_none word z = record {
  counted = λ m c i. absurd (omega (arith, c.1));
  used = λ m p c e. absurd (omega (arith, c.1));
  path = λ s. ([], sym (z s), λ m c e. absurd (omega (arith, c.1)));
}

-- what is known of the marks by some words is known by words that are the same
pub runs_same : (ms : List Mark) (word next : SlotName → ℕ) → ((s : SlotName) → next s ≡ word s) → HasRuns ms word → HasRuns ms next
runs_same ms word next same h = record {
  counted = λ m c i. rw (same m.slot) (h.counted m c i);
  used = h.used;
  path = λ s. rw (same s) (h.path s);
}

-- a look at a slot's word
pub runs_look : (ms : List Mark) (n : Mark) (word : SlotName → ℕ) → ((k : Mark) → Contains ms k → k.line < n.line)
    → n.found ≡ word n.slot → n.step ≡ None → HasRuns ms word → HasRuns (ms ++ n ∷ []) word
runs_look ms n word rising found none h =
    let kept : (s : SlotName) (v : ℕ) (m : Mark) (p : Step) → IsFirstAt ms s v m p → IsFirstAt (ms ++ n ∷ []) s v m p =
    λ s v m p f. first_kept ms n s v m p rising f in
    record {
      counted = λ m c i. elim (Contains-push_cases ms n m c) [
        | inl a ↦ h.counted m a i
        | inr q ↦ absurd (none_is m.step (ap (λ (x : Mark). x.step) (sym q) ∙ none) i)
      ];
      used = λ m p c e. elim (Contains-push_cases ms n m c) [
        | inl a ↦ let k = h.used m p a e in (kept m.slot m.found m p k.0, k.1)
        | inr q ↦ absurd (none_some p (sym none ∙ ap (λ (x : Mark). x.step) q ∙ e))
      ];
      path = λ s.
          let k = h.path s in (
            k.0,
            path_kept ms (ms ++ n ∷ []) s 0 k.0 (word s) (kept s) k.1,
            λ m c e. elim (Contains-push_cases ms n m c) [
              | inl a ↦ k.2 m a e
              | inr q ↦
                  let at : m.found ≡ word s = ap (λ (x : Mark). x.found) (sym q) ∙ found ∙ ap (λ (x : Mark). word x.slot) q ∙ ap word e in
                  rw at (path_last ms s 0 k.0 (word s) k.1)
            ],
          );
    }

-- a step at a slot's word
pub runs_step : (ms : List Mark) (n : Mark) (p : Step) (word next : SlotName → ℕ) → ((k : Mark) → Contains ms k → k.line < n.line)
    → n.found ≡ word n.slot → n.step ≡ Some p → CanStep p n.found → next n.slot ≡ stepped p n.found
    → ((s : SlotName) → (s ≡ n.slot → ⊥) → next s ≡ word s) → HasRuns ms word → HasRuns (ms ++ n ∷ []) next
runs_step ms n p word next rising found step can here other h =
    let kept : (s : SlotName) (v : ℕ) (m : Mark) (q : Step) → IsFirstAt ms s v m q → IsFirstAt (ms ++ n ∷ []) s v m q =
    λ s v m q f. first_kept ms n s v m q rising f in
    let up : number_of (next n.slot) ≡ number_of (word n.slot) + 1 =
    ap number_of here ∙ number_stepped p n.found can ∙ ap (λ x. number_of x + 1) found in
    let first : IsFirstAt (ms ++ n ∷ []) n.slot n.found n p = record {
      among = Contains-push ms n;
      slot = refl;
      found = refl;
      step = step;
      least = λ k c e g i. elim (Contains-push_cases ms n k c) [
        | inl a ↦ absurd (omega (arith, h.counted k a i, ap number_of g, ap number_of found, ap (λ x. number_of (word x)) e))
        | inr q ↦ omega (arith, ap (λ (x : Mark). x.line) q)
      ];
    } in
    record {
      counted = λ m c i. elim (Contains-push_cases ms n m c) [
        | inl a ↦ elim (same_slot_cases m.slot n.slot) [
          | inl e ↦ omega (arith, h.counted m a i, up, ap (λ x. number_of (word x)) e, ap (λ x. number_of (next x)) e)
          | inr ne ↦ omega (arith, h.counted m a i, ap number_of (other m.slot ne))
        ]
        | inr q ↦ omega (
          arith,
          up,
          ap (λ (x : Mark). number_of x.found) q,
          ap number_of found,
          ap (λ (x : Mark). number_of (next x.slot)) q,
        )
      ];
      used = λ m r c e. elim (Contains-push_cases ms n m c) [
        | inl a ↦ let k = h.used m r a e in (kept m.slot m.found m r k.0, k.1)
        | inr q ↦
            let same : p ≡ r = some_same p r (sym step ∙ ap (λ (x : Mark). x.step) q ∙ e) in
            let F : Step → Type 0 = λ x. IsFirstAt (ms ++ n ∷ []) n.slot n.found n x × CanStep x n.found in
            let G : Mark → Type 0 = λ x. IsFirstAt (ms ++ n ∷ []) x.slot x.found x r × CanStep r x.found in
            subst G q (subst F same (first, can))
      ];
      path = λ s.
          let k = h.path s in
          elim (same_slot_cases s n.slot) [
            | inl e ↦
                let at : word s ≡ n.found = ap word e ∙ sym found in
                let T : ℕ → Type 0 = λ x. IsPath (ms ++ n ∷ []) s 0 k.0 x in
                let to : IsPath (ms ++ n ∷ []) s 0 k.0 n.found = subst T at (path_kept ms (ms ++ n ∷ []) s 0 k.0 (word s) (kept s) k.1) in
                let F : SlotName → Type 0 = λ x. IsFirstAt (ms ++ n ∷ []) x n.found n p in
                let Q : ℕ → Type 0 = λ x. HasPath (ms ++ n ∷ []) s x in
                subst Q (sym (ap next e ∙ here)) (
                  k.0 ++ stepped p n.found ∷ [],
                  path_push (ms ++ n ∷ []) s 0 k.0 n.found n p to (subst F (sym e) first) can,
                  λ m c g. elim (Contains-push_cases ms n m c) [
                    | inl a ↦ Contains-append_left (0 ∷ k.0) (stepped p n.found ∷ []) m.found (k.2 m a g)
                    | inr q ↦ Contains-append_left (0 ∷ k.0) (stepped p n.found ∷ []) m.found
                        (let R : ℕ → Type 0 = λ x. Contains (0 ∷ k.0) x in
                        subst R (ap (λ (x : Mark). x.found) q) (path_last (ms ++ n ∷ []) s 0 k.0 n.found to))
                  ],
                )
            | inr ne ↦ rw (other s ne) (
              k.0,
              path_kept ms (ms ++ n ∷ []) s 0 k.0 (word s) (kept s) k.1,
              λ m c g. elim (Contains-push_cases ms n m c) [
                | inl a ↦ k.2 m a g
                | inr q ↦ absurd (ne (sym g ∙ ap (λ (x : Mark). x.slot) (sym q)))
              ],
            )
          ];
    }

-- at the end no step was made at a slot's word
pub runs_end : (ms : List Mark) (word : SlotName → ℕ) (s : SlotName) → HasRuns ms word
    → (m : Mark) (p : Step) → IsFirstAt ms s (word s) m p → CanStep p (word s) → ⊥
runs_end ms word s h m p f c =
    let P : Option Step → Type 0 = λ o. IsSome o in
    let made : IsSome m.step = subst P (sym f.step) (some_is p) in
    omega (arith, h.counted m f.among made, ap number_of f.found, ap (λ x. number_of (word x)) f.slot)

-- each slot has one run, which ends at the slot's word
pub slots_of_runs : (ms : List Mark) (word : SlotName → ℕ) → HasRuns ms word → Slots ms
slots_of_runs ms word h s =
    let k = h.path s in (
      k.0,
      run_of_path ms s 0 k.0 (word s) (runs_end ms word s h) k.1,
      record {
        found = k.2;
        used = λ m p c e step.
            let u = h.used m p c step in
            let F : SlotName → Type 0 = λ x. IsFirstAt ms x m.found m p in
            (subst F e u.0, u.1);
      },
    )

-- only an issue finds the word 0
pub issue_first : (p : Step) (w : ℕ) → CanStep p w → w ≡ 0 → p ≡ steps.Issue
issue_first steps.Issue w can z = refl
issue_first steps.Copy w can z = absurd (omega (arith, can.0, z))
issue_first steps.Reset w can z = absurd (omega (arith, can.0, z))
issue_first steps.Free w can z = absurd (omega (arith, can.0, z))
issue_first steps.Write w can z = absurd (omega (arith, can.0, z))
