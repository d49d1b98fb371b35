-- The first holder of a slot at a number, and which records returned it there.
use Rattle.std.proofs.Common.{◌≡◌, ℕ, ◌+◌, ◌⊎◌, Bool, true, cond, List, [], ◌∷◌, Option, Some, None, refl, sym, ◌∙◌, ap, subst, arith, inl, inr}
use Rattle.std.specs.Prelude.{Contains, AllPairs, ◌==◌}
use Rattle.std.proofs.lemmas.Bool.{cases_Bool, cases_eq, eq-eqb, eqb-true, and_parts, false≢true}
use Rattle.pa_slot.specs.declared.word.SlotName.{SlotName}
use Rattle.pa_slot.specs.declared.word.Step.{Step}
use Rattle.pa_slot.specs.declared.word.Step.TheVariants.{Issue, Copy, Reset, Free, Write}
use Rattle.pa_slot.specs.Count.{number_of, held_of, refs_of}
use Rattle.pa_slot.specs.Run.{Mark, IsReturning, Slots}
use Rattle.pa_slot.proofs.Runs.{same_slot_eq, same_slot_yes}
use Rattle.pa_lists.proofs.Members.{not_in_none, first_in, later_in, in_cases}
use Rattle.pa_lists.proofs.Pairs.{pairs_head, pairs_tail}
use Rattle.pa_rules.specs.declared.played.Played.{Played}
use Rattle.pa_rules.specs.Played.{mark_of, marks_of}
use Rattle.pa_rules.specs.Holders.{Holder, InRoot, WithThread, IsReturnedBy, IsFirstHolder}
use Rattle.pa_rules.specs.Flow.{returns_at, is_return, is_return_of}
use Rattle.pa_rules.proofs.Flowing.{returns_yes}
use Rattle.pa_rules.proofs.Running.{OtherRecord}
use Rattle.pa_legal.specs.Turns.{has}
use Rattle.pa_legal.specs.Flows.{is_return_at, marked, over, returns_at as returned_at}
use Rattle.pa_legal.proofs.Words.{Steps, one_stepper}

returning_by : (p : Step) (w : ℕ) → returns_at p w ≡ true → IsReturning p w
returning_by Issue w passes = absurd (false≢true passes)
returning_by Copy w passes = absurd (false≢true passes)
returning_by Reset w passes = let (a, b) = and_parts _ _ passes in (eqb-true (held_of w) 0 a, eqb-true (refs_of w) 1 b)
returning_by Free w passes = let (a, b) = and_parts _ _ passes in (eqb-true (held_of w) 1 a, eqb-true (refs_of w) 0 b)
returning_by Write w passes = absurd (false≢true passes)

-- how a record returned the slot
pub record Returns (ps : List Played) (s : SlotName) (k : ℕ) (x : Played) (m : Mark) (p : Step) : Type 0 where
  pub steps : Steps ps s x m p
  pub returning : IsReturning p m.found
  pub number : number_of m.found + 1 ≡ k

by_step : (ps : List Played) (s : SlotName) (k : ℕ) (x : Played) (m : Mark) (o : Option Step) → Contains ps x → mark_of x ≡ Some m
    → m.step ≡ o → s ≡ m.slot → is_return m.found o ≡ true → number_of m.found + 1 ≡ k →
    (p : Step) × Returns ps s k x m p
by_step ps s k x m None among mark step slot passes number = absurd (false≢true passes)
by_step ps s k x m (Some p) among mark step slot passes number = (
  p,
  record {
    steps = record { among = among; mark = mark; slot = sym slot; step = step };
    returning = returning_by p m.found passes;
    number = number;
  },
)

marked_cases : (test : Mark → Bool) (o : Option Mark) → (marked test o ≡ 0) ⊎ ((m : Mark) × (o ≡ Some m) × (test m ≡ true))
marked_cases test None = inl refl
marked_cases test (Some m) = elim (cases_Bool (test m)) [ inl hit ↦ inr (m, refl, hit) | inr miss ↦ inl (rw miss refl) ]

-- a record returned the slot at the number, or it didn't
returned_cases : (ps : List Played) (s : SlotName) (k : ℕ) (x : Played) → Contains ps x → (returned_at s k x ≡ 0) ⊎
    ((m : Mark) × (p : Step) × Returns ps s k x m p)
returned_cases ps s k x among = elim (marked_cases (is_return_at s k) (mark_of x)) [
  | inl none ↦ inl none
  | inr (m, mark, hit) ↦
      let (first, number) = and_parts _ _ hit in
      let (slot, step) = and_parts _ _ first in
      let (p, is) = by_step ps s k x m m.step among mark refl (same_slot_eq s m.slot slot) step
      (eqb-true (number_of m.found + 1) k number) in
      inr (m, p, is)
]

pub is_returned : (ps : List Played) (s : SlotName) (k : ℕ) (x : Played) (m : Mark) (p : Step) → Returns ps s k x m p →
    IsReturnedBy ps s k x
is_returned ps s k x m p r = (r.steps.among, m, p, r.steps.mark, r.steps.slot, r.steps.step, r.returning, r.number)

-- sums in which no record or one counts
over_none : (t : ℕ) (g : Played → ℕ) (xs : List Played) → ((x : Played) → Contains xs x → g x ≡ 0) → over t g xs ≡ 0
over_none t g [] none = refl
over_none t g (x ∷ xs) none =
    let a = none x (first_in x xs) in
    let ih = over_none t g xs (λ y among. none y (later_in x y xs among)) in
    let here : cond {A = ℕ} (x.thread == t) (g x) 0 ≡ 0 =
    elim (cases_Bool (x.thread == t)) [ inl hit ↦ rw hit a | inr miss ↦ rw miss refl ] in
    omega arith

over_one : (t : ℕ) (g : Played → ℕ) (xs : List Played) (x : Played) → AllPairs OtherRecord xs → Contains xs x → g x ≡ 1 →
    ((y : Played) → Contains xs y → (g y ≡ 0) ⊎ (y ≡ x)) →
    over t g xs ≡ cond {A = ℕ} (x.thread == t) 1 0
over_one t g [] x h among one each = absurd (not_in_none x among)
over_one t g (y ∷ ys) x h among one each = elim (in_cases y x ys among) [
  | inl e ↦
      let rest = over_none t g ys (λ z member. elim (each z (later_in y z ys member)) [
        | inl none ↦ none
        | inr same ↦ absurd (pairs_head OtherRecord y z ys h member (ap (λ (w : Played). w.line) (e ∙ sym same)))
      ]) in
      let here : cond {A = ℕ} (y.thread == t) (g y) 0 ≡ cond {A = ℕ} (x.thread == t) (g x) 0 =
      ap (λ (z : Played). cond {A = ℕ} (z.thread == t) (g z) 0) e in
      let now : cond {A = ℕ} (x.thread == t) (g x) 0 ≡ cond {A = ℕ} (x.thread == t) 1 0 = ap (λ n. cond {A = ℕ} (x.thread == t) n 0) one in
      omega arith
  | inr later ↦
      let ih = over_one t g ys x (pairs_tail OtherRecord y ys h) later one (λ z member. each z (later_in y z ys member)) in
      let none : g y ≡ 0 = elim (each y (first_in y ys)) [
        | inl none ↦ none
        | inr same ↦ absurd (pairs_head OtherRecord y x ys h later (ap (λ (w : Played). w.line) same))
      ] in
      let here : cond {A = ℕ} (y.thread == t) (g y) 0 ≡ 0 =
      elim (cases_Bool (y.thread == t)) [ inl hit ↦ rw hit none | inr miss ↦ rw miss refl ] in
      omega arith
]

-- some record returned it, or none
some_returned : (ps xs : List Played) (s : SlotName) (k : ℕ) → ((x : Played) → Contains xs x → Contains ps x) →
    ((x : Played) → Contains xs x → returned_at s k x ≡ 0) ⊎ ((x : Played) × (m : Mark) × (p : Step) × Returns ps s k x m p)
some_returned ps [] s k inside = inl (λ x among. absurd (not_in_none x among))
some_returned ps (y ∷ ys) s k inside = elim (returned_cases ps s k y (inside y (first_in y ys))) [
  | inr (m, p, r) ↦ inr (y, m, p, r)
  | inl none ↦ elim (some_returned ps ys s k (λ x among. inside x (later_in y x ys among))) [
    | inr found ↦ inr found
    | inl rest ↦ inl (λ x among. elim (in_cases y x ys among) [
      | inl e ↦ ap (returned_at s k) (sym e) ∙ none
      | inr later ↦ rest x later
    ])
  ]
]

-- the first holder, which each thread is as often as it returned the slot there
pub record IsFirst (ps : List Played) (s : SlotName) (k : ℕ) (h : Holder) : Type 0 where
  pub first : IsFirstHolder ps s k h
  pub had : (t : ℕ) → over t (returned_at s k) ps ≡ has t h

-- no first holder: the slot was returned at the number by none
pub record IsNever (ps : List Played) (s : SlotName) (k : ℕ) : Type 0 where
  pub later : k ≡ 0 → ⊥
  pub none : (t : ℕ) → over t (returned_at s k) ps ≡ 0

never_at_0 : (s : SlotName) (x : Played) → returned_at s 0 x ≡ 0
never_at_0 s x = elim (marked_cases (is_return_at s 0) (mark_of x)) [
  | inl none ↦ none
  | inr (m, mark, hit) ↦ let low : number_of m.found + 1 ≡ 0 =
      eqb-true (number_of m.found + 1) 0 (and_parts (is_return_of s m) (number_of m.found + 1 == 0) hit).1 in absurd (omega arith)
]

returned_once : (ps : List Played) (s : SlotName) (k : ℕ) (x : Played) (m : Mark) (p : Step) → AllPairs OtherRecord ps →
    Slots (marks_of ps) → Returns ps s k x m p → (y : Played) → Contains ps y →
    (returned_at s k y ≡ 0) ⊎ (y ≡ x)
returned_once ps s k x m p lines slots r y among = elim (returned_cases ps s k y among) [
  | inl none ↦ inl none
  | inr (n, q, r') ↦ let a = r.number in let b = r'.number in inr (one_stepper ps s y x n m q p lines slots r'.steps r.steps (omega arith))
]

pub first_holder : (ps : List Played) (s : SlotName) (k : ℕ) → AllPairs OtherRecord ps → Slots (marks_of ps) →
    ((h : Holder) × IsFirst ps s k h) ⊎ IsNever ps s k
first_holder ps s k lines slots = elim (cases_eq k 0) [
  | inl zero_first ↦ inl (
    InRoot,
    record {
      first = inl (zero_first, refl);
      had = λ t. over_none t (returned_at s k) ps (λ x among. subst (λ z. returned_at s z x ≡ 0) (sym zero_first) (never_at_0 s x));
    },
  )
  | inr later ↦ elim (some_returned ps ps s k (λ x among. among)) [
    | inl none ↦ inr (record { later = later; none = λ t. over_none t (returned_at s k) ps none })
    | inr (x, m, p, r) ↦ inl (
      WithThread x.thread,
      record {
        first = inr (x, is_returned ps s k x m p r, refl);
        had = λ t. over_one t (returned_at s k) ps x lines r.steps.among (counts x m p r) (returned_once ps s k x m p lines slots r);
      },
    )
  ]
]
  where
    counts : (x : Played) (m : Mark) (p : Step) → Returns ps s k x m p → returned_at s k x ≡ 1
    counts x m p r =
        rw (
          r.steps.mark,
          same_slot_yes s m.slot (sym r.steps.slot),
          r.steps.step,
          returns_yes p m.found r.returning,
          eq-eqb (number_of m.found + 1) k r.number,
        ) refl
