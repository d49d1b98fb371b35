-- Sums over the slots of some marks, each once, and what one record adds to what the marks weigh.
use Rattle.std.proofs.Common.{◌≡◌, ◌≢◌, ℕ, ◌+◌, ◌*◌, Bool, true, false, ◌&&◌, cond, List, [], ◌∷◌, map, filter, Option, Some, None, refl, sym, ◌∙◌, ap, subst, arith, inl, inr}
use Rattle.std.specs.Prelude.{Contains, AllPairs, sum, sum_by, count_by, if◌then◌else◌, ◌==◌}
use Rattle.std.proofs.Math.Nat.{add-mul}
use Rattle.std.proofs.lemmas.Bool.{cases_Bool, cases_eq, eq-eqb, ne_eqb}
use Rattle.std.proofs.lemmas.List.Sums.{sum_by-cons, sum-map}
use Rattle.pa_slot.specs.declared.word.SlotName.{SlotName}
use Rattle.pa_slot.specs.declared.word.Step.{Step}
use Rattle.pa_slot.specs.Run.{Mark, same_slot}
use Rattle.pa_slot.proofs.Runs.{same_slot_yes, same_slot_no}
use Rattle.pa_record.specs.Laws.{times}
use Rattle.pa_lists.proofs.Members.{not_in_none, first_in, later_in, in_cases}
use Rattle.pa_lists.proofs.Pairs.{pairs_none, pairs_cons, pairs_head, pairs_tail}
use Rattle.pa_rules.specs.declared.played.Played.{Played}
use Rattle.pa_rules.specs.Played.{mark_of, marks_of}
use Rattle.pa_rules.specs.Flow.{at_step, steps_so}
use Rattle.pa_rules.proofs.Totals.{total, total_add, total_same, some_times, total_none}
use Rattle.pa_rules.proofs.FourPlaces.{times_member}
use Rattle.pa_legal.specs.Tallies.{weight_of}

-- ---- each name once

abbrev pub distinct : List SlotName → List SlotName
distinct [] = []
distinct (s ∷ ss) = if times s ss == 0 then s ∷ distinct ss else distinct ss

pub in_distinct : (ss : List SlotName) (s : SlotName) → Contains (distinct ss) s → Contains ss s
in_distinct [] s among = among
in_distinct (t ∷ ss) s among = elim (cases_eq (times t ss) 0) [
  | inl none ↦ elim (in_cases t s (distinct ss) (rw (eq-eqb (times t ss) 0 none) at among)) [
    | inl e ↦ subst (λ z. Contains (t ∷ ss) z) e (first_in t ss)
    | inr rest ↦ later_in t s ss (in_distinct ss s rest)
  ]
  | inr some ↦ later_in t s ss (in_distinct ss s (rw (ne_eqb (times t ss) 0 some) at among))
]

pub distinct_in : (ss : List SlotName) (s : SlotName) → Contains ss s → Contains (distinct ss) s
distinct_in [] s among = among
distinct_in (t ∷ ss) s among = elim (cases_eq (times t ss) 0) [
  | inl none ↦ rw (eq-eqb (times t ss) 0 none) (elim (in_cases t s ss among) [
    | inl e ↦ subst (λ z. Contains (t ∷ distinct ss) z) e (first_in t (distinct ss))
    | inr rest ↦ later_in t s (distinct ss) (distinct_in ss s rest)
  ])
  | inr some ↦ rw (ne_eqb (times t ss) 0 some) (elim (in_cases t s ss among) [
    | inl e ↦ distinct_in ss s (subst (λ z. Contains ss z) e (times_member t ss (omega arith)))
    | inr rest ↦ distinct_in ss s rest
  ])
]

pub distinct_once : (ss : List SlotName) → AllPairs ◌≢◌ (distinct ss)
distinct_once [] = pairs_none (λ (s t : SlotName). s ≢ t)
distinct_once (t ∷ ss) = elim (cases_eq (times t ss) 0) [
  | inl none ↦ rw (eq-eqb (times t ss) 0 none)
      (pairs_cons (λ (s u : SlotName). s ≢ u) t (distinct ss)
      (λ u among e. let some = some_times t ss (subst (λ z. Contains ss z) (sym e) (in_distinct ss u among)) in omega arith)
      (distinct_once ss))
  | inr some ↦ rw (ne_eqb (times t ss) 0 some) (distinct_once ss)
]

-- ---- sums

pub total_sum : (f : SlotName → ℕ) (ss : List SlotName) → total f ss ≡ sum (map f ss)
total_sum f ss = by_sum ss ∙ sym (sum-map f ss)
  where
    by_sum : (ss : List SlotName) → total f ss ≡ sum_by f ss
    by_sum [] = refl
    by_sum (s ∷ ss) = let a = sum_by-cons f s ss in let ih = by_sum ss in omega arith

-- what those weigh that pass
pub total_filter : (test : SlotName → Bool) (f : SlotName → ℕ) (ss : List SlotName) →
    total f (filter test ss) ≡ total (λ s. cond {A = ℕ} (test s) (f s) 0) ss
total_filter test f [] = refl
total_filter test f (s ∷ ss) =
    let ih = total_filter test f ss in
    elim (cases_Bool (test s)) [
      | inl hit ↦ rw hit (ap (λ n. f s + n) ih)
      | inr miss ↦ rw miss (omega arith)
    ]

-- one of different names
once_total : (g : SlotName → ℕ) (n : SlotName) (ss : List SlotName) → AllPairs ◌≢◌ ss → Contains ss n →
    total (λ s. cond {A = ℕ} (same_slot s n) (g s) 0) ss ≡ g n
once_total g n [] h among = absurd (not_in_none n among)
once_total g n (s ∷ ss) h among = elim (in_cases s n ss among) [
  | inl e ↦
      let rest = total_same (λ t. cond {A = ℕ} (same_slot t n) (g t) 0) (λ t. 0) ss
      (λ t member. rw (same_slot_no t n (λ f. pairs_head (λ (a b : SlotName). a ≢ b) s t ss h member (e ∙ sym f))) refl) in
      let none = total_none ss in
      let here : cond {A = ℕ} (same_slot s n) (g s) 0 ≡ g s = rw (same_slot_yes s n e) refl in
      let same : g s ≡ g n = ap g e in
      omega arith
  | inr later ↦
      let ih = once_total g n ss (pairs_tail (λ (a b : SlotName). a ≢ b) s ss h) later in
      let here : cond {A = ℕ} (same_slot s n) (g s) 0 ≡ 0 =
      rw (same_slot_no s n (λ f. pairs_head (λ (a b : SlotName). a ≢ b) s n ss h later f)) refl in
      omega arith
]

-- ---- marks

-- what the steps of a slot weigh that pass
abbrev pub slot_weight : (Step → ℕ → Bool) → SlotName → ℕ → List Mark → ℕ
slot_weight test s c ms = sum_by (λ (m : Mark). cond (steps_so test s m) c 0) ms

pub weight_times : (test : Step → ℕ → Bool) (s : SlotName) (c : ℕ) (ms : List Mark) →
    slot_weight test s c ms ≡ count_by (steps_so test s) ms * c
weight_times test s c [] = omega arith
weight_times test s c (m ∷ ms) =
    let a = sum_by-cons (λ (n : Mark). cond {A = ℕ} (steps_so test s n) c 0) m ms in
    let b = sum_by-cons (λ (n : Mark). cond {A = ℕ} (steps_so test s n) 1 0) m ms in
    let ih = weight_times test s c ms in
    let d : count_by (steps_so test s) (m ∷ ms) * c ≡ (cond {A = ℕ} (steps_so test s m) 1 0 + count_by (steps_so test s) ms) * c =
    ap (λ n. n * c) b in
    let e = add-mul (cond {A = ℕ} (steps_so test s m) 1 0) (count_by (steps_so test s) ms) c in
    let f : cond {A = ℕ} (steps_so test s m) c 0 ≡ cond {A = ℕ} (steps_so test s m) 1 0 * c = once_times (steps_so test s m) in
    omega arith
  where
    once_times : (b : Bool) → cond {A = ℕ} b c 0 ≡ cond {A = ℕ} b 1 0 * c
    once_times true = omega arith
    once_times false = omega arith

-- over all names it is what the marks weigh
pub over_names : (test : Step → ℕ → Bool) (g : SlotName → ℕ) (ss : List SlotName) (ms : List Mark) → AllPairs ◌≢◌ ss →
    ((m : Mark) → Contains ms m → Contains ss m.slot) →
    total (λ s. slot_weight test s (g s) ms) ss ≡ weight_of test g ms
over_names test g ss [] h inside = total_none ss
over_names test g ss (m ∷ ms) h inside =
    let a = total_same (λ s. slot_weight test s (g s) (m ∷ ms))
    (λ s. cond {A = ℕ} (steps_so test s m) (g s) 0 + slot_weight test s (g s) ms) ss
    (λ s among. sum_by-cons (λ (n : Mark). cond {A = ℕ} (steps_so test s n) (g s) 0) m ms) in
    let b = total_add (λ s. cond {A = ℕ} (steps_so test s m) (g s) 0) (λ s. slot_weight test s (g s) ms) ss in
    let ih = over_names test g ss ms h (λ n among. inside n (later_in m n ms among)) in
    let c = at_mark (at_step test m.found m.step) in
    let d = sum_by-cons (λ (n : Mark). cond {A = ℕ} (at_step test n.found n.step) (g n.slot) 0) m ms in
    omega arith
  where
    at_mark : (b : Bool) → total (λ s. cond {A = ℕ} (same_slot s m.slot && b) (g s) 0) ss ≡ cond {A = ℕ} b (g m.slot) 0
    at_mark true =
        total_same (λ s. cond {A = ℕ} (same_slot s m.slot && true) (g s) 0) (λ s. cond {A = ℕ} (same_slot s m.slot) (g s) 0) ss
        (λ s among. with_true (same_slot s m.slot) (g s))
        ∙ once_total g m.slot ss h (inside m (first_in m ms))
      where
        with_true : (p : Bool) (n : ℕ) → cond {A = ℕ} (p && true) n 0 ≡ cond {A = ℕ} p n 0
        with_true true n = refl
        with_true false n = refl
    at_mark false = total_same (λ s. cond {A = ℕ} (same_slot s m.slot && false) (g s) 0) (λ s. 0) ss
        (λ s among. with_false (same_slot s m.slot) (g s)) ∙ total_none ss
      where
        with_false : (p : Bool) (n : ℕ) → cond {A = ℕ} (p && false) n 0 ≡ 0
        with_false true n = refl
        with_false false n = refl

-- ---- one record

-- what one record's step weighs
abbrev pub one_weight : (Step → ℕ → Bool) → (SlotName → ℕ) → Option Mark → ℕ
one_weight test weight None = 0
one_weight test weight (Some m) = if at_step test m.found m.step then weight m.slot else 0

-- the first record of a list weighs that, beside the rest
pub weight_first : (test : Step → ℕ → Bool) (weight : SlotName → ℕ) (x : Played) (xs : List Played) →
    weight_of test weight (marks_of (x ∷ xs)) ≡ one_weight test weight (mark_of x) + weight_of test weight (marks_of xs)
weight_first test weight x xs = go (mark_of x) refl
  where
    plain : (n : ℕ) → n ≡ 0 + n
    plain n = omega arith

    go : (o : Option Mark) → mark_of x ≡ o →
        weight_of test weight (marks_of (x ∷ xs)) ≡ one_weight test weight o + weight_of test weight (marks_of xs)
    go None e = rw e (plain (weight_of test weight (marks_of xs)))
    go (Some m) e = rw e (sum_by-cons (λ (n : Mark). if at_step test n.found n.step then weight n.slot else 0) m (marks_of xs))
