-- Along a slot's run it is issued as often as it is returned, and once more if its last word isn't free.
use Rattle.std.proofs.Common.{◌≡◌, ◌≢◌, ℕ, ◌+◌, ◌<◌, ◌≤◌, Bool, true, false, ◌&&◌, cond, leb, List, [], ◌∷◌, Option, Some, None, IsSome, refl, sym, ◌∙◌, ap, subst, arith, inl, inr}
use Rattle.std.specs.Prelude.{Contains, AllPairs, count_by, ◌==◌}
use Rattle.std.proofs.lemmas.Bool.{cases_Bool, cases_eq, cases_lt, eq-eqb, ne_eqb, and_parts, le-leb, lt-leb, leb-true, false≢true, false_from_ne_true}
use Rattle.std.proofs.lemmas.List.Sums.{sum_by-cons}
use Rattle.pa_slot.specs.declared.word.SlotName.{SlotName}
use Rattle.pa_slot.specs.declared.word.Step.{Step}
use Rattle.pa_slot.specs.declared.word.Step.TheVariants.{Issue, Copy, Reset, Free, Write}
use Rattle.pa_slot.specs.Count.{CanStep, stepped, number_of, held_of, refs_of}
use Rattle.pa_slot.specs.Run.{Mark, IsFirstAt, IsRunFrom, IsOneRun, same_slot}
use Rattle.pa_slot.proofs.Arith.{stepped_is}
use Rattle.pa_slot.proofs.Runs.{same_slot_eq, same_slot_yes, number_stepped}
use Rattle.pa_lists.proofs.Members.{not_in_none, first_in, later_in, in_cases, of_some}
use Rattle.pa_lists.proofs.Elements.{in_one}
use Rattle.pa_lists.proofs.Pairs.{pairs_none, pairs_cons, pairs_head, pairs_tail}
use Rattle.pa_rules.specs.declared.played.Played.{Played}
use Rattle.pa_rules.specs.Played.{mark_of, marks_of}
use Rattle.pa_rules.specs.Report.{last_word}
use Rattle.pa_rules.specs.Flow.{returns_at, is_issue, is_return, at_step, steps_so, is_issue_of, is_return_of, issues_of, returns_of, busy, IssuesReturn}
use Rattle.pa_rules.proofs.Marking.{mark_line}

abbrev pub OtherLine : Mark → Mark → Type 0
OtherLine m n = m.line ≢ n.line

-- a list whose elements differ in f has one of each value
pub one_by : {A B : Type 0} (f : A → B) (xs : List A) (x y : A) → AllPairs (λ u v. f u ≢ f v) xs → Contains xs x → Contains xs y →
    f x ≡ f y → x ≡ y
one_by f [] x y h first second e = absurd (not_in_none x first)
one_by f (z ∷ zs) x y h first second e = elim (in_cases z x zs first) [
  | inl same ↦ elim (in_cases z y zs second) [
    | inl same' ↦ sym same ∙ same'
    | inr rest ↦ absurd (pairs_head (λ u v. f u ≢ f v) z y zs h rest (ap f same ∙ e))
  ]
  | inr rest ↦ elim (in_cases z y zs second) [
    | inl same ↦ absurd (pairs_head (λ u v. f u ≢ f v) z x zs h rest (ap f same ∙ sym e))
    | inr rest' ↦ one_by f zs x y (pairs_tail (λ u v. f u ≢ f v) z zs h) rest rest' e
  ]
]

pub made_some : (o : Option Step) (p : Step) → o ≡ Some p → IsSome o
made_some o p e = subst (λ z. IsSome z) (sym e) refl

-- two first marks at a word have one line
pub first_line : (ms : List Mark) (s : SlotName) (u : ℕ) (m n : Mark) (p q : Step) → IsFirstAt ms s u m p → IsFirstAt ms s u n q →
    m.line ≡ n.line
first_line ms s u m n p q f g =
    let a = f.least n g.among g.slot g.found (made_some n.step q g.step) in
    let b = g.least m f.among f.slot f.found (made_some m.step p f.step) in
    omega arith

-- if no two marks have the same line, two first marks at a slot's word are one mark, and runs from one word end in one word
pub one_mark : (ms : List Mark) (s : SlotName) (u : ℕ) (m n : Mark) (p q : Step) → AllPairs OtherLine ms → IsFirstAt ms s u m p →
    IsFirstAt ms s u n q → m ≡ n
one_mark ms s u m n p q h f g = one_by (λ (z : Mark). z.line) ms m n h f.among g.among (first_line ms s u m n p q f g)

one_step : (ms : List Mark) (s : SlotName) (u : ℕ) (m n : Mark) (p q : Step) → AllPairs OtherLine ms → IsFirstAt ms s u m p →
    IsFirstAt ms s u n q → p ≡ q
one_step ms s u m n p q h f g = of_some p q (sym f.step ∙ ap (λ (z : Mark). z.step) (one_mark ms s u m n p q h f g) ∙ g.step)

pub one_run : (ms : List Mark) (s : SlotName) (u w : ℕ) (vs ws : List ℕ) → AllPairs OtherLine ms → u ≡ w → IsRunFrom ms s u vs →
    IsRunFrom ms s w ws → last_word u vs ≡ last_word w ws
one_run ms s u w [] [] h e f g = e
one_run ms s u w [] (x ∷ xs) h e f (m, p, first, can, is, rest) =
    absurd (f m p (subst (λ z. IsFirstAt ms s z m p) (sym e) first) (subst (λ z. CanStep p z) (sym e) can))
one_run ms s u w (v ∷ vs) [] h e (m, p, first, can, is, rest) g =
    absurd (g m p (subst (λ z. IsFirstAt ms s z m p) e first) (subst (λ z. CanStep p z) e can))
one_run ms s u w (v ∷ vs) (x ∷ xs) h e (m, p, first, can, is, rest) (n, q, first', can', is', rest') =
    let same = one_step ms s w m n p q h (subst (λ z. IsFirstAt ms s z m p) e first) first' in
    let next : v ≡ x = is ∙ ap (stepped p) e ∙ ap (λ z. stepped z w) same ∙ sym is' in
    one_run ms s v x vs xs h next rest rest'

-- ---- counts

count_same : (f g : Mark → Bool) (ms : List Mark) → ((m : Mark) → Contains ms m → f m ≡ g m) → count_by f ms ≡ count_by g ms
count_same f g [] h = refl
count_same f g (m ∷ ms) h =
    let a = sum_by-cons (λ y. cond (f y) 1 0) m ms in
    let b = sum_by-cons (λ y. cond (g y) 1 0) m ms in
    let here : cond {A = ℕ} (f m) 1 0 ≡ cond {A = ℕ} (g m) 1 0 = ap (λ z. cond {A = ℕ} z 1 0) (h m (first_in m ms)) in
    let ih = count_same f g ms (λ n among. h n (later_in m n ms among)) in
    omega arith

count_none : (f : Mark → Bool) (ms : List Mark) → ((m : Mark) → Contains ms m → f m ≡ true → ⊥) → count_by f ms ≡ 0
count_none f [] h = refl
count_none f (m ∷ ms) h =
    let a = sum_by-cons (λ y. cond (f y) 1 0) m ms in
    let miss : f m ≡ false = false_from_ne_true _ (h m (first_in m ms)) in
    let here : cond {A = ℕ} (f m) 1 0 ≡ 0 = ap (λ z. cond {A = ℕ} z 1 0) miss in
    let ih = count_none f ms (λ n among. h n (later_in m n ms among)) in
    omega arith

-- the test whether a mark passes and found this number or a later one
abbrev from : ℕ → (Mark → Bool) → Mark → Bool
from k f m = leb k (number_of m.found) && f m

with_true : (p q : Bool) → q ≡ true → (p && q) ≡ p
with_true true q e = e
with_true false q e = refl

with_false : (p q : Bool) → q ≡ false → (p && q) ≡ false
with_false true q e = e
with_false false q e = refl

from_pass : (k : ℕ) (f : Mark → Bool) (m : Mark) → f m ≡ true → from k f m ≡ leb k (number_of m.found)
from_pass k f m e = with_true (leb k (number_of m.found)) (f m) e

from_fail : (k : ℕ) (f : Mark → Bool) (m : Mark) → f m ≡ false → from k f m ≡ false
from_fail k f m e = with_false (leb k (number_of m.found)) (f m) e

-- one that isn't at the number counts from the next one on
from_next : (k : ℕ) (f : Mark → Bool) (m : Mark) → (f m ≡ true → number_of m.found ≡ k → ⊥) → from k f m ≡ from (k + 1) f m
from_next k f m h = elim (cases_Bool (f m)) [
  | inl hit ↦ elim (cases_lt k (number_of m.found)) [
    | inl less ↦ from_pass k f m hit ∙ le-leb _ _ (omega arith) ∙ sym (le-leb (k + 1) _ (omega arith)) ∙ sym (from_pass (k + 1) f m hit)
    | inr more ↦
        let low : number_of m.found < k = below k (number_of m.found) more (h hit) in
        from_pass k f m hit ∙ lt-leb _ _ low ∙ sym (lt-leb (k + 1) _ (omega arith)) ∙ sym (from_pass (k + 1) f m hit)
  ]
  | inr miss ↦ from_fail k f m miss ∙ sym (from_fail (k + 1) f m miss)
]
  where
    below : (a b : ℕ) → b ≤ a → (b ≡ a → ⊥) → b < a
    below a b le ne = elim (cases_eq b a) [ inl e ↦ absurd (ne e) | inr other ↦ omega arith ]

-- one mark at the number, and those from the next on
one_at : (k : ℕ) (f : Mark → Bool) (ms : List Mark) (m : Mark) → AllPairs OtherLine ms → Contains ms m → number_of m.found ≡ k
    → ((n : Mark) → Contains ms n → f n ≡ true → number_of n.found ≡ k → n.line ≡ m.line) →
    count_by (from k f) ms ≡ cond {A = ℕ} (f m) 1 0 + count_by (from (k + 1) f) ms
one_at k f [] m h among at only = absurd (not_in_none m among)
one_at k f (x ∷ ms) m h among at only =
    let a = sum_by-cons (λ y. cond (from k f y) 1 0) x ms in
    let b = sum_by-cons (λ y. cond (from (k + 1) f y) 1 0) x ms in
    elim (in_cases x m ms among) [
      | inl e ↦
          let rest = count_same (from k f) (from (k + 1) f) ms (λ n member. from_next k f n (λ hit there.
          pairs_head OtherLine x n ms h member (ap (λ (z : Mark). z.line) e ∙ sym (only n (later_in x n ms member) hit there)))) in
          let place : number_of x.found ≡ k = ap (λ (z : Mark). number_of z.found) e ∙ at in
          let now : cond {A = ℕ} (from k f x) 1 0 ≡ cond {A = ℕ} (f x) 1 0 =
          at_it (leb k (number_of x.found)) (f x) (le-leb _ _ (omega arith)) in
          let then' : cond {A = ℕ} (from (k + 1) f x) 1 0 ≡ 0 =
          past_it (leb (k + 1) (number_of x.found)) (f x) (lt-leb _ _ (omega arith)) in
          let same : cond {A = ℕ} (f x) 1 0 ≡ cond {A = ℕ} (f m) 1 0 = ap (λ z. cond {A = ℕ} (f z) 1 0) e in
          omega arith
      | inr rest ↦
          let ih = one_at k f ms m (pairs_tail OtherLine x ms h) rest at (λ n member. only n (later_in x n ms member)) in
          let same = from_next k f x (λ hit there. pairs_head OtherLine x m ms h rest (only x (first_in x ms) hit there)) in
          let here : cond {A = ℕ} (from k f x) 1 0 ≡ cond {A = ℕ} (from (k + 1) f x) 1 0 = ap (λ z. cond {A = ℕ} z 1 0) same in
          omega arith
    ]
  where
    at_it : (p q : Bool) → p ≡ true → cond {A = ℕ} (p && q) 1 0 ≡ cond {A = ℕ} q 1 0
    at_it p q e = rw e refl

    past_it : (p q : Bool) → p ≡ false → cond {A = ℕ} (p && q) 1 0 ≡ 0
    past_it p q e = rw e refl

-- ---- words that are free or not

pub busy_free : (w : ℕ) → held_of w ≡ 0 → refs_of w ≡ 0 → busy w ≡ 0
busy_free w a b = rw (eq-eqb (held_of w) 0 a, eq-eqb (refs_of w) 0 b) refl

pub busy_some : (w : ℕ) → 0 < held_of w + refs_of w → busy w ≡ 1
busy_some w some = elim (cases_eq (held_of w) 0) [
  | inl a ↦ rw (eq-eqb (held_of w) 0 a, ne_eqb (refs_of w) 0 (λ b. omega arith)) refl
  | inr a ↦ rw (ne_eqb (held_of w) 0 a) refl
]

abbrev pub one_if : Bool → ℕ
one_if b = cond b 1 0

ret_yes : (a b c d : ℕ) → a ≡ b → c ≡ d → one_if ((a == b) && (c == d)) ≡ 1
ret_yes a b c d e f = rw (eq-eqb a b e, eq-eqb c d f) refl

ret_first : (a b c d : ℕ) → (a ≡ b → ⊥) → one_if ((a == b) && (c == d)) ≡ 0
ret_first a b c d e = rw (ne_eqb a b e) refl

ret_second : (a b c d : ℕ) → a ≡ b → (c ≡ d → ⊥) → one_if ((a == b) && (c == d)) ≡ 0
ret_second a b c d e f = rw (eq-eqb a b e, ne_eqb c d f) refl

-- a step issues, returns or leaves the slot in use
balance : (p : Step) (u : ℕ) → CanStep p u → one_if (is_issue (Some p)) + busy u ≡ one_if (returns_at p u) + busy (stepped p u)
balance Issue u can =
    let (a, b, c, d) = stepped_is Issue u can in
    let x = busy_free u d c in
    let y = busy_some (stepped Issue u) (omega arith) in
    omega arith
balance Copy u can =
    let (a, b, c) = stepped_is Copy u can in
    let x = busy_some u c in
    let y = busy_some (stepped Copy u) (omega arith) in
    omega arith
balance Reset u can =
    let (a, b) = stepped_is Reset u can in
    let x = busy_some u (omega arith) in
    elim (cases_eq (held_of u) 0) [
      | inl e ↦ elim (cases_eq (refs_of u) 1) [
        | inl f ↦
            let r = ret_yes (held_of u) 0 (refs_of u) 1 e f in
            let y = busy_free (stepped Reset u) (b ∙ e) (omega arith) in
            omega arith
        | inr f ↦
            let r = ret_second (held_of u) 0 (refs_of u) 1 e f in
            let y = busy_some (stepped Reset u) (omega arith) in
            omega arith
      ]
      | inr e ↦
          let r = ret_first (held_of u) 0 (refs_of u) 1 e in
          let y = busy_some (stepped Reset u) (omega arith) in
          omega arith
    ]
balance Free u can =
    let (a, b, c) = stepped_is Free u can in
    let x = busy_some u (omega arith) in
    elim (cases_eq (refs_of u) 0) [
      | inl e ↦
          let r = ret_yes (held_of u) 1 (refs_of u) 0 c e in
          let y = busy_free (stepped Free u) b (a ∙ e) in
          omega arith
      | inr e ↦
          let r = ret_second (held_of u) 1 (refs_of u) 0 c e in
          let y = busy_some (stepped Free u) (omega arith) in
          omega arith
    ]
balance Write u can =
    let (a, b, c, d) = stepped_is Write u can in
    let x = busy_some u (omega arith) in
    let y = busy_some (stepped Write u) (omega arith) in
    omega arith

-- ---- along a run

-- the words of a run have no lesser number than its first
pub run_rises : (ms : List Mark) (s : SlotName) (u : ℕ) (vs : List ℕ) (x : ℕ) → IsRunFrom ms s u vs → Contains (u ∷ vs) x →
    number_of u ≤ number_of x
run_rises ms s u [] x run among = elim (in_cases u x [] among) [
  | inl e ↦ let f : number_of u ≡ number_of x = ap number_of e in omega arith
  | inr none ↦ absurd (not_in_none x none)
]
run_rises ms s u (v ∷ vs) x (m, p, first, can, is, rest) among = elim (in_cases u x (v ∷ vs) among) [
  | inl e ↦ let f : number_of u ≡ number_of x = ap number_of e in omega arith
  | inr after ↦
      let ih = run_rises ms s v vs x rest after in
      let up : number_of v ≡ number_of u + 1 = ap number_of is ∙ number_stepped p u can in
      omega arith
]

-- two words of a run with the same number are the same word
pub same_word : (ms : List Mark) (s : SlotName) (u : ℕ) (vs : List ℕ) (x y : ℕ) → IsRunFrom ms s u vs → Contains (u ∷ vs) x →
    Contains (u ∷ vs) y → number_of x ≡ number_of y → x ≡ y
same_word ms s u [] x y run first second e = sym (in_one u x first) ∙ in_one u y second
same_word ms s u (v ∷ vs) x y (m, p, at, can, is, rest) first second e =
    let up : number_of v ≡ number_of u + 1 = ap number_of is ∙ number_stepped p u can in
    elim (in_cases u x (v ∷ vs) first) [
      | inl f ↦ elim (in_cases u y (v ∷ vs) second) [
        | inl g ↦ sym f ∙ g
        | inr after ↦
            let more = run_rises ms s v vs y rest after in
            let same : number_of u ≡ number_of x = ap number_of f in
            absurd (omega arith)
      ]
      | inr before ↦ elim (in_cases u y (v ∷ vs) second) [
        | inl g ↦
            let more = run_rises ms s v vs x rest before in
            let same : number_of u ≡ number_of y = ap number_of g in
            absurd (omega arith)
        | inr after ↦ same_word ms s v vs x y rest before after e
      ]
    ]

-- a test that only steps of slot s pass
abbrev IsOfSteps : SlotName → (Mark → Bool) → Type 0
IsOfSteps s f = (m : Mark) → f m ≡ true → (m.slot ≡ s) × (p : Step) × (m.step ≡ Some p)

-- the marks of slot s that make a step that passes are marks of its steps
so_steps : (test : Step → ℕ → Bool) (s : SlotName) → IsOfSteps s (steps_so test s)
so_steps test s m e =
    let (a, b) = and_parts _ _ e in
    let (p, step) = some_step m.found m.step b in
    (sym (same_slot_eq s m.slot a), p, step)
  where
    some_step : (w : ℕ) (o : Option Step) → at_step test w o ≡ true → (p : Step) × (o ≡ Some p)
    some_step w None h = absurd (false≢true h)
    some_step w (Some p) h = (p, refl)

abbrev pub Used : List Mark → SlotName → Type 0
Used ms s = (m : Mark) (p : Step) → Contains ms m → m.slot ≡ s → m.step ≡ Some p → IsFirstAt ms s m.found m p × CanStep p m.found

-- what is found from this word on is in the rest of the run
abbrev Lies : List Mark → SlotName → ℕ → List ℕ → Type 0
Lies ms s u vs = (m : Mark) → Contains ms m → m.slot ≡ s → number_of u ≤ number_of m.found → Contains (u ∷ vs) m.found

at_end : (ms : List Mark) (s : SlotName) (u : ℕ) (f : Mark → Bool) → IsOfSteps s f → IsRunFrom ms s u [] → Used ms s → Lies ms s u [] →
    count_by (from (number_of u) f) ms ≡ 0
at_end ms s u f of run used lies = count_none (from (number_of u) f) ms (λ m among hit.
    let (low, passes) = and_parts _ _ hit in
    let (slot, p, step) = of m passes in
    let (first, can) = used m p among slot step in
    elim (in_cases u m.found [] (lies m among slot (leb-true _ _ low))) [
      | inl e ↦ run m p (subst (λ z. IsFirstAt ms s z m p) (sym e) first) (subst (λ z. CanStep p z) (sym e) can)
      | inr none ↦ not_in_none m.found none
    ])

at_step_of : (ms : List Mark) (s : SlotName) (u v : ℕ) (vs : List ℕ) (f : Mark → Bool) (m : Mark) (p : Step) → AllPairs OtherLine ms
    → IsOfSteps s f → IsFirstAt ms s u m p → CanStep p u → v ≡ stepped p u →
    IsRunFrom ms s v vs → Used ms s → Lies ms s u (v ∷ vs) →
    count_by (from (number_of u) f) ms ≡ one_if (f m) + count_by (from (number_of v) f) ms
at_step_of ms s u v vs f m p h of first can is rest used lies =
    let up : number_of v ≡ number_of u + 1 = ap number_of is ∙ number_stepped p u can in
    let one = one_at (number_of u) f ms m h first.among (ap number_of first.found) (λ n among hit there.
    let (slot, q, step) = of n hit in
    elim (in_cases u n.found (v ∷ vs) (lies n among slot (omega arith))) [
      | inl e ↦ sym (first_line ms s u m n p q first (subst (λ z. IsFirstAt ms s z n q) (sym e) (used n q among slot step).0))
      | inr after ↦ let more = run_rises ms s v vs n.found rest after in absurd (omega arith)
    ]) in
    let same : count_by (from (number_of v) f) ms ≡ count_by (from (number_of u + 1) f) ms = ap (λ k. count_by (from k f) ms) up in
    omega arith

from_0 : (f : Mark → Bool) (m : Mark) → from 0 f m ≡ f m
from_0 f m = rw (le-leb 0 (number_of m.found) (omega arith)) refl

-- the test at the mark that made the run's step
so_at : (test : Step → ℕ → Bool) (s : SlotName) (m : Mark) (p : Step) (u : ℕ) → m.slot ≡ s → m.found ≡ u → m.step ≡ Some p →
    one_if (steps_so test s m) ≡ one_if (test p u)
so_at test s m p u slot found step = rw (same_slot_yes s m.slot (sym slot), step, found) refl

-- a step of the one kind raises the level of a slot's word, one of the other lowers it, and the rest leave it
abbrev pub Balances : (Step → ℕ → Bool) → (Step → ℕ → Bool) → (ℕ → ℕ) → Type 0
Balances up down level = (p : Step) (u : ℕ) → CanStep p u → one_if (up p u) + level u ≡ one_if (down p u) + level (stepped p u)

module _ (up down : Step → ℕ → Bool) (level : ℕ → ℕ) (even : Balances up down level) where
  walk : (ms : List Mark) (s : SlotName) (u : ℕ) (vs : List ℕ) → AllPairs OtherLine ms → IsRunFrom ms s u vs → Used ms s → Lies ms s u vs →
      count_by (from (number_of u) (steps_so up s)) ms + level u ≡ count_by (from (number_of u) (steps_so down s)) ms + level
      (last_word u vs)
  walk ms s u [] h run used lies =
      let a = at_end ms s u (steps_so up s) (so_steps up s) run used lies in
      let b = at_end ms s u (steps_so down s) (so_steps down s) run used lies in
      omega arith
  walk ms s u (v ∷ vs) h (m, p, first, can, is, rest) used lies =
      let a = at_step_of ms s u v vs (steps_so up s) m p h (so_steps up s) first can is rest used lies in
      let b = at_step_of ms s u v vs (steps_so down s) m p h (so_steps down s) first can is rest used lies in
      let c = so_at up s m p u first.slot first.found first.step in
      let d = so_at down s m p u first.slot first.found first.step in
      let e = even p u can in
      let f : level v ≡ level (stepped p u) = ap level is in
      let rises : number_of v ≡ number_of u + 1 = ap number_of is ∙ number_stepped p u can in
      let ih = walk ms s v vs h rest used (λ n among slot low. elim (in_cases u n.found (v ∷ vs) (lies n among slot (omega arith))) [
        | inl e ↦ let g : number_of u ≡ number_of n.found = ap number_of e in absurd (omega arith)
        | inr after ↦ after
      ]) in
      omega arith

  -- along a slot's run, the raising steps plus the level of 0 are as many as the lowering steps plus the level of the last word
  pub run_levels : (ms : List Mark) (s : SlotName) (vs : List ℕ) → AllPairs OtherLine ms → IsRunFrom ms s 0 vs → IsOneRun ms s (0 ∷ vs) →
      count_by (steps_so up s) ms + level 0 ≡ count_by (steps_so down s) ms + level (last_word 0 vs)
  run_levels ms s vs h run one =
      let zero_first : number_of 0 ≡ 0 = omega arith in
      let w = walk ms s 0 vs h run one.used (λ m among slot low. one.found m among slot) in
      let a : count_by (from (number_of 0) (steps_so up s)) ms ≡ count_by (from 0 (steps_so up s)) ms =
      ap (λ k. count_by (from k (steps_so up s)) ms) zero_first in
      let b : count_by (from (number_of 0) (steps_so down s)) ms ≡ count_by (from 0 (steps_so down s)) ms =
      ap (λ k. count_by (from k (steps_so down s)) ms) zero_first in
      let c = count_same (from 0 (steps_so up s)) (steps_so up s) ms (λ m among. from_0 (steps_so up s) m) in
      let d = count_same (from 0 (steps_so down s)) (steps_so down s) ms (λ m among. from_0 (steps_so down s) m) in
      omega arith

abbrev issues_so : Step → ℕ → Bool
issues_so p w = is_issue (Some p)

run_counts : (ms : List Mark) (s : SlotName) (vs : List ℕ) → AllPairs OtherLine ms → IsRunFrom ms s 0 vs → IsOneRun ms s (0 ∷ vs) →
    issues_of s ms ≡ returns_of s ms + busy (last_word 0 vs)
run_counts ms s vs h run one =
    let levels = run_levels issues_so returns_at busy balance ms s vs h run one in
    let c = count_same (is_issue_of s) (steps_so issues_so s) ms (λ m among. ap (λ b. same_slot s m.slot && b) (issue_so m.found m.step)) in
    let d = count_same (is_return_of s) (steps_so returns_at s) ms
    (λ m among. ap (λ b. same_slot s m.slot && b) (return_so m.found m.step)) in
    let e = busy_free 0 (omega arith) (omega arith) in
    omega arith
  where
    issue_so : (w : ℕ) (o : Option Step) → is_issue o ≡ at_step issues_so w o
    issue_so w None = refl
    issue_so w (Some p) = refl

    return_so : (w : ℕ) (o : Option Step) → is_return w o ≡ at_step returns_at w o
    return_so w None = refl
    return_so w (Some p) = refl

-- ---- marks of records

abbrev pub OtherRecord : Played → Played → Type 0
OtherRecord x y = x.line ≢ y.line

-- a mark of some records is that of one of them
abbrev pub IsMarkFrom : List Played → Mark → Type 0
IsMarkFrom ps m = (x : Played) × Contains ps x × (mark_of x ≡ Some m)

mark_from_one : (x : Played) (xs : List Played) (m : Mark) (o : Option Mark) → mark_of x ≡ o →
    (Contains (marks_of xs) m → IsMarkFrom xs m) → Contains (marks_of (x ∷ xs)) m → IsMarkFrom (x ∷ xs) m
mark_from_one x xs m None e ih among = let (y, member, is) = ih (rw e at among) in (y, later_in x y xs member, is)
mark_from_one x xs m (Some n) e ih among = elim (in_cases n m (marks_of xs) (rw e at among)) [
  | inl same ↦ (x, first_in x xs, e ∙ ap Some same)
  | inr rest ↦ let (y, member, is) = ih rest in (y, later_in x y xs member, is)
]

pub mark_from : (ps : List Played) (m : Mark) → Contains (marks_of ps) m → IsMarkFrom ps m
mark_from [] m among = absurd (not_in_none m among)
mark_from (x ∷ xs) m among = mark_from_one x xs m (mark_of x) refl (mark_from xs m) among

one_more_pair : (R : Played → Played → Type 0) (S : Mark → Mark → Type 0)
    → ((x y : Played) (m n : Mark) → R x y → mark_of x ≡ Some m → mark_of y ≡ Some n → S m n)
    → (x : Played) (xs : List Played) (o : Option Mark) → mark_of x ≡ o → AllPairs R (x ∷ xs) → AllPairs S (marks_of xs)
    → AllPairs S (marks_of (x ∷ xs))
one_more_pair R S of x xs None e h rest = rw e rest
one_more_pair R S of x xs (Some m) e h rest =
    rw e (pairs_cons S m (marks_of xs) (λ n among. let (y, member, is) = mark_from xs n among in
    of x y m n (pairs_head R x y xs h member) e is) rest)

-- what pairs of records say of their marks
pub marks_pairs : (R : Played → Played → Type 0) (S : Mark → Mark → Type 0)
    → ((x y : Played) (m n : Mark) → R x y → mark_of x ≡ Some m → mark_of y ≡ Some n → S m n) → (ps : List Played) → AllPairs R ps
    → AllPairs S (marks_of ps)
marks_pairs R S of [] h = pairs_none S
marks_pairs R S of (x ∷ xs) h = one_more_pair R S of x xs (mark_of x) refl h (marks_pairs R S of xs (pairs_tail R x xs h))

pub marks_differ : (ps : List Played) → AllPairs OtherRecord ps → AllPairs OtherLine (marks_of ps)
marks_differ ps h = marks_pairs OtherRecord OtherLine
    (λ x y m n other is is' same. other (sym (mark_line x m is) ∙ same ∙ mark_line y n is')) ps h

pub issues_return : IssuesReturn
issues_return ps s w h slots (vs, run, last) =
    let (ws, run', one) = slots s in
    let lines = marks_differ ps h in
    let a = run_counts (marks_of ps) s ws lines run' one in
    let b = one_run (marks_of ps) s 0 0 vs ws lines refl run run' in
    let c : busy w ≡ busy (last_word 0 ws) = ap busy (last ∙ b) in
    omega arith
