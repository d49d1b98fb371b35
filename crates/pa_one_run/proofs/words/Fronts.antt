-- The words that the first marks of a run leave: a mark finds the word left exactly if its number is that of the steps before it.
use Rattle.std.proofs.Common.{◌≡◌, ℕ, ◌+◌, ◌<◌, ◌≤◌, Bool, true, false, ◌&&◌, cond, List, [], ◌∷◌, ◌++◌, Option, Some, None, refl, sym, ◌∙◌, ap, subst, arith, append_assoc, inl, inr}
use Rattle.std.specs.Prelude.{Contains, AllPairs, is_some, count_by, nat_lt}
use Rattle.std.proofs.lemmas.Bool.{lt-ltb, le-ltb}
use Rattle.std.proofs.lemmas.List.{append-nil}
use Rattle.std.proofs.lemmas.List.Sums.{sum_by-cons}
use Rattle.pa_slot.specs.declared.word.SlotName.{SlotName}
use Rattle.pa_slot.specs.declared.word.Step.{Step}
use Rattle.pa_slot.specs.Count.{number_of, stepped}
use Rattle.pa_slot.specs.Run.{Mark, Slots, same_slot}
use Rattle.pa_slot.specs.Runs.{HasRuns}
use Rattle.pa_slot.proofs.Runs.{runs_none, runs_same, runs_look, runs_step, same_slot_cases, same_slot_yes, same_slot_no, number_stepped}
use Rattle.pa_lists.proofs.Members.{first_in, later_in, in_cases}
use Rattle.pa_lists.proofs.Pairs.{pairs_head}
use Rattle.pa_rules.specs.FileOrder.{is_step_before, steps_before, AreNumbersInFileOrder}
use Rattle.pa_rules.proofs.Running.{same_word}
use Rattle.pa_one_run.specs.Before.{stepped_by, word_from}
use Rattle.pa_one_run.proofs.words.Marks.{Rises, goes_on}
use Rattle.pa_lists.proofs.Elements.{pairs_across, in_middle, pairs_after}

-- ---- the words of the first marks

abbrev is_step_of : SlotName → Mark → Bool
is_step_of s m = same_slot m.slot s && is_some m.step

-- the steps of slot s
abbrev pub steps_of : SlotName → List Mark → ℕ
steps_of s ms = count_by (is_step_of s) ms

word_append : (xs ys : List Mark) (s : SlotName) (u : ℕ) → word_from (xs ++ ys) s u ≡ word_from ys s (word_from xs s u)
word_append [] ys s u = refl
word_append (m ∷ xs) ys s u = word_append xs ys s (cond (same_slot m.slot s) (stepped_by m.step u) u)

steps_push : (s : SlotName) (xs : List Mark) (m : Mark) → steps_of s (xs ++ m ∷ []) ≡ steps_of s xs + cond {A = ℕ} (is_step_of s m) 1 0
steps_push s [] m = omega (arith, sum_by-cons (λ y. cond {A = ℕ} (is_step_of s y) 1 0) m [])
steps_push s (x ∷ xs) m =
    let a = sum_by-cons (λ y. cond {A = ℕ} (is_step_of s y) 1 0) x xs in
    let b = sum_by-cons (λ y. cond {A = ℕ} (is_step_of s y) 1 0) x (xs ++ m ∷ []) in
    let ih = steps_push s xs m in
    omega arith

both_look : (b : Bool) (u : ℕ) → cond b (stepped_by None u) u ≡ u
both_look true u = refl
both_look false u = refl

-- another slot's mark
pub word_beside : (front : List Mark) (m : Mark) (s : SlotName) → (m.slot ≡ s → ⊥) → word_from (front ++ m ∷ []) s 0 ≡ word_from front s 0
word_beside front m s other = word_append front (m ∷ []) s 0 ∙ rw (same_slot_no m.slot s other) refl

pub word_at : (front : List Mark) (m : Mark) → word_from (front ++ m ∷ []) m.slot 0 ≡ stepped_by m.step (word_from front m.slot 0)
word_at front m = word_append front (m ∷ []) m.slot 0 ∙ rw (same_slot_yes m.slot m.slot refl) refl

word_look : (front : List Mark) (m : Mark) (s : SlotName) → m.step ≡ None → word_from (front ++ m ∷ []) s 0 ≡ word_from front s 0
word_look front m s none = word_append front (m ∷ []) s 0 ∙ rw none (both_look (same_slot m.slot s) (word_from front s 0))

-- What is known of the first marks of a run: each slot's word after them is the end of its run so far, and one of the
-- words of its whole run; its number is how many steps were made.
pub record IsFront (ms : List Mark) (slots : Slots ms) (front : List Mark) : Type 0 where
  pub runs : HasRuns front (λ s. word_from front s 0)
  pub lies : (s : SlotName) → Contains (0 ∷ (slots s).0) (word_from front s 0)
  pub counted : (s : SlotName) → number_of (word_from front s 0) ≡ steps_of s front

front_none : (ms : List Mark) (slots : Slots ms) → IsFront ms slots []
front_none ms slots = record {
  runs = runs_none (λ s. 0) (λ s. refl);
  lies = λ s. first_in 0 (slots s).0;
  counted = λ s. omega arith;
}

no_step : (b : Bool) (o : Option Step) → o ≡ None → cond {A = ℕ} (b && is_some o) 1 0 ≡ 0
no_step true o e = rw e refl
no_step false o e = refl

front_look : (ms : List Mark) (slots : Slots ms) (front : List Mark) (m : Mark) → ((k : Mark) → Contains front k → k.line < m.line) →
    m.found ≡ word_from front m.slot 0 → m.step ≡ None →
    IsFront ms slots front → IsFront ms slots (front ++ m ∷ [])
front_look ms slots front m rising found none h =
    let same : (s : SlotName) → word_from (front ++ m ∷ []) s 0 ≡ word_from front s 0 = λ s. word_look front m s none in
    record {
      runs = runs_same (front ++ m ∷ []) (λ s. word_from front s 0) (λ s. word_from (front ++ m ∷ []) s 0) same
          (runs_look front m (λ s. word_from front s 0) rising found none h.runs);
      lies = λ s. subst (λ z. Contains (0 ∷ (slots s).0) z) (sym (same s)) (h.lies s);
      counted = λ s.
          let a = steps_push s front m in
          let b = no_step (same_slot m.slot s) m.step none in
          let c = h.counted s in
          let d : number_of (word_from (front ++ m ∷ []) s 0) ≡ number_of (word_from front s 0) = ap number_of (same s) in
          omega arith;
    }

one_step_more : (b : Bool) (o : Option Step) (p : Step) → b ≡ true → o ≡ Some p → cond {A = ℕ} (b && is_some o) 1 0 ≡ 1
one_step_more b o p e f = rw (e, f) refl

not_counted : (b : Bool) (o : Option Step) → b ≡ false → cond {A = ℕ} (b && is_some o) 1 0 ≡ 0
not_counted b o e = rw e refl

front_step : (ms : List Mark) (slots : Slots ms) (front : List Mark) (m : Mark) (p : Step) → AllPairs Rises ms → Contains ms m →
    ((k : Mark) → Contains front k → k.line < m.line) →
    m.found ≡ word_from front m.slot 0 → m.step ≡ Some p → IsFront ms slots front → IsFront ms slots (front ++ m ∷ [])
front_step ms slots front m p rises among rising found step h =
    let (vs, run, one) = slots m.slot in
    let (first, can) = one.used m p among refl step in
    let here : word_from (front ++ m ∷ []) m.slot 0 ≡ stepped p m.found = word_at front m ∙
    ap (λ o. stepped_by o (word_from front m.slot 0)) step ∙ ap (stepped p) (sym found) in
    record {
      runs = runs_step front m p (λ s. word_from front s 0) (λ s. word_from (front ++ m ∷ []) s 0) rising found step can here
          (λ s other. word_beside front m s (λ e. other (sym e))) h.runs;
      lies = λ s. elim (same_slot_cases m.slot s) [
        | inl e ↦
            let on : Contains (0 ∷ vs) (stepped p m.found) =
            goes_on ms m.slot 0 vs m.found m p rises run (one.found m among refl) first can in
            subst (λ z. Contains (0 ∷ (slots z).0) (word_from (front ++ m ∷ []) z 0)) e (subst (λ z. Contains (0 ∷ vs) z) (sym here) on)
        | inr other ↦ subst (λ z. Contains (0 ∷ (slots s).0) z) (sym (word_beside front m s other)) (h.lies s)
      ];
      counted = λ s.
          let a = steps_push s front m in
          let c = h.counted s in
          elim (same_slot_cases m.slot s) [
            | inl e ↦
                let b = one_step_more (same_slot m.slot s) m.step p (same_slot_yes m.slot s e) step in
                let up : number_of (word_from (front ++ m ∷ []) m.slot 0) ≡ number_of (word_from front m.slot 0) + 1 =
                ap number_of here ∙ number_stepped p m.found can ∙ ap (λ z. number_of z + 1) found in
                let up' : number_of (word_from (front ++ m ∷ []) s 0) ≡ number_of (word_from front s 0) + 1 =
                subst (λ z. number_of (word_from (front ++ m ∷ []) z 0) ≡ number_of (word_from front z 0) + 1) e up in
                omega arith
            | inr other ↦
                let b = not_counted (same_slot m.slot s) m.step (same_slot_no m.slot s other) in
                let d : number_of (word_from (front ++ m ∷ []) s 0) ≡ number_of (word_from front s 0) =
                ap number_of (word_beside front m s other) in
                omega arith
          ];
    }

front_push : (ms : List Mark) (slots : Slots ms) (front : List Mark) (m : Mark) (o : Option Step) → m.step ≡ o → AllPairs Rises ms →
    Contains ms m → ((k : Mark) → Contains front k → k.line < m.line) →
    m.found ≡ word_from front m.slot 0 → IsFront ms slots front → IsFront ms slots (front ++ m ∷ [])
front_push ms slots front m None step rises among rising found h = front_look ms slots front m rising found step h
front_push ms slots front m (Some p) step rises among rising found h = front_step ms slots front m p rises among rising found step h

-- each mark finds the word that those before it leave
abbrev pub FindsLeft : (ms : List Mark) → Slots ms → Type 0
FindsLeft ms slots = (front back : List Mark) (m : Mark) → ms ≡ front ++ m ∷ back → IsFront ms slots front →
    m.found ≡ word_from front m.slot 0

fronts : (ms : List Mark) (slots : Slots ms) (front xs back : List Mark) → AllPairs Rises ms → FindsLeft ms slots → ms ≡ front ++
    (xs ++ back) → IsFront ms slots front → IsFront ms slots (front ++ xs)
fronts ms slots front [] back rises finds parts h = rw (append-nil front) h
fronts ms slots front (m ∷ xs) back rises finds parts h =
    let among = in_middle front (xs ++ back) ms m parts in
    let rising : (k : Mark) → Contains front k → k.line < m.line =
    λ k before. pairs_across Rises front (m ∷ (xs ++ back)) k m (subst (λ z. AllPairs Rises z) parts rises) before
    (first_in m (xs ++ back)) in
    let next : IsFront ms slots (front ++ m ∷ []) =
    front_push ms slots front m m.step refl rises among rising (finds front (xs ++ back) m parts h) h in
    let parts' : ms ≡ (front ++ m ∷ []) ++ (xs ++ back) = parts ∙ sym (append_assoc front (m ∷ []) (xs ++ back)) in
    subst (λ z. IsFront ms slots z) (append_assoc front (m ∷ []) xs) (fronts ms slots (front ++ m ∷ []) xs back rises finds parts' next)

pub front_of : (ms : List Mark) (slots : Slots ms) (front back : List Mark) → AllPairs Rises ms → FindsLeft ms slots → ms ≡ front ++ back →
    IsFront ms slots front
front_of ms slots front back rises finds parts = fronts ms slots [] front back rises finds parts (front_none ms slots)

-- ---- the numbers

not_late : (a b c : Bool) → b ≡ false → cond {A = ℕ} (a && (b && c)) 1 0 ≡ 0
not_late true b c e = rw e refl
not_late false b c e = refl

is_early : (a b c : Bool) → b ≡ true → cond {A = ℕ} (a && (b && c)) 1 0 ≡ cond {A = ℕ} (a && c) 1 0
is_early a b c e = rw e refl

none_before : (s : SlotName) (line : ℕ) (back : List Mark) → ((k : Mark) → Contains back k → line ≤ k.line) → steps_before s line back ≡ 0
none_before s line [] late = refl
none_before s line (m ∷ ms) late =
    let a = sum_by-cons (λ y. cond {A = ℕ} (is_step_before s line y) 1 0) m ms in
    let b = not_late (same_slot m.slot s) (nat_lt m.line line) (is_some m.step) (le-ltb _ _ (late m (first_in m ms))) in
    let ih = none_before s line ms (λ k among. late k (later_in m k ms among)) in
    omega arith

-- the steps before a line are those of the marks before it
pub steps_in_front : (s : SlotName) (line : ℕ) (front back : List Mark) → ((k : Mark) → Contains front k → k.line < line) →
    ((k : Mark) → Contains back k → line ≤ k.line) →
    steps_before s line (front ++ back) ≡ steps_of s front
steps_in_front s line [] back early late = none_before s line back late
steps_in_front s line (m ∷ ms) back early late =
    let a = sum_by-cons (λ y. cond {A = ℕ} (is_step_before s line y) 1 0) m (ms ++ back) in
    let b = is_early (same_slot m.slot s) (nat_lt m.line line) (is_some m.step) (lt-ltb _ _ (early m (first_in m ms))) in
    let c = sum_by-cons (λ y. cond {A = ℕ} (is_step_of s y) 1 0) m ms in
    let ih = steps_in_front s line ms back (λ k among. early k (later_in m k ms among)) late in
    omega arith

-- the steps on the lines before a mark are those of the marks before it
pub steps_at : (ms front back : List Mark) (m : Mark) → AllPairs Rises ms → ms ≡ front ++ m ∷ back →
    steps_before m.slot m.line ms ≡ steps_of m.slot front
steps_at ms front back m rises parts =
    let cut : AllPairs Rises (front ++ m ∷ back) = subst (λ z. AllPairs Rises z) parts rises in
    ap (steps_before m.slot m.line) parts
    ∙ steps_in_front m.slot m.line front (m ∷ back) (λ k before. pairs_across Rises front (m ∷ back) k m cut before (first_in m back))
    (λ k after. elim (in_cases m k back after) [
      | inl e ↦ let same : m.line ≡ k.line = ap (λ (z : Mark). z.line) e in omega arith
      | inr rest ↦ let less = pairs_head Rises m k back (pairs_after Rises front (m ∷ back) cut) rest in omega arith
    ])

-- if the numbers are those of the steps on lesser lines, each mark finds the word left
pub finds_by_numbers : (ms : List Mark) (slots : Slots ms) → AllPairs Rises ms → AreNumbersInFileOrder ms → FindsLeft ms slots
finds_by_numbers ms slots rises numbers front back m parts h =
    let (vs, run, one) = slots m.slot in
    let among = in_middle front back ms m parts in
    let number : number_of m.found ≡ number_of (word_from front m.slot 0) = numbers m among ∙ steps_at ms front back m rises parts ∙
    sym (h.counted m.slot) in
    same_word ms m.slot 0 vs m.found (word_from front m.slot 0) run (one.found m among refl) (h.lies m.slot) number
