-- A step that logs have is in the title's history at the number that it found.
use Rattle.std.proofs.Common.{◌≡◌, ℕ, zero, suc, ◌+◌, ◌<◌, ◌≤◌, ◌&&◌, List, [], ◌∷◌, ◌++◌, length, refl, sym, ◌∙◌, ap, arith, inl, inr, eqb}
use Rattle.std.specs.Prelude.{if◌then◌else◌}
use Rattle.std.specs.List.{sum_by}
use Rattle.std.proofs.lemmas.List.Sums.{sum_by-cons}
use Rattle.std.proofs.lemmas.Bool.{cases_lt, and_parts, eqb-true, lt-ltb}
use Rattle.std.proofs.lemmas.Bool.Decides.{eqb_tells}
use Rattle.pa_slot.specs.declared.title.Title.{Title}
use Rattle.pa_slot.specs.declared.word.Step.{Step}
use Rattle.pa_slot.specs.declared.word.Step.TheVariants.{Issue, Copy, Reset, Free, Write}
use Rattle.pa_slot.specs.Count.{number_of}
use Rattle.pa_slot.specs.Titles.{same_title}
use Rattle.pa_slot.specs.Holdings.{one}
use Rattle.pa_region.specs.declared.view.Entry.{Entry}
use Rattle.pa_region.specs.declared.view.Entry.TheVariants.{Counted, Looked, Read, Added, Entered, Uncut}
use Rattle.pa_region.specs.declared.view.Stake.{Stake}
use Rattle.pa_region.specs.declared.view.View.{View}
use Rattle.pa_region.specs.Views.{counted_on, counted_at, counted_as, step_number, logged_of}
use Rattle.pa_region.specs.History.{Done, reached, IsLogged, IsChained}
use Rattle.pa_region.specs.Contents.{up_to, word_at_number}
use Rattle.pa_region.specs.Frees.{IsFirstFree}
use Rattle.pa_region.specs.Tells.{AddsUp}
use Rattle.pa_region.proofs.Adding.{one_lt, one_small}
use Rattle.pa_region.proofs.LogPart.{as_at, reached_number}
use Rattle.pa_region.proofs.AtNumber.{up_to_all, up_to_none, up_to_more, up_to_length, up_to_legal}
use Rattle.pa_region.proofs.FirstFrees.{first_stays}
use Rattle.pa_region.proofs.OneRead.{one_true}

-- the step with a number
abbrev step_of : ℕ → Step
step_of n = if eqb n 0 then Issue else if eqb n 1 then Copy else if eqb n 2 then Reset else if eqb n 3 then Free else Write

step_back : (p : Step) → step_of (step_number p) ≡ p
step_back Issue = refl
step_back Copy = refl
step_back Reset = refl
step_back Free = refl
step_back Write = refl

-- two steps of one number are one
step_is : (p q : Step) → step_number p ≡ step_number q → p ≡ q
step_is p q e = sym (step_back p) ∙ (ap step_of e ∙ step_back q)

-- what an entry that counts as a step says of it
pub record IsAs (step : Step) (word value : ℕ) (p : Step) (found written : ℕ) : Type 0 where
  pub step_same : p ≡ step
  pub word_same : found ≡ word
  pub value_same : written ≡ value

pub as_tells : (t : Title) (step : Step) (word value : ℕ) (u : Title) (p : Step) (found written : ℕ) →
    0 < counted_as t step word value (Counted u p found written) →
    IsAs step word value p found written
as_tells t step word value u p found written h =
    let all = and_parts (same_title u t) (eqb (step_number p) (step_number step) && (eqb found word && eqb written value)) (one_true _ h) in
    let b = and_parts (eqb (step_number p) (step_number step)) (eqb found word && eqb written value) all.1 in
    let c = and_parts (eqb found word) (eqb written value) b.1 in
    record {
      step_same = step_is p step (eqb-true (step_number p) (step_number step) b.0);
      word_same = eqb-true found word c.0;
      value_same = eqb-true written value c.1;
    }

-- an entry is at most one of two different steps that found this number
one_of_two : (t : Title) (step other : Step) (word value found written : ℕ) → number_of word ≡ number_of found →
    (IsAs step word value other found written → ⊥) → (e : Entry) →
    counted_as t step word value e + counted_as t other found written e ≤ counted_at t (number_of word) e
one_of_two t step other word value found written same differ (Counted u p w x) =
    let a = as_at t step word value (Counted u p w x) in
    let b = as_at t other found written (Counted u p w x) in
    let c : counted_at t (number_of found) (Counted u p w x) ≡ counted_at t (number_of word) (Counted u p w x) =
    ap (λ n. counted_at t n (Counted u p w x)) (sym same) in
    let small : counted_as t step word value (Counted u p w x) ≤ 1 = one_small _ in
    let small2 : counted_as t other found written (Counted u p w x) ≤ 1 = one_small _ in
    elim (cases_lt 0 (counted_as t step word value (Counted u p w x))) [
      | inl y ↦ elim (cases_lt 0 (counted_as t other found written (Counted u p w x))) [
        | inl z ↦
            let l = as_tells t step word value u p w x y in
            let r = as_tells t other found written u p w x z in
            absurd (differ (record {
              step_same = sym r.step_same ∙ l.step_same;
              word_same = sym r.word_same ∙ l.word_same;
              value_same = sym r.value_same ∙ l.value_same;
            }))
        | inr n ↦ omega arith
      ]
      | inr n ↦ omega arith
    ]
one_of_two t step other word value found written same differ (Looked u w) = omega arith
one_of_two t step other word value found written same differ (Read u place x since owned unclean) = omega arith
one_of_two t step other word value found written same differ (Added w bytes) = omega arith
one_of_two t step other word value found written same differ (Entered keeper numbers) = omega arith
one_of_two t step other word value found written same differ (Uncut again) = omega arith

-- sums of two weights that together are at most a third
sum_two : {A : Type 0} (f g h : A → ℕ) (xs : List A) → ((x : A) → f x + g x ≤ h x) → sum_by f xs + sum_by g xs ≤ sum_by h xs
sum_two f g h [] each = omega arith
sum_two f g h (x ∷ xs) each =
    let again = sum_two f g h xs each in
    let here = each x in
    omega (arith, sum_by-cons f x xs, sum_by-cons g x xs, sum_by-cons h x xs)

-- the logs of a view add up
pub logged_two : (v : View) → AddsUp (logged_of v)
logged_two v f g h each =
    sum_two (λ (s : Stake). sum_by f s.log) (λ (s : Stake). sum_by g s.log) (λ (s : Stake). sum_by h s.log) v.stakes
    (λ s. sum_two f g h s.log each)

-- what is in a history at a number
pub record IsAtNumber (logs : (Entry → ℕ) → ℕ) (t : Title) (history : List Done) (k : ℕ) (d : Done) : Type 0 where
  pub stands : up_to (k + 1) history ≡ d ∷ up_to k history
  pub logged : logs (counted_as t d.step (word_at_number k history) d.value) ≡ 1

pub at_number : (logs : (Entry → ℕ) → ℕ) (t : Title) (history : List Done) (k : ℕ) → IsLogged logs t history → k < length history →
    (d : Done) × IsAtNumber logs t history k d
at_number logs t [] k logged below = absurd (omega arith)
at_number logs t (d ∷ older) k logged below = elim (cases_lt k (length older)) [
  | inl y ↦
      let again = at_number logs t older k logged.1 y in (
        again.0,
        record {
          stands = up_to_more (k + 1) d older (omega arith) ∙
              (again.1.stands ∙ ap (λ hs. again.0 ∷ hs) (sym (up_to_more k d older (omega arith))));
          logged = rw (up_to_more k d older (omega arith)) again.1.logged;
        },
      )
  | inr n ↦
      let within : k ≤ length older = omega arith in
      let before : up_to k (d ∷ older) ≡ older = up_to_more k d older within ∙ up_to_all k older n in (
        d,
        record {
          stands = up_to_all (k + 1) (d ∷ older) (omega arith) ∙ ap (λ hs. d ∷ hs) (sym before);
          logged = ap (λ hs. logs (counted_as t d.step (reached hs) d.value)) before ∙ logged.0;
        },
      )
]

-- logs that add up have no more of a weight that is less
adds_less : (logs : (Entry → ℕ) → ℕ) → AddsUp logs → (f g : Entry → ℕ) → ((e : Entry) → f e ≤ g e) → logs f ≤ logs g
adds_less logs adds f g less = let two = adds f (λ e. 0) g (λ e. let l = less e in omega arith) in omega arith

pub step_stands : (logs : (Entry → ℕ) → ℕ) (t : Title) (history : List Done) (step : Step) (word value : ℕ) → AddsUp logs →
    IsChained logs t history → 0 < logs (counted_as t step word value) →
    (number_of word < length history) × (word_at_number (number_of word) history ≡ word) ×
    (up_to (number_of word + 1) history ≡ record { step = step; value = value } ∷ up_to (number_of word) history)
step_stands logs t history step word value adds chain logged =
    let k = number_of word in
    let less = adds_less logs adds (counted_as t step word value) (counted_at t k) (as_at t step word value) in
    let n = chain.numbers k in
    let below : k < length history = elim (one_lt k (length history)) [ inl y ↦ y.1 | inr z ↦ let a = z.0 in absurd (omega arith) ] in
    let there = at_number logs t history k chain.steps below in
    let d = there.0 in
    let same : number_of (word_at_number k history) ≡ k =
    reached_number (up_to k history) (up_to_legal k history chain.legal) ∙ up_to_length k history (omega arith) in
    let one_there = there.1.logged in
    let is = is_as logs adds t step d.step word value (word_at_number k history) d.value (sym same) logged one_there
    (n ∙ ap one (lt-ltb k (length history) below)) in
    (below, is.word_same, there.1.stands ∙ ap (λ x. x ∷ up_to k history) (done_is d step value is.step_same is.value_same))
  where
    done_is : (d : Done) (p : Step) (x : ℕ) → d.step ≡ p → d.value ≡ x → d ≡ record { step = p; value = x }
    done_is d p x e f = let g : Step → ℕ → Done = λ q y. record { step = q; value = y } in ap (λ q. g q d.value) e ∙ ap (g p) f

    is_as : (logs : (Entry → ℕ) → ℕ) → AddsUp logs → (t : Title) (step other : Step) (word value found written : ℕ) →
        number_of word ≡ number_of found →
        0 < logs (counted_as t step word value) → logs (counted_as t other found written) ≡ 1 → logs (counted_at t (number_of word)) ≡ 1 →
        IsAs step word value other found written
    is_as logs adds t step other word value found written same some_log one_log only =
        elim (eqb_tells (step_number other) (step_number step)) [
          | inl a ↦ elim (eqb_tells found word) [
            | inl b ↦ elim (eqb_tells written value) [
              | inl c ↦ record { step_same = step_is other step a.1; word_same = b.1; value_same = c.1 }
              | inr c ↦ absurd (apart (λ x. c.1 x.value_same))
            ]
            | inr b ↦ absurd (apart (λ x. b.1 x.word_same))
          ]
          | inr a ↦ absurd (apart (λ x. a.1 (ap step_number x.step_same)))
        ]
      where
        apart : (IsAs step word value other found written → ⊥) → ⊥
        apart differ =
            let two = adds (counted_as t step word value) (counted_as t other found written) (counted_at t (number_of word))
            (one_of_two t step other word value found written same differ) in
            absurd (omega arith)

-- a longer history
pub longer_same : (later history : List Done) (k : ℕ) → k ≤ length history → up_to k (later ++ history) ≡ up_to k history
longer_same [] history k within = refl
longer_same (d ∷ later) history k within = up_to_more k d (later ++ history) (long later) ∙ longer_same later history k within
  where
    long : (ds : List Done) → k ≤ length (ds ++ history)
    long [] = within
    long (x ∷ ds) = let again = long ds in omega arith

pub first_longer : (later history : List Done) (k n : ℕ) → IsFirstFree history k n → IsFirstFree (later ++ history) k n
first_longer [] history k n first = first
first_longer (d ∷ later) history k n first = first_stays d (later ++ history) k n (first_longer later history k n first)

-- the histories of logs that grew: what stood at a number still does
same_below : (logs after : (Entry → ℕ) → ℕ) (t : Title) (older newer : List Done) → AddsUp after →
    ((weight : Entry → ℕ) → logs weight ≤ after weight) →
    IsChained logs t older → IsChained after t newer → (k : ℕ) → k ≤ length older → up_to k newer ≡ up_to k older
same_below logs after t older newer adds grows old new zero within = up_to_none newer ∙ sym (up_to_none older)
same_below logs after t older newer adds grows old new (suc k) within =
    let again = same_below logs after t older newer adds grows old new k (omega arith) in
    let there = at_number logs t older k old.steps (omega arith) in
    let d = there.0 in
    let word = word_at_number k older in
    let number : number_of word ≡ k = reached_number (up_to k older) (up_to_legal k older old.legal) ∙ up_to_length k older (omega arith) in
    let logged = there.1.logged in
    let more = grows (counted_as t d.step word d.value) in
    let stands = step_stands after t newer d.step word d.value adds new (omega arith) in
    let next : up_to (k + 1) newer ≡ d ∷ up_to k newer = ap (λ n. up_to (n + 1) newer) (sym number) ∙
    (stands.2 ∙ ap (λ n. d ∷ up_to n newer) number) in
    let plus : suc k ≡ k + 1 = omega arith in
    rw plus (next ∙ (ap (λ hs. d ∷ hs) again ∙ sym there.1.stands))

-- a history is what came after a number, and what it was up to there
split_at_number : (k : ℕ) (history : List Done) → k ≤ length history → (later : List Done) × (history ≡ later ++ up_to k history)
split_at_number k [] within = ([], refl)
split_at_number k (d ∷ older) within = elim (cases_lt (length older) k) [
  | inl y ↦ ([], sym (up_to_all k (d ∷ older) (omega arith)))
  | inr n ↦
      let again = split_at_number k older n in
      (d ∷ again.0, ap (λ hs. d ∷ hs) again.1 ∙ ap (λ hs. d ∷ (again.0 ++ hs)) (sym (up_to_more k d older n)))
]

-- the history of logs that grew goes on from what it was
pub history_grows : (logs after : (Entry → ℕ) → ℕ) (t : Title) (older newer : List Done) → AddsUp after →
    ((weight : Entry → ℕ) → logs weight ≤ after weight) →
    IsChained logs t older → IsChained after t newer → (later : List Done) × (newer ≡ later ++ older)
history_grows logs after t older newer adds grows old new =
    let a = old.all in let b = new.all in let c = grows (counted_on t) in
    let same = same_below logs after t older newer adds grows old new (length older) (omega arith) in
    let parts = split_at_number (length older) newer (omega arith) in
    (parts.0, parts.1 ∙ ap (λ hs. parts.0 ++ hs) (same ∙ up_to_all (length older) older (omega arith)))
