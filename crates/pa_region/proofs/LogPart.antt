-- The third part after a step: the logs and the histories.
use Rattle.std.proofs.Common.{◌≡◌, ℕ, ◌+◌, ◌<◌, ◌≤◌, Bool, true, false, ◌&&◌, List, [], ◌∷◌, length, refl, sym, ◌∙◌, ap, subst, arith, inl, inr, eqb, ltb}
use Rattle.std.specs.Prelude.{if◌then◌else◌}
use Rattle.std.proofs.lemmas.Bool.{cases_lt}
use Rattle.std.proofs.lemmas.Bool.Decides.{eqb_tells}
use Rattle.pa_slot.specs.declared.title.Title.{Title}
use Rattle.pa_slot.specs.declared.title.OwnState.{OwnState}
use Rattle.pa_slot.specs.declared.word.Step.{Step}
use Rattle.pa_slot.specs.Count.{CanStep, stepped, number_of}
use Rattle.pa_slot.specs.Titles.{same_title, count_word}
use Rattle.pa_slot.specs.Holdings.{Thing, one, IsTitleHeld}
use Rattle.pa_slot.proofs.Same.{title_tells, title_self}
use Rattle.pa_region.specs.declared.view.Entry.{Entry}
use Rattle.pa_region.specs.declared.view.Entry.TheVariants.{Counted, Looked, Read, Added, Entered, Uncut}
use Rattle.std.proofs.lemmas.Bool.{eq-eqb, eqb-true}
use Rattle.pa_region.specs.Views.{counted_on, counted_at, counted_as, looked_at, step_number}
use Rattle.pa_region.specs.History.{Done, reached, IsLegal, IsWordIn, IsLogged, IsChained}
use Rattle.pa_region.specs.Rule.{Holders, Logs}
use Rattle.pa_region.proofs.Adding.{one_lt, one_eq, one_small}
use Rattle.pa_region.proofs.HolderPart.{IsCountStep, held_after, other_stays, word_here, words_by}
use Rattle.pa_slot.proofs.Runs.{number_stepped}

-- the found word and the title are tested among the rest
inner : (a b c d : Bool) → one (a && (b && (c && d))) ≤ one c
inner true true true true = omega arith
inner true true true false = omega arith
inner true true false d = omega arith
inner true false c d = omega arith
inner false b c d = omega arith

-- the test of the word includes that of the number
inner_number : (a b c d e : Bool) → (c ≡ true → e ≡ true) → one (a && (b && (c && d))) ≤ one (a && e)
inner_number false b c d e h = omega arith
inner_number true false c d e h = omega arith
inner_number true true false d e h = omega arith
inner_number true true true d e h = rw (h refl) (one_small d)

-- four tests that are true
all_true : (a b c d : Bool) → a ≡ true → b ≡ true → c ≡ true → d ≡ true → one (a && (b && (c && d))) ≡ 1
all_true a b c d p q r s = rw (p, q, r, s) refl

-- a step that found this word found its number
pub as_at : (t : Title) (step : Step) (word value : ℕ) (e : Entry) → counted_as t step word value e ≤ counted_at t (number_of word) e
as_at t step word value (Counted u p found written) =
    inner_number (same_title u t) (eqb (step_number p) (step_number step)) (eqb found word) (eqb written value)
    (eqb (number_of found) (number_of word))
    (λ same. eq-eqb (number_of found) (number_of word) (ap number_of (eqb-true found word same)))
as_at t step word value (Looked u found) = omega arith
as_at t step word value (Read u place read since owned unclean) = omega arith
as_at t step word value (Added word_number bytes) = omega arith
as_at t step word value (Entered keeper made) = omega arith
as_at t step word value (Uncut again) = omega arith

-- the number of the last word is the number of steps
pub reached_number : (history : List Done) → IsLegal history → number_of (reached history) ≡ length history
reached_number [] legal = refl
reached_number (d ∷ older) legal =
    let again = reached_number older legal.1 in
    let grows = number_stepped d.step (reached older) legal.0 in
    omega arith

-- all logs after an entry in one of them
abbrev pub WithEntry : ((Entry → ℕ) → ℕ) → Entry → ((Entry → ℕ) → ℕ) → Type 0
WithEntry logs e after = (weight : Entry → ℕ) → after weight ≡ logs weight + weight e

-- an entry that is no counted step on the title, and no look at it, leaves its chain
pub chain_other : (logs after : (Entry → ℕ) → ℕ) (e : Entry) (u : Title) (history : List Done) → IsChained logs u history →
    WithEntry logs e after →
    counted_on u e ≡ 0 → ((k : ℕ) → counted_at u k e ≡ 0) → ((step : Step) (word value : ℕ) → counted_as u step word value e ≡ 0) →
    ((word : ℕ) → 0 < looked_at u word e → IsWordIn word history) → IsChained after u history
chain_other logs after e u history c with_entry on at_number as_step look = record {
  legal = c.legal;
  steps = go history c.steps;
  numbers = λ k. let w = with_entry (counted_at u k) in let z = at_number k in let n = c.numbers k in omega arith;
  all = let w = with_entry (counted_on u) in let z = on in let n = c.all in omega arith;
  looks = λ word some_look. elim (cases_lt 0 (looked_at u word e)) [
    | inl y ↦ look word y
    | inr n ↦ let w = with_entry (looked_at u word) in c.looks word (omega arith)
  ];
}
  where
    go : (hs : List Done) → IsLogged logs u hs → IsLogged after u hs
    go [] s = s
    go (d ∷ older) s =
        let w = with_entry (counted_as u d.step (reached older) d.value) in
        let z = as_step d.step (reached older) d.value in
        let n = s.0 in
        (omega arith, go older s.1)

-- the histories after a counted step
abbrev pub history_by : Step → Title → ℕ → (Title → List Done) → Title → List Done
history_by step t value history u = if same_title t u then record { step = step; value = value } ∷ history u else history u

-- a counted step at the last word of the title's history
chain_more : (logs after : (Entry → ℕ) → ℕ) (t : Title) (d : Done) (history : List Done) → IsChained logs t history →
    ((f g : Entry → ℕ) → ((x : Entry) → f x ≤ g x) → logs f ≤ logs g) →
    CanStep d.step (reached history) → WithEntry logs (Counted t d.step (reached history) d.value) after → IsChained after t (d ∷ history)
chain_more logs after t d history c grows can with_entry = record {
  legal = (can, c.legal);
  steps = (newest, go history c.steps c.legal (omega arith));
  numbers = λ k.
      let w = with_entry (counted_at t k) in
      let n = c.numbers k in
      number_here k w n;
  all = let w = with_entry (counted_on t) in let z : one (same_title t t) ≡ 1 = ap one (title_self t) in let n = c.all in omega arith;
  looks = λ word some_look. let w = with_entry (looked_at t word) in inr (c.looks word (omega arith));
}
  where
    e : Entry
    e = Counted t d.step (reached history) d.value

    long : number_of (reached history) ≡ length history
    long = reached_number history c.legal

    number_here : (k : ℕ) → after (counted_at t k) ≡ logs (counted_at t k) + counted_at t k e →
        logs (counted_at t k) ≡ one (ltb k (length history)) →
        after (counted_at t k) ≡ one (ltb k (length (d ∷ history)))
    number_here k w n =
        let g = long in
        let here : counted_at t k e ≡ one (eqb (number_of (reached history)) k) = rw (title_self t) refl in
        elim (one_eq (number_of (reached history)) k) [
          | inl y ↦
              let yes1 = y.0 in let yes2 = y.1 in
              elim (one_lt k (length history)) [
                | inl a ↦ let m = a.1 in absurd (omega arith)
                | inr a ↦ let z = a.0 in
                    elim (one_lt k (length (d ∷ history))) [
                      | inl q ↦ let o = q.0 in omega arith
                      | inr q ↦ let o = q.1 in
                          absurd (omega arith)
                    ]
              ]
          | inr m ↦
              let no1 = m.0 in
              elim (one_lt k (length history)) [
                | inl a ↦ let z = a.0 in let z1 = a.1 in
                    elim (one_lt k (length (d ∷ history))) [
                      | inl q ↦ let o = q.0 in omega arith
                      | inr q ↦ let o = q.1 in
                          absurd (omega arith)
                    ]
                | inr a ↦ let z = a.0 in let z1 = a.1 in
                    elim (one_lt k (length (d ∷ history))) [
                      | inl q ↦ let o = q.1 in absurd (m.1 (omega arith))
                      | inr q ↦ let o = q.0 in
                          omega arith
                    ]
              ]
        ]

    newest : after (counted_as t d.step (reached history) d.value) ≡ 1
    newest =
        let w = with_entry (counted_as t d.step (reached history) d.value) in
        let here : counted_as t d.step (reached history) d.value e ≡ 1 =
        all_true (same_title t t) (eqb (step_number d.step) (step_number d.step)) (eqb (reached history) (reached history))
        (eqb d.value d.value) (title_self t) (eq-eqb (step_number d.step) (step_number d.step) refl)
        (eq-eqb (reached history) (reached history) refl) (eq-eqb d.value d.value refl) in
        let less = grows (counted_as t d.step (reached history) d.value) (counted_at t (number_of (reached history)))
        (as_at t d.step (reached history) d.value) in
        let n = c.numbers (number_of (reached history)) in
        let g = long in
        elim (one_lt (number_of (reached history)) (length history)) [
          | inl a ↦ let z = a.1 in absurd (omega arith)
          | inr a ↦ let z = a.0 in omega arith
        ]

    go : (hs : List Done) → IsLogged logs t hs → IsLegal hs → length hs ≤ length history → IsLogged after t hs
    go [] s legal l = s
    go (x ∷ older) s legal l =
        let g = long in
        let w = with_entry (counted_as t x.step (reached older) x.value) in
        let n = s.0 in
        let small = inner (same_title t t) (eqb (step_number d.step) (step_number x.step)) (eqb (reached history) (reached older))
        (eqb d.value x.value) in
        let short = reached_number older legal.1 in
        elim (one_eq (reached history) (reached older)) [
          | inl y ↦ let same : number_of (reached history) ≡ number_of (reached older) = ap number_of y.1 in absurd (omega arith)
          | inr m ↦ let z = m.0 in (omega arith, go older s.1 legal.1 (omega arith))
        ]

-- the third part stays true over a counted step
pub logs_count : (step : Step) (t : Title) (a : OwnState) (value : ℕ) (words : List ℕ) (total later : Thing → ℕ) (idle : Title → ℕ)
    (budget steps : ℕ)
    (history : Title → List Done) (logs after : (Entry → ℕ) → ℕ) (stakes stakes_after : ℕ → ℕ) →
    Logs history words total logs stakes → Holders words total idle budget steps → IsCountStep step t a words total later →
    ((f g : Entry → ℕ) → ((x : Entry) → f x ≤ g x) → logs f ≤ logs g) →
    WithEntry logs (Counted t step (count_word words t) value) after → ((k : ℕ) → stakes_after k ≡ stakes k) →
    Logs (history_by step t value history) (words_by step t words) later after stakes_after
logs_count step t a value words total later idle budget steps history logs after stakes stakes_after l h x grows with_entry same_stakes =
    record {
      chain = λ u. elim (title_tells t u) [
        | inl y ↦ subst (λ (z : Title). IsChained after z (history_by step t value history z)) y.1 (rw (title_self t) more)
        | inr n ↦ rw n.0 (chain_other logs after (Counted t step (count_word words t) value) u (history u) (l.chain u) with_entry
            (ap one n.0) (λ k. rw n.0 refl) (λ p word written. rw n.0 refl) (λ word some_look. absurd (omega arith)))
      ];
      last = λ u held. elim (title_tells t u) [
        | inl y ↦ subst (λ (z : Title). count_word (words_by step t words) z ≡ reached (history_by step t value history z)) y.1
            (rw (title_self t) (word_here step t a words total later idle budget steps h x ∙ ap (stepped step) at_last))
        | inr n ↦
            let before = (held_after step t a words total later idle budget steps h x u).1 held in
            rw n.0 ((other_stays step t a words total later idle budget steps h x u n.1 before).word ∙ l.last u before)
      ];
      each_stake = λ k. same_stakes k ∙ l.each_stake k;
    }
  where
    at_last : count_word words t ≡ reached (history t)
    at_last = l.last t x.held

    more : IsChained after t (record { step = step; value = value } ∷ history t)
    more = chain_more logs after t (record { step = step; value = value }) (history t) (l.chain t) grows
        (subst (λ (w : ℕ). CanStep step w) at_last x.can)
        (subst (λ (w : ℕ). WithEntry logs (Counted t step w value) after) at_last with_entry)

-- a look at a held title's word keeps the part
pub logs_look : (t : Title) (words : List ℕ) (total later : Thing → ℕ) (history : Title → List Done) (logs after : (Entry → ℕ) → ℕ)
    (stakes stakes_after : ℕ → ℕ) →
    Logs history words total logs stakes → IsTitleHeld total t → ((u : Title) → IsTitleHeld later u → IsTitleHeld total u) →
    WithEntry logs (Looked t (count_word words t)) after → ((k : ℕ) → stakes_after k ≡ stakes k) →
    Logs history words later after stakes_after
logs_look t words total later history logs after stakes stakes_after l held back with_entry same_stakes = record {
  chain = λ u. chain_other logs after (Looked t (count_word words t)) u (history u) (l.chain u) with_entry refl (λ k. refl)
      (λ p word written. refl)
      (λ word some_look. elim (title_tells t u) [
        | inl y ↦ elim (eqb_tells (count_word words t) word) [
          | inl e ↦ subst (λ (z : Title). IsWordIn word (history z)) y.1
              (subst (λ (w : ℕ). IsWordIn w (history t)) (sym (l.last t held) ∙ e.1) (last_in (history t)))
          | inr n ↦ absurd (let z : 0 < one (same_title t u && false) = rw n.0 at some_look in let s = and_false (same_title t u) in
              omega arith)
        ]
        | inr n ↦ absurd (let z : 0 < one (false && (eqb (count_word words t) word)) = rw n.0 at some_look in omega arith)
      ]);
  last = λ u y. l.last u (back u y);
  each_stake = λ k. same_stakes k ∙ l.each_stake k;
}
  where
    last_in : (hs : List Done) → IsWordIn (reached hs) hs
    last_in [] = refl
    last_in (d ∷ older) = inl refl

    and_false : (b : Bool) → one (b && false) ≡ 0
    and_false true = refl
    and_false false = refl

-- a step that changes no log, and no held title's count word, keeps the part
pub logs_same : (history : Title → List Done) (words now : List ℕ) (total later : Thing → ℕ) (logs after : (Entry → ℕ) → ℕ)
    (stakes stakes_after : ℕ → ℕ) →
    Logs history words total logs stakes → ((u : Title) → IsTitleHeld later u → IsTitleHeld total u) →
    ((u : Title) → IsTitleHeld total u → count_word now u ≡ count_word words u) → ((weight : Entry → ℕ) → after weight ≡ logs weight) →
    ((k : ℕ) → stakes_after k ≡ stakes k) → Logs history now later after stakes_after
logs_same history words now total later logs after stakes stakes_after l back same same_logs same_stakes = record {
  chain = λ t. subst (λ (f : (Entry → ℕ) → ℕ). IsChained f t (history t)) (λ i weight. sym (same_logs weight) i) (l.chain t);
  last = λ u held. same u (back u held) ∙ l.last u (back u held);
  each_stake = λ k. same_stakes k ∙ l.each_stake k;
}
