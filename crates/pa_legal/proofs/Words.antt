-- The words of a slot's run are determined by their numbers, and so are its steps.
use Rattle.std.proofs.Common.{◌≡◌, ℕ, ◌+◌, ◌<◌, List, [], ◌∷◌, Some, refl, sym, ◌∙◌, ap, subst, arith, inl, inr}
use Rattle.std.specs.Prelude.{Contains, AllPairs}
use Rattle.pa_slot.specs.declared.word.SlotName.{SlotName}
use Rattle.pa_slot.specs.declared.word.Step.{Step}
use Rattle.pa_slot.specs.declared.word.Step.TheVariants.{Issue, Copy, Reset, Free, Write}
use Rattle.pa_slot.specs.Count.{CanStep, number_of, held_of, refs_of, stepped}
use Rattle.pa_slot.specs.Run.{Mark, IsFirstAt, IsRunFrom, IsReturning, Slots}
use Rattle.pa_slot.proofs.Arith.{stepped_is}
use Rattle.pa_slot.proofs.Runs.{number_stepped}
use Rattle.pa_lists.proofs.Members.{first_in, later_in, in_cases, of_some}
use Rattle.pa_rules.specs.declared.played.Played.{Played}
use Rattle.pa_rules.specs.Played.{mark_of, marks_of}
use Rattle.pa_rules.proofs.Marking.{mark_line}
use Rattle.pa_rules.proofs.Running.{OtherLine, OtherRecord, run_rises, one_mark, first_line, same_word}
use Rattle.pa_rules.proofs.Phases.{mark_in}
use Rattle.pa_rules.proofs.ByLines.{same_record}
use Rattle.pa_lists.proofs.Elements.{in_one}

-- if a step was made at a word of the run, the next word is one of the run
pub goes_on : (ms : List Mark) (s : SlotName) (u : ℕ) (vs : List ℕ) (w : ℕ) (m : Mark) (p : Step) → AllPairs OtherLine ms
    → IsRunFrom ms s u vs → Contains (u ∷ vs) w → IsFirstAt ms s w m p → CanStep p w →
    Contains (u ∷ vs) (stepped p w)
goes_on ms s u [] w m p h run among first can =
    let e = in_one u w among in
    absurd (run m p (subst (λ z. IsFirstAt ms s z m p) (sym e) first) (subst (λ z. CanStep p z) (sym e) can))
goes_on ms s u (v ∷ vs) w m p h (n, q, first', can', is, rest) among first can = elim (in_cases u w (v ∷ vs) among) [
  | inl e ↦
      let one : n ≡ m = one_mark ms s u n m q p h first' (subst (λ z. IsFirstAt ms s z m p) (sym e) first) in
      let same : q ≡ p = of_some q p (sym first'.step ∙ ap (λ (z : Mark). z.step) one ∙ first.step) in
      let next : v ≡ stepped p w = is ∙ ap (λ z. stepped z u) same ∙ ap (stepped p) e in
      later_in u (stepped p w) (v ∷ vs) (subst (λ z. Contains (v ∷ vs) z) next (first_in v vs))
  | inr after ↦ later_in u (stepped p w) (v ∷ vs) (goes_on ms s v vs w m p h rest after first can)
]

-- a step of a slot, by the record that made it
pub record Steps (ps : List Played) (s : SlotName) (x : Played) (m : Mark) (p : Step) : Type 0 where
  pub among : Contains ps x
  pub mark : mark_of x ≡ Some m
  pub slot : m.slot ≡ s
  pub step : m.step ≡ Some p

-- one number of a slot is found by one step
pub one_stepper : (ps : List Played) (s : SlotName) (x y : Played) (m n : Mark) (p q : Step) → AllPairs OtherRecord ps →
    Slots (marks_of ps) → Steps ps s x m p → Steps ps s y n q →
    number_of m.found ≡ number_of n.found → x ≡ y
one_stepper ps s x y m n p q lines slots a b same =
    let ms = marks_of ps in
    let (vs, run, one) = slots s in
    let am = mark_in ps x m a.among a.mark in
    let bm = mark_in ps y n b.among b.mark in
    let word = same_word ms s 0 vs m.found n.found run (one.found m am a.slot) (one.found n bm b.slot) same in
    let (first, can) = one.used m p am a.slot a.step in
    let (first', can') = one.used n q bm b.slot b.step in
    let line = first_line ms s n.found m n p q (subst (λ z. IsFirstAt ms s z m p) word first) first' in
    same_record ps x y lines a.among b.among (sym (mark_line x m a.mark) ∙ line ∙ mark_line y n b.mark)

-- a step that returns a slot leaves it free
pub leaves_free : (p : Step) (w : ℕ) → CanStep p w → IsReturning p w → (held_of (stepped p w) ≡ 0) × (refs_of (stepped p w) ≡ 0)
leaves_free Issue w can returning = absurd returning
leaves_free Copy w can returning = absurd returning
leaves_free Reset w can (free, last) = let (a, b) = stepped_is Reset w can in (b ∙ free, omega arith)
leaves_free Free w can (held, none) = let (a, b, c) = stepped_is Free w can in (b, a ∙ none)
leaves_free Write w can returning = absurd returning

-- only an issue can be made at a free word
pub only_issue : (p : Step) (w : ℕ) → CanStep p w → held_of w ≡ 0 → refs_of w ≡ 0 → p ≡ Issue
only_issue Issue w can held refs = refl
only_issue Copy w can held refs = let some = can.0 in absurd (omega arith)
only_issue Reset w can held refs = let some = can.0 in absurd (omega arith)
only_issue Free w can held refs = let some = can.0 in absurd (omega arith)
only_issue Write w can held refs = let some = can.0.0 in absurd (omega arith)

-- a step was made at a word of the run after which there is another
pub goes_past : (ms : List Mark) (s : SlotName) (u : ℕ) (vs : List ℕ) (w v : ℕ) → IsRunFrom ms s u vs → Contains (u ∷ vs) w →
    Contains (u ∷ vs) v → number_of w < number_of v →
    (m : Mark) × (p : Step) × IsFirstAt ms s w m p × CanStep p w
goes_past ms s u [] w v run first second less =
    let e : number_of u ≡ number_of w = ap number_of (in_one u w first) in
    let f : number_of u ≡ number_of v = ap number_of (in_one u v second) in
    absurd (omega arith)
goes_past ms s u (x ∷ vs) w v (m, p, at, can, is, rest) first second less = elim (in_cases u w (x ∷ vs) first) [
  | inl e ↦ (m, p, subst (λ z. IsFirstAt ms s z m p) e at, subst (λ z. CanStep p z) e can)
  | inr after ↦ elim (in_cases u v (x ∷ vs) second) [
    | inl f ↦
        let same : number_of u ≡ number_of v = ap number_of f in
        let up : number_of x ≡ number_of u + 1 = ap number_of is ∙ number_stepped p u can in
        let more = run_rises ms s x vs w rest after in
        absurd (omega arith)
    | inr behind ↦ goes_past ms s x vs w v rest after behind less
  ]
]
