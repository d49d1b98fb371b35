-- The clause of the slots, record by record: a slot has one run.
use Rattle.std.proofs.Common.{◌≡◌, ℕ, ◌⊎◌, List, [], ◌∷◌, Some, refl, sym, ◌∙◌, ap, subst, inl, inr}
use Rattle.std.specs.Prelude.{Contains, AllPairs}
use Rattle.pa_trace.specs.declared.script.Trace.{Trace}
use Rattle.pa_slot.specs.declared.word.SlotName.{SlotName}
use Rattle.pa_slot.specs.declared.word.Step.{Step}
use Rattle.pa_slot.specs.Count.{CanStep, stepped}
use Rattle.pa_slot.specs.Run.{Mark, IsFirstAt, IsRunFrom, IsOneRun, Slots}
use Rattle.pa_slot.proofs.Runs.{same_slot_cases}
use Rattle.pa_lists.proofs.Members.{not_in_none, first_in, later_in, in_cases, of_some}
use Rattle.pa_rules.specs.declared.verdict.Clause.TheVariants as clauses
use Rattle.pa_rules.specs.declared.verdict.Place.TheVariants as places
use Rattle.pa_rules.specs.Told.{Told, records_of}
use Rattle.pa_rules.specs.Played.{marks_of}
use Rattle.pa_rules.proofs.Running.{OtherLine, one_mark, mark_from, marks_differ}
use Rattle.pa_rules.proofs.Phases.{mark_in}
use Rattle.pa_verdict.specs.Clauses.{IsMet, SlotsArePlaces}
use Rattle.pa_lists.proofs.Indexed.{at_in, in_at}
use Rattle.pa_verdict.proofs.Ordering.{due_differ}

-- two runs of a slot from one word are one
pub same_run : (ms : List Mark) (s : SlotName) (u w : ℕ) (vs ws : List ℕ) → AllPairs OtherLine ms → u ≡ w → IsRunFrom ms s u vs →
    IsRunFrom ms s w ws → vs ≡ ws
same_run ms s u w [] [] h e f g = refl
same_run ms s u w [] (x ∷ xs) h e f (m, p, first, can, is, rest) =
    absurd (f m p (subst (λ z. IsFirstAt ms s z m p) (sym e) first) (subst (λ z. CanStep p z) (sym e) can))
same_run ms s u w (v ∷ vs) [] h e (m, p, first, can, is, rest) g =
    absurd (g m p (subst (λ z. IsFirstAt ms s z m p) e first) (subst (λ z. CanStep p z) e can))
same_run ms s u w (v ∷ vs) (x ∷ xs) h e (m, p, first, can, is, rest) (n, q, first', can', is', rest') =
    let first'' = subst (λ z. IsFirstAt ms s z m p) e first in
    let mark = one_mark ms s w m n p q h first'' first' in
    let step : p ≡ q = of_some p q (sym first''.step ∙ ap (λ (z : Mark). z.step) mark ∙ first'.step) in
    let next : v ≡ x = is ∙ ap (stepped p) e ∙ ap (λ z. stepped z w) step ∙ sym is' in
    let more = same_run ms s v x vs xs h next rest rest' in
    ap (λ z. z ∷ vs) next ∙ ap (λ zs. x ∷ zs) more

-- what the clause requires of a mark
abbrev MarkFits : List Mark → Mark → Type 0
MarkFits ms m =
    (vs : List ℕ) × IsRunFrom ms m.slot 0 vs × Contains (0 ∷ vs) m.found
    × ((p : Step) → m.step ≡ Some p → IsFirstAt ms m.slot m.found m p × CanStep p m.found)

-- a mark of the slot is there, or none is
mark_or_none : (ms : List Mark) (s : SlotName) → ((m : Mark) × Contains ms m × (m.slot ≡ s)) ⊎ ((m : Mark) → Contains ms m → m.slot ≡ s → ⊥)
mark_or_none [] s = inr (λ m among same. not_in_none m among)
mark_or_none (n ∷ ms) s = elim (same_slot_cases n.slot s) [
  | inl hit ↦ inl (n, first_in n ms, hit)
  | inr miss ↦ elim (mark_or_none ms s) [
    | inl (m, among, same) ↦ inl (m, later_in n m ms among, same)
    | inr none ↦ inr (λ m among same. elim (in_cases n m ms among) [
      | inl e ↦ miss (ap (λ (z : Mark). z.slot) e ∙ same)
      | inr rest ↦ none m rest same
    ])
  ]
]

slot_whole : (ms : List Mark) (s : SlotName) → AllPairs OtherLine ms → ((m : Mark) → Contains ms m → MarkFits ms m) → (vs : List ℕ) ×
    IsRunFrom ms s 0 vs × IsOneRun ms s (0 ∷ vs)
slot_whole ms s differ fits = elim (mark_or_none ms s) [
  | inl (m, among, same) ↦
      let (vs, run, found, used) = fits m among in
      let whole : IsRunFrom ms s 0 vs = subst (λ z. IsRunFrom ms z 0 vs) same run in (
        vs,
        whole,
        record {
          found = λ n member is. let (ws, other, there, more) = fits n member in
              let one = same_run ms s 0 0 ws vs differ refl (subst (λ z. IsRunFrom ms z 0 ws) is other) whole in
              subst (λ zs. Contains (0 ∷ zs) n.found) one there;
          used = λ n p member is made. let (ws, other, there, more) = fits n member in
              let (first, can) = more p made in
              (subst (λ z. IsFirstAt ms z n.found n p) is first, can);
        },
      )
  | inr none ↦ (
    [],
    λ m p first can. none m first.among first.slot,
    record {
      found = λ n member is. absurd (none n member is);
      used = λ n p member is made. absurd (none n member is);
    },
  )
]

slots_meet : (t : Trace) (r : Told) → Slots (marks_of (records_of t r)) → IsMet clauses.Slots t r
slots_meet t r h (places.Record i) = λ x m at is.
    let ps = records_of t r in
    let among = mark_in ps x m (at_in ps i x at) is in
    let (vs, run, one) = h m.slot in
    (vs, run, one.found m among refl, λ p made. one.used m p among refl made)
slots_meet t r h (places.Root p j) = tt
slots_meet t r h (places.Pool j) = tt
slots_meet t r h (places.Cell k j) = tt
slots_meet t r h (places.Report i) = tt

pub slots_are_places : SlotsArePlaces
slots_are_places t r due = (
  slots_meet t r,
  λ met s.
      let ps = records_of t r in
      slot_whole (marks_of ps) s (marks_differ ps (due_differ t r due))
      (λ m among. let (x, member, is) = mark_from ps m among in let (i, at) = in_at ps x member in met (places.Record i) x m at is),
)
