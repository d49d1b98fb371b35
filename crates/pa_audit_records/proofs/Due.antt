-- The walk over the lines of a trace, with the records that are due.
use Rattle.std.proofs.Common.{◌≡◌, ℕ, zero, suc, ◌+◌, ◌-◌, ◌<◌, ◌≤◌, List, [], ◌∷◌, map, drop, get_or, length, Some, None, refl, sym, ◌∙◌, ap, subst, arith, inl, inr}
use Rattle.std.specs.Prelude.{slice_get}
use Rattle.std.proofs.lemmas.Bool.{cases_lt}
use Rattle.std.proofs.lemmas.List.{drop_more, drop_all}
use Rattle.pa_trace.specs.declared.script.Line.{Line}
use Rattle.pa_trace.specs.declared.script.Line.TheVariants.{Phase, Do}
use Rattle.pa_trace.specs.declared.script.Op.{Op}
use Rattle.pa_trace.specs.declared.script.Rules.{Rules}
use Rattle.pa_record.specs.declared.entry.Entry.{Entry}
use Rattle.pa_rules.specs.declared.verdict.Place.TheVariants as places
use Rattle.pa_rules.specs.Played.{op_lines, key_of_line, key_of_entry}
use Rattle.pa_rules.specs.RecordDemands.{LinesDemand}
use Rattle.pa_rules.specs.Tells.{TellsFirst}
use Rattle.pa_lists.proofs.Elements.{length_map}

-- the keys of the records that are due
abbrev pub due : Rules → ℕ → ℕ → List Line → List (ℕ × ℕ)
due r n phase ls = map key_of_line (op_lines r n phase ls)

-- The first `at` records are those due, and the rest of the lines, from line n on, ask for the others.
pub record DueSoFar (r : Rules) (ls : List Line) (es : List Entry) (rest : List Line) (n at : ℕ) : Type 0 where
  pub phase : ℕ
  pub met : (j : ℕ) → j < at → LinesDemand r ls es (places.Record j)
  pub asks : (j : ℕ) → slice_get (due r 2 1 ls) (at + j) ≡ slice_get (due r n phase rest) j

pub due_start : (r : Rules) (ls : List Line) (es : List Entry) → DueSoFar r ls es ls 2 0
due_start r ls es = record {
  phase = 1;
  met = λ j below. absurd (omega (arith, below));
  asks = λ j. ap (slice_get (due r 2 1 ls)) (omega arith);
}

-- the line at a place and those after it
line_here : (ls : List Line) (i : ℕ) (l : Line) → i < length ls → get_or ls i Phase ≡ l → drop i ls ≡ l ∷ drop (i + 1) ls
line_here ls i l below is = drop_more ls i Phase below ∙ ap (λ z. z ∷ drop (i + 1) ls) is

phase_on : (r : Rules) (ls : List Line) (es : List Entry) (rest : List Line) (n at : ℕ) → DueSoFar r ls es (Phase ∷ rest) n at →
    DueSoFar r ls es rest (n + 1) at
phase_on r ls es rest n at h = record { phase = h.phase + 1; met = h.met; asks = h.asks }

here : {A : Type 0} (xs : List A) (at : ℕ) → slice_get xs (at + 0) ≡ slice_get xs at
here xs at = ap (slice_get xs) (omega arith)

due_here : (r : Rules) (ls : List Line) (es : List Entry) (rest : List Line) (n at thread : ℕ) (op : Op) →
    DueSoFar r ls es (Do thread op ∷ rest) n at → slice_get (due r 2 1 ls) at ≡ Some (n, thread)
due_here r ls es rest n at thread op h = sym (here (due r 2 1 ls) at) ∙ h.asks 0

op_on : (r : Rules) (ls : List Line) (es : List Entry) (rest : List Line) (n at thread : ℕ) (op : Op)
    → DueSoFar r ls es (Do thread op ∷ rest) n at → slice_get (map key_of_entry es) at ≡ Some (n, thread)
    → DueSoFar r ls es rest (n + 1) (at + 1)
op_on r ls es rest n at thread op h is = record {
  phase = h.phase;
  met = λ j below. elim (cases_lt j at) [
    | inl less ↦ h.met j less
    | inr least ↦
        let same : at ≡ j = omega (arith, below, least) in
        subst (λ k. LinesDemand r ls es (places.Record k)) same (is ∙ sym (due_here r ls es rest n at thread op h))
  ];
  asks = λ j. ap (slice_get (due r 2 1 ls)) (omega arith) ∙ h.asks (suc j);
}

op_not : (r : Rules) (ls : List Line) (es : List Entry) (rest : List Line) (n at thread : ℕ) (op : Op) →
    DueSoFar r ls es (Do thread op ∷ rest) n at
    → (slice_get (map key_of_entry es) at ≡ Some (n, thread) → ⊥) → TellsFirst (λ i. LinesDemand r ls es (places.Record i)) (Some at)
op_not r ls es rest n at thread op h other = (λ is. other (is ∙ due_here r ls es rest n at thread op h), h.met)

past : {A : Type 0} (xs : List A) (i : ℕ) → length xs ≤ i → slice_get xs i ≡ None
past [] i h = refl
past (x ∷ xs) zero h = absurd (omega (arith, h))
past (x ∷ xs) (suc i) h = past xs i (omega (arith, h))

within : {A : Type 0} (xs : List A) (i : ℕ) → i < length xs → slice_get xs i ≡ None → ⊥
within [] i h e = omega (arith, h)
within (x ∷ xs) zero h e = cc
within (x ∷ xs) (suc i) h e = within xs i (omega (arith, h)) e

over : (r : Rules) (ls : List Line) (es : List Entry) (n at : ℕ) → DueSoFar r ls es [] n at → at < length es →
    TellsFirst (λ i. LinesDemand r ls es (places.Record i)) (Some at)
over r ls es n at h more = (
  λ is. within (map key_of_entry es) at (omega (arith, more, length_map key_of_entry es)) (is ∙ sym (here (due r 2 1 ls) at) ∙ h.asks 0),
  h.met,
)

all_due : (r : Rules) (ls : List Line) (es : List Entry) (n at : ℕ) → DueSoFar r ls es [] n at → length es ≤ at →
    TellsFirst (λ i. LinesDemand r ls es (places.Record i)) None
all_due r ls es n at h none i = elim (cases_lt i at) [
  | inl less ↦ h.met i less
  | inr least ↦
      let same : at + (i - at) ≡ i = omega (arith, least) in
      past (map key_of_entry es) i (omega (arith, none, least, length_map key_of_entry es)) ∙ sym (h.asks (i - at)) ∙
      ap (slice_get (due r 2 1 ls)) same
]

-- ---- the same at a place of the lines

pub due_phase : (r : Rules) (ls : List Line) (es : List Entry) (i n at : ℕ) → i < length ls → get_or ls i Phase ≡ Phase
    → DueSoFar r ls es (drop i ls) n at → DueSoFar r ls es (drop (i + 1) ls) (n + 1) at
due_phase r ls es i n at below is h =
    phase_on r ls es (drop (i + 1) ls) n at (subst (λ zs. DueSoFar r ls es zs n at) (line_here ls i Phase below is) h)

pub due_more : (r : Rules) (ls : List Line) (es : List Entry) (i n at thread : ℕ) (op : Op) → i < length ls →
    get_or ls i Phase ≡ Do thread op → DueSoFar r ls es (drop i ls) n at
    → slice_get (map key_of_entry es) at ≡ Some (n, thread) → DueSoFar r ls es (drop (i + 1) ls) (n + 1) (at + 1)
due_more r ls es i n at thread op below is h same =
    op_on r ls es (drop (i + 1) ls) n at thread op (subst (λ zs. DueSoFar r ls es zs n at) (line_here ls i (Do thread op) below is) h) same

pub due_not : (r : Rules) (ls : List Line) (es : List Entry) (i n at thread : ℕ) (op : Op) → i < length ls →
    get_or ls i Phase ≡ Do thread op → DueSoFar r ls es (drop i ls) n at
    → (slice_get (map key_of_entry es) at ≡ Some (n, thread) → ⊥) → TellsFirst (λ k. LinesDemand r ls es (places.Record k)) (Some at)
due_not r ls es i n at thread op below is h other =
    op_not r ls es (drop (i + 1) ls) n at thread op
    (subst (λ zs. DueSoFar r ls es zs n at) (line_here ls i (Do thread op) below is) h) other

pub due_over : (r : Rules) (ls : List Line) (es : List Entry) (i n at : ℕ) → length ls ≤ i → DueSoFar r ls es (drop i ls) n at
    → at < length es → TellsFirst (λ k. LinesDemand r ls es (places.Record k)) (Some at)
due_over r ls es i n at end h more = over r ls es n at (subst (λ zs. DueSoFar r ls es zs n at) (drop_all i ls end) h) more

pub due_all : (r : Rules) (ls : List Line) (es : List Entry) (i n at : ℕ) → length ls ≤ i → DueSoFar r ls es (drop i ls) n at
    → length es ≤ at → TellsFirst (λ k. LinesDemand r ls es (places.Record k)) None
due_all r ls es i n at end h none = all_due r ls es n at (subst (λ zs. DueSoFar r ls es zs n at) (drop_all i ls end) h) none
