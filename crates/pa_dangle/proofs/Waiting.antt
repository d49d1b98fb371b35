-- Along a slot's run: after a free that found raw_ptrs its word is that of a quarantined slot until a step returns it, and a
-- quarantined slot's word comes of such a free.
use Rattle.std.proofs.Common.{◌≡◌, ℕ, ◌+◌, ◌<◌, List, [], ◌∷◌, Some, sym, ◌∙◌, ap, subst, arith, inl, inr}
use Rattle.std.specs.Prelude.{Contains, AllPairs}
use Rattle.std.proofs.lemmas.Bool.{cases_lt, cases_eq}
use Rattle.pa_slot.specs.declared.word.SlotName.{SlotName}
use Rattle.pa_slot.specs.declared.word.Step.{Step}
use Rattle.pa_slot.specs.declared.word.Step.TheVariants.{Issue, Copy, Reset, Free, Write}
use Rattle.pa_slot.specs.Count.{CanStep, number_of, held_of, refs_of, stepped}
use Rattle.pa_slot.specs.Run.{Mark, IsFirstAt, IsRunFrom, IsOneRun, IsReturning, IsQuarantined}
use Rattle.pa_slot.proofs.Arith.{stepped_is}
use Rattle.pa_slot.proofs.Runs.{number_stepped}
use Rattle.pa_lists.proofs.Members.{first_in, later_in, in_cases, of_some}
use Rattle.pa_lists.proofs.Elements.{in_one}
use Rattle.pa_rules.proofs.Running.{OtherLine, run_rises, one_mark, same_word}
use Rattle.pa_dangle.specs.Uses.{IsKeptFree, NoneReturned}

-- the marks of one slot are one run, and no two have one line
pub record Run (ms : List Mark) (s : SlotName) (vs : List ℕ) : Type 0 where
  pub lines : AllPairs OtherLine ms
  pub run : IsRunFrom ms s 0 vs
  pub one : IsOneRun ms s (0 ∷ vs)

-- a step at the number of a word that another mark made its step at is that mark's
pub same_step : (ms : List Mark) (s : SlotName) (vs : List ℕ) → Run ms s vs → (u : ℕ) (m r : Mark) (p q : Step) →
    Contains (0 ∷ vs) u → IsFirstAt ms s u m p →
    Contains ms r → r.slot ≡ s → r.step ≡ Some q → number_of r.found ≡ number_of u → (r.found ≡ u) × (q ≡ p)
same_step ms s vs h u m r p q among first member slot step same =
    let word = same_word ms s 0 vs r.found u h.run (h.one.found r member slot) among same in
    let (first', can) = h.one.used r q member slot step in
    let mark = one_mark ms s u m r p q h.lines first (subst (λ z. IsFirstAt ms s z r q) word first') in
    (word, of_some q p (sym step ∙ sym (ap (λ (z : Mark). z.step) mark) ∙ first.step))

-- f is a free that kept the slot, below the number n, and no step between the two returned it
pub record Waits (ms : List Mark) (s : SlotName) (n : ℕ) (f : Mark) : Type 0 where
  pub among : Contains ms f
  pub slot : f.slot ≡ s
  pub kept : IsKeptFree f
  pub later : number_of f.found < n
  pub none : NoneReturned ms s (number_of f.found) n

-- if the step at a word returns nothing, the wait goes on past it
one_more : (ms : List Mark) (s : SlotName) (vs : List ℕ) → Run ms s vs → (u : ℕ) (m f : Mark) (p : Step) →
    Contains (0 ∷ vs) u → IsFirstAt ms s u m p →
    (IsReturning p u → ⊥) → Waits ms s (number_of u) f → Waits ms s (number_of u + 1) f
one_more ms s vs h u m f p among first keeps w = record {
  among = w.among;
  slot = w.slot;
  kept = w.kept;
  later = let low = w.later in omega arith;
  none = λ r q member slot step returns low high. elim (cases_lt (number_of r.found) (number_of u)) [
    | inl less ↦ w.none r q member slot step returns low less
    | inr more ↦
        let (word, same) = same_step ms s vs h u m r p q among first member slot step (omega arith) in
        keeps (subst (λ z. IsReturning p z) word (subst (λ z. IsReturning z r.found) same returns))
  ];
}

-- a quarantined slot's word comes of a free that kept the slot, if the first word of the rest of the run does
next_waits : (ms : List Mark) (s : SlotName) (vs : List ℕ) → Run ms s vs → (u : ℕ) (m : Mark) (p : Step) → Contains (0 ∷ vs) u →
    IsFirstAt ms s u m p → CanStep p u →
    (IsQuarantined u → (f : Mark) × Waits ms s (number_of u) f) → IsQuarantined (stepped p u) → (f : Mark) × Waits ms s (number_of u + 1) f
next_waits ms s vs h u m Issue among first can so (free, refs) = let (a, b, c, d) = stepped_is Issue u can in absurd (omega arith)
next_waits ms s vs h u m Copy among first can so (free, refs) =
    let (a, b, c) = stepped_is Copy u can in
    let (f, w) = so (sym b ∙ free, omega arith) in
    (f, one_more ms s vs h u m f Copy among first (λ no. no) w)
next_waits ms s vs h u m Reset among first can so (free, refs) =
    let (a, b) = stepped_is Reset u can in
    let (f, w) = so (sym b ∙ free, omega arith) in
    (f, one_more ms s vs h u m f Reset among first (λ (x, y). omega arith) w)
next_waits ms s vs h u m Free among first can so (free, refs) =
    let (a, b, c) = stepped_is Free u can in
    let at : number_of m.found ≡ number_of u = ap number_of first.found in (
      m,
      record {
        among = first.among;
        slot = first.slot;
        kept = record {
          step = first.step;
          held = ap held_of first.found ∙ c;
          refs = let e : refs_of m.found ≡ refs_of u = ap refs_of first.found in omega arith;
        };
        later = omega arith;
        none = λ r q member slot step returns low high. omega arith;
      },
    )
next_waits ms s vs h u m Write among first can so (free, refs) = let (a, b, c, d) = stepped_is Write u can in absurd (omega arith)

-- each quarantined word of a slot's run has a free that waits there
along : (ms : List Mark) (s : SlotName) (ws : List ℕ) → Run ms s ws → (u : ℕ) (vs : List ℕ) → IsRunFrom ms s u vs →
    ((x : ℕ) → Contains (u ∷ vs) x → Contains (0 ∷ ws) x) →
    (IsQuarantined u → (f : Mark) × Waits ms s (number_of u) f) → (w : ℕ) → Contains (u ∷ vs) w → IsQuarantined w →
    (f : Mark) × Waits ms s (number_of w) f
along ms s ws h u [] run whole so w among q =
    let e = in_one u w among in
    subst (λ z. (f : Mark) × Waits ms s (number_of z) f) e (so (subst IsQuarantined (sym e) q))
along ms s ws h u (v ∷ vs) (m, p, first, can, is, rest) whole so w among q = elim (in_cases u w (v ∷ vs) among) [
  | inl e ↦ subst (λ z. (f : Mark) × Waits ms s (number_of z) f) e (so (subst IsQuarantined (sym e) q))
  | inr after ↦
      let up : number_of u + 1 ≡ number_of v = sym (ap number_of is ∙ number_stepped p u can) in
      along ms s ws h v vs rest (λ x member. whole x (later_in u x (v ∷ vs) member))
      (λ quarantined. subst (λ n. (f : Mark) × Waits ms s n f) up
      (next_waits ms s ws h u m p (whole u (first_in u (v ∷ vs))) first can so (subst IsQuarantined is quarantined))) w after q
]

pub comes_of_free : (ms : List Mark) (s : SlotName) (vs : List ℕ) → Run ms s vs → (w : ℕ) → Contains (0 ∷ vs) w → IsQuarantined w →
    (f : Mark) × Waits ms s (number_of w) f
comes_of_free ms s vs h w among q =
    along ms s vs h 0 vs h.run (λ x member. member) (λ (free, refs). absurd (omega arith)) w among q

-- a step at a quarantined word that doesn't return the slot leaves it quarantined
stays : (p : Step) (u : ℕ) → CanStep p u → IsQuarantined u → (IsReturning p u → ⊥) → IsQuarantined (stepped p u)
stays Issue u can (free, refs) keeps = let (a, b, c, d) = stepped_is Issue u can in absurd (omega arith)
stays Copy u can (free, refs) keeps = let (a, b, c) = stepped_is Copy u can in (b ∙ free, omega arith)
stays Reset u can (free, refs) keeps =
    let (a, b) = stepped_is Reset u can in
    elim (cases_eq (refs_of u) 1) [
      | inl one ↦ absurd (keeps (free, one))
      | inr more ↦ (b ∙ free, omega arith)
    ]
stays Free u can (free, refs) keeps = let (a, b, c) = stepped_is Free u can in absurd (omega arith)
stays Write u can (free, refs) keeps = let (a, b, c, d) = stepped_is Write u can in absurd (omega arith)

-- from a quarantined word on, each word up to which no step returned the slot is one
still : (ms : List Mark) (s : SlotName) (u : ℕ) (vs : List ℕ) → IsRunFrom ms s u vs → IsQuarantined u → (w k : ℕ) →
    Contains (u ∷ vs) w → k < number_of u →
    NoneReturned ms s k (number_of w) → IsQuarantined w
still ms s u [] run q w k among low none = subst IsQuarantined (in_one u w among) q
still ms s u (v ∷ vs) (m, p, first, can, is, rest) q w k among low none = elim (in_cases u w (v ∷ vs) among) [
  | inl e ↦ subst IsQuarantined e q
  | inr after ↦
      let up : number_of v ≡ number_of u + 1 = ap number_of is ∙ number_stepped p u can in
      let more = run_rises ms s v vs w rest after in
      let at : number_of m.found ≡ number_of u = ap number_of first.found in
      let keeps : IsReturning p u →
      ⊥ = λ returns. none m p first.among first.slot first.step (subst (λ z. IsReturning p z) (sym first.found) returns) (omega arith)
      (omega arith) in
      still ms s v vs rest (subst IsQuarantined (sym is) (stays p u can q keeps)) w k after (omega arith) none
]

-- the run from a word on, with its words from that number on
from_free : (ms : List Mark) (s : SlotName) (u : ℕ) (vs : List ℕ) → AllPairs OtherLine ms → IsRunFrom ms s u vs → (f : Mark) (w : ℕ) →
    Contains (u ∷ vs) f.found → IsFirstAt ms s f.found f Free →
    CanStep Free f.found → 0 < refs_of f.found → Contains (u ∷ vs) w → number_of f.found < number_of w →
    NoneReturned ms s (number_of f.found) (number_of w) → IsQuarantined w
from_free ms s u [] lines run f w here first can refs among less none =
    let a : number_of u ≡ number_of f.found = ap number_of (in_one u f.found here) in
    let b : number_of u ≡ number_of w = ap number_of (in_one u w among) in
    absurd (omega arith)
from_free ms s u (v ∷ vs) lines (m, p, at, can', is, rest) f w here first can refs among less none =
    elim (in_cases u f.found (v ∷ vs) here) [
      | inl e ↦
          let same = one_mark ms s f.found m f p Free lines (subst (λ z. IsFirstAt ms s z m p) e at) first in
          let step : p ≡ Free = of_some p Free (sym at.step ∙ ap (λ (z : Mark). z.step) same ∙ first.step) in
          let next : v ≡ stepped Free f.found = is ∙ ap (λ z. stepped z u) step ∙ ap (stepped Free) e in
          let (a, b, c) = stepped_is Free f.found can in
          let up : number_of v ≡ number_of f.found + 1 = ap number_of next ∙ number_stepped Free f.found can in
          let q : IsQuarantined (stepped Free f.found) = (b, omega arith) in
          elim (in_cases u w (v ∷ vs) among) [
            | inl g ↦ let h : number_of u ≡ number_of w = ap number_of g in
                let i : number_of u ≡ number_of f.found = ap number_of e in absurd (omega arith)
            | inr after ↦ still ms s v vs rest (subst IsQuarantined (sym next) q) w (number_of f.found) after (omega arith) none
          ]
      | inr behind ↦ elim (in_cases u w (v ∷ vs) among) [
        | inl g ↦
            let h : number_of u ≡ number_of w = ap number_of g in
            let up : number_of v ≡ number_of u + 1 = ap number_of is ∙ number_stepped p u can' in
            let more = run_rises ms s v vs f.found rest behind in
            absurd (omega arith)
        | inr after ↦ from_free ms s v vs lines rest f w behind first can refs after less none
      ]
    ]

pub waits_quarantined : (ms : List Mark) (s : SlotName) (vs : List ℕ) → Run ms s vs → (f : Mark) (w : ℕ) → Contains (0 ∷ vs) w →
    Waits ms s (number_of w) f → IsQuarantined w
waits_quarantined ms s vs h f w among wait =
    let (first, can) = h.one.used f Free wait.among wait.slot wait.kept.step in
    from_free ms s 0 vs h.lines h.run f w (h.one.found f wait.among wait.slot) first can wait.kept.refs among wait.later wait.none
