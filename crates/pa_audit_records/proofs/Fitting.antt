-- What the clause of the slots requires of a record, by the tables, and the walk over the records.
use Rattle.std.proofs.Common.{◌≡◌, ℕ, ◌+◌, ◌<◌, ◌≤◌, List, ◌∷◌, get_or, length, Option, Some, None, IsSome, refl, sym, ◌∙◌, ap, subst, arith, inl, inr}
use Rattle.std.specs.Prelude.{slice_get, Contains}
use Rattle.std.proofs.lemmas.Bool.{cases_lt, false≢true}
use Rattle.pa_slot.specs.declared.word.SlotName.{SlotName}
use Rattle.pa_slot.specs.declared.word.Step.{Step}
use Rattle.pa_slot.specs.Count.{CanStep}
use Rattle.pa_slot.specs.Run.{Mark, IsFirstAt}
use Rattle.pa_lists.proofs.Members.{of_some, not_some}
use Rattle.pa_rules.specs.declared.played.Played.{Played}
use Rattle.pa_rules.specs.Played.{mark_of, marks_of}
use Rattle.pa_rules.specs.RecordDemands.{IsRecord}
use Rattle.pa_rules.proofs.Running.{marks_differ}
use Rattle.pa_rules.proofs.Phases.{mark_in}
use Rattle.pa_rules.proofs.Marking.{mark_line}
use Rattle.pa_rules.specs.declared.verdict.Place.TheVariants as places
use Rattle.pa_rules.specs.RecordDemands.{SlotsDemand}
use Rattle.pa_lists.proofs.Indexed.{at_in, none_past, here_is}
use Rattle.pa_verdict.proofs.Runs.{same_run}
use Rattle.pa_audit_records.specs.Keys.{word_key}
use Rattle.pa_audit_records.specs.Marks.{IsSized}
use Rattle.pa_rules.specs.Rising.{RiseByLine}
use Rattle.pa_audit_records.specs.Steps.{AreFirsts, AreReached, HasAllSlots, StepFits, MarkFits}
use Rattle.pa_audit_records.proofs.Stepping.{same_place, records_differ, first_is, first_none}
use Rattle.pa_rules.proofs.Rising.{rises}

-- ---- what the clause asks for, by the tables

slot_met_at : (ps : List Played) (firsts reached : ℕ → Option ℕ) (i : ℕ) (d : Played) → RiseByLine ps → AreFirsts ps firsts →
    AreReached ps reached → i < length ps
    → MarkFits firsts reached i (mark_of (get_or ps i d)) → SlotsDemand ps (places.Record i)
slot_met_at ps firsts reached i d rising f r below fits x m at is =
    let here = here_is ps i d below in
    let same : get_or ps i d ≡ x = of_some (get_or ps i d) x (sym here ∙ at) in
    let tells : mark_of (get_or ps i d) ≡ Some m = ap mark_of same ∙ is in
    let (some, step) = subst (MarkFits firsts reached i) tells fits in
    let sized = f.sized i x (omega arith) at m is in
    let (vs, run, only, whole) = r m.slot m.found sized some in (
      vs,
      run,
      only m.found sized some,
      λ p made.
          let (first, can) = subst (StepFits firsts i m) made step in
          (first_is ps firsts m.slot m.found i d m p rising f sized first tells made, can),
    )

pub slot_met : (ps : List Played) (firsts reached : ℕ → Option ℕ) (i at : ℕ) (d : Played) → at ≡ i → RiseByLine ps → AreFirsts ps firsts →
    AreReached ps reached → i < length ps
    → MarkFits firsts reached at (mark_of (get_or ps i d)) → SlotsDemand ps (places.Record i)
slot_met ps firsts reached i at d same rising f r below fits =
    slot_met_at ps firsts reached i d rising f r below (subst (λ k. MarkFits firsts reached k (mark_of (get_or ps i d))) same fits)

-- the table's record of a first step is the one that made it
mine_is : (ps : List Played) (firsts : ℕ → Option ℕ) (i : ℕ) (x : Played) (m : Mark) (p : Step) → RiseByLine ps → AreFirsts ps firsts →
    IsRecord ps i x → mark_of x ≡ Some m → IsSized m.slot m.found
    → IsFirstAt (marks_of ps) m.slot m.found m p → (o : Option ℕ) → firsts (word_key m.slot m.found) ≡ o → o ≡ Some i
mine_is ps firsts i x m p rising f here is sized first None e = absurd (first_none ps firsts m.slot m.found m p f e first)
mine_is ps firsts i x m p rising f here is sized first (Some j) e =
    let (from, (y, at, (n, tells, made, place)), least) = f.hit (word_key m.slot m.found) j e in
    let step : IsSome m.step = subst (λ z. IsSome z) (sym first.step) refl in
    let low : j ≤ i = least i (omega arith) (x, here, (m, is, step, refl)) in
    let mine = f.sized j y (omega arith) at n tells in
    let (slot, found) = same_place n.slot m.slot n.found m.found mine sized place in
    let among = mark_in ps y n (at_in ps j y at) tells in
    let early : m.line ≤ n.line = first.least n among slot found made in
    let line = mark_line x m is in
    let line' = mark_line y n tells in
    elim (cases_lt j i) [
      | inl less ↦ let later = rises ps j i y x rising at here less in absurd (omega (arith, later, early, line, line'))
      | inr most ↦ let same : j ≡ i = omega (arith, low, most) in ap {B = Option ℕ} (λ z. Some z) same
    ]

step_fits : (ps : List Played) (firsts : ℕ → Option ℕ) (i : ℕ) (x : Played) (m : Mark) → RiseByLine ps → AreFirsts ps firsts →
    IsRecord ps i x → mark_of x ≡ Some m → IsSized m.slot m.found
    → ((p : Step) → m.step ≡ Some p → IsFirstAt (marks_of ps) m.slot m.found m p × CanStep p m.found) → (o : Option Step) →
    m.step ≡ o → StepFits firsts i m o
step_fits ps firsts i x m rising f here is sized used None e = tt
step_fits ps firsts i x m rising f here is sized used (Some p) e =
    let (first, can) = used p e in
    (mine_is ps firsts i x m p rising f here is sized first (firsts (word_key m.slot m.found)) refl, can)

mark_fits : (ps : List Played) (firsts reached : ℕ → Option ℕ) (i : ℕ) (x : Played) → RiseByLine ps → AreFirsts ps firsts
    → AreReached ps reached → HasAllSlots ps reached → IsRecord ps i x → SlotsDemand ps (places.Record i)
    → (o : Option Mark) → mark_of x ≡ o → MarkFits firsts reached i o
mark_fits ps firsts reached i x rising f r all here asks None e = tt
mark_fits ps firsts reached i x rising f r all here asks (Some m) e =
    let sized = f.sized i x (omega arith) here m e in
    let (vs, run, among, used) = asks x m here e in
    let (ws, other, only, whole) = r m.slot 0 (sized.0, omega arith) (all i x m here e) in
    let same : vs ≡ ws = same_run (marks_of ps) m.slot 0 0 vs ws (marks_differ ps (records_differ ps rising)) refl run other in
    let some : IsSome (reached (word_key m.slot m.found)) = whole m.found sized (subst (λ zs. Contains (0 ∷ zs) m.found) same among) in
    (some, step_fits ps firsts i x m rising f here e sized used m.step refl)

pub slot_fits : (ps : List Played) (firsts reached : ℕ → Option ℕ) (i at : ℕ) (d : Played) → at ≡ i → RiseByLine ps → AreFirsts ps firsts
    → AreReached ps reached → HasAllSlots ps reached → i < length ps
    → SlotsDemand ps (places.Record i) → MarkFits firsts reached at (mark_of (get_or ps i d))
slot_fits ps firsts reached i at d same rising f r all below asks =
    subst (λ k. MarkFits firsts reached k (mark_of (get_or ps i d))) (sym same)
    (mark_fits ps firsts reached i (get_or ps i d) rising f r all (here_is ps i d below) asks (mark_of (get_or ps i d)) refl)

-- ---- the walk over the records

-- the table has the first word of each slot that a record so far reports
abbrev pub HasSlotsBelow : List Played → (ℕ → Option ℕ) → ℕ → Type 0
HasSlotsBelow ps at n = (i : ℕ) (x : Played) (m : Mark) → i < n → IsRecord ps i x → mark_of x ≡ Some m → IsSome (at (word_key m.slot 0))

pub slots_more : (ps : List Played) (firsts before at : ℕ → Option ℕ) (n : ℕ) (d : Played) → n < length ps →
    AreFirsts ps firsts → HasSlotsBelow ps before n
    → ((t : SlotName) → t.start < 4294967296 → IsSome (before (word_key t 0)) → IsSome (at (word_key t 0)))
    → ((m : Mark) → mark_of (get_or ps n d) ≡ Some m → IsSome (at (word_key m.slot 0))) → HasSlotsBelow ps at (n + 1)
slots_more ps firsts before at n d below f h kept new i x m less here is = elim (cases_lt i n) [
  | inl early ↦ kept m.slot (f.sized i x (omega arith) here m is).0 (h i x m early here is)
  | inr least ↦
      let same : n ≡ i = omega (arith, less, least) in
      let one : get_or ps n d ≡ x = of_some (get_or ps n d) x (sym (here_is ps n d below) ∙ ap (slice_get ps) same ∙ here) in
      new m (ap mark_of one ∙ is)
]

pub slots_all : (ps : List Played) (at : ℕ → Option ℕ) (n : ℕ) → length ps ≤ n → HasSlotsBelow ps at n → HasAllSlots ps at
slots_all ps at n end h i x m here is = elim (cases_lt i n) [
  | inl less ↦ h i x m less here is
  | inr most ↦ absurd (none_past ps i x (omega (arith, end, most)) here)
]

-- an empty table reaches nothing
pub reached_none : (ps : List Played) (at : ℕ → Option ℕ) → ((q : ℕ) → at q ≡ None) → AreReached ps at
reached_none ps at none s w sized some = absurd (false≢true (subst (λ z. IsSome z) (none (word_key s w)) some))

-- the runs that are entered are whole, and those of the slots of the records so far
pub record RunsSoFar (ps : List Played) (at : ℕ → Option ℕ) (n : ℕ) : Type 0 where
  pub runs : AreReached ps at
  pub all : HasSlotsBelow ps at n

pub runs_told : (ps : List Played) (firsts before at : ℕ → Option ℕ) (n : ℕ) (d : Played) (told : Mark) → n < length ps →
    AreFirsts ps firsts → RunsSoFar ps before n → AreReached ps at
    → ((t : SlotName) → t.start < 4294967296 → IsSome (before (word_key t 0)) → IsSome (at (word_key t 0)))
    → mark_of (get_or ps n d) ≡ Some told → IsSome (at (word_key told.slot 0)) → RunsSoFar ps at (n + 1)
runs_told ps firsts before at n d told below f h runs kept tells some = record {
  runs = runs;
  all = slots_more ps firsts before at n d below f h.all kept
      (λ m is. subst (λ (z : Mark). IsSome (at (word_key z.slot 0))) (of_some told m (sym tells ∙ is)) some);
}

pub runs_quiet : (ps : List Played) (firsts at : ℕ → Option ℕ) (n : ℕ) (d : Played) → n < length ps → AreFirsts ps firsts →
    RunsSoFar ps at n → mark_of (get_or ps n d) ≡ None → RunsSoFar ps at (n + 1)
runs_quiet ps firsts at n d below f h none = record {
  runs = h.runs;
  all = slots_more ps firsts at at n d below f h.all (λ t low some. some) (λ m is. absurd (not_some m (sym none ∙ is)));
}

pub runs_start : (ps : List Played) (at : ℕ → Option ℕ) → ((q : ℕ) → at q ≡ None) → RunsSoFar ps at 0
runs_start ps at none = record { runs = reached_none ps at none; all = λ i x m less here is. absurd (omega (arith, less)) }
