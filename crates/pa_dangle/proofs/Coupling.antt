-- The pair of a use: its free is the slot's last one below it, and before that the slot was issued.
use Rattle.std.proofs.Common.{◌≡◌, ℕ, ◌+◌, ◌<◌, ◌≤◌, List, [], ◌∷◌, Some, refl, sym, ◌∙◌, ap, subst, arith, inl, inr}
use Rattle.std.specs.Prelude.{Contains}
use Rattle.pa_lists.proofs.Members.{in_cases}
use Rattle.pa_lists.proofs.Elements.{in_one}
use Rattle.pa_slot.specs.declared.word.SlotName.{SlotName}
use Rattle.pa_slot.specs.declared.word.Step.{Step}
use Rattle.pa_slot.specs.declared.word.Step.TheVariants.{Issue, Copy, Reset, Free, Write}
use Rattle.pa_slot.specs.Count.{CanStep, number_of, held_of, stepped}
use Rattle.pa_slot.specs.Run.{Mark, IsFirstAt, IsRunFrom, IsQuarantined, Slots}
use Rattle.pa_slot.proofs.Arith.{stepped_is}
use Rattle.pa_slot.proofs.Runs.{number_stepped}
use Rattle.pa_record.specs.declared.entry.Seen.{Seen}
use Rattle.pa_record.specs.declared.history.CellEntry.{CellEntry}
use Rattle.pa_rules.specs.declared.played.Played.{Played}
use Rattle.pa_rules.specs.Played.{mark_of, marks_of}
use Rattle.pa_rules.specs.Rising.{RiseByLine}
use Rattle.pa_rules.proofs.Marking.{mark_line}
use Rattle.pa_rules.proofs.Phases.{mark_in}
use Rattle.pa_rules.proofs.Running.{marks_differ}
use Rattle.pa_audit_records.proofs.Stepping.{records_differ}
use Rattle.pa_dangle.specs.declared.numbers.Kind.TheVariants.{Issued, Freed}
use Rattle.pa_dangle.specs.Collected.{IsPairFrom}
use Rattle.pa_dangle.specs.Origins.{HasOrigin}
use Rattle.pa_dangle.specs.Pairs.{use_by}
use Rattle.pa_dangle.specs.Steps.{IsLastStep, NoStepBelow, SawUse}
use Rattle.pa_dangle.specs.Uses.{IsUseOf, OwnLines}
use Rattle.pa_dangle.proofs.Pairing.{run_of, quarantined_used, last_free, one_free}

-- an issue of the slot below a number
record WasIssued (ms : List Mark) (s : SlotName) (n : ℕ) : Type 0 where
  issue : Mark
  among : Contains ms issue
  slot : issue.slot ≡ s
  step : issue.step ≡ Some Issue
  below : number_of issue.found < n

more_issued : (ms : List Mark) (s : SlotName) (m n : ℕ) → m ≤ n → WasIssued ms s m → WasIssued ms s n
more_issued ms s m n most i =
    record { issue = i.issue; among = i.among; slot = i.slot; step = i.step; below = let low = i.below in omega (arith, low, most) }

-- if the allocator's bit of a word implies an issue, so does that of the next word
next_issued : (ms : List Mark) (s : SlotName) (u : ℕ) (m : Mark) (p : Step) → IsFirstAt ms s u m p → CanStep p u →
    (held_of u ≡ 1 → WasIssued ms s (number_of u))
    → held_of (stepped p u) ≡ 1 → WasIssued ms s (number_of u + 1)
next_issued ms s u m Issue first can so held =
    let at : number_of m.found ≡ number_of u = ap number_of first.found in
    record { issue = m; among = first.among; slot = first.slot; step = first.step; below = omega (arith, at) }
next_issued ms s u m Copy first can so held = let (a, b, c) = stepped_is Copy u can in
    more_issued ms s (number_of u) (number_of u + 1) (omega arith) (so (sym b ∙ held))
next_issued ms s u m Reset first can so held = let (a, b) = stepped_is Reset u can in
    more_issued ms s (number_of u) (number_of u + 1) (omega arith) (so (sym b ∙ held))
next_issued ms s u m Free first can so held = let (a, b, c) = stepped_is Free u can in absurd (omega (arith, b, held))
next_issued ms s u m Write first can so held = let (a, b, c, d) = stepped_is Write u can in
    more_issued ms s (number_of u) (number_of u + 1) (omega arith) (so (sym b ∙ held))

issued_along : (ms : List Mark) (s : SlotName) (u : ℕ) (vs : List ℕ) → IsRunFrom ms s u vs →
    (held_of u ≡ 1 → WasIssued ms s (number_of u)) → (w : ℕ) → Contains (u ∷ vs) w → held_of w ≡ 1
    → WasIssued ms s (number_of w)
issued_along ms s u [] run so w among held =
    let e = in_one u w among in
    subst (λ z. WasIssued ms s (number_of z)) e (so (ap held_of e ∙ held))
issued_along ms s u (v ∷ vs) (m, p, first, can, is, rest) so w among held = elim (in_cases u w (v ∷ vs) among) [
  | inl e ↦ subst (λ z. WasIssued ms s (number_of z)) e (so (ap held_of e ∙ held))
  | inr after ↦
      let up : number_of u + 1 ≡ number_of v = sym (ap number_of is ∙ number_stepped p u can) in
      issued_along ms s v vs rest
      (λ own. subst (WasIssued ms s) up (next_issued ms s u m p first can so (sym (ap held_of is) ∙ own))) w after held
]

was_issued : (ms : List Mark) (f : Mark) → Slots ms → OwnLines ms → Contains ms f → held_of f.found ≡ 1 →
    WasIssued ms f.slot (number_of f.found)
was_issued ms f slots lines among held =
    let (vs, h) = run_of ms f.slot slots lines in
    issued_along ms f.slot 0 vs h.run (λ own. let none : held_of 0 ≡ 0 = refl in absurd (omega (arith, own, none))) f.found
    (h.one.found f among refl) held

-- the last free below a use is the one that it is a use of
last_used : (ms : List Mark) (s : SlotName) (line number : ℕ) (m u : Mark) → Slots ms → OwnLines ms → Contains ms u →
    u.slot ≡ s → IsQuarantined u.found
    → IsLastStep Freed ms s (number_of u.found) line number m → IsUseOf ms m u
last_used ms s line number m u slots lines among slot q last =
    let (f, is) = quarantined_used ms u slots lines among q in
    let less = last.below in
    let at = last.number in
    let low = last_free ms f m u slots lines is last.among (last.slot ∙ sym slot) last.step (omega (arith, less, at)) in
    let high = last.last f is.freed (sym is.slot ∙ slot) is.kept.step is.later in
    let one = one_free ms f m slots lines is.freed last.among (sym is.slot ∙ slot ∙ sym last.slot) is.kept.step last.step
    (omega (arith, low, high, at)) in
    subst (λ z. IsUseOf ms z u) one is

-- what a pair is made of
pub record Parts (cells : ℕ → List CellEntry) (ps : List Played) (told : Played) (seen : Seen) (origin : ℕ) : Type 0 where
  pub rising : RiseByLine ps
  pub slots : Slots (marks_of ps)
  pub among : Contains ps told
  pub saw : SawUse told seen
  pub comes : HasOrigin cells ps told origin

pub own_lines : (ps : List Played) → RiseByLine ps → OwnLines (marks_of ps)
own_lines ps rising = marks_differ ps (records_differ ps rising)

used_from : (cells : ℕ → List CellEntry) (ps : List Played) (told : Played) (seen : Seen) (origin : ℕ) →
    Parts cells ps told seen origin → (line number : ℕ) (m : Mark)
    → IsLastStep Freed (marks_of ps) seen.slot (number_of seen.found.0) line number m →
    (u : Mark) × (mark_of told ≡ Some u) × IsUseOf (marks_of ps) m u
used_from cells ps told seen origin parts line number m last =
    let ((u, saw), q) = parts.saw in
    let found = saw.found in
    let last' : IsLastStep Freed (marks_of ps) seen.slot (number_of u.found) line number m =
    subst (λ w. IsLastStep Freed (marks_of ps) seen.slot (number_of w) line number m) (sym found) last in (
      u,
      saw.mark,
      last_used (marks_of ps) seen.slot line number m u parts.slots (own_lines ps parts.rising)
          (mark_in ps told u parts.among saw.mark) saw.slot (subst IsQuarantined
          (sym found) q) last',
    )

pub pair_is : (cells : ℕ → List CellEntry) (ps : List Played) (told : Played) (seen : Seen) (origin : ℕ) →
    Parts cells ps told seen origin → (free number : ℕ) (m : Mark)
    → IsLastStep Freed (marks_of ps) seen.slot (number_of seen.found.0) free number m
    → (made other : ℕ) (i : Mark) → IsLastStep Issued (marks_of ps) seen.slot number made other i → told.line < 4294967296
    → IsPairFrom cells ps told (record { made = made; free = free; later = told.line; how = use_by told.op; origin = origin })
pair_is cells ps told seen origin parts free number m last made other i issue short =
    let (u, mark, uses) = used_from cells ps told seen origin parts free number m last in
    let number_is = last.number in
    let at = issue.number in
    let less = issue.below in
    record {
      free = m;
      use_mark = u;
      mark = mark;
      pair = record {
        uses = uses;
        freed = sym last.line;
        later = sym (mark_line told u mark);
        issue = i;
        issued = record {
          among = issue.among;
          slot = issue.slot ∙ sym last.slot;
          step = issue.step;
          below = omega (arith, number_is, at, less);
          last = λ j among slot step below. let most =
              issue.last j among (slot ∙ last.slot) step (omega (arith, number_is, below)) in omega (arith, most, at);
        };
        made = sym issue.line;
        played = told;
        among = parts.among;
        mark = mark;
        how = refl;
        origin = parts.comes;
      };
      later = refl;
      short = short;
    }

pub free_is : (cells : ℕ → List CellEntry) (ps : List Played) (told : Played) (seen : Seen) (origin : ℕ) → Parts cells ps told seen origin
    → NoStepBelow Freed (marks_of ps) seen.slot (number_of seen.found.0) → ⊥
free_is cells ps told seen origin parts none =
    let ((u, saw), q) = parts.saw in
    let (f, is) =
    quarantined_used (marks_of ps) u parts.slots (own_lines ps parts.rising) (mark_in ps told u parts.among saw.mark)
    (subst IsQuarantined (sym saw.found) q) in
    none f is.freed (sym is.slot ∙ saw.slot) is.kept.step (subst (λ w. number_of f.found < number_of w) saw.found is.later)

pub issue_is : (cells : ℕ → List CellEntry) (ps : List Played) (told : Played) (seen : Seen) (origin : ℕ) →
    Parts cells ps told seen origin → (free number : ℕ) (m : Mark)
    → IsLastStep Freed (marks_of ps) seen.slot (number_of seen.found.0) free number m
    → NoStepBelow Issued (marks_of ps) seen.slot number → ⊥
issue_is cells ps told seen origin parts free number m last none =
    let (u, mark, uses) = used_from cells ps told seen origin parts free number m last in
    let i = was_issued (marks_of ps) m parts.slots (own_lines ps parts.rising) last.among uses.kept.held in
    let at = last.number in
    let below = i.below in
    none i.issue i.among (i.slot ∙ last.slot) i.step (omega (arith, at, below))
