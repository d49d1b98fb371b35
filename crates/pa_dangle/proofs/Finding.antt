-- The issues and the frees of the slots by slot and number: the table, and the last one of a slot below a number.
use Rattle.std.proofs.Common.{◌≡◌, ℕ, ◌-◌, ◌<◌, ◌≤◌, List, get_or, length, Option, Some, None, refl, sym, ◌∙◌, ap, subst, arith, inl, inr}
use Rattle.std.specs.Prelude.{slice_get, Contains, option_map}
use Rattle.std.proofs.lemmas.Bool.{cases_lt}
use Rattle.pa_lists.proofs.Members.{of_some, not_some}
use Rattle.pa_lists.proofs.Indexed.{in_at, at_in, option_cases, here_is}
use Rattle.pa_slot.specs.declared.word.SlotName.{SlotName}
use Rattle.pa_slot.specs.declared.word.Step.TheVariants as steps
use Rattle.pa_slot.specs.Count.{number_of}
use Rattle.pa_slot.specs.Run.{Mark, Slots}
use Rattle.pa_trace.specs.declared.script.Op.{Op}
use Rattle.pa_trace.specs.declared.script.Op.TheVariants as ops
use Rattle.pa_record.specs.declared.entry.Seen.{Seen}
use Rattle.pa_record.specs.declared.entry.Answer.{Answer}
use Rattle.pa_record.specs.declared.entry.Answer.TheVariants as answers
use Rattle.pa_rules.specs.declared.played.Played.{Played}
use Rattle.pa_rules.specs.Played.{mark_of, mark_of_answer, mark_at, marks_of, step_of}
use Rattle.pa_rules.specs.RecordDemands.{IsRecord}
use Rattle.pa_rules.specs.Rising.{RiseByLine}
use Rattle.pa_rules.proofs.Running.{mark_from}
use Rattle.pa_rules.proofs.Phases.{mark_in}
use Rattle.pa_rules.proofs.Marking.{mark_line}
use Rattle.pa_legal.proofs.owners.Using.{made_or_done, no_op_issues}
use Rattle.pa_audit_records.specs.Keys.{word_key}
use Rattle.pa_audit_records.proofs.Stepping.{same_place}
use Rattle.pa_audit_records.proofs.Going.{slots_met}
use Rattle.pa_audit_order.specs.Keyed.{HasNoKey, IsGreatest}
use Rattle.pa_audit_order.specs.declared.numbers.Kind.{Kind as TableKind}
use Rattle.pa_audit_order.specs.declared.numbers.Kind.TheVariants as tables
use Rattle.pa_audit_order.specs.Numbers.{seen_by, DoesAt, IsOneAt, AreByNumber}
use Rattle.pa_audit_order.proofs.Stamping.{one_at}
use Rattle.pa_dangle.specs.declared.numbers.Kind.{Kind}
use Rattle.pa_dangle.specs.declared.numbers.Kind.TheVariants.{Issued, Freed}
use Rattle.pa_dangle.proofs.Tracing.{place_below}
use Rattle.pa_dangle.specs.Steps.{seen_by_answer, step_of_kind, IsMarkSeen, AreStepsOf, IsLastStep, NoStepBelow}

abbrev Table : Type 0
Table = ℕ → Option ℕ

-- ---- what records report

abbrev mark_place : Mark → SlotName × ℕ
mark_place m = (m.slot, m.found)

abbrev seen_place : Seen → SlotName × ℕ
seen_place seen = (seen.slot, seen.found.0)

-- of an answer and of its mark the same slot and the same word are known
mark_seen : (line : ℕ) (op : Op) (answer : Answer) →
    option_map mark_place (mark_of_answer line op answer) ≡ option_map seen_place (seen_by_answer answer)
mark_seen line op (answers.Made seen usable) = refl
mark_seen line op (answers.Done seen) = refl
mark_seen line op (answers.Value seen value) = refl
mark_seen line op (answers.Dangling seen value) = refl
mark_seen line op (answers.SecondFree None) = refl
mark_seen line op (answers.SecondFree (Some seen)) = refl
mark_seen line op (answers.NotOwner seen) = refl
mark_seen line op answers.StaleReset = refl
mark_seen line op (answers.StaleUse None) = refl
mark_seen line op (answers.StaleUse (Some seen)) = refl
mark_seen line op answers.Nothing = refl
mark_seen line op answers.Filled = refl
mark_seen line op answers.NotRef = refl
mark_seen line op (answers.Shared seen) = refl
mark_seen line op answers.OutOfRange = refl
mark_seen line op answers.TooLarge = refl
mark_seen line op (answers.Full entry) = refl
mark_seen line op (answers.Swapped entry) = refl
mark_seen line op (answers.Purged slots) = refl
mark_seen line op answers.Uncounted = refl

pub saw_mark : (x : Played) (seen : Seen) → seen_by_answer x.answer ≡ Some seen → (m : Mark) × IsMarkSeen x seen m
saw_mark x seen e =
    let (m, mark, same) =
    option_cases mark_place (mark_of x) (seen_place seen) (mark_seen x.line x.op x.answer ∙ ap (option_map seen_place) e) in
    (m, record { mark = mark; slot = ap (λ (p : SlotName × ℕ). p.0) same; found = ap (λ (p : SlotName × ℕ). p.1) same })

is_free : (op : Op) (seen : Seen) → step_of op ≡ Some steps.Free → seen_by tables.Free op (answers.Done seen) ≡ Some seen
is_free (ops.Alloc reg partition size) seen e = absurd (not_some steps.Free e)
is_free (ops.Copy from to) seen e = let same : steps.Copy ≡ steps.Free = of_some steps.Copy steps.Free e in absurd cc
is_free (ops.Reset reg) seen e = let same : steps.Reset ≡ steps.Free = of_some steps.Reset steps.Free e in absurd cc
is_free (ops.Free reg) seen e = refl
is_free (ops.Write reg value) seen e = let same : steps.Write ≡ steps.Free = of_some steps.Write steps.Free e in absurd cc
is_free (ops.Read reg place) seen e = absurd (not_some steps.Free e)
is_free (ops.Swap cell reg) seen e = absurd (not_some steps.Free e)
is_free ops.Purge seen e = absurd (not_some steps.Free e)

-- the kind of a table of pa_audit_order
abbrev pub numbered_as : Kind → TableKind
numbered_as Issued = tables.Issue
numbered_as Freed = tables.Free

saw_at : (kind : Kind) (line : ℕ) (op : Op) (answer : Answer) (seen : Seen) → seen_by (numbered_as kind) op answer ≡ Some seen
    → (m : Mark) × (mark_of_answer line op answer ≡ Some m) × (m.slot ≡ seen.slot) × (m.found ≡ seen.found.0) ×
    (m.step ≡ Some (step_of_kind kind))
saw_at Issued line op (answers.Made a usable) seen e =
    let same = of_some a seen e in
    (mark_at line a (Some steps.Issue), refl, ap (λ (z : Seen). z.slot) same, ap (λ (z : Seen). z.found.0) same, refl)
saw_at Freed line (ops.Free reg) (answers.Done a) seen e =
    let same = of_some a seen e in
    (mark_at line a (Some steps.Free), refl, ap (λ (z : Seen). z.slot) same, ap (λ (z : Seen). z.found.0) same, refl)
saw_at kind line op answer seen e = absurd (not_some seen e)

-- a record with such a step is in the table, by the slot and the number of its mark
does_step : (kind : Kind) (x : Played) (m : Mark) → mark_of x ≡ Some m → m.step ≡ Some (step_of_kind kind)
    → DoesAt (numbered_as kind) x m.slot (number_of m.found)
does_step Issued x m mark step = elim (made_or_done x.line x.op x.answer m steps.Issue mark step) [
  | inl (seen, usable, is, issue) ↦
      let same = of_some (mark_at x.line seen (Some steps.Issue)) m (sym (ap (mark_of_answer x.line x.op) is) ∙ mark) in (
        seen,
        ap (seen_by tables.Issue x.op) is,
        ap (λ (z : Mark). z.slot) same,
        ap (λ (z : Mark). number_of z.found) same,
      )
  | inr (seen, is, made) ↦ absurd (no_op_issues x.op made)
]
does_step Freed x m mark step = elim (made_or_done x.line x.op x.answer m steps.Free mark step) [
  | inl (seen, usable, is, issue) ↦ absurd cc
  | inr (seen, is, made) ↦
      let same = of_some (mark_at x.line seen (step_of x.op)) m (sym (ap (mark_of_answer x.line x.op) is) ∙ mark) in (
        seen,
        ap (seen_by tables.Free x.op) is ∙ is_free x.op seen made,
        ap (λ (z : Mark). z.slot) same,
        ap (λ (z : Mark). number_of z.found) same,
      )
]

-- ---- the table

-- the record at a place is the loop's
pub at_here : (ps : List Played) (k i : ℕ) (d x : Played) → k < length ps → k ≡ i → IsRecord ps i x → get_or ps k d ≡ x
at_here ps k i d x below same at = of_some (get_or ps k d) x (sym (here_is ps k d below) ∙ ap (slice_get ps) same ∙ at)

-- no two records made the step at one number of a slot
pub one_of_kind : (kind : TableKind) (ps : List Played) → RiseByLine ps → Slots (marks_of ps) → IsOneAt kind ps
one_of_kind kind ps rising slots = one_at kind ps rising (slots_met ps slots)

pub steps_of : (kind : Kind) (ps : List Played) (at : Table) (k : ℕ) → AreByNumber (numbered_as kind) ps at k → AreStepsOf kind ps at k
steps_of kind ps at k h = record {
  hit = λ q i is.
      let (x, s, n, less, here, does, key) = h.hit q i is in
      let (m, mark, slot, found, step) = saw_at kind x.line x.op x.answer does.0 does.1 in
      let (start, low, there) = h.whole i x s n less here does in
      let to : s ≡ m.slot = sym (slot ∙ does.2) in
      let count : n ≡ number_of m.found = sym (ap number_of found ∙ does.3) in (
        x,
        m,
        less,
        here,
        mark,
        step,
        subst (λ (z : SlotName). z.start < 4294967296) to start,
        subst (λ z. z < 18446744073709551616) count low,
        sym (ap (λ (z : SlotName). word_key z n) to ∙ ap (word_key m.slot) count) ∙ key,
      );
  whole = λ i x m less here mark step.
      let (start, low, there) = h.whole i x m.slot (number_of m.found) less here (does_step kind x m mark step) in
      (start, low, (i, there));
}

-- ---- the last step below a number

-- what the table has of a step of the slot
listed : (kind : Kind) (ps : List Played) (at : Table) (s : SlotName) (j : Mark) → AreStepsOf kind ps at (length ps) →
    Contains (marks_of ps) j → j.slot ≡ s
    → j.step ≡ Some (step_of_kind kind) → (i : ℕ) × (at (word_key s (number_of j.found)) ≡ Some i)
listed kind ps at s j h among slot step =
    let (x, member, mark) = mark_from ps j among in
    let (i, here) = in_at ps x member in
    let (start, low, (v, is)) = h.whole i x j (place_below ps i x here) here mark step in
    (v, subst (λ (z : SlotName). at (word_key z (number_of j.found)) ≡ Some v) slot is)

-- the number that a key between those of a slot has
key_back : (s : SlotName) (high q : ℕ) → word_key s 0 ≤ q → q < word_key s high →
    (word_key s (q - word_key s 0) ≡ q) × (q - word_key s 0 < high)
key_back s high q from under = (omega (arith, from), omega (arith, from, under))

pub last_is : (kind : Kind) (ps : List Played) (at : Table) (s : SlotName) (below q i : ℕ) (d : Played) →
    AreStepsOf kind ps at (length ps) → s.start < 4294967296 → below < 18446744073709551616
    → IsGreatest at (word_key s 0) (word_key s below) q i →
    (m : Mark) × IsLastStep kind (marks_of ps) s below (get_or ps i d).line (q - word_key s 0) m
last_is kind ps at s below q i d h start few greatest =
    let (x, m, less, here, mark, step, start', low, key) = h.hit q i greatest.here in
    let n = q - word_key s 0 in
    let (q_is, n_less) = key_back s below q greatest.from greatest.below in
    let (slot, number) = same_place m.slot s (number_of m.found) n (start', low) (start, omega (arith, n_less, few)) (key ∙ sym q_is) in
    let one = at_here ps i i d x less refl here in (
      m,
      record {
        among = mark_in ps x m (at_in ps i x here) mark;
        slot = slot;
        step = step;
        line = mark_line x m mark ∙ ap (λ (z : Played). z.line) (sym one);
        number = number;
        below = n_less;
        last = λ j among slot' step' under'. elim (cases_lt n (number_of j.found)) [
          | inl more ↦
              let (v, is) = listed kind ps at s j h among slot' step' in
              absurd (not_some v
              (sym (greatest.last (word_key s (number_of j.found)) (omega (arith, more, q_is)) (omega (arith, under'))) ∙ is))
          | inr most ↦ omega (arith, most)
        ];
      },
    )

pub none_is : (kind : Kind) (ps : List Played) (at : Table) (s : SlotName) (below : ℕ) → AreStepsOf kind ps at (length ps) →
    HasNoKey at (word_key s 0) (word_key s below)
    → NoStepBelow kind (marks_of ps) s below
none_is kind ps at s below h none j among slot step under =
    let (v, is) = listed kind ps at s j h among slot step in
    not_some v (sym (none (word_key s (number_of j.found)) (omega arith) (omega (arith, under))) ∙ is)
