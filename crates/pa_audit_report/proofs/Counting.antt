-- The steps that count for the slots in use, record by record.
use Rattle.std.proofs.Common.{◌≡◌, ◌≢◌, ℕ, ◌+◌, ◌<◌, Bool, true, false, List, [], ◌∷◌, ◌++◌, length, take, Option, Some, None, refl, sym, ◌∙◌, ap, subst, arith}
use Rattle.std.specs.Prelude.{if◌then◌else◌, slice_get, IfSome}
use Rattle.std.proofs.lemmas.Bool.{eq-eqb, ne_eqb}
use Rattle.std.proofs.lemmas.List.{length-append}
use Rattle.pa_slot.specs.declared.word.SlotName.{SlotName}
use Rattle.pa_slot.specs.declared.word.Step.{Step}
use Rattle.pa_slot.specs.declared.word.Step.TheVariants.{Issue}
use Rattle.pa_slot.specs.Run.{Mark}
use Rattle.pa_record.specs.declared.entry.Seen.{Seen}
use Rattle.pa_record.specs.declared.entry.Answer.TheVariants.{Made, Done}
use Rattle.pa_record.specs.declared.report.Tally.{Tally}
use Rattle.pa_rules.specs.declared.played.Played.{Played}
use Rattle.pa_rules.specs.Flow.{at_step}
use Rattle.pa_rules.specs.Played.{mark_at, mark_of, mark_of_answer, marks_of, step_of}
use Rattle.pa_slot.specs.Kinds.{issues, frees, enters, leaves}
use Rattle.pa_legal.specs.Tallies.{weight_of, one_of, bytes_of}
use Rattle.pa_legal.proofs.tallies.Sums.{one_weight, weight_first}
use Rattle.pa_audit_heap.proofs.Listed.{front_more}
use Rattle.pa_audit_holders.specs.declared.homes.Home.{Home}
use Rattle.pa_audit_report.specs.declared.counts.Count.{Count}
use Rattle.pa_audit_report.specs.declared.counts.Stepped.{Stepped}
use Rattle.pa_audit_report.specs.Counts.{HasCounted, HasRoom, HasRoomFor, IsBytesOf, IsDoneOf, IsStepOf, IsTotal, MovesNothing, mark_passes, passes, raised_by, tally_more}
use Rattle.pa_audit_report.specs.Sized.{home_in, size_in}

pub weight_push : (test : Step → ℕ → Bool) (weight : SlotName → ℕ) (xs : List Played) (x : Played) →
    weight_of test weight (marks_of (xs ++ x ∷ [])) ≡ weight_of test weight (marks_of xs) + one_weight test weight (mark_of x)
weight_push test weight [] x = let a = weight_first test weight x [] in omega arith
weight_push test weight (y ∷ xs) x =
    let a = weight_first test weight y (xs ++ x ∷ []) in
    let b = weight_first test weight y xs in
    let again = weight_push test weight xs x in
    omega arith

-- a step that doesn't pass weighs nothing, and one that does weighs what its slot weighs
none_weighs : (test : Step → ℕ → Bool) (weight : SlotName → ℕ) (o : Option Mark) → mark_passes test o ≡ false → one_weight test weight o ≡ 0
none_weighs test weight None e = refl
none_weighs test weight (Some m) e = rw e refl

slot_weighs : (test : Step → ℕ → Bool) (weight : SlotName → ℕ) (o : Option Mark) (m : Mark) (b : Bool) → o ≡ Some m
    → b ≡ mark_passes test o → one_weight test weight o ≡ (if b then weight m.slot else 0)
slot_weighs test weight o m b e passed =
    let here : b ≡ at_step test m.found m.step = passed ∙ ap (mark_passes test) e in
    rw e (rw here refl)

if_zero : (b : Bool) (n : ℕ) → n ≡ 0 → (if b then n else 0) ≡ 0
if_zero true n e = e
if_zero false n e = refl

-- ---- a tally

module _ (test : Step → ℕ → Bool) (at : ℕ → Option Home) (p : ℕ) (xs : List Played) (x : Played) (t : Tally)
    (h : IsTotal test at p xs t) where
  abbrev ones : SlotName → ℕ
  ones = one_of (home_in at) p

  abbrev bytes : SlotName → ℕ
  bytes = bytes_of (home_in at) (size_in at) p

  stays : one_weight test (one_of (home_in at) p) (mark_of x) ≡ 0 → one_weight test (bytes_of (home_in at) (size_in at) p) (mark_of x) ≡ 0 →
      IsTotal test at p (xs ++ x ∷ []) t
  stays none nothing =
      let a = weight_push test (one_of (home_in at) p) xs x in
      let b = weight_push test (bytes_of (home_in at) (size_in at) p) xs x in
      let c = h.slots in let d = h.bytes in let e = h.few in let f = h.small in
      let long = length-append xs (x ∷ []) in
      record { slots = omega arith; bytes = omega arith; few = omega arith; small = omega arith }

  quiet : passes test x ≡ false → IsTotal test at p (xs ++ x ∷ []) t
  quiet not = stays (none_weighs test (one_of (home_in at) p) (mark_of x) not)
      (none_weighs test (bytes_of (home_in at) (size_in at) p) (mark_of x) not)

  other : (m : Mark) → mark_of x ≡ Some m → home_in at m.slot ≢ p → IsTotal test at p (xs ++ x ∷ []) t
  other m e away =
      let one : one_of (home_in at) p m.slot ≡ 0 = rw (ne_eqb (home_in at m.slot) p away) refl in
      let all : bytes_of (home_in at) (size_in at) p m.slot ≡ 0 = rw (ne_eqb (home_in at m.slot) p away) refl in
      stays (slot_weighs test (one_of (home_in at) p) (mark_of x) m (passes test x) e refl ∙
      if_zero (passes test x) (one_of (home_in at) p m.slot) one)
      (slot_weighs test (bytes_of (home_in at) (size_in at) p) (mark_of x) m (passes test x) e refl ∙
      if_zero (passes test x) (bytes_of (home_in at) (size_in at) p m.slot) all)

  more : (m : Mark) (b : Bool) (n : ℕ) → mark_of x ≡ Some m → b ≡ passes test x → IsBytesOf at p m.slot n → n < 4294967296 →
      IsTotal test at p (xs ++ x ∷ []) (tally_more t b n)
  more m b n e passed is few =
      let one : one_of (home_in at) p m.slot ≡ 1 = rw (eq-eqb (home_in at m.slot) p is.home) refl in
      let all : bytes_of (home_in at) (size_in at) p m.slot ≡ n = rw (eq-eqb (home_in at m.slot) p is.home) is.size in
      by_test b (slot_weighs test (one_of (home_in at) p) (mark_of x) m b e passed ∙ ap (λ k. if b then k else 0) one)
      (slot_weighs test (bytes_of (home_in at) (size_in at) p) (mark_of x) m b e passed ∙ ap (λ k. if b then k else 0) all) few
    where
      by_test : (b : Bool) → one_weight test (one_of (home_in at) p) (mark_of x) ≡ (if b then 1 else 0)
          → one_weight test (bytes_of (home_in at) (size_in at) p) (mark_of x) ≡ (if b then n else 0) → n < 4294967296 →
          IsTotal test at p (xs ++ x ∷ []) (tally_more t b n)
      by_test false u v few = stays u v
      by_test true u v few =
          let a = weight_push test (one_of (home_in at) p) xs x in
          let b = weight_push test (bytes_of (home_in at) (size_in at) p) xs x in
          let c = h.slots in let d = h.bytes in let e = h.few in let f = h.small in
          let long = length-append xs (x ∷ []) in
          record { slots = omega arith; bytes = omega arith; few = omega arith; small = omega arith }

-- ---- the counts

pub counted_quiet : (at : ℕ → Option Home) (p i : ℕ) (ps : List Played) (x : Played) (c : Count) → slice_get ps i ≡ Some x
    → MovesNothing x → HasCounted at p (take i ps) c → HasCounted at p (take (i + 1) ps) c
counted_quiet at p i ps x c there none h = subst (λ zs. HasCounted at p zs c) (sym (front_more ps i x there)) (record {
  issued = quiet issues at p (take i ps) x c.issued h.issued none.issues_not;
  freed = quiet frees at p (take i ps) x c.freed h.freed none.frees_not;
  entered = quiet enters at p (take i ps) x c.entered h.entered none.enters_not;
  left = quiet leaves at p (take i ps) x c.left h.left none.leaves_not;
})

pub counted_other : (at : ℕ → Option Home) (p i : ℕ) (ps : List Played) (x : Played) (z : Stepped) (c : Count) → slice_get ps i ≡ Some x
    → IsStepOf x z → home_in at z.slot ≢ p → HasCounted at p (take i ps) c → HasCounted at p (take (i + 1) ps) c
counted_other at p i ps x z c there step away h =
    let m = step.mark in
    let far : home_in at step.mark.slot ≢ p = subst (λ s. home_in at s ≢ p) (sym step.slot) away in
    subst (λ zs. HasCounted at p zs c) (sym (front_more ps i x there)) (record {
      issued = other issues at p (take i ps) x c.issued h.issued m step.is far;
      freed = other frees at p (take i ps) x c.freed h.freed m step.is far;
      entered = other enters at p (take i ps) x c.entered h.entered m step.is far;
      left = other leaves at p (take i ps) x c.left h.left m step.is far;
    })

pub counted_more : (at : ℕ → Option Home) (p i n : ℕ) (ps : List Played) (x : Played) (z : Stepped) (c : Count)
    → slice_get ps i ≡ Some x → IsStepOf x z → IsBytesOf at p z.slot n → n < 4294967296 → HasCounted at p (take i ps) c
    → HasCounted at p (take (i + 1) ps) (raised_by c z n)
counted_more at p i n ps x z c there step is few h =
    let m = step.mark in
    let here : IsBytesOf at p step.mark.slot n = subst (λ s. IsBytesOf at p s n) (sym step.slot) is in
    subst (λ zs. HasCounted at p zs (raised_by c z n)) (sym (front_more ps i x there)) (record {
      issued = more issues at p (take i ps) x c.issued h.issued m z.issues n step.is step.issues_is here few;
      freed = more frees at p (take i ps) x c.freed h.freed m z.frees n step.is step.frees_is here few;
      entered = more enters at p (take i ps) x c.entered h.entered m z.enters n step.is step.enters_is here few;
      left = more leaves at p (take i ps) x c.left h.left m z.leaves n step.is step.leaves_is here few;
    })

room : (test : Step → ℕ → Bool) (at : ℕ → Option Home) (p : ℕ) (xs : List Played) (t : Tally) → length xs < 65536 →
    IsTotal test at p xs t → HasRoomFor t
room test at p xs t short h = let a = h.few in let b = h.small in (omega arith, omega arith)

pub has_room : (at : ℕ → Option Home) (p : ℕ) (xs : List Played) (c : Count) → length xs < 65536 → HasCounted at p xs c → HasRoom c
has_room at p xs c short h = record {
  issued = room issues at p xs c.issued short h.issued;
  freed = room frees at p xs c.freed short h.freed;
  entered = room enters at p xs c.entered short h.entered;
  left = room leaves at p xs c.left short h.left;
}

-- ---- the step of a record

-- a slot was made
pub made_step : (x : Played) (seen : Seen) (usable : ℕ) → x.answer ≡ Made seen usable
    → IsStepOf x (record { slot = seen.slot; issues = true; frees = false; enters = false; leaves = false })
made_step x seen usable e =
    let is : mark_of x ≡ Some (mark_at x.line seen (Some Issue)) = ap (λ a. mark_of_answer x.line x.op a) e in
    record {
      mark = mark_at x.line seen (Some Issue);
      is = is;
      slot = refl;
      issues_is = sym (ap (mark_passes issues) is);
      frees_is = sym (ap (mark_passes frees) is);
      enters_is = sym (ap (mark_passes enters) is);
      leaves_is = sym (ap (mark_passes leaves) is);
    }

-- an op was done
pub done_step : (x : Played) (seen : Seen) (z : Stepped) → x.answer ≡ Done seen → IsDoneOf x.op seen z → IsStepOf x z
done_step x seen z e h =
    let is : mark_of x ≡ Some (mark_at x.line seen (step_of x.op)) = ap (λ a. mark_of_answer x.line x.op a) e in
    record {
      mark = mark_at x.line seen (step_of x.op);
      is = is;
      slot = h.slot;
      issues_is = h.issues_is ∙ sym (ap (mark_passes issues) is);
      frees_is = h.frees_is ∙ sym (ap (mark_passes frees) is);
      enters_is = h.enters_is ∙ sym (ap (mark_passes enters) is);
      leaves_is = h.leaves_is ∙ sym (ap (mark_passes leaves) is);
    }

pub done_some : (x : Played) (seen : Seen) (o : Option Stepped) → x.answer ≡ Done seen →
    IfSome o (IsDoneOf x.op seen) → IfSome o (IsStepOf x)
done_some x seen None e h = h
done_some x seen (Some z) e h = done_step x seen z e h
