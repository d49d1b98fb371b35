-- The records and what they report of the slots.
use Rattle.std.proofs.Common.{◌≡◌, ℕ, ◌+◌, List, [], ◌∷◌, ◌++◌, Option, Some, None, Contains, refl, sym, ap, ◌∙◌, arith, add-one, zero, suc, append-nil}
use Rattle.std.specs.List.{cons_option}
use Rattle.std.proofs.lemmas.List.Elements.{filter_map-append}
use Rattle.pa_slot.specs.declared.word.Step.{Step}
use Rattle.pa_slot.specs.declared.word.Step.TheVariants as steps
use Rattle.pa_slot.specs.Run.{Mark}
use Rattle.pa_trace.specs.declared.script.Op.{Op}
use Rattle.pa_record.specs.declared.entry.Seen.{Seen}
use Rattle.pa_record.specs.declared.entry.Answer.{Answer}
use Rattle.pa_record.specs.declared.entry.Answer.TheVariants.{Made, Done, Value, Dangling, SecondFree, NotOwner, StaleReset, StaleUse, Nothing, Filled, NotRef, Shared, OutOfRange, TooLarge, Full, Swapped, Purged, Uncounted}
use Rattle.pa_rules.specs.declared.played.Played.{Played}
use Rattle.pa_rules.specs.Played.{step_of, mark_at, look_at, mark_of, mark_of_answer, marks_of}
use Rattle.pa_legal.proofs.owners.Using.{no_op_issues}

-- the line of a mark, if there is one
abbrev pub line_or : ℕ → Option Mark → ℕ
line_or line None = line
line_or line (Some m) = m.line

look_line : (line : ℕ) (seen : Option Seen) → line_or line (look_at line seen) ≡ line
look_line line None = refl
look_line line (Some seen) = refl

-- what an answer reports of a slot is on its line
pub answer_line : (line : ℕ) (op : Op) (a : Answer) → line_or line (mark_of_answer line op a) ≡ line
answer_line line op (Made seen usable) = refl
answer_line line op (Done seen) = refl
answer_line line op (Value seen value) = refl
answer_line line op (Dangling seen value) = refl
answer_line line op (SecondFree seen) = look_line line seen
answer_line line op (NotOwner seen) = refl
answer_line line op StaleReset = refl
answer_line line op (StaleUse seen) = look_line line seen
answer_line line op Nothing = refl
answer_line line op Filled = refl
answer_line line op NotRef = refl
answer_line line op (Shared seen) = refl
answer_line line op OutOfRange = refl
answer_line line op TooLarge = refl
answer_line line op (Full entry) = refl
answer_line line op (Swapped entry) = refl
answer_line line op (Purged slots) = refl
answer_line line op Uncounted = refl

-- the marks with what one more record reports
abbrev pub with_mark : List Mark → Option Mark → List Mark
with_mark ms None = ms
with_mark ms (Some m) = ms ++ m ∷ []

one_mark : (ms : List Mark) (o : Option Mark) → ms ++ cons_option o [] ≡ with_mark ms o
one_mark ms None = append-nil ms
one_mark ms (Some m) = refl

pub marks_push : (ps : List Played) (p : Played) → marks_of (ps ++ p ∷ []) ≡ with_mark (marks_of ps) (mark_of p)
marks_push ps p = filter_map-append mark_of ps (p ∷ []) ∙ one_mark (marks_of ps) (mark_of p)

pub some_mark : (m n : Mark) → Some m ≡ Some n → m ≡ n
some_mark m n e = cc

-- a record's mark is among the marks, and each mark is a record's
told_first : (o : Option Mark) (m : Mark) (ms : List Mark) → o ≡ Some m → Contains (cons_option o ms) m
told_first None m ms e = absurd cc
told_first (Some n) m ms e = (0, omega arith, some_mark n m e)

-- the record that reports a mark
abbrev pub IsTold : List Played → Mark → Type 0
IsTold ps m = (p : Played) × Contains ps p × (mark_of p ≡ Some m)

told_wider : (q : Played) (ps : List Played) (m : Mark) → IsTold ps m → IsTold (q ∷ ps) m
told_wider q ps m h = (h.0, (h.1.0 + 1, omega (arith, h.1.1), rw add-one h.1.2), h.2)

told_cases : (q : Played) (ps : List Played) (m : Mark) (o : Option Mark) → mark_of q ≡ o → (Contains (marks_of ps) m → IsTold ps m)
    → Contains (cons_option o (marks_of ps)) m → IsTold (q ∷ ps) m
told_cases q ps m None e later c = told_wider q ps m (later c)
told_cases q ps m (Some n) e later (zero, c, same) = (q, (0, omega arith, refl), e ∙ ap (λ (x : Mark). Some x) same)
told_cases q ps m (Some n) e later (suc a, c, same) = told_wider q ps m (later (a, omega (arith, c), same))

pub mark_told : (ps : List Played) (m : Mark) → Contains (marks_of ps) m → IsTold ps m
mark_told [] m c = absurd (omega (arith, c.1))
mark_told (q ∷ ps) m c = told_cases q ps m (mark_of q) refl (λ d. mark_told ps m d) c

-- the answer that made a slot
abbrev pub IsMaking : Answer → Mark → Type 0
IsMaking a m = (seen : Seen) × (usable : ℕ) × (a ≡ Made seen usable) × (seen.slot ≡ m.slot)

some_step : (m n : Mark) → Some m ≡ Some n → m.step ≡ n.step
some_step m n e = ap (λ (x : Mark). x.step) (some_mark m n e)

no_issue : (o : Option Step) (n m : Mark) → n.step ≡ o → (o ≡ Some steps.Issue → ⊥) → Some n ≡ Some m → m.step ≡ Some steps.Issue → ⊥
no_issue o n m s ne e f = ne (sym s ∙ some_step n m e ∙ f)

none_issue : None ≡ Some steps.Issue → ⊥
none_issue e = cc

look_issue : (line : ℕ) (seen : Option Seen) (m : Mark) → look_at line seen ≡ Some m → m.step ≡ Some steps.Issue → ⊥
look_issue line None m e f = cc
look_issue line (Some seen) m e f = no_issue None (mark_at line seen None) m refl none_issue e f

-- an issue is reported by an answer `made` alone
pub issue_made : (line : ℕ) (op : Op) (a : Answer) (m : Mark) → mark_of_answer line op a ≡ Some m → m.step ≡ Some steps.Issue → IsMaking a m
issue_made line op (Made seen usable) m e f =
    (seen, usable, refl, ap (λ (x : Mark). x.slot) (some_mark (mark_at line seen (Some steps.Issue)) m e))
issue_made line op (Done seen) m e f = absurd (no_issue (step_of op) (mark_at line seen (step_of op)) m refl (no_op_issues op) e f)
issue_made line op (Value seen value) m e f = absurd (look_issue line (Some seen) m e f)
issue_made line op (Dangling seen value) m e f = absurd (look_issue line (Some seen) m e f)
issue_made line op (SecondFree seen) m e f = absurd (look_issue line seen m e f)
issue_made line op (NotOwner seen) m e f = absurd (look_issue line (Some seen) m e f)
issue_made line op StaleReset m e f = absurd cc
issue_made line op (StaleUse seen) m e f = absurd (look_issue line seen m e f)
issue_made line op Nothing m e f = absurd cc
issue_made line op Filled m e f = absurd cc
issue_made line op NotRef m e f = absurd cc
issue_made line op (Shared seen) m e f = absurd (look_issue line (Some seen) m e f)
issue_made line op OutOfRange m e f = absurd cc
issue_made line op TooLarge m e f = absurd cc
issue_made line op (Full entry) m e f = absurd cc
issue_made line op (Swapped entry) m e f = absurd cc
issue_made line op (Purged slots) m e f = absurd cc
issue_made line op Uncounted m e f = absurd cc
