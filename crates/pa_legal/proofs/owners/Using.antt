-- A record that looks at a slot or steps on it names it by the handle of its register, unless it makes the slot; and only an owner frees.
use Rattle.std.proofs.Common.{Bool, true, false, ◌≡◌, ℕ, ◌⊎◌, Option, Some, None, refl, sym, ◌∙◌, ap, inl, inr}
use Rattle.pa_slot.specs.declared.word.SlotName.{SlotName}
use Rattle.pa_slot.specs.declared.word.Step.{Step}
use Rattle.pa_slot.specs.declared.word.Step.TheVariants as steps
use Rattle.pa_slot.specs.Run.{Mark}
use Rattle.pa_lists.proofs.Members.{of_some, not_some}
use Rattle.pa_trace.specs.declared.script.Op.{Op}
use Rattle.pa_trace.specs.declared.script.Op.TheVariants as ops
use Rattle.pa_record.specs.declared.entry.Seen.{Seen}
use Rattle.pa_record.specs.declared.entry.Answer.{Answer}
use Rattle.pa_record.specs.declared.entry.Answer.TheVariants as answers
use Rattle.pa_rules.specs.declared.register.Register.TheVariants.{Empty, Own, Ref, Freed, Cleared}
use Rattle.pa_rules.specs.Played.{mark_of_answer, mark_at, step_of}
use Rattle.pa_rules.specs.Registers.{Reg, Regs, Facts, Row, RequestRow, AllocRow, CopyRow, CopyToRow, PointRow, ResetRow, FreeRow, WriteRow, ReadRow, ReadFromRow}
use Rattle.pa_rules.proofs.Leading.{slot_in, used_by}
use Rattle.pa_rules.proofs.Marking.{not_look}

-- ---- steps

-- a mark with a step is of an issue, or of an op that was done
pub made_or_done : (line : ℕ) (op : Op) (answer : Answer) (m : Mark) (p : Step) → mark_of_answer line op answer ≡ Some m → m.step ≡ Some p
    → ((seen : Seen) × (usable : ℕ) × (answer ≡ answers.Made seen usable) × (p ≡ steps.Issue)) ⊎
    ((seen : Seen) × (answer ≡ answers.Done seen) × (step_of op ≡ Some p))
made_or_done line op (answers.Made seen usable) m p mark step =
    let is : Some steps.Issue ≡ Some p = ap (λ (z : Mark). z.step) (of_some (mark_at line seen (Some steps.Issue)) m mark) ∙ step in
    inl (seen, usable, refl, sym (of_some steps.Issue p is))
made_or_done line op (answers.Done seen) m p mark step =
    inr (seen, refl, ap (λ (z : Mark). z.step) (of_some (mark_at line seen (step_of op)) m mark) ∙ step)
made_or_done line op (answers.Value seen value) m p mark step = absurd (not_look line (Some seen) m p mark step)
made_or_done line op (answers.Dangling seen value) m p mark step = absurd (not_look line (Some seen) m p mark step)
made_or_done line op (answers.SecondFree seen) m p mark step = absurd (not_look line seen m p mark step)
made_or_done line op (answers.NotOwner seen) m p mark step = absurd (not_look line (Some seen) m p mark step)
made_or_done line op (answers.StaleUse seen) m p mark step = absurd (not_look line seen m p mark step)
made_or_done line op (answers.Shared seen) m p mark step = absurd (not_look line (Some seen) m p mark step)
made_or_done line op answer m p mark step = absurd (not_some m mark)

-- no op has the step of an issue, which an answer alone makes
pub no_op_issues : (op : Op) → step_of op ≡ Some steps.Issue → ⊥
no_op_issues (ops.Alloc reg partition size) e = not_some steps.Issue e
no_op_issues (ops.Copy from to) e = let same : steps.Copy ≡ steps.Issue = of_some steps.Copy steps.Issue e in cc
no_op_issues (ops.Reset reg) e = let same : steps.Reset ≡ steps.Issue = of_some steps.Reset steps.Issue e in cc
no_op_issues (ops.Free reg) e = let same : steps.Free ≡ steps.Issue = of_some steps.Free steps.Issue e in cc
no_op_issues (ops.Write reg value) e = let same : steps.Write ≡ steps.Issue = of_some steps.Write steps.Issue e in cc
no_op_issues (ops.Read reg place) e = not_some steps.Issue e
no_op_issues (ops.Swap cell reg) e = not_some steps.Issue e
no_op_issues ops.Purge e = not_some steps.Issue e

-- the op whose step is a free is a free
pub free_op : (op : Op) → step_of op ≡ Some steps.Free → (reg : ℕ) × (op ≡ ops.Free reg)
free_op (ops.Alloc reg partition size) e = absurd (not_some steps.Free e)
free_op (ops.Copy from to) e = let same : steps.Copy ≡ steps.Free = of_some steps.Copy steps.Free e in absurd cc
free_op (ops.Reset reg) e = let same : steps.Reset ≡ steps.Free = of_some steps.Reset steps.Free e in absurd cc
free_op (ops.Free reg) e = (reg, refl)
free_op (ops.Write reg value) e = let same : steps.Write ≡ steps.Free = of_some steps.Write steps.Free e in absurd cc
free_op (ops.Read reg place) e = absurd (not_some steps.Free e)
free_op (ops.Swap cell reg) e = absurd (not_some steps.Free e)
free_op ops.Purge e = absurd (not_some steps.Free e)

-- a mark of a free is of a free that was done
pub free_done : (line : ℕ) (op : Op) (answer : Answer) (m : Mark) → mark_of_answer line op answer ≡ Some m → m.step ≡ Some steps.Free
    → (reg : ℕ) × (seen : Seen) × (op ≡ ops.Free reg) × (answer ≡ answers.Done seen) × (seen.slot ≡ m.slot)
free_done line op answer m mark step = elim (made_or_done line op answer m steps.Free mark step) [
  | inl (seen, usable, is, free) ↦ absurd cc
  | inr (seen, is, free) ↦
      let (reg, op_is) = free_op op free in
      let at : Some (mark_at line seen (step_of op)) ≡ Some m = sym (ap (mark_of_answer line op) is) ∙ mark in
      (reg, seen, op_is, is, ap (λ (z : Mark). z.slot) (of_some (mark_at line seen (step_of op)) m at))
]

-- only an owner's free is done
pub owner_frees : (r : Reg) (regs next : Regs) (reg : ℕ) (seen : Seen) → FreeRow r regs reg (answers.Done seen) next → r ≡ Own seen.slot
owner_frees Empty regs next reg seen (is, becomes) = absurd cc
owner_frees (Own s) regs next reg seen (other, slot, is, becomes) =
    let same : seen ≡ other = cc in
    ap Own (sym slot ∙ ap (λ (z : Seen). z.slot) (sym same))
owner_frees (Ref s) regs next reg seen (other, slot, becomes, inl (held, is)) = absurd cc
owner_frees (Ref s) regs next reg seen (other, slot, becomes, inr (held, is)) = absurd cc
owner_frees Freed regs next reg seen (is, becomes) = absurd cc
owner_frees Cleared regs next reg seen (is, becomes) = absurd cc

-- ---- handles

-- the mark is of an issue, or of the slot that the register names
abbrev pub IsNamed : Reg → Mark → Type 0
IsNamed r m = (m.step ≡ Some steps.Issue) ⊎ (slot_in r ≡ Some m.slot)

-- an answer that says nothing of a slot
silent : (line : ℕ) (op : Op) (answer a : Answer) (r : Reg) (m : Mark) → answer ≡ a → mark_of_answer line op a ≡ None
    → mark_of_answer line op answer ≡ Some m → IsNamed r m
silent line op answer a r m is none mark = absurd (not_some m (sym none ∙ ap (mark_of_answer line op) (sym is) ∙ mark))

-- one that says something of the slot that the register names
tells : (line : ℕ) (op : Op) (answer a : Answer) (r : Reg) (m : Mark) (s : SlotName) (seen : Seen) (step : Option Step) → answer ≡ a
    → mark_of_answer line op a ≡ Some (mark_at line seen step)
    → seen.slot ≡ s → slot_in r ≡ Some s → mark_of_answer line op answer ≡ Some m → IsNamed r m
tells line op answer a r m s seen step is some slot names mark =
    let at : mark_at line seen step ≡ m = of_some (mark_at line seen step) m (sym some ∙ ap (mark_of_answer line op) (sym is) ∙ mark) in
    inr (names ∙ ap {B = Option SlotName} Some (sym slot ∙ ap (λ (z : Mark). z.slot) at))

request_named : (facts : Facts) (line : ℕ) (op : Op) (r : Reg) (regs next : Regs) (reg size : ℕ) (answer : Answer) (m : Mark)
    → RequestRow facts regs reg size answer next → mark_of_answer line op answer ≡ Some m → IsNamed r m
request_named facts line op r regs next reg size answer m (inl h) mark = silent line op answer answers.TooLarge r m h.1 refl mark
request_named facts line op r regs next reg size answer m (inr (inl (small, seen, is, becomes))) mark =
    let at : Some (mark_at line seen (Some steps.Issue)) ≡ Some m = ap (mark_of_answer line op) (sym is) ∙ mark in
    inl (ap (λ (z : Mark). z.step) (sym (of_some (mark_at line seen (Some steps.Issue)) m at)))
request_named facts line op r regs next reg size answer m (inr (inr (small, entry, is, becomes))) mark =
    silent line op answer (answers.Full entry) r m is refl mark

alloc_named : (facts : Facts) (line : ℕ) (op : Op) (r : Reg) (regs next : Regs) (reg size : ℕ) (answer : Answer) (m : Mark)
    → AllocRow r facts regs reg size answer next → mark_of_answer line op answer ≡ Some m → IsNamed r m
alloc_named facts line op Empty regs next reg size answer m row mark =
    request_named facts line op Empty regs next reg size answer m row mark
alloc_named facts line op (Own s) regs next reg size answer m row mark = silent line op answer answers.Filled (Own s) m row.0 refl mark
alloc_named facts line op (Ref s) regs next reg size answer m row mark = silent line op answer answers.Filled (Ref s) m row.0 refl mark
alloc_named facts line op Freed regs next reg size answer m row mark =
    request_named facts line op Freed regs next reg size answer m row mark
alloc_named facts line op Cleared regs next reg size answer m row mark =
    request_named facts line op Cleared regs next reg size answer m row mark

-- what would point to a plain slot isn't counted, and makes no step
point_named : (line : ℕ) (op : Op) (r : Reg) (plain : Bool) (s : SlotName) (regs next : Regs) (to : ℕ) (answer : Answer) (m : Mark)
    → slot_in r ≡ Some s → PointRow plain s regs to answer next → mark_of_answer line op answer ≡ Some m → IsNamed r m
point_named line op r true s regs next to answer m names row mark = silent line op answer answers.Uncounted r m row.0 refl mark
point_named line op r false s regs next to answer m names (seen, slot, is, becomes) mark =
    tells line op answer (answers.Done seen) r m s seen (step_of op) is refl slot names mark

copy_to_named : (line : ℕ) (op : Op) (r into : Reg) (plain : Bool) (s : SlotName) (regs next : Regs) (to : ℕ) (answer : Answer) (m : Mark)
    → slot_in r ≡ Some s → CopyToRow into plain s regs to answer next → mark_of_answer line op answer ≡ Some m → IsNamed r m
copy_to_named line op r Empty plain s regs next to answer m names row mark =
    point_named line op r plain s regs next to answer m names row mark
copy_to_named line op r (Own t) plain s regs next to answer m names row mark = silent line op answer answers.Filled r m row.0 refl mark
copy_to_named line op r (Ref t) plain s regs next to answer m names row mark = silent line op answer answers.Filled r m row.0 refl mark
copy_to_named line op r Freed plain s regs next to answer m names row mark =
    point_named line op r plain s regs next to answer m names row mark
copy_to_named line op r Cleared plain s regs next to answer m names row mark =
    point_named line op r plain s regs next to answer m names row mark

copy_named : (facts : Facts) (line : ℕ) (op : Op) (r : Reg) (regs next : Regs) (to : ℕ) (answer : Answer) (m : Mark)
    → CopyRow r facts regs to answer next → mark_of_answer line op answer ≡ Some m → IsNamed r m
copy_named facts line op Empty regs next to answer m row mark = silent line op answer answers.Nothing Empty m row.0 refl mark
copy_named facts line op (Own s) regs next to answer m row mark =
    copy_to_named line op (Own s) (regs to) (facts.plain_at s) s regs next to answer m refl row mark
copy_named facts line op (Ref s) regs next to answer m row mark =
    copy_to_named line op (Ref s) (regs to) false s regs next to answer m refl row mark
copy_named facts line op Freed regs next to answer m row mark = silent line op answer (answers.StaleUse None) Freed m row.0 refl mark
copy_named facts line op Cleared regs next to answer m row mark = silent line op answer (answers.StaleUse None) Cleared m row.0 refl mark

reset_named : (line : ℕ) (op : Op) (r : Reg) (regs next : Regs) (reg : ℕ) (answer : Answer) (m : Mark) → ResetRow r regs reg answer next
    → mark_of_answer line op answer ≡ Some m → IsNamed r m
reset_named line op Empty regs next reg answer m row mark = silent line op answer answers.Nothing Empty m row.0 refl mark
reset_named line op (Own s) regs next reg answer m row mark = silent line op answer answers.NotRef (Own s) m row.0 refl mark
reset_named line op (Ref s) regs next reg answer m (seen, slot, is, becomes) mark =
    tells line op answer (answers.Done seen) (Ref s) m s seen (step_of op) is refl slot refl mark
reset_named line op Freed regs next reg answer m row mark = silent line op answer answers.NotRef Freed m row.0 refl mark
reset_named line op Cleared regs next reg answer m row mark = silent line op answer answers.StaleReset Cleared m row.0 refl mark

free_named : (line : ℕ) (op : Op) (r : Reg) (regs next : Regs) (reg : ℕ) (answer : Answer) (m : Mark) → FreeRow r regs reg answer next
    → mark_of_answer line op answer ≡ Some m → IsNamed r m
free_named line op Empty regs next reg answer m row mark = silent line op answer answers.Nothing Empty m row.0 refl mark
free_named line op (Own s) regs next reg answer m (seen, slot, is, becomes) mark =
    tells line op answer (answers.Done seen) (Own s) m s seen (step_of op) is refl slot refl mark
free_named line op (Ref s) regs next reg answer m (seen, slot, becomes, inl (held, is)) mark =
    tells line op answer (answers.NotOwner seen) (Ref s) m s seen None is refl slot refl mark
free_named line op (Ref s) regs next reg answer m (seen, slot, becomes, inr (held, is)) mark =
    tells line op answer (answers.SecondFree (Some seen)) (Ref s) m s seen None is refl slot refl mark
free_named line op Freed regs next reg answer m row mark = silent line op answer (answers.SecondFree None) Freed m row.0 refl mark
free_named line op Cleared regs next reg answer m row mark = silent line op answer (answers.StaleUse None) Cleared m row.0 refl mark

write_named : (line : ℕ) (op : Op) (r : Reg) (regs next : Regs) (answer : Answer) (m : Mark) → WriteRow r regs answer next
    → mark_of_answer line op answer ≡ Some m → IsNamed r m
write_named line op Empty regs next answer m row mark = silent line op answer answers.Nothing Empty m row.0 refl mark
write_named line op (Own s) regs next answer m (seen, slot, becomes, inl (refs, is)) mark =
    tells line op answer (answers.Shared seen) (Own s) m s seen None is refl slot refl mark
write_named line op (Own s) regs next answer m (seen, slot, becomes, inr (refs, is)) mark =
    tells line op answer (answers.Done seen) (Own s) m s seen (step_of op) is refl slot refl mark
write_named line op (Ref s) regs next answer m (seen, slot, becomes, inl (held, is)) mark =
    tells line op answer (answers.NotOwner seen) (Ref s) m s seen None is refl slot refl mark
write_named line op (Ref s) regs next answer m (seen, slot, becomes, inr (held, is)) mark =
    tells line op answer (answers.StaleUse (Some seen)) (Ref s) m s seen None is refl slot refl mark
write_named line op Freed regs next answer m row mark = silent line op answer (answers.StaleUse None) Freed m row.0 refl mark
write_named line op Cleared regs next answer m row mark = silent line op answer (answers.StaleUse None) Cleared m row.0 refl mark

read_from_named : (facts : Facts) (line : ℕ) (op : Op) (r : Reg) (s : SlotName) (regs next : Regs) (place : ℕ) (answer : Answer) (m : Mark)
    → slot_in r ≡ Some s → ReadFromRow s facts regs place answer next → mark_of_answer line op answer ≡ Some m → IsNamed r m
read_from_named facts line op r s regs next place answer m names (becomes, inl (past, is)) mark =
    silent line op answer answers.OutOfRange r m is refl mark
read_from_named facts line op r s regs next place answer m names (becomes, inr (inside, seen, value, slot, inl (held, is))) mark =
    tells line op answer (answers.Value seen value) r m s seen None is refl slot names mark
read_from_named facts line op r s regs next place answer m names (becomes, inr (inside, seen, value, slot, inr (held, is))) mark =
    tells line op answer (answers.Dangling seen value) r m s seen None is refl slot names mark

read_named : (facts : Facts) (line : ℕ) (op : Op) (r : Reg) (regs next : Regs) (place : ℕ) (answer : Answer) (m : Mark)
    → ReadRow r facts regs place answer next → mark_of_answer line op answer ≡ Some m → IsNamed r m
read_named facts line op Empty regs next place answer m row mark = silent line op answer answers.Nothing Empty m row.0 refl mark
read_named facts line op (Own s) regs next place answer m row mark =
    read_from_named facts line op (Own s) s regs next place answer m refl row mark
read_named facts line op (Ref s) regs next place answer m row mark =
    read_from_named facts line op (Ref s) s regs next place answer m refl row mark
read_named facts line op Freed regs next place answer m row mark = silent line op answer (answers.StaleUse None) Freed m row.0 refl mark
read_named facts line op Cleared regs next place answer m row mark = silent line op answer (answers.StaleUse None) Cleared m row.0 refl mark

-- a record's mark is of the slot that its op's register names, or of an issue
pub mark_named : (facts : Facts) (line : ℕ) (op : Op) (regs next : Regs) (answer : Answer) (m : Mark) → Row facts op regs answer next
    → mark_of_answer line op answer ≡ Some m → IsNamed (regs (used_by op)) m
mark_named facts line (ops.Alloc reg partition size) regs next answer m row mark =
    alloc_named facts line (ops.Alloc reg partition size) (regs reg) regs next reg size answer m row mark
mark_named facts line (ops.Copy from to) regs next answer m row mark =
    copy_named facts line (ops.Copy from to) (regs from) regs next to answer m row mark
mark_named facts line (ops.Reset reg) regs next answer m row mark =
    reset_named line (ops.Reset reg) (regs reg) regs next reg answer m row mark
mark_named facts line (ops.Free reg) regs next answer m row mark = free_named line (ops.Free reg) (regs reg) regs next reg answer m row mark
mark_named facts line (ops.Write reg value) regs next answer m row mark =
    write_named line (ops.Write reg value) (regs reg) regs next answer m row mark
mark_named facts line (ops.Read reg place) regs next answer m row mark =
    read_named facts line (ops.Read reg place) (regs reg) regs next place answer m row mark
mark_named facts line (ops.Swap cell reg) regs next answer m (entry, e, is, at, gave, becomes) mark =
    silent line (ops.Swap cell reg) answer (answers.Swapped entry) (regs reg) m is refl mark
mark_named facts line ops.Purge regs next answer m (slots, is, becomes) mark =
    silent line ops.Purge answer (answers.Purged slots) (regs 0) m is refl mark
