-- A record's mark has the record's line.
use Rattle.std.proofs.Common.{◌≡◌, ℕ, Option, Some, None, ap, sym, arith, ◌≤◌, ◌∙◌, refl}
use Rattle.pa_slot.specs.Run.{Mark}
use Rattle.pa_trace.specs.declared.script.Op.{Op}
use Rattle.pa_record.specs.declared.entry.Seen.{Seen}
use Rattle.pa_record.specs.declared.entry.Answer.{Answer}
use Rattle.pa_record.specs.declared.entry.Answer.TheVariants as answers
use Rattle.pa_lists.proofs.Members.{of_some, not_some}
use Rattle.pa_rules.specs.declared.played.Played.{Played}
use Rattle.pa_rules.specs.Played.{mark_of, mark_of_answer, mark_at, look_at, step_of}
use Rattle.pa_slot.specs.Count.{number_of}
use Rattle.pa_rules.specs.Seen.{left_number}
use Rattle.pa_slot.specs.declared.word.Step.{Step}
use Rattle.pa_record.specs.declared.entry.Answer.TheVariants.{Value}

look_line : (line : ℕ) (o : Option Seen) (m : Mark) → look_at line o ≡ Some m → m.line ≡ line
look_line line None m e = absurd (not_some m e)
look_line line (Some seen) m e = ap (λ (z : Mark). z.line) (sym (of_some (mark_at line seen None) m e))

answer_line : (line : ℕ) (op : Op) (a : Answer) (m : Mark) → mark_of_answer line op a ≡ Some m → m.line ≡ line
answer_line line op (answers.Made seen usable) m e = ap (λ (z : Mark). z.line) (sym (of_some _ m e))
answer_line line op (answers.Done seen) m e = ap (λ (z : Mark). z.line) (sym (of_some (mark_at line seen (step_of op)) m e))
answer_line line op (answers.Value seen value) m e = look_line line (Some seen) m e
answer_line line op (answers.Dangling seen value) m e = look_line line (Some seen) m e
answer_line line op (answers.SecondFree seen) m e = look_line line seen m e
answer_line line op (answers.NotOwner seen) m e = look_line line (Some seen) m e
answer_line line op answers.StaleReset m e = absurd (not_some m e)
answer_line line op (answers.StaleUse seen) m e = look_line line seen m e
answer_line line op answers.Nothing m e = absurd (not_some m e)
answer_line line op answers.Filled m e = absurd (not_some m e)
answer_line line op answers.NotRef m e = absurd (not_some m e)
answer_line line op (answers.Shared seen) m e = look_line line (Some seen) m e
answer_line line op answers.OutOfRange m e = absurd (not_some m e)
answer_line line op answers.TooLarge m e = absurd (not_some m e)
answer_line line op (answers.Full entry) m e = absurd (not_some m e)
answer_line line op (answers.Swapped entry) m e = absurd (not_some m e)
answer_line line op (answers.Purged slots) m e = absurd (not_some m e)
answer_line line op answers.Uncounted m e = absurd (not_some m e)

pub mark_line : (x : Played) (m : Mark) → mark_of x ≡ Some m → m.line ≡ x.line
mark_line x m e = answer_line x.line x.op x.answer m e

-- a mark leaves no lower number than it finds
pub found_left : (m : Mark) → number_of m.found ≤ left_number m
found_left m = omega arith

pub not_look : (line : ℕ) (o : Option Seen) (m : Mark) (p : Step) → look_at line o ≡ Some m → m.step ≡ Some p → ⊥
not_look line None m p is step = not_some m is
not_look line (Some seen) m p is step = not_some p (ap (λ (z : Mark). z.step) (of_some (mark_at line seen None) m is) ∙ step)

pub read_mark : (x : Played) (seen : Seen) (v : ℕ) → x.answer ≡ Value seen v → mark_of x ≡ Some (mark_at x.line seen None)
read_mark x seen v e = rw e refl
