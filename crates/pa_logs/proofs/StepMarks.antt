-- The step of a record and its mark.
use Rattle.std.proofs.Common.{◌≡◌, ℕ, Option, Some, None, refl, sym, ◌∙◌, ap}
use Rattle.pa_slot.specs.declared.word.Step.{Step}
use Rattle.pa_slot.specs.declared.word.Step.TheVariants as steps
use Rattle.pa_slot.specs.Run.{Mark}
use Rattle.pa_trace.specs.declared.script.Op.{Op}
use Rattle.pa_trace.specs.declared.script.Op.TheVariants as ops
use Rattle.pa_record.specs.declared.entry.Seen.{Seen}
use Rattle.pa_record.specs.declared.entry.Answer.{Answer}
use Rattle.pa_record.specs.declared.entry.Answer.TheVariants as answers
use Rattle.pa_lists.proofs.Members.{of_some, not_some}
use Rattle.pa_rules.specs.Played.{step_of, mark_at, mark_of_answer}
use Rattle.pa_logs.specs.Touches.{StepMade, value_by, done_step, step_in}
use Rattle.pa_rules.proofs.Marking.{not_look}
use Rattle.pa_slot.proofs.Runs.{none_some}

-- the mark of a step that was made on a line
abbrev pub mark_made : ℕ → StepMade → Mark
mark_made line d = record { line = line; slot = d.slot; found = d.found; step = Some d.step }

abbrev made_of : Step → ℕ → Seen → StepMade
made_of step value seen = record { slot = seen.slot; step = step; found = seen.found.0; value = value }

-- a step has its mark
done_mark : (line value : ℕ) (seen : Seen) (o : Option Step) (d : StepMade) → done_step o value seen ≡ Some d →
    Some (mark_at line seen o) ≡ Some (mark_made line d)
done_mark line value seen None d e = absurd (not_some d e)
done_mark line value seen (Some p) d e = ap (λ (x : StepMade). Some (mark_made line x)) (of_some (made_of p value seen) d e)

pub step_mark : (line : ℕ) (op : Op) (a : Answer) (d : StepMade) → step_in op a ≡ Some d →
    mark_of_answer line op a ≡ Some (mark_made line d)
step_mark line op (answers.Made seen usable) d e = ap (λ (x : StepMade). Some (mark_made line x)) (of_some (made_of steps.Issue 0 seen) d e)
step_mark line op (answers.Done seen) d e = done_mark line (value_by op) seen (step_of op) d e
step_mark line op a d e = absurd (not_some d e)

-- a mark with a step is that of the step that was made
abbrev IsMarkOf : ℕ → Op → Answer → Mark → Type 0
IsMarkOf line op a m = (d : StepMade) × (step_in op a ≡ Some d) × (m ≡ mark_made line d)

mark_done : (line : ℕ) (op : Op) (seen : Seen) (m : Mark) (p : Step) (o : Option Step) → step_of op ≡ o →
    Some (mark_at line seen (step_of op)) ≡ Some m → m.step ≡ Some p →
    IsMarkOf line op (answers.Done seen) m
mark_done line op seen m p None e marked step =
    absurd (none_some p (sym e ∙ (ap (λ (x : Mark). x.step) (of_some (mark_at line seen (step_of op)) m marked) ∙ step)))
mark_done line op seen m p (Some q) e marked step = (
  made_of q (value_by op) seen,
  ap (λ o. done_step o (value_by op) seen) e,
  sym (of_some (mark_at line seen (step_of op)) m marked) ∙
      ap (mark_at line seen) e,
)

pub mark_step : (line : ℕ) (op : Op) (a : Answer) (m : Mark) (p : Step) → mark_of_answer line op a ≡ Some m → m.step ≡ Some p →
    IsMarkOf line op a m
mark_step line op (answers.Made seen usable) m p marked step =
    (made_of steps.Issue 0 seen, refl, sym (of_some (mark_at line seen (Some steps.Issue)) m marked))
mark_step line op (answers.Done seen) m p marked step = mark_done line op seen m p (step_of op) refl marked step
mark_step line op (answers.Value seen value) m p marked step = absurd (not_look line (Some seen) m p marked step)
mark_step line op (answers.Dangling seen value) m p marked step = absurd (not_look line (Some seen) m p marked step)
mark_step line op (answers.SecondFree seen) m p marked step = absurd (not_look line seen m p marked step)
mark_step line op (answers.NotOwner seen) m p marked step = absurd (not_look line (Some seen) m p marked step)
mark_step line op (answers.StaleUse seen) m p marked step = absurd (not_look line seen m p marked step)
mark_step line op (answers.Shared seen) m p marked step = absurd (not_look line (Some seen) m p marked step)
mark_step line op a m p marked step = absurd (not_some m marked)

-- an issue is of an answer that made a slot
pub record IsIssued (a : Answer) (d : StepMade) : Type 0 where
  pub seen : Seen
  pub usable : ℕ
  pub answer : a ≡ answers.Made seen usable
  pub slot : seen.slot ≡ d.slot
  pub found : seen.found.0 ≡ d.found

-- what a step that was done is, by its op
done_op : (op : Op) (seen : Seen) (d : StepMade) → step_in op (answers.Done seen) ≡ Some d →
    (step_of op ≡ Some d.step) × (value_by op ≡ d.value) × (seen.slot ≡ d.slot) × (seen.found.0 ≡ d.found)
done_op op seen d e = go (step_of op) refl
  where
    go : (o : Option Step) → step_of op ≡ o → (step_of op ≡ Some d.step) × (value_by op ≡ d.value) × (seen.slot ≡ d.slot) ×
        (seen.found.0 ≡ d.found)
    go None is = absurd (not_some d (ap (λ x. done_step x (value_by op) seen) (sym is) ∙ e))
    go (Some p) is =
        let same : made_of p (value_by op) seen ≡ d =
        of_some (made_of p (value_by op) seen) d (ap (λ x. done_step x (value_by op) seen) (sym is) ∙ e) in (
          is ∙ ap (λ (x : StepMade). Some x.step) same,
          ap (λ (x : StepMade). x.value) same,
          ap (λ (x : StepMade). x.slot) same,
          ap (λ (x : StepMade). x.found) same,
        )

no_issue : (op : Op) (p : Step) → step_of op ≡ Some p → p ≡ steps.Issue → ⊥
no_issue (ops.Alloc reg partition size) p e f = cc
no_issue (ops.Copy from to) p e f = cc
no_issue (ops.Reset reg) p e f = cc
no_issue (ops.Free reg) p e f = cc
no_issue (ops.Write reg value) p e f = cc
no_issue (ops.Read reg place) p e f = cc
no_issue (ops.Swap cell reg) p e f = cc
no_issue ops.Purge p e f = cc

pub issue_is : (op : Op) (a : Answer) (d : StepMade) → step_in op a ≡ Some d → d.step ≡ steps.Issue → IsIssued a d
issue_is op (answers.Made seen usable) d e f =
    let same : made_of steps.Issue 0 seen ≡ d = of_some (made_of steps.Issue 0 seen) d e in
    record {
      seen = seen;
      usable = usable;
      answer = refl;
      slot = ap (λ (x : StepMade). x.slot) same;
      found = ap (λ (x : StepMade). x.found) same;
    }
issue_is op (answers.Done seen) d e f = absurd (no_issue op d.step (done_op op seen d e).0 f)
issue_is op a d e f = absurd (not_some d e)

-- another step is of an answer that it was done, and the step of its op
pub record IsDone (op : Op) (a : Answer) (d : StepMade) : Type 0 where
  pub seen : Seen
  pub answer : a ≡ answers.Done seen
  pub step : step_of op ≡ Some d.step
  pub value : value_by op ≡ d.value
  pub slot : seen.slot ≡ d.slot
  pub found : seen.found.0 ≡ d.found

pub done_is : (op : Op) (a : Answer) (d : StepMade) → step_in op a ≡ Some d → (d.step ≡ steps.Issue → ⊥) → IsDone op a d
done_is op (answers.Made seen usable) d e f =
    absurd (f (sym (ap (λ (x : StepMade). x.step) (of_some (made_of steps.Issue 0 seen) d e))))
done_is op (answers.Done seen) d e f =
    let all = done_op op seen d e in
    record { seen = seen; answer = refl; step = all.0; value = all.1; slot = all.2; found = all.3 }
done_is op a d e f = absurd (not_some d e)

-- the op of a write, and that of a free
pub write_op : (op : Op) (value : ℕ) → step_of op ≡ Some steps.Write → value_by op ≡ value → (reg : ℕ) × (op ≡ ops.Write reg value)
write_op (ops.Alloc reg partition size) v e f = absurd cc
write_op (ops.Copy from to) v e f = absurd cc
write_op (ops.Reset reg) v e f = absurd cc
write_op (ops.Free reg) v e f = absurd cc
write_op (ops.Write reg value) v e f = (reg, ap (ops.Write reg) f)
write_op (ops.Read reg place) v e f = absurd cc
write_op (ops.Swap cell reg) v e f = absurd cc
write_op ops.Purge v e f = absurd cc
