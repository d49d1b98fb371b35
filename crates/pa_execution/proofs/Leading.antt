-- If the rows of a worker's registers lead, in a run that fits.
use Rattle.std.proofs.Common.{◌≡◌, ℕ, List, [], ◌∷◌, ◌++◌, sym, ◌∙◌, ap, subst}
use Rattle.std.specs.Prelude.{Contains}
use Rattle.pa_slot.specs.declared.word.SlotName.{SlotName}
use Rattle.pa_rules.specs.Registers.{Regs, Facts, Row}
use Rattle.pa_logs.specs.Told.{ToldRecord}
use Rattle.pa_logs.specs.Said.{ReadsIts, HasToldRows}
use Rattle.pa_op_specs.specs.Stocks.{regs_of}
use Rattle.pa_op_specs.specs.Workers.{WorkerValue}
use Rattle.pa_op_specs.specs.Outcomes.{Outcome, row_facts}
use Rattle.pa_op_specs.specs.Plays.{PlaysSome, AnswersIn}
use Rattle.pa_op_specs.specs.Following.{FitsAll}
use Rattle.pa_op_specs.proofs.Following.{seen_before, first_answer}
use Rattle.pa_execution.proofs.Playing.{HasPlayed}

-- record by record of one thread, the rows of its registers lead to these
abbrev pub RowsLead : (SlotName → ℕ) → Facts → Regs → List ToldRecord → Regs → Type 0
RowsLead sizes facts regs [] after = after ≡ regs
RowsLead sizes facts regs (x ∷ xs) after =
    (next : Regs) × Row facts x.played.op regs x.played.answer next × ReadsIts sizes regs x.played.op x × RowsLead sizes facts next xs after

pub rows_append : (sizes : SlotName → ℕ) (facts : Facts) (a b c : Regs) (xs ys : List ToldRecord) → RowsLead sizes facts a xs b →
    RowsLead sizes facts b ys c →
    RowsLead sizes facts a (xs ++ ys) c
rows_append sizes facts a b c [] ys same rest = subst (λ z. RowsLead sizes facts z ys c) same rest
rows_append sizes facts a b c (x ∷ xs) ys (next, row, reads, more) rest =
    (next, row, reads, rows_append sizes facts next b c xs ys more rest)

pub rows_told : (sizes : SlotName → ℕ) (facts : Facts) (a b : Regs) (xs : List ToldRecord) → RowsLead sizes facts a xs b →
    HasToldRows sizes facts a xs
rows_told sizes facts a b [] same = tt
rows_told sizes facts a b (x ∷ xs) (next, row, reads, more) = (next, row, reads, rows_told sizes facts next b xs more)

-- ---- what a record is in the run

pub answer_of : (o : Outcome) (w v : WorkerValue) (xs : List ToldRecord) (x : ToldRecord) (p : HasPlayed w v x) →
    FitsAll o w.stock.partitions v.stock.view xs → Contains xs x →
    AnswersIn o p.before.stock p.after.stock x
answer_of o w v xs x p fits among = p.one.does.answers o (record {
  many = fits.many ∙ sym p.many;
  rules = fits.rules x among;
  run = fits.run;
  seen = seen_before o p.after.stock.view v.stock.view p.last.lists fits.seen;
  acts = fits.acts x among;
})

pub rows_lead : (o : Outcome) (w v : WorkerValue) (xs : List ToldRecord) → PlaysSome w xs v → FitsAll o w.stock.partitions v.stock.view xs →
    RowsLead o.sizes (row_facts o) (regs_of w.stock.registers) xs (regs_of v.stock.registers)
rows_lead o w v [] same fits = ap (λ (z : WorkerValue). regs_of z.stock.registers) same
rows_lead o w v (x ∷ xs) (next, one, more) fits =
    let (answer, rest) = first_answer o w next v x xs one more fits in (
      regs_of next.stock.registers,
      answer.row,
      answer.reader,
      rows_lead o next v xs more rest,
    )
