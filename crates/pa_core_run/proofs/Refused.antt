-- An allocation that finds no room: its line's entries are refusals, which leave the roots.
use Rattle.std.proofs.Common.{◌≡◌, ℕ, ◌+◌, List, ◌∷◌, ◌++◌, Some, None, sym, ◌∙◌, ap, subst, inl, inr}
use Rattle.pa_trace.specs.declared.script.Op.TheVariants as ops
use Rattle.pa_record.specs.declared.entry.Answer.TheVariants as answers
use Rattle.pa_rules.specs.declared.register.Register.TheVariants.{Empty, Own, Ref, Freed, Cleared}
use Rattle.pa_rules.specs.declared.played.Played.{Played}
use Rattle.pa_rules.specs.Played.{mark_of_answer}
use Rattle.pa_rules.specs.Registers.{Reg, Facts, Regs, Row, Becomes, AllocRow, RequestRow}
use Rattle.pa_rules.specs.Caches.{Cache, CacheRow, SameLists, FullRow}
use Rattle.pa_rules.specs.Told.{told_by}
use Rattle.pa_one_run.specs.Parts.{Parts, parts_of}
use Rattle.pa_one_run.specs.Before.{root_at, facts_of}
use Rattle.pa_one_run.proofs.Legality.{filed}
use Rattle.pa_one_run.proofs.Filed.{IsFiled}
use Rattle.pa_core_run.specs.Laws.{RefusedRecordsArePlayed}
use Rattle.pa_core_run.specs.Fronts.{CanBePlayed}
use Rattle.pa_core_run.proofs.NextFronts.{regs_left, row_here, cache_left, cache_row, roots_refused}
use Rattle.pa_core_run.proofs.Records.{none_plays}

-- a refused request leaves the registers
request_left : (facts : Facts) (regs after : Regs) (reg size entry : ℕ) → RequestRow facts regs reg size (answers.Full entry) after →
    Becomes after regs
request_left facts regs after reg size entry (inl (large, is, becomes)) = absurd cc
request_left facts regs after reg size entry (inr (inl (fits, seen, is, becomes))) = absurd cc
request_left facts regs after reg size entry (inr (inr (fits, other, is, becomes))) = becomes

refused_left : (r : Reg) (facts : Facts) (regs after : Regs) (reg size entry : ℕ) →
    AllocRow r facts regs reg size (answers.Full entry) after → Becomes after regs
refused_left Empty facts regs after reg size entry row = request_left facts regs after reg size entry row
refused_left Freed facts regs after reg size entry row = request_left facts regs after reg size entry row
refused_left Cleared facts regs after reg size entry row = request_left facts regs after reg size entry row
refused_left (Own y) facts regs after reg size entry row = absurd (let e = row.0 in cc)
refused_left (Ref y) facts regs after reg size entry row = absurd (let e = row.0 in cc)

-- what a refusal says of its op, its lists and its entries
record IsRefused (a : Parts) (x : Played) (cache after : Cache) : Type 0 where
  reg : ℕ
  part : ℕ
  size : ℕ
  op : x.op ≡ ops.Alloc reg part size
  lists : SameLists after cache
  roots : root_at a (x.line + 1) ≡ root_at a x.line

pub refused_plays : (a : Parts) (before rest : List Played) (x : Played) (entry : ℕ) → IsFiled a → a.ps ≡ before ++ x ∷ rest →
    x.answer ≡ answers.Full entry → CanBePlayed a before x rest
refused_plays a before rest x entry h parts answer s shows =
    let st = shows.st in
    let f = shows.front in
    let full : FullRow a.roots x (st.caches x.thread) (cache_left a before rest x h parts st f) = subst
    (λ z. CacheRow a.partitions a.roots x z (st.caches x.thread) (cache_left a before rest x h parts st f)) answer
    (cache_row a before rest x h parts st f) in
    let told : IsRefused a x (st.caches x.thread) (cache_left a before rest x h parts st f) = elim full [
      | inl (p, class, asked, (reg, size, op, class_of), empty, only, same) ↦ record {
        reg = reg;
        part = p;
        size = size;
        op = op;
        lists = same;
        roots = roots_refused a before rest x h parts st f p (Some class) asked only;
      }
      | inr (p, size, asked, (reg, op, direct), only, same) ↦
          record {
            reg = reg;
            part = p;
            size = size;
            op = op;
            lists = same;
            roots = roots_refused a before rest x h parts st f p None asked only;
          }
    ] in
    let row = subst (λ o. Row (facts_of a) o (st.regs x.thread) x.answer (regs_left a before rest x h parts st f)) told.op
    (row_here a before rest x h parts st f) in
    let row2 = subst (λ z. AllocRow (st.regs x.thread told.reg) (facts_of a) (st.regs x.thread) told.reg told.size z
    (regs_left a before rest x h parts st f)) answer row in
    none_plays a before rest x h parts st f s shows.shown (ap (λ z. mark_of_answer x.line x.op z) answer)
    (refused_left (st.regs x.thread told.reg) (facts_of a) (st.regs x.thread) (regs_left a before rest x h parts st f) told.reg
    told.size entry row2)
    told.lists (λ k r e. (let both : ops.Alloc told.reg told.part told.size ≡ ops.Swap k r = sym told.op ∙ e in absurd cc)) told.roots

pub refused_records_play : RefusedRecordsArePlayed
refused_records_play t r limits filed_run before x rest entry parts answer =
    refused_plays (parts_of t (told_by r)) before rest x entry (filed t (told_by r) limits filed_run) parts answer
