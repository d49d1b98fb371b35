-- The walk of the registers along the records.
use Rattle.std.proofs.Common.{◌≡◌, ℕ, ◌+◌, ◌<◌, ◌≤◌, List, [], ◌∷◌, ◌++◌, take, get_or, length, Some, None, sym, ◌∙◌, subst, arith, inl, inr}
use Rattle.std.specs.Prelude.{Contains}
use Rattle.pa_record.specs.declared.history.CellEntry.{CellEntry}
use Rattle.pa_rules.specs.declared.played.Played.{Played}
use Rattle.pa_rules.specs.Registers.{Reg, Regs, AllRegs, Row, RowsTo, with_thread, no_regs}
use Rattle.std.proofs.lemmas.List.{take_more}
use Rattle.std.proofs.lemmas.Bool.{cases_lt}
use Rattle.pa_lists.proofs.Members.{of_some}
use Rattle.pa_rules.specs.declared.verdict.Place.TheVariants as places
use Rattle.pa_rules.specs.RecordDemands.{RegistersDemand}
use Rattle.pa_rules.specs.Sizes.{usable_of}
use Rattle.pa_lists.proofs.Indexed.{at_in, none_past, here_is}
use Rattle.pa_verdict.proofs.Walks.{rows_end}
use Rattle.pa_rules.specs.Tells.{TellsFirst}
use Rattle.pa_rules.specs.Changes.{change_of, changed}
use Rattle.pa_rules.proofs.Leading.{rows_one}
use Rattle.pa_audit_records.specs.Rows.{MayAnswer}
use Rattle.pa_audit_records.specs.Tables.{regs_in, regs_next, AreRegsOf, facts_by}
use Rattle.pa_audit_records.proofs.Rowing.{row_may, may_row}

-- Each record so far has the answer that its registers ask for, and the list has the registers after them.
pub record RegsSoFar (version : ℕ) (cells : ℕ → List CellEntry) (ps : List Played) (list : List Reg) (i : ℕ) : Type 0 where
  pub met : (j : ℕ) → j < i → RegistersDemand (usable_of version) cells ps (places.Record j)
  pub rows : RowsTo (facts_by version cells ps) no_regs (take i ps) (regs_in list)

same_regs : (list : List Reg) (all : AllRegs) → AreRegsOf list all → regs_in list ≡ all
same_regs list all h = λ i t r. (h t r) i

pub regs_start : (version : ℕ) (cells : ℕ → List CellEntry) (ps : List Played) (list : List Reg) → AreRegsOf list no_regs →
    RegsSoFar version cells ps list 0
regs_start version cells ps list h = record { met = λ j below. absurd (omega (arith, below)); rows = same_regs list no_regs h }

pub record_among : (ps : List Played) (i : ℕ) (d : Played) → i < length ps → Contains ps (get_or ps i d)
record_among ps i d below = at_in ps i (get_or ps i d) (here_is ps i d below)

pub regs_not : (version : ℕ) (cells : ℕ → List CellEntry) (ps : List Played) (list : List Reg) (i : ℕ) (d : Played) → i < length ps →
    RegsSoFar version cells ps list i
    → (MayAnswer (facts_by version cells ps) (get_or ps i d).op (regs_in list (get_or ps i d).thread) (get_or ps i d).answer → ⊥)
    → TellsFirst (λ k. RegistersDemand (usable_of version) cells ps (places.Record k)) (Some i)
regs_not version cells ps list i d below h other =
    let x = get_or ps i d in (
      λ met. let (all, next, rows, row) = met x (here_is ps i d below) in
          let same : all ≡ regs_in list = rows_one (facts_by version cells ps) no_regs all (regs_in list) (take i ps) rows h.rows in
          other (subst (λ (z : AllRegs). MayAnswer (facts_by version cells ps) x.op (z x.thread) x.answer) same
          (row_may (facts_by version cells ps) x.op (all x.thread) next x.answer row)),
      h.met,
    )

pub regs_more : (version : ℕ) (cells : ℕ → List CellEntry) (ps : List Played) (list later : List Reg) (i : ℕ) (d : Played) → i < length ps →
    RegsSoFar version cells ps list i
    → MayAnswer (facts_by version cells ps) (get_or ps i d).op (regs_in list (get_or ps i d).thread) (get_or ps i d).answer
    → AreRegsOf later (regs_next cells (regs_in list) (get_or ps i d)) → RegsSoFar version cells ps later (i + 1)
regs_more version cells ps list later i d below h may has =
    let x = get_or ps i d in
    let facts = facts_by version cells ps in
    let next = changed (regs_in list x.thread) (change_of cells x.op x.answer) in
    let row = may_row facts x.op (regs_in list x.thread) x.answer may in
    let to = rows_end facts no_regs (regs_in list) next (take i ps) x h.rows row in
    let all : with_thread (regs_in list) x.thread next ≡ regs_in later = sym (same_regs later (regs_next cells (regs_in list) x) has) in
    let long : take i ps ++ x ∷ [] ≡ take (i + 1) ps = sym (take_more ps i d below) in
    record {
      met = λ j less. elim (cases_lt j i) [
        | inl before ↦ h.met j before
        | inr least ↦
            let same : i ≡ j = omega (arith, less, least) in
            subst (λ k. RegistersDemand (usable_of version) cells ps (places.Record k)) same
            (λ y at. let is : x ≡ y = of_some x y (sym (here_is ps i d below) ∙ at) in
            subst (λ (z : Played). (all : AllRegs) × (next : Regs) × RowsTo facts no_regs (take i ps) all ×
            Row facts z.op (all z.thread) z.answer next) is
            (regs_in list, next, h.rows, row))
      ];
      rows = subst (λ (zs : List Played). RowsTo facts no_regs zs (regs_in later)) long
          (subst (λ (z : AllRegs). RowsTo facts no_regs (take i ps ++ x ∷ []) z) all to);
    }

pub regs_all : (version : ℕ) (cells : ℕ → List CellEntry) (ps : List Played) (list : List Reg) (i : ℕ) → length ps ≤ i
    → RegsSoFar version cells ps list i → TellsFirst (λ k. RegistersDemand (usable_of version) cells ps (places.Record k)) None
regs_all version cells ps list i end h j = elim (cases_lt j i) [
  | inl before ↦ h.met j before
  | inr least ↦ λ x at. absurd (none_past ps j x (omega (arith, end, least)) at)
]
