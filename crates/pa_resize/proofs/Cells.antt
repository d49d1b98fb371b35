-- What cells hold between the records of a run.
use Rattle.std.proofs.Common.{◌≡◌, ℕ, ◌+◌, ◌<◌, ◌≤◌, List, [], ◌∷◌, ◌++◌, length, slice_get, Some, refl, sym, ap, ◌∙◌, subst, arith, ◌⊎◌, inl, inr, append_assoc}
use Rattle.std.specs.Prelude.{Contains}
use Rattle.std.proofs.lemmas.Bool.{cases_eq, cases_lt}
use Rattle.pa_trace.specs.declared.script.Op.TheVariants.{Swap}
use Rattle.pa_record.specs.declared.entry.Answer.TheVariants.{Swapped}
use Rattle.pa_record.specs.declared.history.CellEntry.{CellEntry}
use Rattle.pa_record.specs.declared.history.Held.{Held}
use Rattle.pa_record.specs.declared.history.Held.TheVariants.{Nothing}
use Rattle.pa_lists.proofs.Elements.{in_middle}
use Rattle.pa_rules.specs.declared.played.Played.{Played}
use Rattle.pa_rules.specs.Registers.{Regs, Becomes, SwapRow, with, handle_of, reg_of}
use Rattle.pa_one_run.specs.Parts.{Parts, cell_line}
use Rattle.pa_one_run.specs.Before.{below, gave_last}
use Rattle.pa_one_run.proofs.Filed.{IsFiled}
use Rattle.pa_one_run.proofs.lines.Cuts.{IsCut, cut_here, cut_next, recorded_cases, cells_recorded}
use Rattle.pa_one_run.proofs.lines.Sorting.{below_none, below_gap, below_next}
use Rattle.pa_one_run.proofs.rows.Exchanges.{cell_steady, exchange_here, exchange_op}
use Rattle.pa_resize.specs.Keeping.{StandsBetween}

module _ (a : Parts) (h : IsFiled a) where
  -- what cell k holds before line n
  abbrev pub holds : ℕ → ℕ → Held
  holds n k = gave_last Nothing (below cell_line n (a.cells k))

  holds_up : (before rest : List Played) (n m k : ℕ) → a.ps ≡ before ++ rest → StandsBetween n before rest →
      StandsBetween m before rest → n ≤ m → holds n k ≡ holds m k
  holds_up before rest n m k parts first last up =
      let cut : IsCut a n before rest = record { parts = parts; early = first.early; late = first.late } in
      let gap = recorded_cases a n m before rest cut last.late in
      ap (gave_last Nothing) (below_gap cell_line n m (a.cells k) up (λ e among. gap e.line (cells_recorded a k e h among)))

  -- it is the same before any line that stands between the same records
  pub holds_one : (before rest : List Played) (n m k : ℕ) → a.ps ≡ before ++ rest → StandsBetween n before rest →
      StandsBetween m before rest → holds n k ≡ holds m k
  holds_one before rest n m k parts first last = elim (cases_lt n m) [
    | inl less ↦ holds_up before rest n m k parts first last (omega (arith, less))
    | inr more ↦ sym (holds_up before rest m n k parts last first more)
  ]

  -- before the first record every cell holds nothing
  pub holds_first : (rest : List Played) (n k : ℕ) → a.ps ≡ rest → StandsBetween n [] rest → holds n k ≡ Nothing
  holds_first rest n k parts stands = ap (gave_last Nothing) (below_none cell_line n (a.cells k) (λ e among.
      let (x, of) = cells_recorded a k e h among in
      let late = stands.late x (subst (λ ps. Contains ps x) parts of.0) in
      omega (arith, late, of.1)))

  module _ (before rest : List Played) (x : Played) (parts : a.ps ≡ before ++ x ∷ rest) where
    pub stands_here : StandsBetween x.line before (x ∷ rest)
    stands_here = let cut = cut_here a before rest x h parts in record { early = cut.early; late = cut.late }

    pub stands_next : StandsBetween (x.line + 1) (before ++ x ∷ []) rest
    stands_next = let cut = cut_next a before rest x h parts in record { early = cut.early; late = cut.late }

    pub parts_next : a.ps ≡ (before ++ x ∷ []) ++ rest
    parts_next = parts ∙ sym (append_assoc before (x ∷ []) rest)

    among : Contains a.ps x
    among = in_middle before rest a.ps x parts

    -- a record that swaps with another cell, or none
    pub holds_same : (k : ℕ) → ((reg : ℕ) → x.op ≡ Swap k reg → ⊥) → holds (x.line + 1) k ≡ holds x.line k
    holds_same k other =
        ap (gave_last Nothing)
        (sym (below_gap cell_line x.line (x.line + 1) (a.cells k) (omega arith) (λ e member. elim (cases_eq e.line x.line) [
          | inl same ↦ let (reg, op) = exchange_op a x k e h among member same in absurd (other reg op)
          | inr apart ↦ around e.line apart
        ])))
      where
        around : (l : ℕ) → (l ≡ x.line → ⊥) → (l < x.line) ⊎ (x.line + 1 ≤ l)
        around l apart = elim (cases_lt l x.line) [ inl less ↦ inl less | inr more ↦ inr (omega (arith, apart, more)) ]

    -- as it was at the next record's line
    pub holds_on : (y : Played) (more : List Played) (k : ℕ) → rest ≡ y ∷ more → ((reg : ℕ) → x.op ≡ Swap k reg → ⊥) →
        holds y.line k ≡ holds x.line k
    holds_on y more k is other =
        let next : a.ps ≡ (before ++ x ∷ []) ++ y ∷ more = parts_next ∙ ap (λ zs. (before ++ x ∷ []) ++ zs) is in
        let cut = cut_here a (before ++ x ∷ []) more y h next in
        let there : StandsBetween y.line (before ++ x ∷ []) rest =
        subst (StandsBetween y.line (before ++ x ∷ [])) (sym is) (record { early = cut.early; late = cut.late }) in
        holds_one (before ++ x ∷ []) rest y.line (x.line + 1) k parts_next there stands_next ∙ holds_same k other

    -- an exchange: the register has what the cell held, and the cell holds what the register had
    pub record Exchanges (k reg : ℕ) (regs next : Regs) : Type 0 where
      pub cell : holds (x.line + 1) k ≡ handle_of (regs reg)
      pub becomes : Becomes next (with regs reg (reg_of (holds x.line k)))

    pub exchanges : (k reg : ℕ) (regs next : Regs) → x.op ≡ Swap k reg →
        SwapRow (a.cells k) regs reg x.answer next → Exchanges k reg regs next
    exchanges k reg regs next op (entry, e, answer, at, gave, becomes) =
        let (d, has) = exchange_here a x k reg h among op in
        let place : entry ≡ length (below cell_line x.line (a.cells k)) =
        swapped_one entry (length (below cell_line x.line (a.cells k))) (sym answer ∙ has.answer) in
        let one : e ≡ d = some_one e d (sym at ∙ (ap (slice_get (a.cells k)) place ∙ has.place)) in
        let cut = below_next cell_line x.line (x.line + 1) (a.cells k) (omega arith) (λ y member up. omega (arith, up))
        (cell_steady a k h) in
        let last = cut ∙ ap (λ zs. below cell_line x.line (a.cells k) ++ zs) has.only in
        record {
          cell = ap (gave_last Nothing) last ∙
              (gives_last Nothing (below cell_line x.line (a.cells k)) d ∙ (ap (λ (z : CellEntry). z.gave) (sym one) ∙ gave));
          becomes = subst (λ v. Becomes next (with regs reg (reg_of v))) (ap (λ (z : CellEntry). z.found) one ∙ has.found) becomes;
        }
      where
        gives_last : (first : Held) (es : List CellEntry) (e : CellEntry) → gave_last first (es ++ e ∷ []) ≡ e.gave
        gives_last first [] e = refl
        gives_last first (d ∷ es) e = gives_last d.gave es e

        swapped_one : (i j : ℕ) → Swapped i ≡ Swapped j → i ≡ j
        swapped_one i j e = cc

        some_one : (e d : CellEntry) → Some e ≡ Some d → e ≡ d
        some_one e d is = cc
