-- The record that made the exchange before one with a cell, and the way back from a record that put a raw_ptr into a register.
use Rattle.std.proofs.Common.{◌≡◌, ℕ, ◌+◌, ◌-◌, List, Option, Some, None, sym, ◌∙◌, subst, arith}
use Rattle.std.specs.Prelude.{IfNone}
use Rattle.pa_lists.proofs.Indexed.{in_at, one_at}
use Rattle.pa_trace.specs.declared.script.Op.TheVariants as ops
use Rattle.pa_record.specs.declared.entry.Answer.TheVariants.{Swapped}
use Rattle.pa_record.specs.declared.history.CellEntry.{CellEntry}
use Rattle.pa_rules.specs.declared.played.Played.{Played}
use Rattle.pa_rules.specs.Cells.{IsExchange}
use Rattle.pa_audit_records.specs.Seeking.{IsOnLine, NoneOnLine}
use Rattle.pa_dangle.specs.Ways.{IsGiverAt, IsWayBack}
use Rattle.pa_dangle.specs.declared.ways.Way.TheVariants.{Unknown}

abbrev Cells : Type 0
Cells = ℕ → List CellEntry

pub giver_none : (cells : Cells) (ps : List Played) (k j : ℕ) (e : CellEntry) (o : Option ℕ) → (j ≡ 0 → ⊥) → IsExchange cells k (j - 1) e →
    IfNone o (NoneOnLine ps e.line)
    → IfNone o ((i : ℕ) → IsGiverAt cells ps k j i → ⊥)
giver_none cells ps k j e None some at none = λ i giver.
    let (m, f, next, at', on) = giver in
    let index : m ≡ j - 1 = omega (arith, next) in
    let entry = one_at (cells k) (j - 1) f e (subst (λ l. IsExchange cells k l f) index at') at in
    none i (subst (λ (d : CellEntry). IsOnLine ps d.line i) entry on)
giver_none cells ps k j e (Some i) some at none = tt

-- ---- the way back

pub back_unknown : (cells : Cells) (ps : List Played) (y : Played) (k reg j : ℕ) → y.op ≡ ops.Swap k reg → y.answer ≡ Swapped j →
    ((i : ℕ) → IsGiverAt cells ps k j i → ⊥)
    → IsWayBack cells ps y Unknown
back_unknown cells ps y k reg j op answer none = (
  λ (from, to, copy). let e : ops.Copy from to ≡ ops.Swap k reg = sym copy ∙ op in cc,
  λ z given.
      let swap : ops.Swap k reg ≡ ops.Swap given.cell given.reg = sym op ∙ given.op in
      let swapped : Swapped j ≡ Swapped (given.index + 1) = sym answer ∙ given.answer in
      let cell : given.cell ≡ k = cc in
      let next : j ≡ given.index + 1 = cc in
      let (i, here) = in_at ps z given.giver in
      none i (
        given.index,
        given.entry,
        next,
        subst (λ c. IsExchange cells c given.index given.entry) cell given.exchange,
        (z, here, given.line),
      ),
)
