-- The handle that an exchange found was given by the exchange before it, from a register that held it.
use Rattle.std.proofs.Common.{◌≡◌, ℕ, zero, suc, ◌+◌, List, [], ◌∷◌, Option, Some, refl, sym, ◌∙◌, ap, subst, arith}
use Rattle.std.specs.Prelude.{Contains, slice_get}
use Rattle.pa_lists.proofs.Indexed.{one_at}
use Rattle.pa_lists.proofs.Members.{of_some, not_some}
use Rattle.pa_trace.specs.declared.script.Op.TheVariants as ops
use Rattle.pa_record.specs.declared.entry.Answer.TheVariants.{Swapped}
use Rattle.pa_record.specs.declared.history.CellEntry.{CellEntry}
use Rattle.pa_record.specs.declared.history.Held.{Held}
use Rattle.pa_record.specs.declared.history.Held.TheVariants as held
use Rattle.pa_rules.specs.declared.register.Register.TheVariants.{Empty, Own, Ref, Freed, Cleared}
use Rattle.pa_rules.specs.declared.played.Played.{Played}
use Rattle.pa_rules.specs.Cells.{IsChain, IsExchange, AreCells}
use Rattle.pa_rules.specs.Changes.{change_of, found_in}
use Rattle.pa_rules.specs.Registers.{Reg, Regs, handle_of, reg_of, Row, SwapRow}
use Rattle.pa_rules.specs.Seen.{HandsTo}
use Rattle.pa_legal.specs.Owners.{WasPut, HaveHandles}
use Rattle.pa_legal.proofs.owners.Putting.{Cells, facts_of, row_of, was_put}

-- ---- handles and registers

handle_back : (h : Held) → handle_of (reg_of h) ≡ h
handle_back held.Nothing = refl
handle_back (held.Own s) = refl
handle_back (held.Ref s) = refl

reg_back : (r : Reg) → (handle_of r ≡ held.Nothing → ⊥) → reg_of (handle_of r) ≡ r
reg_back Empty some = absurd (some refl)
reg_back (Own s) some = refl
reg_back (Ref s) some = refl
reg_back Freed some = absurd (some refl)
reg_back Cleared some = absurd (some refl)

-- ---- the exchange before one

chain_first : (was : Held) (es : List CellEntry) (e : CellEntry) → IsChain was es → slice_get es 0 ≡ Some e → e.found ≡ was
chain_first was [] e chain at = absurd (not_some e at)
chain_first was (x ∷ xs) e (found, rest) at = ap (λ (z : CellEntry). z.found) (sym (of_some x e at)) ∙ found

chain_next : (was : Held) (es : List CellEntry) (n : ℕ) (e : CellEntry) → IsChain was es → slice_get es (suc n) ≡ Some e
    → (d : CellEntry) × (slice_get es n ≡ Some d) × (e.found ≡ d.gave)
chain_next was [] n e chain at = absurd (not_some e at)
chain_next was (x ∷ xs) zero e (found, rest) at = (x, refl, chain_first x.gave xs e rest at)
chain_next was (x ∷ xs) (suc n) e (found, rest) at = chain_next x.gave xs n e rest at

-- the record z gave what y's exchange found, from a register that held it
pub record IsGift (cells : Cells) (ps : List Played) (y z : Played) (r : Reg) : Type 0 where
  pub cell : ℕ
  pub index : ℕ
  pub entry : CellEntry
  pub answer : y.answer ≡ Swapped (index + 1)
  pub exchange : IsExchange cells cell index entry
  pub line : entry.line ≡ z.line
  pub into : ℕ
  pub taken : y.op ≡ ops.Swap cell into
  pub among : Contains ps z
  pub from : ℕ
  pub op : z.op ≡ ops.Swap cell from
  pub other : Reg
  pub changes : change_of cells z.op z.answer ≡ Some (from, other)
  pub put : Played
  pub held : WasPut cells ps z from r put
  pub hands : HandsTo cells z y

-- an exchange changes its register
swap_changes : (cells : Cells) (ps : List Played) (z : Played) (cell reg : ℕ) → AreCells cells ps → Contains ps z → z.op ≡ ops.Swap cell reg
    → (j : ℕ) × (e : CellEntry) × (z.answer ≡ Swapped j) × IsExchange cells cell j e × (e.line ≡ z.line) ×
    (change_of cells z.op z.answer ≡ Some (reg, reg_of e.found))
swap_changes cells ps z cell reg are among op =
    let (j, e, answer, at, line) = are.answers z cell reg among op in (
      j,
      e,
      answer,
      at,
      line,
      ap (λ o. change_of cells o z.answer) op ∙ ap (change_of cells (ops.Swap cell reg)) answer ∙ ap
          (λ (o : Option CellEntry). Some (reg, reg_of (found_in o))) at,
    )

row_gives : (history : List CellEntry) (regs next : Regs) (reg j : ℕ) (e : CellEntry) → SwapRow history regs reg (Swapped j) next
    → slice_get history j ≡ Some e → e.gave ≡ handle_of (regs reg)
row_gives history regs next reg j e (k, d, answer, at, gave, becomes) here =
    let place : j ≡ k = cc in
    let same : d ≡ e = one_at history j d e (subst (λ n. slice_get history n ≡ Some d) (sym place) at) here in
    ap (λ (z : CellEntry). z.gave) (sym same) ∙ gave

module _ (version : ℕ) (cells : Cells) (ps : List Played) (h : HaveHandles version cells ps) where
  -- what the exchange of this entry gave was in its record's register
  giver_held : (z : Played) (cell reg n : ℕ) (d : CellEntry) (r : Reg) → Contains ps z → z.op ≡ ops.Swap cell reg → z.answer ≡ Swapped n
      → IsExchange cells cell n d
      → d.gave ≡ handle_of r → (handle_of r ≡ held.Nothing → ⊥) → (put : Played) × WasPut cells ps z reg r put
  giver_held z cell reg n d r among op answer at gave some =
      let (regs, next, has, row) = row_of version cells ps z h.registers among in
      let swap : SwapRow (cells cell) regs reg (Swapped n) next = subst (λ a. SwapRow (cells cell) regs reg a next) answer
      (subst (λ o. Row (facts_of version cells ps) o regs z.answer next) op row) in
      let handle : handle_of (regs reg) ≡ handle_of r = sym (row_gives (cells cell) regs next reg n d swap at) ∙ gave in
      let holds : regs reg ≡ r = sym (reg_back (regs reg) (λ none. some (sym handle ∙ none))) ∙ ap reg_of handle ∙ reg_back r some in
      let (put, was) = was_put version cells ps z regs reg h.rising has (λ empty. some (sym handle ∙ ap handle_of empty)) in
      (put, subst (λ (q : Reg). WasPut cells ps z reg q put) holds was)

  gift_at : (y : Played) (cell into j : ℕ) (e : CellEntry) (r : Reg) → y.op ≡ ops.Swap cell into → y.answer ≡ Swapped j
      → IsExchange cells cell j e → e.line ≡ y.line
      → e.found ≡ handle_of r → (handle_of r ≡ held.Nothing → ⊥) → (z : Played) × IsGift cells ps y z r
  gift_at y cell into zero e r taken answer at line found some =
      absurd (some (sym found ∙ chain_first held.Nothing (cells cell) e (h.exchanges.chain cell) at))
  gift_at y cell into (suc n) e r taken answer at line found some =
      let (d, before, is) = chain_next held.Nothing (cells cell) n e (h.exchanges.chain cell) at in
      let (z, from, (among, here), op) = h.exchanges.lines cell n d before in
      let (k, f, answer', at', line', changes) = swap_changes cells ps z cell from h.exchanges among op in
      let (same, place) = h.exchanges.different cell cell k n f d at' before (line' ∙ here) in
      let gave : d.gave ≡ handle_of r = sym is ∙ found in
      let (put, was) = giver_held z cell from n d r among op (answer' ∙ ap Swapped place) before gave some in
      let up : suc n ≡ n + 1 = omega arith in (
        z,
        record {
          cell = cell;
          index = n;
          entry = d;
          answer = answer ∙ ap Swapped up;
          exchange = before;
          line = sym here;
          into = into;
          taken = taken;
          among = among;
          from = from;
          op = op;
          other = reg_of f.found;
          changes = changes;
          put = put;
          held = was;
          hands = (cell, n, d, e, before, subst (λ i. IsExchange cells cell i e) up at, sym here, line, λ none. some (sym gave ∙ none));
        },
      )

  -- what an exchange left in its register, if it is a handle, was given
  pub gift : (y : Played) (cell into reg : ℕ) (r : Reg) → Contains ps y → y.op ≡ ops.Swap cell into
      → change_of cells y.op y.answer ≡ Some (reg, r) → (handle_of r ≡ held.Nothing → ⊥)
      → (z : Played) × IsGift cells ps y z r
  gift y cell into reg r among taken puts some =
      let (j, e, answer, at, line, changes) = swap_changes cells ps y cell into h.exchanges among taken in
      let is : reg_of e.found ≡ r = ap (λ (p : ℕ × Reg). p.1) (of_some (into, reg_of e.found) (reg, r) (sym changes ∙ puts)) in
      gift_at y cell into j e r taken answer at line (sym (handle_back e.found) ∙ ap handle_of is) some
