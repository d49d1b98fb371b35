-- The turn of an exchange with a cell.
use Rattle.std.proofs.Common.{◌≡◌, ℕ, ◌+◌, ◌<◌, inl, inr, List, length, Some, slice_get, refl, sym, ap, ◌∙◌, subst, arith}
use Rattle.std.proofs.lemmas.Bool.{cases_eq, eq-eqb, ne_eqb}
use Rattle.pa_slot.specs.declared.word.SlotName.{SlotName}
use Rattle.pa_trace.specs.declared.script.Op.TheVariants as ops
use Rattle.pa_record.specs.declared.entry.Answer.TheVariants.{Swapped}
use Rattle.pa_record.specs.declared.history.CellEntry.{CellEntry}
use Rattle.pa_record.specs.declared.history.Held.{Held}
use Rattle.pa_rules.specs.declared.register.Register.TheVariants.{Empty, Own, Ref, Freed, Cleared}
use Rattle.pa_rules.specs.Registers.{Reg, Regs, handle_of, reg_of, with_thread}
use Rattle.pa_slot_effects.specs.Shown.{Shown, owns, points, amount, IsUsed, AreHandles, with_reg, with_held}
use Rattle.pa_slot_effects.specs.Turns.{played_at, exchange_of, after_swap}
use Rattle.pa_slot_effects.specs.Laws.{SwapGoesOn}
use Rattle.pa_slot_effects.proofs.Histories.{GrowsBy, exchanged_more, grown_kept, get_new}
use Rattle.pa_slot_effects.proofs.Contents.{HasFound, contents_same}
use Rattle.pa_slot_effects.proofs.Handles.{amount_reg, amount_cell, at_held, at_held_other, reg_here}
use Rattle.pa_slot_effects.proofs.Balance.{used_reg}
use Rattle.pa_slot_effects.proofs.Turn.{turn_extends}

-- what a register's handle has of a slot, once it is in a cell
moved_owns : (s : SlotName) (r : Reg) → owns s (reg_of (handle_of r)) ≡ owns s r
moved_owns s Empty = refl
moved_owns s (Own t) = refl
moved_owns s (Ref t) = refl
moved_owns s Freed = refl
moved_owns s Cleared = refl

moved_points : (s : SlotName) (r : Reg) → points s (reg_of (handle_of r)) ≡ points s r
moved_points s Empty = refl
moved_points s (Own t) = refl
moved_points s (Ref t) = refl
moved_points s Freed = refl
moved_points s Cleared = refl

moved_used : (word : SlotName → ℕ) (r : Reg) → IsUsed word r → IsUsed word (reg_of (handle_of r))
moved_used word Empty h = tt
moved_used word (Own t) h = h
moved_used word (Ref t) h = h
moved_used word Freed h = tt
moved_used word Cleared h = tt

amount_swap : (threads : ℕ) (f : Reg → ℕ) (a : Shown) (thread cell reg : ℕ) → thread < threads → cell < 64 → reg < 64
    → f (reg_of (handle_of (a.regs thread reg))) ≡ f (a.regs thread reg)
    → amount threads f (with_reg a.regs thread reg (reg_of (a.held cell)))
    (with_held a.held cell (handle_of (a.regs thread reg))) ≡ amount threads f a.regs a.held
amount_swap threads f a thread cell reg ht hk hr same =
    let one = amount_reg threads f a.regs a.held thread reg (reg_of (a.held cell)) ht hr in
    let two = amount_cell threads f (with_reg a.regs thread reg (reg_of (a.held cell))) a.held cell (handle_of (a.regs thread reg)) hk in
    omega (arith, one, two, same)

handles_swap : (threads : ℕ) (a : Shown) (line thread cell reg : ℕ) → AreHandles threads a → thread < threads → cell < 64 → reg < 64
    → AreHandles threads (after_swap a line thread cell reg)
handles_swap threads a line thread cell reg h ht hk hr = record {
  owners = λ s. h.owners s ∙ sym (amount_swap threads (owns s) a thread cell reg ht hk hr (moved_owns s (a.regs thread reg)));
  pointers = λ s. h.pointers s ∙ sym (amount_swap threads (points s) a thread cell reg ht hk hr (moved_points s (a.regs thread reg)));
  named = used_reg a.word a.regs thread reg (reg_of (a.held cell)) h.named (h.celled cell);
  celled = λ k.
      let P : Held → Type 0 = λ x. IsUsed a.word (reg_of x) in
      elim (cases_eq k cell) [
        | inl e ↦
            let at : with_held a.held cell (handle_of (a.regs thread reg)) k ≡ handle_of (a.regs thread reg) =
            ap (with_held a.held cell (handle_of (a.regs thread reg))) e ∙ at_held a.held cell (handle_of (a.regs thread reg)) in
            subst P (sym at) (moved_used a.word (a.regs thread reg) (h.named thread reg))
        | inr ne ↦ subst P (sym (at_held_other a.held cell (handle_of (a.regs thread reg)) k ne)) (h.celled k)
      ];
}

pub swap_goes_on : SwapGoesOn
swap_goes_on threads ls ps a thread cell reg can hk hr =
    let line = length ls + 2 in
    let op = ops.Swap cell reg in
    let answer = Swapped (length (a.cells cell)) in
    let x = played_at a.rules ls thread op answer in
    let e : CellEntry = exchange_of a line thread cell reg in
    let b = after_swap a line thread cell reg in
    let grows : GrowsBy cell e a.cells b.cells = record {
      here = rw (eq-eqb cell cell refl) refl;
      others = λ k ne. rw (ne_eqb k cell ne) refl;
    } in
    let G : List CellEntry → Type 0 = λ es. slice_get es (length (a.cells cell)) ≡ Some e in
    let finds : HasFound a.word x = λ m f. absurd cc in
    turn_extends threads ls ps thread op answer a b can.told (record {
      rules = refl;
      row = (
        length (a.cells cell),
        e,
        refl,
        subst G (sym grows.here) (get_new (a.cells cell) e),
        refl,
        λ k. ap (λ (row : Regs). row k) (reg_here a.regs thread reg (reg_of (a.held cell))),
      );
      regs = ap (λ (r : Regs). with_thread a.regs thread r) (sym (reg_here a.regs thread reg (reg_of (a.held cell))));
      usable = refl;
      plain = refl;
      sized = λ u n f. absurd cc;
      placed = λ u n f. absurd cc;
      stand = grown_kept cell e a.cells b.cells grows;
      exchanged = exchanged_more a.cells b.cells a.held b.held ps line x cell reg e can.told.exchanged grows refl
          (at_held a.held cell (handle_of (a.regs thread reg)))
          (λ k ne. at_held_other a.held cell (handle_of (a.regs thread reg)) k ne) refl refl refl refl;
      tells = refl;
      contents = contents_same ps x line a.word a.content can.told.numbers can.told.contents finds tt;
      handles = handles_swap threads a line thread cell reg can.told.handles can.among hk hr;
    })
