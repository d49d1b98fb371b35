-- A reset of a raw_ptr: what it says if its step doesn't return the slot.
use Rattle.std.proofs.Common.{◌≡◌, ℕ, ◌<◌, [], ◌∷◌, length, Some, refl, sym, ap, subst, arith, inr}
use Rattle.std.specs.Prelude.{slice_set}
use Rattle.pa_slot.specs.declared.word.Step.TheVariants as steps
use Rattle.pa_slot.specs.Run.{IsReturning}
use Rattle.pa_trace.specs.declared.script.Op.TheVariants as ops
use Rattle.pa_record.specs.declared.entry.Seen.{Seen}
use Rattle.pa_record.specs.declared.entry.Answer.TheVariants as answers
use Rattle.pa_record.specs.Spans.{name_of}
use Rattle.pa_region.specs.declared.view.Entry.TheVariants.{Counted}
use Rattle.pa_region.specs.Moves.{IsFound, after_count}
use Rattle.pa_region.specs.Leaves.{CountLeaves}
use Rattle.pa_region.specs.Aware.{IsAware}
use Rattle.pa_rules.specs.declared.register.Register.TheVariants as reg
use Rattle.pa_rules.specs.Played.{mark_at}
use Rattle.pa_rules.specs.Registers.{Regs, with, Becomes, ResetRow}
use Rattle.pa_cells.specs.declared.handle.Handle.{Handle}
use Rattle.pa_rules.specs.declared.register.Register.TheVariants.{Ref, Cleared}
use Rattle.pa_op_specs.specs.Stocks.{StockRegister, StockValue, IsStock, register_in, as_reg, regs_of}
use Rattle.pa_op_specs.specs.Workers.{HasItsStake}
use Rattle.pa_thread_state.specs.Changes.{LetsGo}
use Rattle.pa_op_specs.specs.Plays.{DoesOp}
use Rattle.pa_op_specs.proofs.Registers.{regs_set}
use Rattle.pa_op_specs.proofs.Seeing.{made_kept, slot_in_run, home_of}
use Rattle.pa_op_specs.proofs.Stakes.{least_is}
use Rattle.pa_thread_state.proofs.Leaving.{user_not_free, touched_count}
use Rattle.pa_op_specs.proofs.Stocks.{register_has}
use Rattle.pa_thread_state.proofs.Looking.{seen_at}
use Rattle.pa_op_specs.specs.Owing.{bytes_in}
use Rattle.pa_op_specs.proofs.Owing.{owes_done}
use Rattle.pa_op_specs.proofs.Quiet.{quiet_does}
use Rattle.pa_thread_state.proofs.Resetting.{can_reset, cleared}

pub reset_row : (q : StockRegister) (h : Handle) (seen : Seen) (regs : Regs) (r : ℕ) (after : Regs) → q ≡ Ref h →
    seen.slot ≡ name_of h.title → Becomes after (with regs r reg.Cleared) →
    ResetRow (as_reg q) regs r (answers.Done seen) after
reset_row q h seen regs r after ref slot becomes =
    subst (λ x. ResetRow (as_reg x) regs r (answers.Done seen) after) (sym ref) (seen, slot, refl, becomes)

-- The op does what it should if the step doesn't return the slot.
pub cleared_does : CountLeaves → (s : StockValue) (r word : ℕ) (h : Handle) → IsStock s → IsAware s.view →
    HasItsStake s → 0 < s.view.budget → r < 64 →
    register_in s.registers r ≡ Ref h → IsFound h.title word s.view → (IsReturning steps.Reset word → ⊥) → (line : ℕ) →
    DoesOp line (ops.Reset r) (answers.Done (seen_at h word)) s (cleared s h r word)
cleared_does counts s r word h is aware stake budget below ref found stays =
    let t = h.title in
    let w = after_count steps.Reset t word s.view in
    let knows = register_has s r h is below (inr ref) in
    let inside : r < length s.registers = let n = is.handles.count in omega arith in
    quiet_does s w (slice_set s.registers r Cleared) (ops.Reset r) (answers.Done (seen_at h word))
    (Counted t steps.Reset word 0 ∷ []) is.lists
    (touched_count counts s.thread steps.Reset t word s.view refl (can_reset s r h is stake budget below ref) found
    (least_is s.thread s.view is.stake stake).0 (user_not_free s.view t aware knows.0))
    (record { room = λ j e. cc; no_swap = λ j e. cc; cells = λ list x none. none })
    (owes_done s.registers (ops.Reset r) (seen_at h word) t.len (Counted t steps.Reset word 0 ∷ []) ([], tt, refl) (ap bytes_in ref))
    (λ refused. absurd refused)
    (λ line phase o run rules sees.
    let slot = slot_in_run o w h run sees (made_kept h s.view w refl knows.1) in
    record {
      told = ([], tt, ap (λ u. Counted u steps.Reset word 0 ∷ []) (sym slot.title));
      row = reset_row (register_in s.registers r) h (seen_at h word) (regs_of s.registers) r
          (regs_of (slice_set s.registers r Cleared)) ref refl
          (λ k. regs_set s.registers r Cleared k inside);
      reader = tt;
      home = λ m e. (h.partition, home_of o h.partition (mark_at line (seen_at h word) (Some steps.Reset)) m e slot.size);
    })
    (λ line phase o none same. inr (stays, none, same))

-- a call that let go of a register's Ref by a reset which didn't return the slot did the op, which answers `done`
pub reset_kept : CountLeaves → (s after : StockValue) (r : ℕ) (h : Handle) (seen : Seen) → IsStock s → IsAware s.view →
    HasItsStake s → 0 < s.view.budget → r < 64 →
    register_in s.registers r ≡ Ref h → LetsGo steps.Reset h r Cleared s.view seen s after →
    (IsReturning steps.Reset seen.found.0 → ⊥) → (line : ℕ) →
    DoesOp line (ops.Reset r) (answers.Done seen) s after
reset_kept counts s after r h seen is aware stake budget below ref gone stays line =
    let e : seen ≡ seen_at h seen.found.0 = ap (λ n. record seen { slot = n }) gone.slot in
    subst (λ x. DoesOp line (ops.Reset r) (answers.Done x) s after) (sym e)
    (subst (DoesOp line (ops.Reset r) (answers.Done (seen_at h seen.found.0)) s) (sym gone.after_is)
    (cleared_does counts s r seen.found.0 h is aware stake budget below ref gone.found stays line))
