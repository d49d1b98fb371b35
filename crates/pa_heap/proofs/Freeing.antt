-- A free by the owner: what it says if its step doesn't return the slot.
use Rattle.std.proofs.Common.{◌≡◌, ℕ, ◌+◌, ◌<◌, [], ◌∷◌, length, Some, refl, sym, ap, subst, arith, inl, inr}
use Rattle.std.specs.Prelude.{slice_set}
use Rattle.pa_slot.specs.declared.word.Step.TheVariants as steps
use Rattle.pa_slot.specs.Count.{number_of}
use Rattle.pa_slot.specs.Run.{IsReturning}
use Rattle.pa_trace.specs.declared.script.Op.TheVariants as ops
use Rattle.pa_record.specs.declared.entry.Seen.{Seen}
use Rattle.pa_record.specs.declared.entry.Answer.TheVariants as answers
use Rattle.pa_record.specs.Spans.{name_of}
use Rattle.pa_region.specs.declared.view.Entry.TheVariants.{Counted}
use Rattle.pa_region.specs.Views.{free_of, seen_of}
use Rattle.pa_region.specs.Moves.{IsFound}
use Rattle.pa_region.specs.Leaves.{CountLeaves, OwnsChange, StatesAreOwns}
use Rattle.pa_quarantine.specs.Filling.{poisoned}
use Rattle.pa_region.specs.Aware.{IsAware}
use Rattle.pa_rules.specs.declared.register.Register.TheVariants as reg
use Rattle.pa_rules.specs.Played.{mark_at}
use Rattle.pa_rules.specs.Registers.{Regs, with, Becomes, FreeRow}
use Rattle.pa_cells.specs.declared.handle.Handle.{Handle}
use Rattle.pa_rules.specs.declared.register.Register.TheVariants.{Own, Freed}
use Rattle.pa_op_specs.specs.Stocks.{StockRegister, StockValue, IsStock, register_in, as_reg, regs_of}
use Rattle.pa_op_specs.specs.Workers.{HasItsStake}
use Rattle.pa_thread_state.specs.Changes.{LetsGo}
use Rattle.pa_op_specs.specs.Plays.{DoesOp}
use Rattle.pa_op_specs.proofs.Registers.{regs_set}
use Rattle.pa_op_specs.proofs.Seeing.{made_kept, slot_in_run, home_of, now_seen}
use Rattle.pa_op_specs.proofs.Touching.{Touched, touched_entry}
use Rattle.pa_op_specs.proofs.Stakes.{least_is}
use Rattle.pa_thread_state.proofs.Leaving.{user_not_free}
use Rattle.pa_op_specs.proofs.Stocks.{register_has}
use Rattle.pa_thread_state.proofs.Looking.{seen_at}
use Rattle.pa_op_specs.specs.Owing.{bytes_in}
use Rattle.pa_op_specs.proofs.Owing.{owes_done}
use Rattle.pa_op_specs.proofs.Quiet.{quiet_does}
use Rattle.pa_thread_state.proofs.Freeing.{can_step, freed, freed_view}

-- what the step leaves, of the view before the poisoning
pub touched_free : CountLeaves → OwnsChange → StatesAreOwns → (s : StockValue) (r word : ℕ) (h : Handle) → IsStock s →
    HasItsStake s → 0 < s.view.budget → r < 64 →
    register_in s.registers r ≡ Own h → IsFound h.title word (poisoned h.title s.view) → (0 < free_of s.view h.title → ⊥) →
    Touched s.thread (Counted h.title steps.Free word 0 ∷ []) s.view (freed_view s.view h.title word)
touched_free counts owns states s r word h is stake budget below own found held =
    let t = h.title in
    let w = freed_view s.view t word in
    let leaves = counts steps.Free t word (poisoned t s.view) (can_step states owns s r h is stake budget below own) in
    let l = leaves.entry in
    touched_entry s.thread (number_of word + 1) (Counted t steps.Free word 0) t s.view w
    (record { logs = l.logs; least = l.least; log = l.log; other_logs = l.other_logs; last = l.last; stakes = l.stakes })
    (least_is s.thread s.view is.stake stake).0 leaves.lists leaves.seen held (λ u. let x = leaves.frees u in omega arith)
    (found.not_older, now_seen t (number_of word + 1) (seen_of w t) (seen_of s.view t) (leaves.seen t))

pub free_row : (q : StockRegister) (h : Handle) (seen : Seen) (regs : Regs) (r : ℕ) (after : Regs) → q ≡ Own h →
    seen.slot ≡ name_of h.title → Becomes after (with regs r reg.Freed) →
    FreeRow (as_reg q) regs r (answers.Done seen) after
free_row q h seen regs r after own slot becomes =
    subst (λ x. FreeRow (as_reg x) regs r (answers.Done seen) after) (sym own) (seen, slot, refl, becomes)

-- The op does what it should if the step doesn't return the slot.
pub freed_does : CountLeaves → OwnsChange → StatesAreOwns → (s : StockValue) (r word : ℕ) (h : Handle) → IsStock s → IsAware s.view →
    HasItsStake s → 0 < s.view.budget → r < 64 →
    register_in s.registers r ≡ Own h → IsFound h.title word (poisoned h.title s.view) → (IsReturning steps.Free word → ⊥) → (line : ℕ) →
    DoesOp line (ops.Free r) (answers.Done (seen_at h word)) s (freed s h r word)
freed_does counts owns states s r word h is aware stake budget below own found stays =
    let t = h.title in
    let w = freed_view s.view t word in
    let knows = register_has s r h is below (inl own) in
    let inside : r < length s.registers = let n = is.handles.count in omega arith in
    quiet_does s w (slice_set s.registers r Freed) (ops.Free r) (answers.Done (seen_at h word)) (Counted t steps.Free word 0 ∷ []) is.lists
    (touched_free counts owns states s r word h is stake budget below own found (user_not_free s.view t aware knows.0))
    (record { room = λ j e. cc; no_swap = λ j e. cc; cells = λ list x none. none })
    (owes_done s.registers (ops.Free r) (seen_at h word) t.len (Counted t steps.Free word 0 ∷ []) ([], tt, refl) (ap bytes_in own))
    (λ refused. absurd refused)
    (λ line phase o run rules sees.
    let slot = slot_in_run o w h run sees (made_kept h s.view w refl knows.1) in
    record {
      told = ([], tt, ap (λ u. Counted u steps.Free word 0 ∷ []) (sym slot.title));
      row = free_row (register_in s.registers r) h (seen_at h word) (regs_of s.registers) r
          (regs_of (slice_set s.registers r Freed)) own refl
          (λ k. regs_set s.registers r Freed k inside);
      reader = tt;
      home = λ m e. (h.partition, home_of o h.partition (mark_at line (seen_at h word) (Some steps.Free)) m e slot.size);
    })
    (λ line phase o none same. inr (stays, none, same))

-- a call that let go of a register's Own by a free which didn't return the slot did the op, which answers `done`
pub free_kept : CountLeaves → OwnsChange → StatesAreOwns → (s after : StockValue) (r : ℕ) (h : Handle) (seen : Seen) → IsStock s →
    IsAware s.view → HasItsStake s → 0 < s.view.budget → r < 64 →
    register_in s.registers r ≡ Own h → LetsGo steps.Free h r Freed (poisoned h.title s.view) seen s after →
    (IsReturning steps.Free seen.found.0 → ⊥) → (line : ℕ) →
    DoesOp line (ops.Free r) (answers.Done seen) s after
free_kept counts owns states s after r h seen is aware stake budget below own gone stays line =
    let e : seen ≡ seen_at h seen.found.0 = ap (λ n. record seen { slot = n }) gone.slot in
    subst (λ x. DoesOp line (ops.Free r) (answers.Done x) s after) (sym e)
    (subst (DoesOp line (ops.Free r) (answers.Done (seen_at h seen.found.0)) s) (sym gone.after_is)
    (freed_does counts owns states s r seen.found.0 h is aware stake budget below own gone.found stays line))
