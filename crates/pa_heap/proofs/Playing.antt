-- A reset or a free that returned its slot, once that slot is settled.
use Rattle.std.proofs.Common.{◌≡◌, ℕ, ◌<◌, List, length, refl, sym, ap, subst, arith, inl, inr}
use Rattle.std.specs.Prelude.{slice_set}
use Rattle.pa_slot.specs.declared.word.Step.{Step}
use Rattle.pa_slot.specs.declared.word.Step.TheVariants as steps
use Rattle.pa_slot.specs.Count.{number_of}
use Rattle.pa_slot.specs.Run.{IsReturning}
use Rattle.pa_trace.specs.declared.script.Op.{Op}
use Rattle.pa_trace.specs.declared.script.Op.TheVariants as ops
use Rattle.pa_record.specs.declared.entry.Seen.{Seen}
use Rattle.pa_record.specs.declared.entry.Answer.TheVariants as answers
use Rattle.pa_region.specs.declared.view.View.{View}
use Rattle.pa_region.specs.Views.{seen_of}
use Rattle.pa_region.specs.Moves.{IsFound, after_count}
use Rattle.pa_region.specs.Leaves.{CountLeaves, OwnsChange, StatesAreOwns}
use Rattle.pa_region.specs.Aware.{IsAware}
use Rattle.pa_region.proofs.TakeLaws.{stakes_made}
use Rattle.pa_quarantine.specs.Filling.{poisoned}
use Rattle.pa_cells.specs.declared.handle.Handle.{Handle}
use Rattle.pa_cells.specs.Handles.{SlotsStaySeen}
use Rattle.pa_rules.specs.declared.register.Register.TheVariants.{Own, Ref, Freed, Cleared}
use Rattle.pa_op_specs.specs.Owing.{bytes_in}
use Rattle.pa_op_specs.specs.Stocks.{StockRegister, StockValue, IsStock, register_in, regs_of}
use Rattle.pa_op_specs.specs.Workers.{HasItsStake}
use Rattle.pa_thread_state.specs.Changes.{LetsGo, NeedsRoot}
use Rattle.pa_thread_state.specs.Homing.{IsSettled}
use Rattle.pa_thread_state.specs.Releasing.{Releases}
use Rattle.pa_op_specs.specs.Plays.{DoesOp}
use Rattle.pa_op_specs.proofs.Registers.{regs_set}
use Rattle.pa_op_specs.proofs.Seeing.{made_kept}
use Rattle.pa_op_specs.proofs.Stakes.{least_is}
use Rattle.pa_thread_state.proofs.Leaving.{user_not_free, touched_count}
use Rattle.pa_op_specs.proofs.Stocks.{register_has}
use Rattle.pa_thread_state.proofs.Looking.{seen_at}
use Rattle.pa_thread_state.proofs.Resetting.{can_reset}
use Rattle.pa_heap.proofs.Resetting.{reset_row, reset_kept}
use Rattle.pa_thread_state.proofs.Freeing.{can_step, freed_view}
use Rattle.pa_heap.proofs.Freeing.{free_row, free_kept, touched_free}
use Rattle.pa_heap.proofs.Answering.{seen_left, reset_put, free_put}
use Rattle.pa_heap.proofs.Returned.{HasReturned}
use Rattle.pa_heap.proofs.Settling.{home_does, spill_does}

-- what each knows of its step
pub reset_returned : CountLeaves → (s : StockValue) (r word : ℕ) (h : Handle) → IsStock s → IsAware s.view →
    HasItsStake s → 0 < s.view.budget → r < 64 →
    register_in s.registers r ≡ Ref h → IsFound h.title word s.view → IsReturning steps.Reset word →
    HasReturned (ops.Reset r) steps.Reset h word s (after_count steps.Reset h.title word s.view) (slice_set s.registers r Cleared)
reset_returned counts s r word h is aware stake budget below ref found back =
    let t = h.title in
    let w = after_count steps.Reset t word s.view in
    let knows = register_has s r h is below (inr ref) in
    let inside : r < length s.registers = let n = is.handles.count in omega arith in
    let can = can_reset s r h is stake budget below ref in
    record {
      freeing = inr (r, refl);
      cells = λ list x none. none;
      told = λ sizes es told. told;
      long = ap bytes_in ref;
      row = λ o. reset_row (register_in s.registers r) h (seen_at h word) (regs_of s.registers) r
          (regs_of (slice_set s.registers r Cleared)) ref refl (λ k. regs_set s.registers r Cleared k inside);
      steps = refl;
      back = back;
      reader = λ o x. tt;
      mark = λ line. refl;
      touched = touched_count counts s.thread steps.Reset t word s.view refl can found (least_is s.thread s.view is.stake stake).0
          (user_not_free s.view t aware knows.0);
      held = user_not_free s.view t aware knows.0;
      number = seen_left t (number_of word) (seen_of w t) (seen_of s.view t) found.not_older
          ((counts steps.Reset t word s.view can).seen t);
      made = made_kept h s.view w refl knows.1;
      own = λ q. stakes_made s.view s.thread q aware stake;
    }

pub free_returned : CountLeaves → OwnsChange → StatesAreOwns → (s : StockValue) (r word : ℕ) (h : Handle) → IsStock s → IsAware s.view →
    HasItsStake s → 0 < s.view.budget → r < 64 →
    register_in s.registers r ≡ Own h → IsFound h.title word (poisoned h.title s.view) → IsReturning steps.Free word →
    HasReturned (ops.Free r) steps.Free h word s (freed_view s.view h.title word) (slice_set s.registers r Freed)
free_returned counts owns states s r word h is aware stake budget below own found back =
    let t = h.title in
    let w = freed_view s.view t word in
    let knows = register_has s r h is below (inl own) in
    let inside : r < length s.registers = let n = is.handles.count in omega arith in
    let can = can_step states owns s r h is stake budget below own in
    record {
      freeing = inl (r, refl);
      cells = λ list x none. none;
      told = λ sizes es told. told;
      long = ap bytes_in own;
      row = λ o. free_row (register_in s.registers r) h (seen_at h word) (regs_of s.registers) r
          (regs_of (slice_set s.registers r Freed)) own refl (λ k. regs_set s.registers r Freed k inside);
      steps = refl;
      back = back;
      reader = λ o x. tt;
      mark = λ line. refl;
      touched = touched_free counts owns states s r word h is stake budget below own found (user_not_free s.view t aware knows.0);
      held = user_not_free s.view t aware knows.0;
      number = seen_left t (number_of word) (seen_of w t) (seen_of s.view t) found.not_older
          ((counts steps.Free t word (poisoned t s.view) can).seen t);
      made = made_kept h s.view w refl knows.1;
      own = λ q. stakes_made s.view s.thread q aware stake;
    }

-- the op does what it should, wherever the slot went
settled_does : SlotsStaySeen →
    (op : Op) (step : Step) (h : Handle) (word line : ℕ) (s after : StockValue) (w : View) (rs : List StockRegister) →
    IsStock s → IsStock after →
    HasReturned op step h word s w rs → NeedsRoot h (record s { view = w; registers = rs }) →
    IsSettled line h (record s { view = w; registers = rs }) after →
    DoesOp line op (answers.Done (seen_at h word)) s after
settled_does stays op step h word line s after w rs is sound of root (inl (bare, home)) =
    home_does stays op step h word line s after w rs is of home bare
settled_does stays op step h word line s after w rs is sound of root (inr (class, class_is, small, some, spills)) =
    spill_does stays op step h class word line s after w rs is sound of class_is small some (root class class_is small) spills

pub reset_settled : CountLeaves → SlotsStaySeen → (line : ℕ) (s mid after : StockValue) (r : ℕ) (h : Handle) (seen : Seen) → IsStock s →
    IsAware s.view → HasItsStake s → 0 < s.view.budget → r < 64 →
    register_in s.registers r ≡ Ref h → LetsGo steps.Reset h r Cleared s.view seen s mid → IsReturning steps.Reset seen.found.0 →
    NeedsRoot h mid → IsSettled line h mid after → IsStock after →
    DoesOp line (ops.Reset r) (answers.Done seen) s after
reset_settled counts stays line s mid after r h seen is aware stake budget below ref gone back root settled sound =
    let word = seen.found.0 in
    let e : seen ≡ seen_at h word = ap (λ n. record seen { slot = n }) gone.slot in
    let w = after_count steps.Reset h.title word s.view in
    subst (λ x. DoesOp line (ops.Reset r) (answers.Done x) s after) (sym e)
    (settled_does stays (ops.Reset r) steps.Reset h word line s after w (slice_set s.registers r Cleared) is sound
    (reset_returned counts s r word h is aware stake budget below ref gone.found back)
    (subst (λ (z : StockValue). NeedsRoot h z) gone.after_is root)
    (subst (λ (z : StockValue). IsSettled line h z after) gone.after_is settled))

pub free_settled : CountLeaves → OwnsChange → StatesAreOwns → SlotsStaySeen
    → (line : ℕ) (s mid after : StockValue) (r : ℕ) (h : Handle) (seen : Seen) → IsStock s → IsAware s.view → HasItsStake s
    → 0 < s.view.budget → r < 64 →
    register_in s.registers r ≡ Own h → LetsGo steps.Free h r Freed (poisoned h.title s.view) seen s mid
    → IsReturning steps.Free seen.found.0 → NeedsRoot h mid → IsSettled line h mid after → IsStock after →
    DoesOp line (ops.Free r) (answers.Done seen) s after
free_settled counts owns states stays line s mid after r h seen is aware stake budget below own gone back root settled sound =
    let word = seen.found.0 in
    let e : seen ≡ seen_at h word = ap (λ n. record seen { slot = n }) gone.slot in
    let w = freed_view s.view h.title word in
    subst (λ x. DoesOp line (ops.Free r) (answers.Done x) s after) (sym e)
    (settled_does stays (ops.Free r) steps.Free h word line s after w (slice_set s.registers r Freed) is sound
    (free_returned counts owns states s r word h is aware stake budget below own gone.found back)
    (subst (λ (z : StockValue). NeedsRoot h z) gone.after_is root)
    (subst (λ (z : StockValue). IsSettled line h z after) gone.after_is settled))

-- a reset, whatever became of its slot
pub reset_released : CountLeaves → SlotsStaySeen → (line : ℕ) (s after : StockValue) (r : ℕ) (h : Handle) (seen : Seen) → IsStock s →
    IsAware s.view → HasItsStake s →
    0 < s.view.budget → r < 64 → register_in s.registers r ≡ Ref h → Releases line steps.Reset h r Cleared s.view seen s after →
    IsStock after →
    DoesOp line (ops.Reset r) (answers.Done seen) s after
reset_released counts stays line s after r h seen is aware stake budget below has released sound = elim released.back [
  | inl back ↦ elim back.1 [
    | inl put ↦ reset_put counts s released.between after r h seen is aware stake budget below has released.gone back.0 put line
    | inr by_root ↦ reset_settled counts stays line s released.between after r h seen is aware stake budget below has released.gone
        back.0 by_root.0 by_root.1 sound
  ]
  | inr held ↦
      subst (λ (z : StockValue). DoesOp line (ops.Reset r) (answers.Done seen) s z) (sym held.1)
      (reset_kept counts s released.between r h seen is aware stake budget below has released.gone held.0 line)
]

-- a free, whatever became of its slot
pub free_released : CountLeaves → OwnsChange → StatesAreOwns → SlotsStaySeen →
    (line : ℕ) (s after : StockValue) (r : ℕ) (h : Handle) (seen : Seen) → IsStock s → IsAware s.view → HasItsStake s →
    0 < s.view.budget → r < 64 → register_in s.registers r ≡ Own h →
    Releases line steps.Free h r Freed (poisoned h.title s.view) seen s after → IsStock after →
    DoesOp line (ops.Free r) (answers.Done seen) s after
free_released counts owns states stays line s after r h seen is aware stake budget below has released sound = elim released.back [
  | inl back ↦ elim back.1 [
    | inl put ↦ free_put counts owns states s released.between after r h seen is aware stake budget below has released.gone back.0 put line
    | inr by_root ↦ free_settled counts owns states stays line s released.between after r h seen is aware stake budget below has
        released.gone back.0 by_root.0 by_root.1 sound
  ]
  | inr held ↦
      subst (λ (z : StockValue). DoesOp line (ops.Free r) (answers.Done seen) s z) (sym held.1)
      (free_kept counts owns states s released.between r h seen is aware stake budget below has released.gone held.0 line)
]
