-- A reset or a free whose slot comes behind a queue does what it should.
use Rattle.std.proofs.Common.{◌≡◌, ℕ, ◌+◌, ◌<◌, ◌≤◌, List, [], ◌∷◌, ◌++◌, length, refl, sym, ◌∙◌, ap, subst, arith, inl, inr}
use Rattle.std.specs.Prelude.{slice_set}
use Rattle.std.proofs.lemmas.List.{length-append, append-nil}
use Rattle.pa_slot.specs.declared.word.Step.{Step}
use Rattle.pa_slot.specs.declared.word.Step.TheVariants as steps
use Rattle.pa_slot.specs.Run.{IsReturning}
use Rattle.pa_slot.specs.Titles.{IsWellFormed}
use Rattle.pa_trace.specs.declared.script.Op.{Op}
use Rattle.pa_trace.specs.declared.script.Op.TheVariants as ops
use Rattle.pa_record.specs.declared.entry.Seen.{Seen}
use Rattle.pa_record.specs.declared.entry.Answer.TheVariants as answers
use Rattle.pa_region.specs.declared.view.Entry.TheVariants.{Counted}
use Rattle.pa_region.specs.declared.view.View.{View}
use Rattle.pa_region.specs.Views.{free_of}
use Rattle.pa_region.specs.Lists.{list_of, list_among}
use Rattle.pa_region.specs.Aware.{IsAware}
use Rattle.pa_region.specs.Moves.{after_count}
use Rattle.pa_region.specs.Leaves.{CountLeaves, OwnsChange, StatesAreOwns}
use Rattle.pa_quarantine.specs.Filling.{poisoned}
use Rattle.pa_rules.specs.declared.register.Register.TheVariants.{Own, Ref, Freed, Cleared}
use Rattle.pa_rules.specs.Sizes.{HasClass}
use Rattle.pa_cells.specs.declared.handle.Handle.{Handle}
use Rattle.pa_cells.specs.Handles.{SlotsStaySeen}
use Rattle.pa_delay.specs.Queue.{QueueList}
use Rattle.pa_thread_state.specs.Changes.{LetsGo, IsBack}
use Rattle.pa_thread_state.specs.Homing.{GoesHome}
use Rattle.pa_thread_state.proofs.Freeing.{freed_view}
use Rattle.pa_thread_state.proofs.Looking.{seen_at}
use Rattle.pa_op_specs.specs.Stocks.{StockRegister, StockValue, IsStock, register_in}
use Rattle.pa_op_specs.specs.Workers.{HasItsStake}
use Rattle.pa_op_specs.proofs.Quiet.{touched_apart}
use Rattle.pa_heap.specs.Waiting.{HoldsQueue, DoesDelayed}
use Rattle.pa_heap.specs.Leaving.{WaitsBehind, ComesAtOnce, IsDelayed, CanComeBehind}
use Rattle.pa_heap.proofs.Beside.{holds_on}
use Rattle.pa_heap.proofs.Returned.{HasReturned}
use Rattle.pa_heap.proofs.Settling.{home_delays}
use Rattle.pa_heap.proofs.Playing.{reset_returned, free_returned}
use Rattle.pa_heap.proofs.Queued.{holds_more}
use Rattle.pa_heap.proofs.CameBack.{CameBack, came_back}
use Rattle.pa_heap.proofs.Waited.{waits_does}

-- the queue is at most one slot longer
pub few_wait : (line : ℕ) (h : Handle) (queue rest : QueueList) (mid after : StockValue) → IsDelayed line h queue rest mid after →
    length rest.slots ≤ length queue.slots + 1
few_wait line h queue rest mid after (inl waits) =
    let long = ap length waits.past.parts in
    let a = length-append queue.slots (h ∷ []) in
    let b = length-append waits.gone rest.slots in
    omega arith
few_wait line h queue rest mid after (inr once) = let same = ap (λ (q : QueueList). length q.slots) once.stays in omega arith

-- A step of the op, which found this, returned the handle's slot and left the thread state so.
pub record StepReturned (op : Op) (step : Step) (h : Handle) (seen : Seen) (s mid : StockValue) : Type 0 where
  pub view : View
  pub registers : List StockRegister
  pub returned : HasReturned op step h seen.found.0 s view registers
  pub mid_is : mid ≡ record s { view = view; registers = registers }
  pub seen_is : seen ≡ seen_at h seen.found.0

pub reset_step : CountLeaves → (s mid : StockValue) (r : ℕ) (h : Handle) (seen : Seen) → IsStock s → IsAware s.view →
    HasItsStake s → 0 < s.view.budget → r < 64 →
    register_in s.registers r ≡ Ref h → LetsGo steps.Reset h r Cleared s.view seen s mid → IsReturning steps.Reset seen.found.0 →
    StepReturned (ops.Reset r) steps.Reset h seen s mid
reset_step counts s mid r h seen is aware stake budget below ref gone back = record {
  view = after_count steps.Reset h.title seen.found.0 s.view;
  registers = slice_set s.registers r Cleared;
  returned = reset_returned counts s r seen.found.0 h is aware stake budget below ref gone.found back;
  mid_is = gone.after_is;
  seen_is = ap (λ n. record seen { slot = n }) gone.slot;
}

pub free_step : CountLeaves → OwnsChange → StatesAreOwns → (s mid : StockValue) (r : ℕ) (h : Handle) (seen : Seen) → IsStock s →
    IsAware s.view → HasItsStake s → 0 < s.view.budget → r < 64 →
    register_in s.registers r ≡ Own h → LetsGo steps.Free h r Freed (poisoned h.title s.view) seen s mid →
    IsReturning steps.Free seen.found.0 → StepReturned (ops.Free r) steps.Free h seen s mid
free_step counts owns states s mid r h seen is aware stake budget below own gone back = record {
  view = freed_view s.view h.title seen.found.0;
  registers = slice_set s.registers r Freed;
  returned = free_returned counts owns states s r seen.found.0 h is aware stake budget below own gone.found back;
  mid_is = gone.after_is;
  seen_is = ap (λ n. record seen { slot = n }) gone.slot;
}

module _ (stays : SlotsStaySeen) (op : Op) (step : Step) (h : Handle) (seen : Seen) (s mid : StockValue) (queue : QueueList)
    (it : StepReturned op step h seen s mid) (holds : HoldsQueue queue.slots s) where
  abbrev stepped : StockValue
  stepped = record s { view = it.view; registers = it.registers }

  -- after the step the queue's slots can wait still, and the slot comes behind them
  pub behind_holds : HoldsQueue queue.slots mid
  behind_holds = subst (λ (z : StockValue). HoldsQueue queue.slots z) (sym it.mid_is)
      (holds_on stays queue.slots s stepped holds refl
      (λ k. ([], ap (list_among k) it.returned.touched.lists ∙ sym (append-nil (list_of k s.view))))
      (touched_apart s it.view it.registers s.caches (Counted h.title step seen.found.0 0 ∷ []) it.returned.touched (λ t alone. alone.off)))

  pub behind_can : IsBack h mid → length queue.slots < queue.room → CanComeBehind h queue mid
  behind_can back room = record {
    back = back;
    room = room;
    new = λ g among same. it.returned.held (subst (λ t. 0 < free_of s.view t) same (holds.each g among).apart.free);
  }

  module _ (line : ℕ) (after : StockValue) (rest : QueueList) (sound : IsStock s) (still : IsStock mid) (aware : IsAware mid.view)
      (stake : HasItsStake mid) (words : ℕ) (well : IsWellFormed words h.title) (back : IsBack h mid)
      (room : length queue.slots < queue.room) where
    by_queue : WaitsBehind line h queue rest mid after → DoesDelayed line op (answers.Done (seen_at h seen.found.0)) s queue after rest
    by_queue waits =
        let held : HoldsQueue (queue.slots ++ h ∷ []) mid =
        holds_more h queue mid words waits.class (behind_can back room) well waits.class_is waits.real behind_holds in
        waits_does op step h waits.class seen.found.0 line s after it.view it.registers queue rest waits.gone stays sound it.returned
        waits.class_is holds
        (subst (λ (z : StockValue). HoldsQueue (queue.slots ++ h ∷ []) z) it.mid_is held) waits.past
        (subst (λ (z : StockValue). CameBack line waits.gone rest.slots z after) it.mid_is
        (came_back stays line waits.gone rest.slots mid after still aware stake
        (subst (λ hs. HoldsQueue hs mid) waits.past.parts held) waits.back))

    -- a slot of no class of the version went home
    goes_home : ComesAtOnce line h queue rest mid after → GoesHome line h mid after
    goes_home once = elim once.back.brought [
      | inl (class, class_is, real, room, front) ↦ absurd (once.none class class_is real)
      | inr (root, settled) ↦ elim settled [
        | inl (bare, home) ↦ home
        | inr (class, class_is, real, some, spills) ↦ absurd (once.none class class_is real)
      ]
    ]

    at_once : ComesAtOnce line h queue rest mid after → DoesDelayed line op (answers.Done (seen_at h seen.found.0)) s queue after rest
    at_once once =
        subst (λ (q : QueueList). DoesDelayed line op (answers.Done (seen_at h seen.found.0)) s queue after q) (sym once.stays)
        (home_delays stays op step h seen.found.0 line s after it.view it.registers sound it.returned
        (subst (λ (z : StockValue). GoesHome line h z after) it.mid_is (goes_home once))
        (λ class class_is real. once.none class class_is
        (subst (λ (z : StockValue). HasClass z.caches.version class) (sym it.mid_is) real))
        queue holds)

    -- whichever it did, the op does what it should
    pub delays_does : IsDelayed line h queue rest mid after → DoesDelayed line op (answers.Done seen) s queue after rest
    delays_does delayed =
        subst (λ x. DoesDelayed line op (answers.Done x) s queue after rest) (sym it.seen_is)
        (elim delayed [ inl waits ↦ by_queue waits | inr once ↦ at_once once ])
