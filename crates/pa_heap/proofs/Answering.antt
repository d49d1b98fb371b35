-- What a reset or a free says if its slot went to the front of its list.
use Rattle.std.proofs.Common.{◌≡◌, ℕ, ◌+◌, ◌<◌, ◌≤◌, true, List, [], ◌∷◌, length, Some, refl, sym, ◌∙◌, ap, subst, arith, inl, inr}
use Rattle.std.specs.Prelude.{max, slice_set, if◌then◌else◌}
use Rattle.pa_slot.specs.declared.title.Title.{Title}
use Rattle.pa_slot.specs.declared.word.Step.TheVariants as steps
use Rattle.pa_slot.specs.Count.{number_of}
use Rattle.pa_slot.specs.Titles.{same_title}
use Rattle.pa_slot.proofs.Same.{title_tells}
use Rattle.pa_slot.specs.Run.{IsReturning}
use Rattle.pa_buckets.specs.Bands.{limit_of}
use Rattle.pa_trace.specs.declared.script.Op.TheVariants as ops
use Rattle.pa_record.specs.declared.entry.Seen.{Seen}
use Rattle.pa_record.specs.declared.entry.Answer.TheVariants as answers
use Rattle.pa_record.specs.declared.numbered.Numbered.{Numbered}
use Rattle.pa_record.specs.Spans.{name_of}
use Rattle.pa_region.specs.declared.view.Entry.TheVariants.{Counted}
use Rattle.pa_region.specs.declared.view.View.{View}
use Rattle.pa_region.specs.Views.{free_of, seen_of}
use Rattle.pa_region.specs.Moves.{IsFound, after_count}
use Rattle.pa_region.specs.Leaves.{CountLeaves, OwnsChange, StatesAreOwns}
use Rattle.pa_region.specs.Aware.{IsAware}
use Rattle.pa_link.specs.Chains.{Relinked}
use Rattle.pa_quarantine.specs.Filling.{poisoned}
use Rattle.pa_rules.specs.declared.played.Played.{Played}
use Rattle.pa_rules.specs.Played.{mark_at}
use Rattle.pa_rules.specs.Roots.{Journals}
use Rattle.pa_rules.specs.Caches.{SameLists, OnlyActs, NoActs, IsOfClass, ReturnRow, with_list, gives}
use Rattle.pa_cells.specs.declared.handle.Handle.{Handle}
use Rattle.pa_root.specs.Handing.{at_number_seen}
use Rattle.pa_rules.specs.declared.register.Register.TheVariants.{Own, Ref, Freed, Cleared}
use Rattle.pa_rules.specs.Sizes.{HasClass}
use Rattle.pa_op_specs.specs.Stocks.{StockRegister, StockValue, IsStock, register_in, regs_of, titles_in, listed_in}
use Rattle.pa_op_specs.specs.Workers.{HasItsStake}
use Rattle.pa_thread_state.specs.Changes.{LetsGo, IsPut, put_in_front}
use Rattle.pa_op_specs.specs.Plays.{DoesOp}
use Rattle.pa_op_specs.proofs.Registers.{regs_set}
use Rattle.pa_op_specs.proofs.Seeing.{made_kept, slot_in_run, home_of}
use Rattle.pa_op_specs.proofs.Stakes.{least_is}
use Rattle.pa_thread_state.proofs.Leaving.{user_not_free, touched_count}
use Rattle.pa_op_specs.proofs.Stocks.{register_has}
use Rattle.pa_thread_state.proofs.Looking.{seen_at}
use Rattle.pa_op_specs.specs.Owing.{bytes_in}
use Rattle.pa_op_specs.proofs.Owing.{owes_done}
use Rattle.pa_op_specs.proofs.Quiet.{quiet_record, touched_apart, touched_does}
use Rattle.pa_thread_state.proofs.Resetting.{can_reset, cleared}
use Rattle.pa_heap.proofs.Resetting.{reset_row}
use Rattle.pa_thread_state.proofs.Freeing.{can_step, freed, freed_view}
use Rattle.pa_heap.proofs.Freeing.{free_row, touched_free}
use Rattle.pa_heap.proofs.Relinking.{touched_relinked}
use Rattle.pa_heap.proofs.Apart.{front_off}
use Rattle.pa_heap.proofs.Returning.{stays_whole, front_lists}
use Rattle.pa_lists.proofs.Elements.{length_map}

-- The row of a slot that went to the front of its list, which had room: nothing was given back.
pub returned_row : (s : StockValue) (w : View) (rs : List StockRegister) (roots : Journals) (x : Played) (h : Handle) (c n : ℕ) →
    IsStock s → h.partition < 4 → HasClass s.caches.version c →
    ((u : Title) → 0 < free_of s.view u → seen_of w u ≡ seen_of s.view u) → seen_of w h.title ≡ n →
    IsOfClass roots (name_of h.title) h.partition c → NoActs roots x.line → length (titles_in s.caches h.partition c) < limit_of c →
    ReturnRow roots x (record { slot = name_of h.title; number = n }) (listed_in s)
    (listed_in (record s { view = w; registers = rs; caches = put_in_front h.partition c h.title s.caches }))
returned_row s w rs roots x h c n is low small numbers seen of none room =
    let front : Numbered = record { slot = name_of h.title; number = n } in
    let xs = listed_in s h.partition c in
    let long : length (listed_in s h.partition c) ≡ length (titles_in s.caches h.partition c) =
    length_map (at_number_seen s.view) (titles_in s.caches h.partition c) in
    let few : length (front ∷ listed_in s h.partition c) ≤ limit_of c = omega arith in
    let whole = stays_whole c (front ∷ xs) few in
    inl (
      h.partition,
      c,
      of,
      subst (λ ys. OnlyActs roots x.line h.partition (gives ys)) (sym whole.1) (none h.partition, λ q other. none q),
      subst (λ ys. SameLists (listed_in (record s { view = w; registers = rs; caches = put_in_front h.partition c h.title s.caches }))
          (with_list (listed_in s) h.partition c ys)) (sym whole.0)
          (front_lists s w rs h.partition c n h.title is low small numbers seen),
    )

-- the step number that a step left, if the number that was seen of the title before wasn't newer than what the step found
pub seen_left : (t : Title) (n m k : ℕ) → k ≤ n → m ≡ (if same_title t t then max (n + 1) k else k) → m ≡ n + 1
seen_left t n m k older e = elim (title_tells t t) [
  | inl y ↦ (let f : m ≡ max (n + 1) k = rw y.0 at e in omega arith)
  | inr differs ↦ absurd (differs.1 refl)
]

-- A reset that returned the slot, which then went to the front of its list.
pub reset_listed : CountLeaves → (s : StockValue) (r word c : ℕ) (h : Handle) → IsStock s → IsAware s.view →
    HasItsStake s → 0 < s.view.budget → r < 64 →
    register_in s.registers r ≡ Ref h → IsFound h.title word s.view → IsReturning steps.Reset word →
    h.class ≡ Some c → HasClass s.caches.version c →
    length (titles_in s.caches h.partition c) < limit_of c → (w : View) →
    Relinked (after_count steps.Reset h.title word s.view) w → (line : ℕ) →
    DoesOp line (ops.Reset r) (answers.Done (seen_at h word)) s
    (record s { view = w; registers = slice_set s.registers r Cleared; caches = put_in_front h.partition c h.title s.caches })
reset_listed counts s r word c h is aware stake budget below ref found back class small room w re =
    let t = h.title in
    let u = after_count steps.Reset t word s.view in
    let knows = register_has s r h is below (inr ref) in
    let inside : r < length s.registers = let n = is.handles.count in omega arith in
    let can = can_reset s r h is stake budget below ref in
    let touched = touched_relinked s.thread (Counted t steps.Reset word 0 ∷ []) s.view u w re
    (touched_count counts s.thread steps.Reset t word s.view refl can found (least_is s.thread s.view is.stake stake).0
    (user_not_free s.view t aware knows.0)) in
    let rs = slice_set s.registers r Cleared in
    touched_does s w rs (put_in_front h.partition c t s.caches) (ops.Reset r) (answers.Done (seen_at h word))
    (Counted t steps.Reset word 0 ∷ []) refl touched
    (record { room = λ j e. cc; no_swap = λ j e. cc; cells = λ list x none. none })
    (owes_done s.registers (ops.Reset r) (seen_at h word) t.len (Counted t steps.Reset word 0 ∷ []) ([], tt, refl) (ap bytes_in ref))
    (λ refused. absurd refused)
    (touched_apart s w rs (put_in_front h.partition c t s.caches) (Counted t steps.Reset word 0 ∷ []) touched
    (λ x alone. front_off s.caches h.partition c t x knows.1.partition small is.lists.count
    (λ same. user_not_free s.view t aware knows.0 (subst (λ y. 0 < free_of s.view y) (sym same) alone.free)) alone.off))
    (λ line phase o run rules sees.
    let slot = slot_in_run o w h run sees (made_kept h s.view w touched.lists knows.1) in
    record {
      told = ([], tt, ap (λ u. Counted u steps.Reset word 0 ∷ []) (sym slot.title));
      row = reset_row (register_in s.registers r) h (seen_at h word) (regs_of s.registers) r (regs_of rs) ref refl
          (λ k. regs_set s.registers r Cleared k inside);
      reader = tt;
      home = λ m e. (h.partition, home_of o h.partition (mark_at line (seen_at h word) (Some steps.Reset)) m e slot.size);
    })
    (λ line phase o run rules sees none.
    let slot = slot_in_run o w h run sees (made_kept h s.view w touched.lists knows.1) in
    inl (
      back,
      returned_row s w rs o.roots (quiet_record s w line phase (ops.Reset r) (answers.Done (seen_at h word))
          (Counted t steps.Reset word 0 ∷ [])).played h c (number_of word + 1) is knows.1.partition small touched.numbers
          (seen_left t (number_of word) (seen_of w t) (seen_of s.view t) found.not_older
          (ap (λ (v : View). seen_of v t) re.rest ∙ (counts steps.Reset t word s.view can).seen t)) (slot.class c class) none room,
    ))

-- A free that returned the slot, which then went to the front of its list.
pub free_listed : CountLeaves → OwnsChange → StatesAreOwns → (s : StockValue) (r word c : ℕ) (h : Handle) → IsStock s → IsAware s.view →
    HasItsStake s → 0 < s.view.budget → r < 64 →
    register_in s.registers r ≡ Own h → IsFound h.title word (poisoned h.title s.view) → IsReturning steps.Free word →
    h.class ≡ Some c → HasClass s.caches.version c →
    length (titles_in s.caches h.partition c) < limit_of c → (w : View) → Relinked (freed_view s.view h.title word) w → (line : ℕ) →
    DoesOp line (ops.Free r) (answers.Done (seen_at h word)) s
    (record s { view = w; registers = slice_set s.registers r Freed; caches = put_in_front h.partition c h.title s.caches })
free_listed counts owns states s r word c h is aware stake budget below own found back class small room w re =
    let t = h.title in
    let u = freed_view s.view t word in
    let knows = register_has s r h is below (inl own) in
    let inside : r < length s.registers = let n = is.handles.count in omega arith in
    let touched = touched_relinked s.thread (Counted t steps.Free word 0 ∷ []) s.view u w re
    (touched_free counts owns states s r word h is stake budget below own found (user_not_free s.view t aware knows.0)) in
    let can = can_step states owns s r h is stake budget below own in
    let rs = slice_set s.registers r Freed in
    touched_does s w rs (put_in_front h.partition c t s.caches) (ops.Free r) (answers.Done (seen_at h word))
    (Counted t steps.Free word 0 ∷ []) refl touched
    (record { room = λ j e. cc; no_swap = λ j e. cc; cells = λ list x none. none })
    (owes_done s.registers (ops.Free r) (seen_at h word) t.len (Counted t steps.Free word 0 ∷ []) ([], tt, refl) (ap bytes_in own))
    (λ refused. absurd refused)
    (touched_apart s w rs (put_in_front h.partition c t s.caches) (Counted t steps.Free word 0 ∷ []) touched
    (λ x alone. front_off s.caches h.partition c t x knows.1.partition small is.lists.count
    (λ same. user_not_free s.view t aware knows.0 (subst (λ y. 0 < free_of s.view y) (sym same) alone.free)) alone.off))
    (λ line phase o run rules sees.
    let slot = slot_in_run o w h run sees (made_kept h s.view w touched.lists knows.1) in
    record {
      told = ([], tt, ap (λ u. Counted u steps.Free word 0 ∷ []) (sym slot.title));
      row = free_row (register_in s.registers r) h (seen_at h word) (regs_of s.registers) r (regs_of rs) own refl
          (λ k. regs_set s.registers r Freed k inside);
      reader = tt;
      home = λ m e. (h.partition, home_of o h.partition (mark_at line (seen_at h word) (Some steps.Free)) m e slot.size);
    })
    (λ line phase o run rules sees none.
    let slot = slot_in_run o w h run sees (made_kept h s.view w touched.lists knows.1) in
    inl (
      back,
      returned_row s w rs o.roots (quiet_record s w line phase (ops.Free r) (answers.Done (seen_at h word))
          (Counted t steps.Free word 0 ∷ [])).played h c (number_of word + 1) is knows.1.partition small touched.numbers
          (seen_left t (number_of word) (seen_of w t) (seen_of s.view t) found.not_older
          (ap (λ (v : View). seen_of v t) re.rest ∙ (counts steps.Free t word (poisoned t s.view) can).seen t))
          (slot.class c class) none room,
    ))

-- The op that was answered when the slot went to its list.
pub reset_put : CountLeaves → (s mid after : StockValue) (r : ℕ) (h : Handle) (seen : Seen) → IsStock s → IsAware s.view →
    HasItsStake s → 0 < s.view.budget → r < 64 →
    register_in s.registers r ≡ Ref h → LetsGo steps.Reset h r Cleared s.view seen s mid → IsReturning steps.Reset seen.found.0 →
    IsPut true h mid after → (line : ℕ) →
    DoesOp line (ops.Reset r) (answers.Done seen) s after
reset_put counts s mid after r h seen is aware stake budget below ref gone back (c, class, small, room, put) line =
    let e : seen ≡ seen_at h seen.found.0 = ap (λ n. record seen { slot = n }) gone.slot in
    let same : mid ≡ cleared s h r seen.found.0 = gone.after_is in
    subst (λ x. DoesOp line (ops.Reset r) (answers.Done x) s after) (sym e)
    (subst (DoesOp line (ops.Reset r) (answers.Done (seen_at h seen.found.0)) s)
    (sym (put.after_is ∙ ap (λ (z : StockValue). record z { view = after.view; caches = put_in_front h.partition c h.title z.caches })
    same))
    (reset_listed counts s r seen.found.0 c h is aware stake budget below ref gone.found back class
    (subst (λ (z : StockValue). HasClass z.caches.version c) same small)
    (subst (λ (z : StockValue). length (titles_in z.caches h.partition c) < limit_of c) same room) after.view
    (subst (λ (z : StockValue). Relinked z.view after.view) same put.relinked) line))

pub free_put : CountLeaves → OwnsChange → StatesAreOwns → (s mid after : StockValue) (r : ℕ) (h : Handle) (seen : Seen) → IsStock s →
    IsAware s.view → HasItsStake s → 0 < s.view.budget → r < 64 →
    register_in s.registers r ≡ Own h → LetsGo steps.Free h r Freed (poisoned h.title s.view) seen s mid →
    IsReturning steps.Free seen.found.0 → IsPut true h mid after → (line : ℕ) →
    DoesOp line (ops.Free r) (answers.Done seen) s after
free_put counts owns states s mid after r h seen is aware stake budget below own gone back (c, class, small, room, put) line =
    let e : seen ≡ seen_at h seen.found.0 = ap (λ n. record seen { slot = n }) gone.slot in
    let same : mid ≡ freed s h r seen.found.0 = gone.after_is in
    subst (λ x. DoesOp line (ops.Free r) (answers.Done x) s after) (sym e)
    (subst (DoesOp line (ops.Free r) (answers.Done (seen_at h seen.found.0)) s)
    (sym (put.after_is ∙ ap (λ (z : StockValue). record z { view = after.view; caches = put_in_front h.partition c h.title z.caches })
    same))
    (free_listed counts owns states s r seen.found.0 c h is aware stake budget below own gone.found back class
    (subst (λ (z : StockValue). HasClass z.caches.version c) same small)
    (subst (λ (z : StockValue). length (titles_in z.caches h.partition c) < limit_of c) same room) after.view
    (subst (λ (z : StockValue). Relinked z.view after.view) same put.relinked) line))
