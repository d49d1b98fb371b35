-- A write by the owner, after a look that finds no raw_ptr: what it says.
use Rattle.std.proofs.Common.{◌≡◌, ℕ, ◌+◌, ◌<◌, true, ◌&&◌, ◌||◌, [], ◌∷◌, length, Some, refl, sym, ◌∙◌, ap, subst, arith, inl, inr}
use Rattle.std.specs.Prelude.{◌==◌}
use Rattle.std.proofs.lemmas.Bool.{eq-eqb}
use Rattle.pa_slot.specs.declared.title.OwnState.TheVariants.{Clean}
use Rattle.pa_slot.specs.declared.word.Step.TheVariants as steps
use Rattle.pa_slot.specs.Count.{CanStep, number_of, refs_of}
use Rattle.pa_slot.specs.Holdings.{one}
use Rattle.pa_slot.specs.Titles.{same_title, IsWellFormed, content_count}
use Rattle.pa_trace.specs.declared.script.Op.TheVariants as ops
use Rattle.pa_record.specs.declared.entry.Seen.{Seen}
use Rattle.pa_record.specs.declared.entry.Answer.TheVariants as answers
use Rattle.pa_record.specs.Spans.{name_of}
use Rattle.pa_region.specs.declared.view.Entry.TheVariants.{Counted, Looked}
use Rattle.pa_region.specs.declared.view.OwnTitle.{OwnTitle}
use Rattle.pa_region.specs.Views.{free_of, seen_of}
use Rattle.pa_region.specs.Moves.{IsFound, after_look, value_of, idle_if}
use Rattle.pa_region.specs.Leaves.{CountLeaves, LookLeaves, OwnsChange, StatesAreOwns, FilledWords}
use Rattle.pa_region.specs.Aware.{IsAware}
use Rattle.pa_rules.specs.Played.{mark_at}
use Rattle.pa_rules.specs.Registers.{Regs, WriteRow}
use Rattle.pa_logs.specs.Touches.{title_of}
use Rattle.pa_quarantine.specs.Filling.{filled}
use Rattle.pa_cells.specs.declared.handle.Handle.{Handle}
use Rattle.pa_rules.specs.declared.register.Register.TheVariants.{Own}
use Rattle.pa_op_specs.specs.Stocks.{StockRegister, StockValue, IsStock, register_in, as_reg, regs_of}
use Rattle.pa_op_specs.specs.Workers.{HasItsStake}
use Rattle.pa_thread_state.specs.Changes.{CanFill, LooksAtSlot, WritesTo}
use Rattle.pa_op_specs.specs.Plays.{DoesOp}
use Rattle.pa_op_specs.proofs.Seeing.{made_kept, slot_in_run, home_of, now_seen}
use Rattle.pa_op_specs.proofs.Touching.{Touched, touched_entry, touched_both}
use Rattle.pa_op_specs.proofs.Stakes.{least_is}
use Rattle.pa_thread_state.proofs.Leaving.{clean_own, user_not_free, touched_look}
use Rattle.pa_op_specs.proofs.Stocks.{register_has, register_owns}
use Rattle.pa_thread_state.proofs.Looking.{seen_at, looked_stock, looked_stake}
use Rattle.pa_heap.proofs.Looking.{looked_does}
use Rattle.pa_op_specs.specs.Owing.{bytes_in}
use Rattle.pa_op_specs.proofs.Owing.{owes_done}
use Rattle.pa_op_specs.proofs.Quiet.{quiet_does}
use Rattle.pa_thread_state.proofs.Writing.{can_tell, filled_stock, filled_view}

-- an owner may write if a look found no raw_ptr
pub can_fill : LookLeaves → OwnsChange → (s : StockValue) (reg word : ℕ) (h : Handle) → IsStock s → HasItsStake s → reg < 64 →
    register_in s.registers reg ≡ Own h → refs_of word ≡ 0 → CanFill h (record s { view = after_look h.title word s.view })
can_fill looks owns s reg word h is stake below own none =
    let t = h.title in
    let has = register_owns s reg h is below own in
    let least = least_is s.thread s.view is.stake stake in
    let same = (looks t word s.view least.1).0.states t Clean in
    let clean = clean_own s.view t is.handles.clean in
    let first = owns.0 t (idle_if word) s.view.owns has in
    let a = first.1.replaced (λ (o : OwnTitle). one (same_title o.title t && (o.idle || o.sealed))) in
    let b = first.1.within (λ (o : OwnTitle). one (same_title o.title t && (o.idle || o.sealed))) in
    let z : (refs_of word == 0) ≡ true = eq-eqb (refs_of word) 0 none in
    let c : one (same_title (idle_if word first.0).title t && ((idle_if word first.0).idle || (idle_if word first.0).sealed)) ≡ 1 =
    rw z (rw first.1.is_own refl) in
    (omega arith, omega arith)

-- what the step leaves, of the view before the stores
touched_fill : CountLeaves → OwnsChange → StatesAreOwns → FilledWords → (n : ℕ) (s : StockValue) (value word : ℕ) (h : Handle) → IsStock s →
    HasItsStake s → 0 < s.view.budget →
    IsWellFormed n h.title → length s.view.words ≡ n → CanFill h s → IsFound h.title word (filled h.title value s.view) →
    (0 < free_of s.view h.title → ⊥) →
    Touched s.thread (Counted h.title steps.Write word value ∷ []) s.view (filled_view s.view h.title value word)
touched_fill counts owns states fills n s value word h is stake budget well long can found held =
    let t = h.title in
    let v = filled t value s.view in
    let w = filled_view s.view t value word in
    let leaves = counts steps.Write t word v (can_tell states owns fills n s value h is stake budget well long can) in
    let l = leaves.entry in
    let a = well.start_aligned in let b = well.len_aligned in let c = well.long in let d = well.inside in
    let e : value_of steps.Write t v ≡ value = (fills value t (content_count t) s.view.words).0 0 (omega arith) (omega arith) in
    subst (λ m. Touched s.thread (Counted t steps.Write word m ∷ []) s.view w) e
    (touched_entry s.thread (number_of word + 1) (Counted t steps.Write word (value_of steps.Write t v)) t s.view w
    (record { logs = l.logs; least = l.least; log = l.log; other_logs = l.other_logs; last = l.last; stakes = l.stakes })
    (least_is s.thread s.view is.stake stake).0 leaves.lists leaves.seen held (λ u. let x = leaves.frees u in omega arith)
    (found.not_older, now_seen t (number_of word + 1) (seen_of w t) (seen_of s.view t) (leaves.seen t)))

write_row : (r : StockRegister) (h : Handle) (word : ℕ) (regs : Regs) → r ≡ Own h → refs_of word ≡ 0 →
    WriteRow (as_reg r) regs (answers.Done (seen_at h word)) regs
write_row r h word regs own none =
    subst (λ x. WriteRow (as_reg x) regs (answers.Done (seen_at h word)) regs) (sym own) (seen_at h word, refl, λ k. refl, inr (none, refl))

-- The write does what it should: `first` is the word of the look.
pub filled_does : CountLeaves → LookLeaves → OwnsChange → StatesAreOwns → FilledWords →
    (n : ℕ) (s : StockValue) (reg value first word : ℕ) (h : Handle) → IsStock s → IsAware s.view →
    HasItsStake s → 0 < s.view.budget → reg < 64 → register_in s.registers reg ≡ Own h → IsWellFormed n h.title →
    length s.view.words ≡ n → refs_of first ≡ 0 →
    IsFound h.title first s.view → CanStep steps.Write word →
    IsFound h.title word (filled h.title value (after_look h.title first s.view)) → (line : ℕ) →
    DoesOp line (ops.Write reg value) (answers.Done (seen_at h word)) s
    (filled_stock (record s { view = after_look h.title first s.view }) h value word)
filled_does counts looks owns states fills n s reg value first word h is aware stake budget below own well long none found can again =
    let t = h.title in
    let u = after_look t first s.view in
    let w = filled_view u t value word in
    let least = least_is s.thread s.view is.stake stake in
    let knows = register_has s reg h is below (inl own) in
    let held = user_not_free s.view t aware knows.0 in
    let one_look = touched_look looks s.thread t first s.view least.1 found least.0 held in
    let there = looked_stock looks owns s first h is stake in
    let fill = can_fill looks owns s reg first h is stake below own none in
    let frees = ((looks t first s.view least.1).0).frees t in
    let step = touched_fill counts owns states fills n (record s { view = u }) value word h there
    (looked_stake looks s first h is stake) budget well long fill again
    (λ free. held (let e = frees in omega arith)) in
    quiet_does s w s.registers (ops.Write reg value) (answers.Done (seen_at h word))
    (Looked t first ∷ Counted t steps.Write word value ∷ []) is.lists
    (touched_both s.thread (Looked t first) (Counted t steps.Write word value) s.view u w one_look step)
    (record { room = λ j e. cc; no_swap = λ j e. cc; cells = λ list x empty. empty })
    (owes_done s.registers (ops.Write reg value) (seen_at h word) t.len (Looked t first ∷ Counted t steps.Write word value ∷ [])
    (Looked t first ∷ [], ((first, refl), tt), refl) (ap bytes_in own)) (λ refused. absurd refused)
    (λ line phase o run rules sees.
    let slot = slot_in_run o w h run sees (made_kept h s.view w refl knows.1) in
    record {
      told = (
        Looked (title_of o.sizes (name_of t)) first ∷ [],
        ((first, refl), tt),
        ap (λ x. Looked x first ∷ Counted x steps.Write word value ∷ []) (sym slot.title),
      );
      row = write_row (register_in s.registers reg) h word (regs_of s.registers) own can.0.1;
      reader = tt;
      home = λ m e. (h.partition, home_of o h.partition (mark_at line (seen_at h word) (Some steps.Write)) m e slot.size);
    })
    (λ line phase o no_acts same. inr (λ z. z, no_acts, same))

-- what was seen is what a step or a look at the handle's slot found
seen_is : (h : Handle) (seen : Seen) → seen.slot ≡ name_of h.title → seen ≡ seen_at h seen.found.0
seen_is h seen e = ap (λ n. record seen { slot = n }) e

-- a write to an Own at whose slot a look found a Ref counted did its op, which answers `shared`
pub shared_does : LookLeaves → (s after : StockValue) (reg value : ℕ) (h : Handle) (seen : Seen) → IsStock s →
    IsAware s.view → HasItsStake s → reg < 64 →
    register_in s.registers reg ≡ Own h → LooksAtSlot h seen s after → 0 < refs_of seen.found.0 → (line : ℕ) →
    DoesOp line (ops.Write reg value) (answers.Shared seen) s after
shared_does looks s after reg value h seen is aware stake below own at some line =
    subst (DoesOp line (ops.Write reg value) (answers.Shared seen) s) (sym at.after_is)
    (looked_does looks s (ops.Write reg value) (answers.Shared seen) reg seen.found.0 h is aware stake below (inl own) at.found tt
    (seen_is h seen at.slot)
    (λ o. subst (λ x. WriteRow (as_reg x) (regs_of s.registers) (answers.Shared seen) (regs_of s.registers)) (sym own)
    (seen, at.slot, λ k. refl, inl (some, refl)))
    (λ o line phase. tt) line)

pub written_does : CountLeaves → LookLeaves → OwnsChange → StatesAreOwns → FilledWords
    → (n : ℕ) (s middle after : StockValue) (reg value : ℕ) (h : Handle) (first seen : Seen) → IsStock s → IsAware s.view →
    HasItsStake s → 0 < s.view.budget → reg < 64 → register_in s.registers reg ≡ Own h → IsWellFormed n h.title →
    length s.view.words ≡ n → refs_of first.found.0 ≡ 0 →
    LooksAtSlot h first s middle → WritesTo h value seen middle after → (line : ℕ) →
    DoesOp line (ops.Write reg value) (answers.Done seen) s after
written_does counts looks owns states fills n s middle after reg value h first seen is aware stake budget below own well long none
    at writes line =
    let m = at.after_is in
    let t = h.title in
    subst (λ x. DoesOp line (ops.Write reg value) (answers.Done x) s after) (sym (seen_is h seen writes.slot))
    (subst (DoesOp line (ops.Write reg value) (answers.Done (seen_at h seen.found.0)) s)
    (sym (writes.after_is ∙ ap (λ (z : StockValue). filled_stock z h value seen.found.0) m))
    (filled_does counts looks owns states fills n s reg value first.found.0 seen.found.0 h is aware stake budget below own well long none
    at.found writes.enabled
    (subst (λ (z : StockValue). IsFound t seen.found.0 (filled t value z.view)) m writes.found) line))
