-- A copy of a handle: what it says.
use Rattle.std.proofs.Common.{Bool, true, false, ◌≡◌, ℕ, ◌<◌, [], ◌∷◌, length, Some, refl, sym, ◌∙◌, ap, subst, arith, inl, inr}
use Rattle.std.specs.Prelude.{slice_set}
use Rattle.std.proofs.lemmas.Bool.{true≢false}
use Rattle.pa_slot.specs.declared.word.Step.TheVariants as steps
use Rattle.pa_trace.specs.declared.script.Op.TheVariants as ops
use Rattle.pa_record.specs.declared.entry.Seen.{Seen}
use Rattle.pa_record.specs.declared.entry.Answer.{Answer}
use Rattle.pa_record.specs.declared.entry.Answer.TheVariants as answers
use Rattle.pa_record.specs.Spans.{name_of}
use Rattle.pa_region.specs.declared.view.Entry.TheVariants.{Counted}
use Rattle.pa_region.specs.Moves.{IsFound, after_count}
use Rattle.pa_region.specs.Leaves.{CountLeaves}
use Rattle.pa_region.specs.Aware.{IsAware}
use Rattle.pa_rules.specs.Played.{mark_at}
use Rattle.pa_rules.specs.declared.register.Register.TheVariants as reg
use Rattle.pa_rules.specs.Registers.{Facts, Regs, with, Becomes, CopyRow, CopyToRow}
use Rattle.pa_rules.specs.Nexts.{HasSomeHandle, is_owner}
use Rattle.pa_rules.proofs.Nexts.{copy_filled}
use Rattle.pa_cells.specs.declared.handle.Handle.{Handle}
use Rattle.pa_rules.specs.declared.register.Register.TheVariants.{Empty, Own, Ref, Freed, Cleared}
use Rattle.pa_op_specs.specs.Stocks.{StockRegister, StockValue, IsStock, HasHandleTo, HasNoHandle, register_in, as_reg, regs_of, rules_at}
use Rattle.pa_op_specs.specs.Outcomes.{Outcome, row_facts}
use Rattle.pa_op_specs.specs.Workers.{HasItsStake}
use Rattle.pa_op_specs.specs.Plays.{DoesOp}
use Rattle.pa_thread_state.specs.Changes.{PointsTo}
use Rattle.pa_op_specs.proofs.Registers.{regs_set}
use Rattle.pa_op_specs.proofs.Seeing.{IsSlotIn, made_kept, slot_in_run, plain_in_run, home_of}
use Rattle.pa_op_specs.proofs.Stakes.{least_is}
use Rattle.pa_thread_state.proofs.Leaving.{user_not_free, touched_count}
use Rattle.pa_op_specs.proofs.Stocks.{register_has}
use Rattle.pa_op_specs.specs.Owing.{bytes_in}
use Rattle.pa_op_specs.proofs.Owing.{owes_done}
use Rattle.pa_op_specs.proofs.Quiet.{quiet_does}
use Rattle.pa_op_specs.proofs.Refusing.{plain_does}
use Rattle.pa_thread_state.proofs.Copying.{IsCounted, can_copy, copied}

-- the row of a copy from a register with a handle, if the second one's row is met whether the copy would be counted or not
copy_row : (r : StockRegister) (h : Handle) (facts : Facts) (regs : Regs) (to : ℕ) (answer : Answer) (after : Regs) → HasHandleTo h r →
    ((plain : Bool) → CopyToRow (regs to) plain (name_of h.title) regs to answer after) → CopyRow (as_reg r) facts regs to answer after
copy_row r h facts regs to answer after (inl own) row =
    subst (λ x. CopyRow (as_reg x) facts regs to answer after) (sym own) (row (facts.plain_at (name_of h.title)))
copy_row r h facts regs to answer after (inr ref) row =
    subst (λ x. CopyRow (as_reg x) facts regs to answer after) (sym ref) (row false)

-- the row of a copy that is counted, in a run that fits
counted_row : (o : Outcome) (s : StockValue) (h : Handle) (from to : ℕ) (answer : Answer) (after : Regs) →
    rules_at s ≡ o.rules → IsSlotIn o h → HasHandleTo h (register_in s.registers from) → IsCounted s from h →
    CopyToRow (regs_of s.registers to) false (name_of h.title) (regs_of s.registers) to answer after →
    CopyRow (regs_of s.registers from) (row_facts o) (regs_of s.registers) to answer after
counted_row o s h from to answer after rules slot (inl own) counted row =
    subst (λ x. CopyRow (as_reg x) (row_facts o) (regs_of s.registers) to answer after) (sym own)
    (subst (λ (b : Bool). CopyToRow (regs_of s.registers to) b (name_of h.title) (regs_of s.registers) to answer after)
    (sym (plain_in_run o s h rules slot ∙ counted own)) row)
counted_row o s h from to answer after rules slot (inr ref) counted row =
    subst (λ x. CopyRow (as_reg x) (row_facts o) (regs_of s.registers) to answer after) (sym ref) row

copy_to_row : (r : StockRegister) (h : Handle) (word : ℕ) (regs : Regs) (to : ℕ) (after : Regs) → HasNoHandle r →
    Becomes after (with regs to (reg.Ref (name_of h.title))) →
    CopyToRow (as_reg r) false (name_of h.title) regs to (answers.Done (record { slot = name_of h.title; found = record { 0 = word } }))
    after
copy_to_row Empty h word regs to after bare becomes = (record { slot = name_of h.title; found = record { 0 = word } }, refl, refl, becomes)
copy_to_row (Own g) h word regs to after bare becomes = absurd bare
copy_to_row (Ref g) h word regs to after bare becomes = absurd bare
copy_to_row Freed h word regs to after bare becomes = (record { slot = name_of h.title; found = record { 0 = word } }, refl, refl, becomes)
copy_to_row Cleared h word regs to after bare becomes =
    (record { slot = name_of h.title; found = record { 0 = word } }, refl, refl, becomes)

-- these answers say that the copy was counted, or that the second register was filled
done_counts : (seen : Seen) → answers.Done seen ≡ answers.Uncounted → ⊥
done_counts seen e = cc

filled_counts : answers.Filled ≡ answers.Uncounted → ⊥
filled_counts e = cc

-- the bytes of a register's slot are those of its handle
handle_bytes : (r : StockRegister) (h : Handle) → HasHandleTo h r → bytes_in r ≡ h.title.len
handle_bytes r h (inl own) = ap bytes_in own
handle_bytes r h (inr ref) = ap bytes_in ref

-- the op does what it should
pub copied_does : CountLeaves → (s : StockValue) (from to word : ℕ) (h : Handle) → IsStock s → IsAware s.view →
    HasItsStake s → 0 < s.view.budget →
    from < 64 → to < 64 → HasHandleTo h (register_in s.registers from) → HasNoHandle (register_in s.registers to) →
    IsCounted s from h → IsFound h.title word s.view → (line : ℕ) →
    DoesOp line (ops.Copy from to) (answers.Done (record { slot = name_of h.title; found = record { 0 = word } })) s (copied s h to word)
copied_does counts s from to word h is aware stake budget below within has bare counted found =
    let t = h.title in
    let w = after_count steps.Copy t word s.view in
    let can = can_copy s from h is aware stake budget below has counted in
    let knows = register_has s from h is below has in
    let inside : to < length s.registers = let n = is.handles.count in omega arith in
    let seen : Seen = record { slot = name_of t; found = record { 0 = word } } in
    quiet_does s w (slice_set s.registers to (Ref h)) (ops.Copy from to) (answers.Done seen) (Counted t steps.Copy word 0 ∷ []) is.lists
    (touched_count counts s.thread steps.Copy t word s.view refl can found (least_is s.thread s.view is.stake stake).0
    (user_not_free s.view t aware knows.0))
    (record { room = λ j e. cc; no_swap = λ j e. cc; cells = λ list x none. none })
    (owes_done s.registers (ops.Copy from to) seen t.len (Counted t steps.Copy word 0 ∷ []) ([], tt, refl)
    (handle_bytes (register_in s.registers from) h has)) (λ refused. absurd refused)
    (λ line phase o run rules sees.
    let slot = slot_in_run o w h run sees (made_kept h s.view w refl knows.1) in
    record {
      told = ([], tt, ap (λ u. Counted u steps.Copy word 0 ∷ []) (sym slot.title));
      row = counted_row o s h from to (answers.Done seen) (regs_of (slice_set s.registers to (Ref h))) rules slot has counted
          (copy_to_row (register_in s.registers to) h word (regs_of s.registers) to (regs_of (slice_set s.registers to (Ref h))) bare
          (λ k. regs_set s.registers to (Ref h) k inside));
      reader = λ n own e. absurd (done_counts seen e);
      home = λ m e. (h.partition, home_of o h.partition (mark_at line seen (Some steps.Copy)) m e slot.size);
    })
    (λ line phase o none same. inr (λ z. z, none, same))

pub point_does : CountLeaves → (s after : StockValue) (from to : ℕ) (h : Handle) (seen : Seen) → IsStock s → IsAware s.view →
    HasItsStake s → 0 < s.view.budget →
    from < 64 → to < 64 → HasHandleTo h (register_in s.registers from) → HasNoHandle (register_in s.registers to) →
    IsCounted s from h → PointsTo h to seen s after → (line : ℕ) →
    DoesOp line (ops.Copy from to) (answers.Done seen) s after
point_does counts s after from to h seen is aware stake budget below within has bare counted points line =
    let e : seen ≡ record { slot = name_of h.title; found = record { 0 = seen.found.0 } } =
    ap (λ n. record seen { slot = n }) points.slot in
    subst (λ x. DoesOp line (ops.Copy from to) (answers.Done x) s after) (sym e)
    (subst (DoesOp line (ops.Copy from to) (answers.Done (record { slot = name_of h.title; found = record { 0 = seen.found.0 } })) s)
    (sym points.after_is)
    (copied_does counts s from to seen.found.0 h is aware stake budget below within has bare counted points.found line))

-- an owner whose handle this is
pub owner_has : (r : StockRegister) (h : Handle) → HasHandleTo h r → is_owner r ≡ true → r ≡ Own h
owner_has r h (inl own) owner = own
owner_has r h (inr ref) owner = absurd (true≢false (sym owner ∙ ap is_owner ref))

-- a copy of a register that isn't an owner is counted
pub other_counts : (s : StockValue) (from : ℕ) (h : Handle) → is_owner (register_in s.registers from) ≡ false → IsCounted s from h
other_counts s from h other own = absurd (true≢false (sym (ap is_owner own) ∙ other))

-- a copy to a register that has a handle answers `filled` and leaves the thread state as it is
pub copy_fills : (s : StockValue) (from to : ℕ) (h : Handle) → IsStock s → HasHandleTo h (register_in s.registers from) →
    HasSomeHandle (register_in s.registers to) →
    (line : ℕ) → DoesOp line (ops.Copy from to) answers.Filled s s
copy_fills s from to h is has some =
    plain_does s (ops.Copy from to) answers.Filled is tt tt
    (λ o run rules sees.
    copy_row (register_in s.registers from) h (row_facts o) (regs_of s.registers) to answers.Filled (regs_of s.registers) has
    (λ plain.
    copy_filled (λ (x : Handle). name_of x.title) (register_in s.registers to) plain (name_of h.title) (regs_of s.registers) to some))
    (λ o line phase run sees n own e. absurd (filled_counts e))
