-- Ops that leave the player as it is: those that their register alone refuses, and those that find a register full.
use Rattle.std.proofs.Common.{◌≡◌, ℕ, true, false, nat_le, ◌<◌, ◌&&◌, List, length, refl, sym, ap, ◌∙◌, subst, inl}
use Rattle.std.specs.Prelude.{Err}
use Rattle.pa_slot.specs.declared.word.SlotName.{SlotName}
use Rattle.pa_trace.specs.declared.script.Op.TheVariants as ops
use Rattle.pa_trace.specs.declared.script.Line.{Line}
use Rattle.pa_record.specs.declared.entry.Answer.{Answer}
use Rattle.pa_record.specs.declared.entry.Answer.TheVariants as answers
use Rattle.pa_rules.specs.Registers.{Regs, Facts, RequestRow, AllocRow, CopyRow, CopyToRow}
use Rattle.pa_rules.specs.Nexts.{HasSomeHandle, is_owner, copy_next, reset_next, free_next, write_next, read_next}
use Rattle.pa_rules.specs.declared.register.Register.{Register}
use Rattle.pa_rules.specs.declared.register.Register.TheVariants.{Empty, Own, Ref, Freed, Cleared}
use Rattle.pa_rules.specs.declared.register.Next.TheVariants.{Refused}
use Rattle.pa_rules.proofs.Nexts.{copy_refusal, reset_refusal, free_refusal, write_refusal, read_refusal}
use Rattle.pa_rules.proofs.Nexts.{copy_refused, reset_refused, free_refused, write_refused, read_refused}
use Rattle.pa_rules.proofs.Nexts.{alloc_filled as alloc_row_filled, copy_filled as copy_row_filled}
use Rattle.pa_heap_effects.specs.Ops.{KeepsLists}
use Rattle.pa_slot_effects.specs.Known.{facts_shown}
use Rattle.pa_slot_effects.specs.Turns.{TellsNone}
use Rattle.pa_player.specs.declared.table.Slot.{Slot}
use Rattle.pa_player.specs.Player.{Player}
use Rattle.pa_player.specs.Tables.{named_at, Points, HasNone}
use Rattle.pa_player.specs.Playing.{shown, reg_of, register_at, IsPlaying}
use Rattle.pa_player.specs.Changes.{is_uncounted}
use Rattle.pa_player.specs.Plays.{Plays}
use Rattle.pa_player.proofs.Showing.{points_in, at_name}
use Rattle.pa_player.proofs.Quiet.{none_plays, none_plays_by}

-- ---- a copy, a reset, a free, a write or a read that its register alone refuses

pub copy_refuses : (p : Player) (thread from to : ℕ) (answer : Answer) → copy_next (register_at p thread from) ≡ Err answer
    → Plays p thread (ops.Copy from to) p answer
copy_refuses p thread from to answer refused =
    let r = register_at p thread from in
    none_plays p thread (ops.Copy from to) answer (copy_refusal TellsNone r answer refused tt tt)
    (copy_refusal (KeepsLists (ops.Copy from to)) r answer refused tt tt) (λ cell reg e. cc)
    (copy_refused (named_at p.table) r answer (facts_shown (shown p))
    ((shown p).regs thread) to refused)

pub reset_refuses : (p : Player) (thread reg : ℕ) (answer : Answer) → reset_next (register_at p thread reg) ≡ Err answer
    → Plays p thread (ops.Reset reg) p answer
reset_refuses p thread reg answer refused =
    let r = register_at p thread reg in
    none_plays p thread (ops.Reset reg) answer (reset_refusal TellsNone r answer refused tt tt tt)
    (reset_refusal (KeepsLists (ops.Reset reg)) r answer refused tt tt tt) (λ cell i e. cc)
    (reset_refused (named_at p.table) r answer ((shown p).regs thread) reg refused)

pub free_refuses : (p : Player) (thread reg : ℕ) (answer : Answer) → free_next (register_at p thread reg) ≡ Refused answer
    → Plays p thread (ops.Free reg) p answer
free_refuses p thread reg answer refused =
    let r = register_at p thread reg in
    none_plays p thread (ops.Free reg) answer (free_refusal TellsNone r answer refused tt tt tt)
    (free_refusal (KeepsLists (ops.Free reg)) r answer refused tt tt tt) (λ cell i e. cc)
    (free_refused (named_at p.table) r answer ((shown p).regs thread) reg refused)

pub write_refuses : (p : Player) (thread reg value : ℕ) (answer : Answer) → write_next (register_at p thread reg) ≡ Refused answer
    → Plays p thread (ops.Write reg value) p answer
write_refuses p thread reg value answer refused =
    let r = register_at p thread reg in
    none_plays p thread (ops.Write reg value) answer (write_refusal TellsNone r answer refused tt tt)
    (write_refusal (KeepsLists (ops.Write reg value)) r answer refused tt tt) (λ cell i e. cc)
    (write_refused (named_at p.table) r answer ((shown p).regs thread) refused)

pub read_refuses : (p : Player) (thread reg place : ℕ) (answer : Answer) → read_next (register_at p thread reg) ≡ Err answer
    → Plays p thread (ops.Read reg place) p answer
read_refuses p thread reg place answer refused =
    let r = register_at p thread reg in
    none_plays p thread (ops.Read reg place) answer (read_refusal TellsNone r answer refused tt tt)
    (read_refusal (KeepsLists (ops.Read reg place)) r answer refused tt tt) (λ cell i e. cc)
    (read_refused (named_at p.table) r answer (facts_shown (shown p))
    ((shown p).regs thread) place refused)

-- ---- a register that is full

-- a copy of a handle of the slot in a place is as the row of the second register requires
copy_row : (slots : List Slot) (facts : Facts) (x y : Register ℕ) (i : ℕ) (regs : Regs) (to : ℕ) (answer : Answer) → Points x i
    → regs to ≡ reg_of slots y
    → CopyToRow (reg_of slots y) (is_owner x && facts.plain_at (named_at slots i)) (named_at slots i) regs to answer regs
    → CopyRow (reg_of slots x) facts regs to answer regs
copy_row slots facts Empty y i regs to answer points is row = absurd points
copy_row slots facts (Own place) y i regs to answer points is row =
    subst (λ k. CopyToRow (regs to) (facts.plain_at (named_at slots k)) (named_at slots k) regs to answer regs) (sym points)
    (subst (λ z. CopyToRow z (facts.plain_at (named_at slots i)) (named_at slots i) regs to answer regs) (sym is) row)
copy_row slots facts (Ref place) y i regs to answer points is row =
    subst (λ k. CopyToRow (regs to) false (named_at slots k) regs to answer regs) (sym points)
    (subst (λ z. CopyToRow z false (named_at slots i) regs to answer regs) (sym is) row)
copy_row slots facts Freed y i regs to answer points is row = absurd points
copy_row slots facts Cleared y i regs to answer points is row = absurd points

pub copy_filled : (p : Player) (thread from to i : ℕ) → Points (register_at p thread from) i → HasSomeHandle (register_at p thread to)
    → Plays p thread (ops.Copy from to) p answers.Filled
copy_filled p thread from to i points full =
    let facts = facts_shown (shown p) in
    let x = register_at p thread from in
    let y = register_at p thread to in
    let s = named_at p.table i in
    none_plays p thread (ops.Copy from to) answers.Filled tt tt (λ cell reg e. cc)
    (copy_row p.table facts x y i ((shown p).regs thread) to answers.Filled points refl
    (copy_row_filled (named_at p.table) y (is_owner x && facts.plain_at s) s ((shown p).regs thread) to full))

pub alloc_filled : (p : Player) (thread reg partition size : ℕ) → HasSomeHandle (register_at p thread reg)
    → Plays p thread (ops.Alloc reg partition size) p answers.Filled
alloc_filled p thread reg partition size full = none_plays p thread (ops.Alloc reg partition size) answers.Filled tt tt (λ cell r e. cc)
    (alloc_row_filled (named_at p.table) (register_at p thread reg) (facts_shown (shown p))
    ((shown p).regs thread) reg size full)

-- ---- a copy that wouldn't be counted

plain_row : (slots : List Slot) (y : Register ℕ) (s : SlotName) (regs : Regs) (to : ℕ) → HasNone y →
    CopyToRow (reg_of slots y) true s regs to answers.Uncounted regs
plain_row slots Empty s regs to none = (refl, λ k. refl)
plain_row slots (Own place) s regs to none = absurd (none tt)
plain_row slots (Ref place) s regs to none = absurd (none tt)
plain_row slots Freed s regs to none = (refl, λ k. refl)
plain_row slots Cleared s regs to none = (refl, λ k. refl)

-- by its name, the slot in a place is as plain as it is there
pub plain_at_name : (region partitions threads : ℕ) (ls : List Line) (p : Player) (thread from i : ℕ)
    → IsPlaying region partitions threads ls p → Points (register_at p thread from) i
    → (is_owner (register_at p thread from) && (shown p).plain (named_at p.table i))
    ≡ is_uncounted (is_owner (register_at p thread from)) i p
plain_at_name region partitions threads ls p thread from i h points =
    let low = points_in (length p.table) (register_at p thread from) i points (h.shaped.held thread from) in
    ap (λ b. is_owner (register_at p thread from) && b) (at_name (λ z. nat_le p.plain_from z.partition) p.table i h.slots.apart low)

pub copy_uncounted : (p : Player) (thread from to i : ℕ) → Points (register_at p thread from) i → HasNone (register_at p thread to)
    → is_uncounted (is_owner (register_at p thread from)) i p ≡ true → Plays p thread (ops.Copy from to) p answers.Uncounted
copy_uncounted p thread from to i points none plain =
    let facts = facts_shown (shown p) in
    let x = register_at p thread from in
    let y = register_at p thread to in
    let s = named_at p.table i in
    let regs = (shown p).regs thread in
    none_plays_by p thread (ops.Copy from to) answers.Uncounted tt tt (λ cell reg e. cc) (λ region partitions threads ls h.
    let owned : (is_owner x && facts.plain_at s) ≡ true = plain_at_name region partitions threads ls p thread from i h points ∙ plain in
    copy_row p.table facts x y i regs to answers.Uncounted points refl
    (subst (λ b. CopyToRow (reg_of p.table y) b s regs to answers.Uncounted regs) (sym owned) (plain_row p.table y s regs to none)))

-- ---- a request

-- an allocation to a register that has no handle
pub request_row : (slots : List Slot) (x : Register ℕ) (facts : Facts) (regs : Regs) (reg size : ℕ) (answer : Answer) → HasNone x
    → RequestRow facts regs reg size answer regs → AllocRow (reg_of slots x) facts regs reg size answer regs
request_row slots Empty facts regs reg size answer none row = row
request_row slots (Own place) facts regs reg size answer none row = absurd (none tt)
request_row slots (Ref place) facts regs reg size answer none row = absurd (none tt)
request_row slots Freed facts regs reg size answer none row = row
request_row slots Cleared facts regs reg size answer none row = row

pub alloc_too_large : (p : Player) (thread reg partition size : ℕ) → HasNone (register_at p thread reg) → 33521656 < size
    → Plays p thread (ops.Alloc reg partition size) p answers.TooLarge
alloc_too_large p thread reg partition size none large =
    none_plays p thread (ops.Alloc reg partition size) answers.TooLarge tt tt (λ cell r e. cc)
    (request_row p.table (register_at p thread reg) (facts_shown (shown p))
    ((shown p).regs thread) reg size
    answers.TooLarge none (inl (large, refl, λ k. refl)))
