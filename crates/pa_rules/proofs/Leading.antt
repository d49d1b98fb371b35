-- A row changes the registers as the answer says, and a step that was done is of the slot that the register names.
use Rattle.std.proofs.Common.{Bool, true, false, ◌≡◌, ℕ, List, Option, Some, None, refl, sym, ◌∙◌, ap, subst, inl, inr, [], ◌∷◌, ◌++◌}
use Rattle.pa_slot.specs.declared.word.SlotName.{SlotName}
use Rattle.pa_trace.specs.declared.script.Op.{Op}
use Rattle.pa_trace.specs.declared.script.Op.TheVariants as ops
use Rattle.pa_record.specs.declared.entry.Seen.{Seen}
use Rattle.pa_record.specs.declared.entry.Answer.{Answer}
use Rattle.pa_record.specs.declared.entry.Answer.TheVariants.{Made, Done, Value, Dangling, SecondFree, NotOwner, StaleReset, StaleUse, Nothing, Filled, NotRef, Shared, OutOfRange, TooLarge, Full, Swapped, Purged, Uncounted}
use Rattle.pa_record.specs.declared.history.CellEntry.{CellEntry}
use Rattle.pa_lists.proofs.Members.{of_some, not_some}
use Rattle.pa_rules.specs.declared.register.Register.TheVariants.{Empty, Own, Ref, Freed, Cleared}
use Rattle.pa_rules.specs.Registers.{Reg, Regs, Facts, Row, Becomes, with, AllocRow, RequestRow, CopyRow, CopyToRow, PointRow, ResetRow, FreeRow, WriteRow, ReadRow, ReadFromRow, SwapRow, reg_of, AllRegs, RowsTo, with_thread}
use Rattle.pa_rules.specs.Changes.{done_of, found_in, change_of, changed}
use Rattle.pa_rules.specs.declared.played.Played.{Played}

-- the slot that a handle names
abbrev pub slot_in : Reg → Option SlotName
slot_in Empty = None
slot_in (Own s) = Some s
slot_in (Ref s) = Some s
slot_in Freed = None
slot_in Cleared = None

-- the register whose handle an op uses
abbrev pub used_by : Op → ℕ
used_by (ops.Alloc reg partition size) = reg
used_by (ops.Copy from to) = from
used_by (ops.Reset reg) = reg
used_by (ops.Free reg) = reg
used_by (ops.Write reg value) = reg
used_by (ops.Read reg place) = reg
used_by (ops.Swap cell reg) = reg
used_by ops.Purge = 0

-- a row changes the registers so, and a step that was done is of the slot that the register names
pub record Leads (cells : ℕ → List CellEntry) (op : Op) (regs : Regs) (r : Reg) (answer : Answer) (next : Regs) : Type 0 where
  pub registers : Becomes next (changed regs (change_of cells op answer))
  pub done : (seen : Seen) → done_of answer ≡ Some seen → slot_in r ≡ Some seen.slot

-- an answer that is no step
leads : (cells : ℕ → List CellEntry) (op : Op) (regs : Regs) (r : Reg) (answer : Answer) (next : Regs) (a : Answer) → answer ≡ a →
    done_of a ≡ None → Becomes next (changed regs (change_of cells op a)) →
    Leads cells op regs r answer next
leads cells op regs r answer next a is none becomes =
    let P : Answer → Type 0 = λ z. Leads cells op regs r z next in
    let there : P a = record { registers = becomes; done = λ seen e. absurd (not_some seen (sym none ∙ e)) } in
    subst P (sym is) there

-- one that changes no register
stays : (cells : ℕ → List CellEntry) (op : Op) (regs : Regs) (r : Reg) (answer : Answer) (next : Regs) (a : Answer) → answer ≡ a →
    change_of cells op a ≡ None → done_of a ≡ None → Becomes next regs →
    Leads cells op regs r answer next
stays cells op regs r answer next a is same none becomes =
    leads cells op regs r answer next a is none (λ k. becomes k ∙ ap (λ o. changed regs o k) (sym same))

-- one that is a step of the register's slot
steps : (cells : ℕ → List CellEntry) (op : Op) (regs : Regs) (r : Reg) (answer : Answer) (next : Regs) (seen : Seen) (s : SlotName) →
    answer ≡ Done seen → seen.slot ≡ s → slot_in r ≡ Some s →
    Becomes next (changed regs (change_of cells op (Done seen))) → Leads cells op regs r answer next
steps cells op regs r answer next seen s is slot names becomes =
    let P : Answer → Type 0 = λ z. Leads cells op regs r z next in
    let there : P (Done seen) = record {
      registers = becomes;
      done = λ other e. names ∙ ap {B = Option SlotName} Some (sym slot) ∙ ap (λ (o : Seen). Some o.slot) (of_some seen other e);
    } in
    subst P (sym is) there

request_leads : (facts : Facts) (regs : Regs) (r : Reg) (reg partition size : ℕ) (answer : Answer) (next : Regs) →
    RequestRow facts regs reg size answer next →
    Leads facts.cells (ops.Alloc reg partition size) regs r answer next
request_leads facts regs r reg partition size answer next (inl h) =
    stays facts.cells (ops.Alloc reg partition size) regs r answer next TooLarge h.1 refl refl h.2
request_leads facts regs r reg partition size answer next (inr (inl h)) =
    leads facts.cells (ops.Alloc reg partition size) regs r answer next (Made h.1 (facts.usable_of size)) h.2 refl h.3
request_leads facts regs r reg partition size answer next (inr (inr h)) =
    stays facts.cells (ops.Alloc reg partition size) regs r answer next (Full h.1) h.2 refl refl h.3

alloc_leads : (facts : Facts) (r : Reg) (regs : Regs) (reg partition size : ℕ) (answer : Answer) (next : Regs) →
    AllocRow r facts regs reg size answer next →
    Leads facts.cells (ops.Alloc reg partition size) regs r answer next
alloc_leads facts Empty regs reg partition size answer next h = request_leads facts regs Empty reg partition size answer next h
alloc_leads facts (Own s) regs reg partition size answer next h =
    stays facts.cells (ops.Alloc reg partition size) regs (Own s) answer next Filled h.0 refl refl h.1
alloc_leads facts (Ref s) regs reg partition size answer next h =
    stays facts.cells (ops.Alloc reg partition size) regs (Ref s) answer next Filled h.0 refl refl h.1
alloc_leads facts Freed regs reg partition size answer next h = request_leads facts regs Freed reg partition size answer next h
alloc_leads facts Cleared regs reg partition size answer next h = request_leads facts regs Cleared reg partition size answer next h

point_leads : (cells : ℕ → List CellEntry) (r : Reg) (plain : Bool) (s : SlotName) (regs : Regs) (from to : ℕ) (answer : Answer)
    (next : Regs) → slot_in r ≡ Some s → PointRow plain s regs to answer next → Leads cells (ops.Copy from to) regs r answer next
point_leads cells r true s regs from to answer next names h =
    stays cells (ops.Copy from to) regs r answer next Uncounted h.0 refl refl h.1
point_leads cells r false s regs from to answer next names h =
    let P : SlotName → Type 0 = λ t. Becomes next (with regs to (Ref t)) in
    steps cells (ops.Copy from to) regs r answer next h.0 s h.2 h.1 names (subst P (sym h.1) h.3)

copy_to_leads : (cells : ℕ → List CellEntry) (r : Reg) (into : Reg) (plain : Bool) (s : SlotName) (regs : Regs) (from to : ℕ)
    (answer : Answer) (next : Regs) → slot_in r ≡ Some s →
    CopyToRow into plain s regs to answer next → Leads cells (ops.Copy from to) regs r answer next
copy_to_leads cells r Empty plain s regs from to answer next names h = point_leads cells r plain s regs from to answer next names h
copy_to_leads cells r (Own t) plain s regs from to answer next names h =
    stays cells (ops.Copy from to) regs r answer next Filled h.0 refl refl h.1
copy_to_leads cells r (Ref t) plain s regs from to answer next names h =
    stays cells (ops.Copy from to) regs r answer next Filled h.0 refl refl h.1
copy_to_leads cells r Freed plain s regs from to answer next names h = point_leads cells r plain s regs from to answer next names h
copy_to_leads cells r Cleared plain s regs from to answer next names h = point_leads cells r plain s regs from to answer next names h

copy_leads : (facts : Facts) (r : Reg) (regs : Regs) (from to : ℕ) (answer : Answer) (next : Regs) →
    CopyRow r facts regs to answer next → Leads facts.cells (ops.Copy from to) regs r answer next
copy_leads facts Empty regs from to answer next h = stays facts.cells (ops.Copy from to) regs Empty answer next Nothing h.0 refl refl h.1
copy_leads facts (Own s) regs from to answer next h =
    copy_to_leads facts.cells (Own s) (regs to) (facts.plain_at s) s regs from to answer next refl h
copy_leads facts (Ref s) regs from to answer next h =
    copy_to_leads facts.cells (Ref s) (regs to) false s regs from to answer next refl h
copy_leads facts Freed regs from to answer next h =
    stays facts.cells (ops.Copy from to) regs Freed answer next (StaleUse None) h.0 refl refl h.1
copy_leads facts Cleared regs from to answer next h =
    stays facts.cells (ops.Copy from to) regs Cleared answer next (StaleUse None) h.0 refl refl h.1

reset_leads : (cells : ℕ → List CellEntry) (r : Reg) (regs : Regs) (reg : ℕ) (answer : Answer) (next : Regs) →
    ResetRow r regs reg answer next → Leads cells (ops.Reset reg) regs r answer next
reset_leads cells Empty regs reg answer next h = stays cells (ops.Reset reg) regs Empty answer next Nothing h.0 refl refl h.1
reset_leads cells (Own s) regs reg answer next h = stays cells (ops.Reset reg) regs (Own s) answer next NotRef h.0 refl refl h.1
reset_leads cells (Ref s) regs reg answer next h = steps cells (ops.Reset reg) regs (Ref s) answer next h.0 s h.2 h.1 refl h.3
reset_leads cells Freed regs reg answer next h = stays cells (ops.Reset reg) regs Freed answer next NotRef h.0 refl refl h.1
reset_leads cells Cleared regs reg answer next h = stays cells (ops.Reset reg) regs Cleared answer next StaleReset h.0 refl refl h.1

free_leads : (cells : ℕ → List CellEntry) (r : Reg) (regs : Regs) (reg : ℕ) (answer : Answer) (next : Regs) →
    FreeRow r regs reg answer next → Leads cells (ops.Free reg) regs r answer next
free_leads cells Empty regs reg answer next h = stays cells (ops.Free reg) regs Empty answer next Nothing h.0 refl refl h.1
free_leads cells (Own s) regs reg answer next h = steps cells (ops.Free reg) regs (Own s) answer next h.0 s h.2 h.1 refl h.3
free_leads cells (Ref s) regs reg answer next (seen, slot, becomes, inl h) =
    stays cells (ops.Free reg) regs (Ref s) answer next (NotOwner seen) h.1 refl refl becomes
free_leads cells (Ref s) regs reg answer next (seen, slot, becomes, inr h) =
    stays cells (ops.Free reg) regs (Ref s) answer next (SecondFree (Some seen)) h.1 refl refl becomes
free_leads cells Freed regs reg answer next h = stays cells (ops.Free reg) regs Freed answer next (SecondFree None) h.0 refl refl h.1
free_leads cells Cleared regs reg answer next h = stays cells (ops.Free reg) regs Cleared answer next (StaleUse None) h.0 refl refl h.1

write_leads : (cells : ℕ → List CellEntry) (r : Reg) (regs : Regs) (reg value : ℕ) (answer : Answer) (next : Regs) →
    WriteRow r regs answer next → Leads cells (ops.Write reg value) regs r answer next
write_leads cells Empty regs reg value answer next h = stays cells (ops.Write reg value) regs Empty answer next Nothing h.0 refl refl h.1
write_leads cells (Own s) regs reg value answer next (seen, slot, becomes, inl h) =
    stays cells (ops.Write reg value) regs (Own s) answer next (Shared seen) h.1 refl refl becomes
write_leads cells (Own s) regs reg value answer next (seen, slot, becomes, inr h) =
    steps cells (ops.Write reg value) regs (Own s) answer next seen s h.1 slot refl becomes
write_leads cells (Ref s) regs reg value answer next (seen, slot, becomes, inl h) =
    stays cells (ops.Write reg value) regs (Ref s) answer next (NotOwner seen) h.1 refl refl becomes
write_leads cells (Ref s) regs reg value answer next (seen, slot, becomes, inr h) =
    stays cells (ops.Write reg value) regs (Ref s) answer next (StaleUse (Some seen)) h.1 refl refl becomes
write_leads cells Freed regs reg value answer next h =
    stays cells (ops.Write reg value) regs Freed answer next (StaleUse None) h.0 refl refl h.1
write_leads cells Cleared regs reg value answer next h =
    stays cells (ops.Write reg value) regs Cleared answer next (StaleUse None) h.0 refl refl h.1

read_from_leads : (facts : Facts) (r : Reg) (s : SlotName) (regs : Regs) (reg place : ℕ) (answer : Answer) (next : Regs) →
    ReadFromRow s facts regs place answer next →
    Leads facts.cells (ops.Read reg place) regs r answer next
read_from_leads facts r s regs reg place answer next (becomes, inl h) =
    stays facts.cells (ops.Read reg place) regs r answer next OutOfRange h.1 refl refl becomes
read_from_leads facts r s regs reg place answer next (becomes, inr (inside, seen, value, slot, inl h)) =
    stays facts.cells (ops.Read reg place) regs r answer next (Value seen value) h.1 refl refl becomes
read_from_leads facts r s regs reg place answer next (becomes, inr (inside, seen, value, slot, inr h)) =
    stays facts.cells (ops.Read reg place) regs r answer next (Dangling seen value) h.1 refl refl becomes

read_leads : (facts : Facts) (r : Reg) (regs : Regs) (reg place : ℕ) (answer : Answer) (next : Regs) →
    ReadRow r facts regs place answer next → Leads facts.cells (ops.Read reg place) regs r answer next
read_leads facts Empty regs reg place answer next h =
    stays facts.cells (ops.Read reg place) regs Empty answer next Nothing h.0 refl refl h.1
read_leads facts (Own s) regs reg place answer next h = read_from_leads facts (Own s) s regs reg place answer next h
read_leads facts (Ref s) regs reg place answer next h = read_from_leads facts (Ref s) s regs reg place answer next h
read_leads facts Freed regs reg place answer next h =
    stays facts.cells (ops.Read reg place) regs Freed answer next (StaleUse None) h.0 refl refl h.1
read_leads facts Cleared regs reg place answer next h =
    stays facts.cells (ops.Read reg place) regs Cleared answer next (StaleUse None) h.0 refl refl h.1

swap_leads : (cells : ℕ → List CellEntry) (r : Reg) (regs : Regs) (cell reg : ℕ) (answer : Answer) (next : Regs) →
    SwapRow (cells cell) regs reg answer next → Leads cells (ops.Swap cell reg) regs r answer next
swap_leads cells r regs cell reg answer next (entry, e, is, at, gave, becomes) =
    let P : Option CellEntry → Type 0 = λ o. Becomes next (with regs reg (reg_of (found_in o))) in
    leads cells (ops.Swap cell reg) regs r answer next (Swapped entry) is refl (subst P (sym at) becomes)

pub row_leads : (facts : Facts) (op : Op) (regs : Regs) (answer : Answer) (next : Regs) → Row facts op regs answer next →
    Leads facts.cells op regs (regs (used_by op)) answer next
row_leads facts (ops.Alloc reg partition size) regs answer next h = alloc_leads facts (regs reg) regs reg partition size answer next h
row_leads facts (ops.Copy from to) regs answer next h = copy_leads facts (regs from) regs from to answer next h
row_leads facts (ops.Reset reg) regs answer next h = reset_leads facts.cells (regs reg) regs reg answer next h
row_leads facts (ops.Free reg) regs answer next h = free_leads facts.cells (regs reg) regs reg answer next h
row_leads facts (ops.Write reg value) regs answer next h = write_leads facts.cells (regs reg) regs reg value answer next h
row_leads facts (ops.Read reg place) regs answer next h = read_leads facts (regs reg) regs reg place answer next h
row_leads facts (ops.Swap cell reg) regs answer next h = swap_leads facts.cells (regs reg) regs cell reg answer next h
row_leads facts ops.Purge regs answer next h = stays facts.cells ops.Purge regs (regs 0) answer next (Purged h.0) h.1 refl refl h.2

-- ---- the registers between two records

pub rows_cut : (facts : Facts) (all : AllRegs) (before rest : List Played) (after : AllRegs) → RowsTo facts all (before ++ rest) after →
    (mid : AllRegs) × RowsTo facts all before mid × RowsTo facts mid rest after
rows_cut facts all [] rest after h = (all, refl, h)
rows_cut facts all (p ∷ before) rest after (next, row, more) =
    let (mid, first, second) = rows_cut facts (with_thread all p.thread next) before rest after more in
    (mid, (next, row, first), second)

-- the registers that a list of records leads to are one
pub rows_one : (facts : Facts) (all after other : AllRegs) (ps : List Played) → RowsTo facts all ps after → RowsTo facts all ps other →
    after ≡ other
rows_one facts all after other [] h k = h ∙ sym k
rows_one facts all after other (p ∷ ps) (next, row, more) (next', row', more') =
    let one = (row_leads facts p.op (all p.thread) p.answer next row).registers in
    let two = (row_leads facts p.op (all p.thread) p.answer next' row').registers in
    let same : next' ≡ next = λ i r. (two r ∙ sym (one r)) i in
    rows_one facts (with_thread all p.thread next) after other ps more
    (subst (λ (z : Regs). RowsTo facts (with_thread all p.thread z) ps other) same more')
