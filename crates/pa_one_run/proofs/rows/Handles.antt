-- Each handle that a register or a cell holds is of a slot that was made before.
use Rattle.std.proofs.Common.{◌≡◌, ℕ, List, [], ◌∷◌, ◌++◌, ◌⊎◌, ◌==◌, slice_get, Option, Some, None, if◌then◌else◌, Bool, true, false, refl, sym, ◌∙◌, ap, subst, arith, inl, inr, append_assoc, append-nil}
use Rattle.std.specs.Prelude.{Contains}
use Rattle.std.proofs.lemmas.Bool.{cases_eq, eq-eqb, ne_eqb}
use Rattle.std.proofs.lemmas.List.Elements.{Contains-append_left, Contains-push, Contains-push_cases}
use Rattle.pa_slot.specs.declared.word.SlotName.{SlotName}
use Rattle.pa_trace.specs.declared.script.Op.{Op}
use Rattle.pa_trace.specs.declared.script.Op.TheVariants as ops
use Rattle.pa_record.specs.declared.entry.Seen.{Seen}
use Rattle.pa_record.specs.declared.entry.Answer.{Answer}
use Rattle.pa_record.specs.declared.entry.Answer.TheVariants.{Made, Done}
use Rattle.pa_record.specs.declared.history.CellEntry.{CellEntry}
use Rattle.pa_record.specs.declared.history.Held.{Held}
use Rattle.pa_lists.proofs.Members.{not_in_none, first_in, later_in, of_some, not_some}
use Rattle.pa_record.specs.declared.history.Held.TheVariants as held
use Rattle.pa_rules.specs.declared.register.Register.TheVariants.{Empty, Own, Ref, Freed, Cleared}
use Rattle.pa_rules.specs.declared.played.Played.{Played}
use Rattle.pa_rules.specs.Registers.{Reg, Regs, AllRegs, Row, RowsTo, with_thread, handle_of, reg_of, made_of, no_regs}
use Rattle.pa_rules.specs.Changes.{done_of, swapped_of, found_in, change_of, changed}
use Rattle.pa_rules.proofs.Leading.{slot_in, used_by, row_leads, rows_cut}
use Rattle.pa_one_run.specs.Parts.{Parts, cell_line}
use Rattle.pa_one_run.specs.Before.{below, gave_last, facts_of, HasRegisters}
use Rattle.pa_one_run.proofs.lines.Sorting.{in_below}
use Rattle.pa_one_run.proofs.Filed.{IsFiled, IsMadeIn}
use Rattle.pa_one_run.proofs.rows.Exchanges.{HasExchange, exchange_here, one_exchange, exchange_op}
use Rattle.pa_one_run.proofs.lines.Cuts.{early_in, cut_here, exchange_made}
use Rattle.pa_lists.proofs.Elements.{in_middle}
use Rattle.pa_lists.proofs.Indexed.{option_cases}
use Rattle.pa_legal.proofs.owners.Ways.{made_from}

-- ---- the slots of registers and cells

-- the slot that a cell holds a handle of
abbrev pub slot_held : Held → Option SlotName
slot_held held.Nothing = None
slot_held (held.Own s) = Some s
slot_held (held.Ref s) = Some s

handle_names : (r : Reg) → slot_held (handle_of r) ≡ slot_in r
handle_names Empty = refl
handle_names (Own s) = refl
handle_names (Ref s) = refl
handle_names Freed = refl
handle_names Cleared = refl

reg_names : (h : Held) → slot_in (reg_of h) ≡ slot_held h
reg_names held.Nothing = refl
reg_names (held.Own s) = refl
reg_names (held.Ref s) = refl

-- ---- the registers before a record

-- a record's row, from the registers after the records before it
pub record HasRow (a : Parts) (before : List Played) (x : Played) : Type 0 where
  pub all : AllRegs
  pub next : Regs
  pub registers : HasRegisters a before all
  pub row : Row (facts_of a) x.op (all x.thread) x.answer next

pub row_at : (a : Parts) (before rest : List Played) (x : Played) → IsFiled a → a.ps ≡ before ++ x ∷ rest → HasRow a before x
row_at a before rest x h parts =
    let (after, rows) = h.registers in
    let P : List Played → Type 0 = λ ps. RowsTo (facts_of a) no_regs ps after in
    let (mid, first, second) = rows_cut (facts_of a) no_regs before (x ∷ rest) after (subst P parts rows) in
    record { all = mid; next = second.0; registers = first; row = second.1 }

-- ---- what is held was made

-- the handle that a register is changed to is of a slot that was made, of the step's, or was found in a cell
change_names : (cells : ℕ → List CellEntry) (op : Op) (answer : Answer) (c : ℕ × Reg) (s : SlotName) (P : Type 0) →
    ((seen : Seen) (usable : ℕ) → answer ≡ Made seen usable → seen.slot ≡ s → P) →
    ((seen : Seen) → done_of answer ≡ Some seen → seen.slot ≡ s → P) →
    ((k reg j : ℕ) → op ≡ ops.Swap k reg → swapped_of answer ≡ Some j → slot_held (found_in (slice_get (cells k) j)) ≡ Some s → P) →
    change_of cells op answer ≡ Some c → slot_in c.1 ≡ Some s → P
change_names cells (ops.Alloc reg partition size) answer c s P made done found is names =
    let (m, by, e) = option_cases (λ (m : SlotName × ℕ). (reg, Own m.0)) (made_of answer) c is in
    let (seen, usable, tells, slot) = made_from answer m by in
    made seen usable tells (slot ∙ of_some m.0 s (ap (λ (z : ℕ × Reg). slot_in z.1) e ∙ names))
change_names cells (ops.Copy from to) answer c s P made done found is names =
    let (seen, by, e) = option_cases (λ (seen : Seen). (to, Ref seen.slot)) (done_of answer) c is in
    done seen by (of_some seen.slot s (ap (λ (z : ℕ × Reg). slot_in z.1) e ∙ names))
change_names cells (ops.Reset reg) answer c s P made done found is names =
    let (seen, by, e) = option_cases (λ (seen : Seen). (reg, Cleared)) (done_of answer) c is in
    absurd (not_some s (ap (λ (z : ℕ × Reg). slot_in z.1) e ∙ names))
change_names cells (ops.Free reg) answer c s P made done found is names =
    let (seen, by, e) = option_cases (λ (seen : Seen). (reg, Freed)) (done_of answer) c is in
    absurd (not_some s (ap (λ (z : ℕ × Reg). slot_in z.1) e ∙ names))
change_names cells (ops.Write reg value) answer c s P made done found is names = absurd (not_some c is)
change_names cells (ops.Read reg place) answer c s P made done found is names = absurd (not_some c is)
change_names cells (ops.Swap cell reg) answer c s P made done found is names =
    let (j, by, e) = option_cases (λ (j : ℕ). (reg, reg_of (found_in (slice_get (cells cell) j)))) (swapped_of answer) c is in
    found cell reg j refl by (sym (reg_names (found_in (slice_get (cells cell) j))) ∙ ap (λ (z : ℕ × Reg). slot_in z.1) e ∙ names)
change_names cells ops.Purge answer c s P made done found is names = absurd (not_some c is)

changed_cases : (regs : Regs) (o : Option (ℕ × Reg)) (r : ℕ) (s : SlotName) → slot_in (changed regs o r) ≡ Some s
    → (slot_in (regs r) ≡ Some s) ⊎ ((c : ℕ × Reg) × (o ≡ Some c) × (slot_in c.1 ≡ Some s))
changed_cases regs None r s e = inl e
changed_cases regs (Some c) r s e = either (r == c.0) e
  where
    either : (b : Bool) → slot_in (if b then c.1 else regs r) ≡ Some s → (slot_in (regs r) ≡ Some s) ⊎
        ((d : ℕ × Reg) × (Some c ≡ Some d) × (slot_in d.1 ≡ Some s))
    either true e = inr (c, refl, e)
    either false e = inl e

made_more : (before more : List Played) (s : SlotName) → IsMadeIn before s → IsMadeIn (before ++ more) s
made_more before more s (q, seen, usable, among, is, slot) = (q, seen, usable, Contains-append_left before more q among, is, slot)

-- what the registers hold, and what the exchanges of the records so far gave, was made
pub record HoldsMade (a : Parts) (before : List Played) (all : AllRegs) : Type 0 where
  pub registers : (t r : ℕ) (s : SlotName) → slot_in (all t r) ≡ Some s → IsMadeIn before s
  pub cells : (k : ℕ) (e : CellEntry) (q : Played) (s : SlotName) → Contains (a.cells k) e → Contains before q → e.line ≡ q.line →
      slot_held e.gave ≡ Some s → IsMadeIn before s

gave_named : (first : Held) (es : List CellEntry) (s : SlotName) → slot_held (gave_last first es) ≡ Some s → (slot_held first ≡ Some s)
    ⊎ ((e : CellEntry) × Contains es e × (slot_held e.gave ≡ Some s))
gave_named first [] s h = inl h
gave_named first (e ∷ es) s h = elim (gave_named e.gave es s h) [
  | inl here ↦ inr (e, first_in e es, here)
  | inr (f, among, names) ↦ inr (f, later_in e f es among, names)
]

-- what a record's exchange found was made
found_made : (a : Parts) (before rest : List Played) (x : Played) (all : AllRegs) (k : ℕ) (e : CellEntry) (s : SlotName) → IsFiled a →
    a.ps ≡ before ++ x ∷ rest → HoldsMade a before all →
    HasExchange a x k e → slot_held e.found ≡ Some s → IsMadeIn before s
found_made a before rest x all k e s h parts holds has names =
    elim (gave_named held.Nothing (below cell_line x.line (a.cells k)) s (ap slot_held (sym has.found) ∙ names)) [
      | inl none ↦ absurd (not_some s none)
      | inr (f, among, gave) ↦
          let (member, less) = in_below cell_line x.line (a.cells k) f among in
          let (q, reg, there, line, op) = exchange_made a k f h member in
          let early = early_in a x.line before (x ∷ rest) q (cut_here a before rest x h parts) there (omega arith) in
          holds.cells k f q s member early (sym line) gave
    ]

-- a record's row gave what the register held
pub swap_gave : (a : Parts) (x : Played) (k reg : ℕ) (e : CellEntry) (regs next : Regs) → HasExchange a x k e → x.op ≡ ops.Swap k reg
    → Row (facts_of a) x.op regs x.answer next → e.gave ≡ handle_of (regs reg)
swap_gave a x k reg e regs next has op row =
    let (entry, d, is, at, gave, becomes) = subst (λ o. Row (facts_of a) o regs x.answer next) op row in
    let same = of_some _ _ (ap swapped_of (sym is ∙ has.answer)) in
    let it = of_some d e (sym at ∙ ap (slice_get (a.cells k)) same ∙ has.place) in
    ap (λ (z : CellEntry). z.gave) (sym it) ∙ gave

-- what a record leaves in its thread's registers
next_made : (a : Parts) (before rest : List Played) (x : Played) (all : AllRegs) (next : Regs) (r : ℕ) (s : SlotName) → IsFiled a →
    a.ps ≡ before ++ x ∷ rest → HoldsMade a before all →
    Row (facts_of a) x.op (all x.thread) x.answer next → slot_in (next r) ≡ Some s → IsMadeIn (before ++ x ∷ []) s
next_made a before rest x all next r s h parts holds row names =
    let l = row_leads (facts_of a) x.op (all x.thread) x.answer next row in
    elim (changed_cases (all x.thread) (change_of a.cells x.op x.answer) r s (ap slot_in (sym (l.registers r)) ∙ names)) [
      | inl old ↦ made_more before (x ∷ []) s (holds.registers x.thread r s old)
      | inr (c, is, new) ↦
          change_names a.cells x.op x.answer c s (IsMadeIn (before ++ x ∷ []) s)
          (λ seen usable tells slot. (x, seen, usable, Contains-push before x, tells, slot))
          (λ seen tells slot. made_more before (x ∷ []) s
          (holds.registers x.thread (used_by x.op) s (l.done seen tells ∙ ap {B = Option SlotName} Some slot)))
          (λ k reg j op tells found.
          let (e, has) = exchange_here a x k reg h (in_middle before rest a.ps x parts) op in
          let place = of_some _ _ (sym tells ∙ ap swapped_of has.answer) in
          let at : slice_get (a.cells k) j ≡ Some e = ap (slice_get (a.cells k)) place ∙ has.place in
          made_more before (x ∷ []) s
          (found_made a before rest x all k e s h parts holds has (ap (λ o. slot_held (found_in o)) (sym at) ∙ found)))
          is new
    ]

-- what a record's exchange gave was made
gave_made : (a : Parts) (before rest : List Played) (x : Played) (all : AllRegs) (next : Regs) (k : ℕ) (e : CellEntry) (s : SlotName) →
    IsFiled a → a.ps ≡ before ++ x ∷ rest → HoldsMade a before all →
    Row (facts_of a) x.op (all x.thread) x.answer next → Contains (a.cells k) e → e.line ≡ x.line → slot_held e.gave ≡ Some s →
    IsMadeIn before s
gave_made a before rest x all next k e s h parts holds row among line names =
    let here = in_middle before rest a.ps x parts in
    let (reg, op) = exchange_op a x k e h here among line in
    let (d, has) = exchange_here a x k reg h here op in
    let same = one_exchange a x k d e has among line in
    let gave = swap_gave a x k reg d (all x.thread) next has op row in
    holds.registers x.thread reg s (sym (handle_names (all x.thread reg)) ∙ ap slot_held (sym gave ∙ ap (λ (z : CellEntry). z.gave) same) ∙
    names)

one_more : (a : Parts) (before rest : List Played) (x : Played) (all : AllRegs) (next : Regs) → IsFiled a → a.ps ≡ before ++ x ∷ rest →
    HoldsMade a before all →
    Row (facts_of a) x.op (all x.thread) x.answer next → HoldsMade a (before ++ x ∷ []) (with_thread all x.thread next)
one_more a before rest x all next h parts holds row = record {
  registers = λ t r s names. elim (cases_eq t x.thread) [
    | inl e ↦ let here : slot_in (next r) ≡ Some s = rw (eq-eqb t x.thread e) at names in
        next_made a before rest x all next r s h parts holds row here
    | inr e ↦ let there : slot_in (all t r) ≡ Some s = rw (ne_eqb t x.thread e) at names in
        made_more before (x ∷ []) s (holds.registers t r s there)
  ];
  cells = λ k e q s member among line names. elim (Contains-push_cases before x q among) [
    | inl old ↦ made_more before (x ∷ []) s (holds.cells k e q s member old line names)
    | inr same ↦ made_more before (x ∷ []) s
        (gave_made a before rest x all next k e s h parts holds row member (line ∙ ap (λ (z : Played). z.line) (sym same)) names)
  ];
}

made_along : (a : Parts) (before ps rest : List Played) (all after : AllRegs) → IsFiled a → a.ps ≡ before ++ (ps ++ rest)
    → HoldsMade a before all → RowsTo (facts_of a) all ps after → HoldsMade a (before ++ ps) after
made_along a before [] rest all after h parts holds e =
    let there : HoldsMade a (before ++ []) all = subst (λ xs. HoldsMade a xs all) (sym (append-nil before)) holds in
    subst (λ (z : AllRegs). HoldsMade a (before ++ []) z) (sym e) there
made_along a before (p ∷ ps) rest all after h parts holds (next, row, more) =
    let parts' : a.ps ≡ (before ++ p ∷ []) ++ (ps ++ rest) = parts ∙ sym (append_assoc before (p ∷ []) (ps ++ rest)) in
    let holds' = one_more a before (ps ++ rest) p all next h parts holds row in
    subst (λ xs. HoldsMade a xs after) (append_assoc before (p ∷ []) ps)
    (made_along a (before ++ p ∷ []) ps rest (with_thread all p.thread next) after h parts' holds' more)

-- all of it, before any record
pub holds_made : (a : Parts) (before rest : List Played) (all : AllRegs) → IsFiled a → a.ps ≡ before ++ rest → HasRegisters a before all →
    HoldsMade a before all
holds_made a before rest all h parts rows =
    let start : HoldsMade a [] no_regs =
    record { registers = λ t r s e. absurd (not_some s e); cells = λ k e q s member among. absurd (not_in_none q among) } in
    made_along a [] before rest no_regs all h parts start rows

-- the slot that a record's answer `done` reports was made by a record before it
pub done_made : (a : Parts) (before rest : List Played) (x : Played) (seen : Seen) → IsFiled a → a.ps ≡ before ++ x ∷ rest →
    x.answer ≡ Done seen → IsMadeIn before seen.slot
done_made a before rest x seen h parts is =
    let at = row_at a before rest x h parts in
    let l = row_leads (facts_of a) x.op (at.all x.thread) x.answer at.next at.row in
    (holds_made a before (x ∷ rest) at.all h parts at.registers).registers x.thread (used_by x.op) seen.slot (l.done seen (ap done_of is))
