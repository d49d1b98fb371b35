-- What a record's answer requires of the registers, and what it leads to.
use Rattle.std.proofs.Common.{Bool, true, false, ◌≡◌, ℕ, zero, suc, ◌+◌, ◌*◌, ◌<◌, ◌≤◌, ◌==◌, if◌then◌else◌, List, get_or, set, replicate, length, Option, Some, None, refl, sym, ◌∙◌, ap, arith, inl, inr}
use Rattle.std.specs.Prelude.{nat_lt}
use Rattle.std.proofs.lemmas.List.{get_or-set_same, get_or-set_other}
use Rattle.std.proofs.lemmas.Bool.{cases_eq, cases_lt, eq-eqb, ne_eqb, lt-ltb, le-ltb}
use Rattle.pa_slot.specs.declared.word.SlotName.{SlotName}
use Rattle.pa_trace.specs.declared.script.Op.{Op}
use Rattle.pa_trace.specs.declared.script.Op.TheVariants as ops
use Rattle.pa_record.specs.declared.entry.Seen.{Seen}
use Rattle.pa_record.specs.declared.entry.Answer.{Answer}
use Rattle.pa_record.specs.declared.entry.Answer.TheVariants.{Made, Done, Value, Dangling, SecondFree, NotOwner, StaleReset, StaleUse, Nothing, Filled, NotRef, TooLarge, Full, Swapped, Uncounted}
use Rattle.pa_record.specs.declared.history.CellEntry.{CellEntry}
use Rattle.pa_rules.specs.declared.register.Register.TheVariants.{Empty, Own, Ref, Freed, Cleared}
use Rattle.pa_rules.specs.Registers.{Reg, Facts, Regs, Row, Becomes, with, RequestRow, AllocRow, PointRow, CopyToRow, CopyRow, ResetRow, FreeRow, WriteRow, ReadFromRow, ReadRow, SwapRow, reg_of, no_regs}
use Rattle.pa_rules.proofs.Nexts.{by_held, held_by}
use Rattle.pa_audit_records.specs.Rows.{IsDoneAt, AnswersRequest, AnswersAlloc, AnswersPoint, AnswersCopyTo, AnswersCopy, AnswersReset, AnswersFree, AnswersWrite, AnswersReadFrom, AnswersRead, AnswersSwap, MayAnswer}
use Rattle.pa_rules.specs.Changes.{change_of, changed, found_in}
use Rattle.pa_audit_records.specs.Tables.{regs_in, with_register, AreRegsOf}

-- ---- the list of the registers

by_test : {A : Type 0} (m n : ℕ) (hit miss : A) → m ≡ n → (if m == n then hit else miss) ≡ hit
by_test m n hit miss same = rw (eq-eqb m n same) refl

by_not : {A : Type 0} (m n : ℕ) (hit miss : A) → (m ≡ n → ⊥) → (if m == n then hit else miss) ≡ miss
by_not m n hit miss other = rw (ne_eqb m n other) refl

by_less : {A : Type 0} (k : ℕ) (hit miss : A) → k < 64 → (if nat_lt k 64 then hit else miss) ≡ hit
by_less k hit miss less = rw (lt-ltb k 64 less) refl

by_more : {A : Type 0} (k : ℕ) (hit miss : A) → 64 ≤ k → (if nat_lt k 64 then hit else miss) ≡ miss
by_more k hit miss more = rw (le-ltb k 64 more) refl

pub set_register : (list : List Reg) (t r : ℕ) (holds : Reg) → 64 * t + r < length list → r < 64 →
    AreRegsOf (set list (64 * t + r) holds) (with_register (regs_in list) t r holds)
set_register list t r holds below within u k = elim (cases_lt k 64) [
  | inl less ↦ elim (cases_eq u t) [
    | inl same ↦ elim (cases_eq k r) [
      | inl here ↦
          let at : 64 * u + k ≡ 64 * t + r = omega (arith, same, here) in
          let one : regs_in (set list (64 * t + r) holds) u k ≡ holds =
          by_less k (get_or (set list (64 * t + r) holds) (64 * u + k) Empty) Empty less
          ∙ ap (λ z. get_or (set list (64 * t + r) holds) z Empty) at ∙ get_or-set_same list (64 * t + r) holds Empty below in
          one ∙ sym (ap (λ (z : Regs). z k) (by_test u t (with (regs_in list t) r holds) (regs_in list u) same) ∙
          by_test k r holds (regs_in list t k) here)
      | inr other ↦
          let at : 64 * u + k ≡ 64 * t + r → ⊥ = λ e. other (omega (arith, same, e)) in
          let one : regs_in (set list (64 * t + r) holds) u k ≡ regs_in list t k =
          by_less k (get_or (set list (64 * t + r) holds) (64 * u + k) Empty) Empty less
          ∙ get_or-set_other list (64 * t + r) (64 * u + k) holds Empty at ∙ ap (λ n. get_or list (64 * n + k) Empty) same ∙
          sym (by_less k (get_or list (64 * t + k) Empty) Empty less) in
          one ∙ sym (ap (λ (z : Regs). z k) (by_test u t (with (regs_in list t) r holds) (regs_in list u) same) ∙
          by_not k r holds (regs_in list t k) other)
    ]
    | inr other ↦
        let at : 64 * u + k ≡ 64 * t + r → ⊥ = λ e. other (omega (arith, less, within, e)) in
        let one : regs_in (set list (64 * t + r) holds) u k ≡ regs_in list u k =
        by_less k (get_or (set list (64 * t + r) holds) (64 * u + k) Empty) Empty less
        ∙ get_or-set_other list (64 * t + r) (64 * u + k) holds Empty at ∙ sym (by_less k (get_or list (64 * u + k) Empty) Empty less) in
        one ∙ sym (ap (λ (z : Regs). z k) (by_not u t (with (regs_in list t) r holds) (regs_in list u) other))
  ]
  | inr more ↦
      let one : regs_in (set list (64 * t + r) holds) u k ≡ Empty =
      by_more k (get_or (set list (64 * t + r) holds) (64 * u + k) Empty) Empty more in
      let old : (v : ℕ) → regs_in list v k ≡ Empty = λ v. by_more k (get_or list (64 * v + k) Empty) Empty more in
      let apart : k ≡ r → ⊥ = λ e. omega (arith, e, more, within) in
      one ∙ sym (elim (cases_eq u t) [
        | inl same ↦ ap (λ (z : Regs). z k) (by_test u t (with (regs_in list t) r holds) (regs_in list u) same) ∙
            by_not k r holds (regs_in list t k) apart ∙ old t
        | inr other ↦ ap (λ (z : Regs). z k) (by_not u t (with (regs_in list t) r holds) (regs_in list u) other) ∙ old u
      ])
]

empty_at : (n k : ℕ) → get_or {A = Reg} (replicate n Empty) k Empty ≡ Empty
empty_at zero k = refl
empty_at (suc n) zero = refl
empty_at (suc n) (suc k) = empty_at n k

pub all_empty : (n : ℕ) → AreRegsOf (replicate n Empty) no_regs
all_empty n t r = elim (cases_lt r 64) [
  | inl less ↦ by_less r (get_or (replicate n Empty) (64 * t + r) Empty) Empty less ∙ empty_at n (64 * t + r)
  | inr more ↦ by_more r (get_or (replicate n Empty) (64 * t + r) Empty) Empty more
]

-- ---- what an answer asks for, without the registers after it

request_may : (facts : Facts) (regs after : Regs) (reg size : ℕ) (answer : Answer) → RequestRow facts regs reg size answer after →
    AnswersRequest (facts.usable_of size) size answer
request_may facts regs after reg size answer (inl h) = inl (h.0, h.1)
request_may facts regs after reg size answer (inr (inl h)) = inr (inl (h.0, h.1, h.2))
request_may facts regs after reg size answer (inr (inr h)) = inr (inr (h.0, h.1, h.2))

alloc_may : (r : Reg) (facts : Facts) (regs after : Regs) (reg size : ℕ) (answer : Answer) → AllocRow r facts regs reg size answer after →
    AnswersAlloc r (facts.usable_of size) size answer
alloc_may Empty facts regs after reg size answer h = request_may facts regs after reg size answer h
alloc_may (Own s) facts regs after reg size answer h = h.0
alloc_may (Ref s) facts regs after reg size answer h = h.0
alloc_may Freed facts regs after reg size answer h = request_may facts regs after reg size answer h
alloc_may Cleared facts regs after reg size answer h = request_may facts regs after reg size answer h

point_may : (plain : Bool) (s : SlotName) (regs after : Regs) (to : ℕ) (answer : Answer) → PointRow plain s regs to answer after →
    AnswersPoint plain s answer
point_may true s regs after to answer h = h.0
point_may false s regs after to answer h = (h.0, h.1, h.2)

copy_to_may : (r : Reg) (plain : Bool) (s : SlotName) (regs after : Regs) (to : ℕ) (answer : Answer) →
    CopyToRow r plain s regs to answer after → AnswersCopyTo r plain s answer
copy_to_may Empty plain s regs after to answer h = point_may plain s regs after to answer h
copy_to_may (Own t) plain s regs after to answer h = h.0
copy_to_may (Ref t) plain s regs after to answer h = h.0
copy_to_may Freed plain s regs after to answer h = point_may plain s regs after to answer h
copy_to_may Cleared plain s regs after to answer h = point_may plain s regs after to answer h

copy_may : (r : Reg) (facts : Facts) (regs after : Regs) (to : ℕ) (answer : Answer) → CopyRow r facts regs to answer after →
    AnswersCopy r facts.plain_at (regs to) answer
copy_may Empty facts regs after to answer h = h.0
copy_may (Own s) facts regs after to answer h = copy_to_may (regs to) (facts.plain_at s) s regs after to answer h
copy_may (Ref s) facts regs after to answer h = copy_to_may (regs to) false s regs after to answer h
copy_may Freed facts regs after to answer h = h.0
copy_may Cleared facts regs after to answer h = h.0

reset_may : (r : Reg) (regs after : Regs) (reg : ℕ) (answer : Answer) → ResetRow r regs reg answer after → AnswersReset r answer
reset_may Empty regs after reg answer h = h.0
reset_may (Own s) regs after reg answer h = h.0
reset_may (Ref s) regs after reg answer h = (h.0, h.1, h.2)
reset_may Freed regs after reg answer h = h.0
reset_may Cleared regs after reg answer h = h.0

free_may : (r : Reg) (regs after : Regs) (reg : ℕ) (answer : Answer) → FreeRow r regs reg answer after → AnswersFree r answer
free_may Empty regs after reg answer h = h.0
free_may (Own s) regs after reg answer h = (h.0, h.1, h.2)
free_may (Ref s) regs after reg answer h = (h.0, h.1, held_by h.0.found.0 answer (NotOwner h.0) (SecondFree (Some h.0)) h.3)
free_may Freed regs after reg answer h = h.0
free_may Cleared regs after reg answer h = h.0

write_may : (r : Reg) (regs after : Regs) (answer : Answer) → WriteRow r regs answer after → AnswersWrite r answer
write_may Empty regs after answer h = h.0
write_may (Own s) regs after answer h = (h.0, h.1, h.3)
write_may (Ref s) regs after answer h = (h.0, h.1, held_by h.0.found.0 answer (NotOwner h.0) (StaleUse (Some h.0)) h.3)
write_may Freed regs after answer h = h.0
write_may Cleared regs after answer h = h.0

read_from_may : (s : SlotName) (facts : Facts) (regs after : Regs) (place : ℕ) (answer : Answer) →
    ReadFromRow s facts regs place answer after →
    AnswersReadFrom s (facts.usable_at s) place answer
read_from_may s facts regs after place answer (b, inl h) = inl h
read_from_may s facts regs after place answer (b, inr (near, seen, value, slot, h)) =
    inr (near, value, (seen, slot, held_by seen.found.0 answer (Value seen value) (Dangling seen value) h))

read_may : (r : Reg) (facts : Facts) (regs after : Regs) (place : ℕ) (answer : Answer) → ReadRow r facts regs place answer after →
    AnswersRead r facts.usable_at place answer
read_may Empty facts regs after place answer h = h.0
read_may (Own s) facts regs after place answer h = read_from_may s facts regs after place answer h
read_may (Ref s) facts regs after place answer h = read_from_may s facts regs after place answer h
read_may Freed facts regs after place answer h = h.0
read_may Cleared facts regs after place answer h = h.0

pub row_may : (facts : Facts) (op : Op) (regs after : Regs) (answer : Answer) → Row facts op regs answer after →
    MayAnswer facts op regs answer
row_may facts (ops.Alloc reg partition size) regs after answer h = alloc_may (regs reg) facts regs after reg size answer h
row_may facts (ops.Copy from to) regs after answer h = copy_may (regs from) facts regs after to answer h
row_may facts (ops.Reset reg) regs after answer h = reset_may (regs reg) regs after reg answer h
row_may facts (ops.Free reg) regs after answer h = free_may (regs reg) regs after reg answer h
row_may facts (ops.Write reg value) regs after answer h = write_may (regs reg) regs after answer h
row_may facts (ops.Read reg place) regs after answer h = read_may (regs reg) facts regs after place answer h
row_may facts (ops.Swap cell reg) regs after answer h = (h.0, h.1, h.2, h.3, h.4)
row_may facts ops.Purge regs after answer h = (h.0, h.1)

-- ---- and the row whose answer it is

keeps : (facts : Facts) (op : Op) (regs : Regs) (answer a : Answer) → answer ≡ a → change_of facts.cells op a ≡ None →
    Becomes (changed regs (change_of facts.cells op answer)) regs
keeps facts op regs answer a is none k =
    ap (λ z. changed regs (change_of facts.cells op z) k) is ∙ ap (λ (o : Option (ℕ × Reg)). changed regs o k) none

sets : (facts : Facts) (op : Op) (regs : Regs) (answer a : Answer) (r : ℕ) (holds : Reg) → answer ≡ a →
    change_of facts.cells op a ≡ Some (r, holds)
    → Becomes (changed regs (change_of facts.cells op answer)) (with regs r holds)
sets facts op regs answer a r holds is some k =
    ap (λ z. changed regs (change_of facts.cells op z) k) is ∙ ap (λ (o : Option (ℕ × Reg)). changed regs o k) some

may_request : (facts : Facts) (regs : Regs) (reg partition size : ℕ) (answer : Answer) → AnswersRequest (facts.usable_of size) size answer
    → RequestRow facts regs reg size answer (changed regs (change_of facts.cells (ops.Alloc reg partition size) answer))
may_request facts regs reg partition size answer (inl h) =
    inl (h.0, h.1, keeps facts (ops.Alloc reg partition size) regs answer TooLarge h.1 refl)
may_request facts regs reg partition size answer (inr (inl h)) =
    inr (inl (
      h.0,
      h.1,
      h.2,
      sets facts (ops.Alloc reg partition size) regs answer (Made h.1 (facts.usable_of size)) reg (Own h.1.slot) h.2 refl,
    ))
may_request facts regs reg partition size answer (inr (inr h)) =
    inr (inr (h.0, h.1, h.2, keeps facts (ops.Alloc reg partition size) regs answer (Full h.1) h.2 refl))

may_alloc : (r : Reg) (facts : Facts) (regs : Regs) (reg partition size : ℕ) (answer : Answer) →
    AnswersAlloc r (facts.usable_of size) size answer
    → AllocRow r facts regs reg size answer (changed regs (change_of facts.cells (ops.Alloc reg partition size) answer))
may_alloc Empty facts regs reg partition size answer h = may_request facts regs reg partition size answer h
may_alloc (Own s) facts regs reg partition size answer h = (h, keeps facts (ops.Alloc reg partition size) regs answer Filled h refl)
may_alloc (Ref s) facts regs reg partition size answer h = (h, keeps facts (ops.Alloc reg partition size) regs answer Filled h refl)
may_alloc Freed facts regs reg partition size answer h = may_request facts regs reg partition size answer h
may_alloc Cleared facts regs reg partition size answer h = may_request facts regs reg partition size answer h

may_point : (plain : Bool) (s : SlotName) (facts : Facts) (regs : Regs) (from to : ℕ) (answer : Answer) → AnswersPoint plain s answer
    → PointRow plain s regs to answer (changed regs (change_of facts.cells (ops.Copy from to) answer))
may_point true s facts regs from to answer h = (h, keeps facts (ops.Copy from to) regs answer Uncounted h refl)
may_point false s facts regs from to answer (seen, slot, is) =
    (seen, slot, is, sets facts (ops.Copy from to) regs answer (Done seen) to (Ref s) is (ap (λ (z : SlotName). Some (to, Ref z)) slot))

may_copy_to : (r : Reg) (plain : Bool) (s : SlotName) (facts : Facts) (regs : Regs) (from to : ℕ) (answer : Answer) →
    AnswersCopyTo r plain s answer
    → CopyToRow r plain s regs to answer (changed regs (change_of facts.cells (ops.Copy from to) answer))
may_copy_to Empty plain s facts regs from to answer h = may_point plain s facts regs from to answer h
may_copy_to (Own t) plain s facts regs from to answer h = (h, keeps facts (ops.Copy from to) regs answer Filled h refl)
may_copy_to (Ref t) plain s facts regs from to answer h = (h, keeps facts (ops.Copy from to) regs answer Filled h refl)
may_copy_to Freed plain s facts regs from to answer h = may_point plain s facts regs from to answer h
may_copy_to Cleared plain s facts regs from to answer h = may_point plain s facts regs from to answer h

may_copy : (r : Reg) (facts : Facts) (regs : Regs) (from to : ℕ) (answer : Answer) → AnswersCopy r facts.plain_at (regs to) answer
    → CopyRow r facts regs to answer (changed regs (change_of facts.cells (ops.Copy from to) answer))
may_copy Empty facts regs from to answer h = (h, keeps facts (ops.Copy from to) regs answer Nothing h refl)
may_copy (Own s) facts regs from to answer h = may_copy_to (regs to) (facts.plain_at s) s facts regs from to answer h
may_copy (Ref s) facts regs from to answer h = may_copy_to (regs to) false s facts regs from to answer h
may_copy Freed facts regs from to answer h = (h, keeps facts (ops.Copy from to) regs answer (StaleUse None) h refl)
may_copy Cleared facts regs from to answer h = (h, keeps facts (ops.Copy from to) regs answer (StaleUse None) h refl)

may_reset : (r : Reg) (facts : Facts) (regs : Regs) (reg : ℕ) (answer : Answer) → AnswersReset r answer →
    ResetRow r regs reg answer (changed regs (change_of facts.cells (ops.Reset reg) answer))
may_reset Empty facts regs reg answer h = (h, keeps facts (ops.Reset reg) regs answer Nothing h refl)
may_reset (Own s) facts regs reg answer h = (h, keeps facts (ops.Reset reg) regs answer NotRef h refl)
may_reset (Ref s) facts regs reg answer (seen, slot, is) =
    (seen, slot, is, sets facts (ops.Reset reg) regs answer (Done seen) reg Cleared is refl)
may_reset Freed facts regs reg answer h = (h, keeps facts (ops.Reset reg) regs answer NotRef h refl)
may_reset Cleared facts regs reg answer h = (h, keeps facts (ops.Reset reg) regs answer StaleReset h refl)

may_free : (r : Reg) (facts : Facts) (regs : Regs) (reg : ℕ) (answer : Answer) → AnswersFree r answer →
    FreeRow r regs reg answer (changed regs (change_of facts.cells (ops.Free reg) answer))
may_free Empty facts regs reg answer h = (h, keeps facts (ops.Free reg) regs answer Nothing h refl)
may_free (Own s) facts regs reg answer (seen, slot, is) =
    (seen, slot, is, sets facts (ops.Free reg) regs answer (Done seen) reg Freed is refl)
may_free (Ref s) facts regs reg answer (seen, slot, is) = elim (by_held seen.found.0 (NotOwner seen) (SecondFree (Some seen))) [
  | inl h ↦ (seen, slot, keeps facts (ops.Free reg) regs answer (NotOwner seen) (is ∙ h.1) refl, inl (h.0, is ∙ h.1))
  | inr h ↦ (seen, slot, keeps facts (ops.Free reg) regs answer (SecondFree (Some seen)) (is ∙ h.1) refl, inr (h.0, is ∙ h.1))
]
may_free Freed facts regs reg answer h = (h, keeps facts (ops.Free reg) regs answer (SecondFree None) h refl)
may_free Cleared facts regs reg answer h = (h, keeps facts (ops.Free reg) regs answer (StaleUse None) h refl)

may_write : (r : Reg) (regs : Regs) (answer : Answer) → AnswersWrite r answer → WriteRow r regs answer regs
may_write Empty regs answer h = (h, λ k. refl)
may_write (Own s) regs answer h = (h.0, h.1, (λ k. refl), h.2)
may_write (Ref s) regs answer (seen, slot, is) = elim (by_held seen.found.0 (NotOwner seen) (StaleUse (Some seen))) [
  | inl h ↦ (seen, slot, (λ k. refl), inl (h.0, is ∙ h.1))
  | inr h ↦ (seen, slot, (λ k. refl), inr (h.0, is ∙ h.1))
]
may_write Freed regs answer h = (h, λ k. refl)
may_write Cleared regs answer h = (h, λ k. refl)

may_read_from : (s : SlotName) (facts : Facts) (regs : Regs) (place : ℕ) (answer : Answer) →
    AnswersReadFrom s (facts.usable_at s) place answer →
    ReadFromRow s facts regs place answer regs
may_read_from s facts regs place answer (inl h) = ((λ k. refl), inl h)
may_read_from s facts regs place answer (inr (near, value, (seen, slot, is))) = elim
    (by_held seen.found.0 (Value seen value) (Dangling seen value)) [
      | inl h ↦ ((λ k. refl), inr (near, seen, value, slot, inl (h.0, is ∙ h.1)))
      | inr h ↦ ((λ k. refl), inr (near, seen, value, slot, inr (h.0, is ∙ h.1)))
    ]

may_read : (r : Reg) (facts : Facts) (regs : Regs) (place : ℕ) (answer : Answer) → AnswersRead r facts.usable_at place answer →
    ReadRow r facts regs place answer regs
may_read Empty facts regs place answer h = (h, λ k. refl)
may_read (Own s) facts regs place answer h = may_read_from s facts regs place answer h
may_read (Ref s) facts regs place answer h = may_read_from s facts regs place answer h
may_read Freed facts regs place answer h = (h, λ k. refl)
may_read Cleared facts regs place answer h = (h, λ k. refl)

may_swap : (facts : Facts) (regs : Regs) (cell reg : ℕ) (answer : Answer) → AnswersSwap (facts.cells cell) (regs reg) answer
    → SwapRow (facts.cells cell) regs reg answer (changed regs (change_of facts.cells (ops.Swap cell reg) answer))
may_swap facts regs cell reg answer (entry, e, is, at, gave) = (
  entry,
  e,
  is,
  at,
  gave,
  sets facts (ops.Swap cell reg) regs answer (Swapped entry) reg (reg_of e.found) is
      (ap (λ (o : Option CellEntry). Some (reg, reg_of (found_in o))) at),
)

pub may_row : (facts : Facts) (op : Op) (regs : Regs) (answer : Answer) → MayAnswer facts op regs answer →
    Row facts op regs answer (changed regs (change_of facts.cells op answer))
may_row facts (ops.Alloc reg partition size) regs answer h = may_alloc (regs reg) facts regs reg partition size answer h
may_row facts (ops.Copy from to) regs answer h = may_copy (regs from) facts regs from to answer h
may_row facts (ops.Reset reg) regs answer h = may_reset (regs reg) facts regs reg answer h
may_row facts (ops.Free reg) regs answer h = may_free (regs reg) facts regs reg answer h
may_row facts (ops.Write reg value) regs answer h = may_write (regs reg) regs answer h
may_row facts (ops.Read reg place) regs answer h = may_read (regs reg) facts regs place answer h
may_row facts (ops.Swap cell reg) regs answer h = may_swap facts regs cell reg answer h
may_row facts ops.Purge regs answer h = (h.0, h.1, λ k. refl)
