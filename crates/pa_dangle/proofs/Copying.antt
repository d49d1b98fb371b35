-- Each use of what was freed is through a raw_ptr, which comes from one copy.
use Rattle.std.proofs.Common.{◌≡◌, ℕ, ◌⊎◌, List, Option, Some, None, refl, sym, ◌∙◌, ap, subst, arith, inl, inr}
use Rattle.std.specs.Prelude.{Contains, slice_get}
use Rattle.pa_lists.proofs.Indexed.{at_in, one_at, option_cases}
use Rattle.pa_lists.proofs.Members.{of_some, not_some}
use Rattle.pa_slot.specs.declared.word.SlotName.{SlotName}
use Rattle.pa_slot.specs.declared.word.Step.TheVariants.{Issue}
use Rattle.pa_slot.specs.Run.{Mark, IsQuarantined}
use Rattle.pa_trace.specs.declared.script.Op.{Op}
use Rattle.pa_trace.specs.declared.script.Op.TheVariants as ops
use Rattle.pa_record.specs.declared.entry.Answer.{Answer}
use Rattle.pa_record.specs.declared.entry.Answer.TheVariants.{Done, Swapped}
use Rattle.pa_record.specs.declared.entry.Seen.{Seen}
use Rattle.pa_record.specs.declared.history.CellEntry.{CellEntry}
use Rattle.pa_record.specs.declared.history.Held.{Held}
use Rattle.pa_record.specs.declared.history.Held.TheVariants as held
use Rattle.pa_rules.specs.declared.register.Register.TheVariants.{Empty, Own, Ref, Freed, Cleared}
use Rattle.pa_rules.specs.declared.played.Played.{Played}
use Rattle.pa_rules.specs.Played.{mark_of, mark_of_answer}
use Rattle.pa_rules.specs.Changes.{change_of, done_of, found_in}
use Rattle.pa_rules.specs.Contents.{HasRegs}
use Rattle.pa_rules.specs.RecordDemands.{IsRecord}
use Rattle.pa_rules.specs.Registers.{Reg, Regs, Row, reg_of, made_of}
use Rattle.pa_rules.specs.Rising.{RiseByLine}
use Rattle.pa_rules.specs.Seen.{IsBefore, Standing, Handing, Between}
use Rattle.pa_rules.specs.Sizes.{usable_of}
use Rattle.pa_rules.proofs.Leading.{slot_in, used_by}
use Rattle.pa_rules.proofs.Phases.{mark_in}
use Rattle.pa_legal.specs.Owners.{WasPut, HaveHandles}
use Rattle.pa_legal.proofs.owners.Below.{from_below}
use Rattle.pa_legal.proofs.owners.Bit.{owners_find_the_bit}
use Rattle.pa_legal.proofs.owners.Giving.{gift}
use Rattle.pa_legal.proofs.owners.Putting.{facts_of, row_of, was_put}
use Rattle.pa_legal.proofs.owners.Using.{mark_named}
use Rattle.pa_dangle.specs.Origins.{first_register, put_held, put_found, put_into, IsLastPut, IsCopy, IsGivenBy, HasOrigin, ByCopy, ByExchange, UsesHaveOrigins}
use Rattle.pa_dangle.specs.Steps.{SawUse}
use Rattle.pa_dangle.proofs.Tracing.{one_put, one_giver, copy_not_swap}

abbrev Cells : Type 0
Cells = ℕ → List CellEntry

-- ---- a record that put a raw_ptr into a register

abbrev Change : Type 0
Change = Option (ℕ × Reg)

-- a register changed into this
abbrev Leaves : Change → ℕ → Reg → Type 0
Leaves c reg r = c ≡ Some (reg, r)

left_there : (to reg : ℕ) (r q : Reg) → Leaves (Some (to, r)) reg q → (to ≡ reg) × (r ≡ q)
left_there to reg r q e =
    let same : ◌≡◌ {A = ℕ × Reg} (to, r) (reg, q) = of_some (to, r) (reg, q) e in
    (ap (λ (p : ℕ × Reg). p.0) same, ap (λ (p : ℕ × Reg). p.1) same)

held_left : (into reg : ℕ) (s : SlotName) (h : Held) → Leaves (Some (into, reg_of h)) reg (Ref s) → put_held into h ≡ Some reg
held_left into reg s held.Nothing e = let r : Empty ≡ Ref s = (left_there into reg Empty (Ref s) e).1 in absurd cc
held_left into reg s (held.Own t) e = let r : Own t ≡ Ref s = (left_there into reg (Own t) (Ref s) e).1 in absurd cc
held_left into reg s (held.Ref t) e = ap (λ n. Some n) (left_there into reg (Ref t) (Ref s) e).0

found_left : (into reg : ℕ) (s : SlotName) (o : Option CellEntry) → Leaves (Some (into, reg_of (found_in o))) reg (Ref s)
    → put_found into o ≡ Some reg
found_left into reg s None e = let r : Empty ≡ Ref s = (left_there into reg Empty (Ref s) e).1 in absurd cc
found_left into reg s (Some entry) e = held_left into reg s entry.found e

left_held : (into reg : ℕ) (h : Held) → put_held into h ≡ Some reg → (s : SlotName) × Leaves (Some (into, reg_of h)) reg (Ref s)
left_held into reg held.Nothing e = absurd (not_some reg e)
left_held into reg (held.Own s) e = absurd (not_some reg e)
left_held into reg (held.Ref s) e = (s, ap (λ n. Some (n, Ref s)) (of_some into reg e))

left_found : (into reg : ℕ) (o : Option CellEntry) → put_found into o ≡ Some reg
    → (s : SlotName) × Leaves (Some (into, reg_of (found_in o))) reg (Ref s)
left_found into reg None e = absurd (not_some reg e)
left_found into reg (Some entry) e = left_held into reg entry.found e

copied : (cells : Cells) (from to reg : ℕ) (s : SlotName) (a : Answer) → Leaves (change_of cells (ops.Copy from to) a) reg (Ref s)
    → put_into cells (ops.Copy from to) a ≡ Some reg
copied cells from to reg s (Done seen) e = ap (λ n. Some n) (left_there to reg (Ref seen.slot) (Ref s) e).0
copied cells from to reg s a e = absurd (not_some (reg, Ref s) e)

swapped : (cells : Cells) (cell into reg : ℕ) (s : SlotName) (a : Answer) → Leaves (change_of cells (ops.Swap cell into) a) reg (Ref s)
    → put_into cells (ops.Swap cell into) a ≡ Some reg
swapped cells cell into reg s (Swapped j) e = found_left into reg s (slice_get (cells cell) j) e
swapped cells cell into reg s a e = absurd (not_some (reg, Ref s) e)

-- a record that left a raw_ptr in a register put it there
put_by_change : (cells : Cells) (op : Op) (a : Answer) (reg : ℕ) (s : SlotName) → Leaves (change_of cells op a) reg (Ref s)
    → put_into cells op a ≡ Some reg
put_by_change cells (ops.Copy from to) a reg s e = copied cells from to reg s a e
put_by_change cells (ops.Swap cell into) a reg s e = swapped cells cell into reg s a e
put_by_change cells (ops.Alloc to partition size) a reg s e =
    let (m, made, is) = option_cases (λ (m : SlotName × ℕ). (to, Own m.0)) (made_of a) (reg, Ref s) e in
    let r : Own m.0 ≡ Ref s = ap (λ (p : ℕ × Reg). p.1) is in
    absurd cc
put_by_change cells (ops.Reset to) a reg s e =
    let (seen, done, is) = option_cases (λ (seen : Seen). (to, Cleared)) (done_of a) (reg, Ref s) e in
    let r : Cleared ≡ Ref s = ap (λ (p : ℕ × Reg). p.1) is in
    absurd cc
put_by_change cells (ops.Free to) a reg s e =
    let (seen, done, is) = option_cases (λ (seen : Seen). (to, Freed)) (done_of a) (reg, Ref s) e in
    let r : Freed ≡ Ref s = ap (λ (p : ℕ × Reg). p.1) is in
    absurd cc
put_by_change cells (ops.Write to value) a reg s e = absurd (not_some (reg, Ref s) e)
put_by_change cells (ops.Read to place) a reg s e = absurd (not_some (reg, Ref s) e)
put_by_change cells ops.Purge a reg s e = absurd (not_some (reg, Ref s) e)

-- what a record put into a register is what it left there
change_by_put : (cells : Cells) (op : Op) (a : Answer) (reg : ℕ) → put_into cells op a ≡ Some reg
    → (s : SlotName) × Leaves (change_of cells op a) reg (Ref s)
change_by_put cells (ops.Copy from to) (Done seen) reg e = (seen.slot, ap (λ n. Some (n, Ref seen.slot)) (of_some to reg e))
change_by_put cells (ops.Swap cell into) (Swapped j) reg e = left_found into reg (slice_get (cells cell) j) e
change_by_put cells op a reg e = absurd (not_some reg e)

last_put : (cells : Cells) (ps : List Played) (x y : Played) (reg : ℕ) (s : SlotName) → WasPut cells ps x reg (Ref s) y
    → IsLastPut cells ps x reg y
last_put cells ps x y reg s put = record {
  among = put.among;
  thread = put.thread;
  before = put.before;
  puts = put_by_change cells y.op y.answer reg s put.puts;
  last = λ z among thread above below puts.
      let (t, left) = change_by_put cells z.op z.answer reg puts in
      put.last z (Ref t) among thread above below left;
}

-- ---- the way back

module _ (version : ℕ) (cells : Cells) (ps : List Played) (h : HaveHandles version cells ps) where
  -- if the register that x's op names first holds a raw_ptr, it comes from a copy
  abbrev ComesFromCopy : Played → Type 0
  ComesFromCopy x =
      (reg : ℕ) (s : SlotName) (y : Played) → first_register x.op ≡ Some reg → WasPut cells ps x reg (Ref s) y →
      (line : ℕ) × HasOrigin cells ps x line

  back : (x y : Played) (reg : ℕ) (s : SlotName) → ((z : Played) → Contains ps z → IsBefore cells ps z x → ComesFromCopy z)
      → first_register x.op ≡ Some reg → WasPut cells ps x reg (Ref s) y
      → (op : Op) → y.op ≡ op → Leaves (change_of cells op y.answer) reg (Ref s) → (line : ℕ) × HasOrigin cells ps x line
  back x y reg s earlier first put (ops.Copy from to) is left =
      (y.line, ByCopy y reg first (last_put cells ps x y reg s put) (from, to, is) refl)
  back x y reg s earlier first put (ops.Swap cell into) is left =
      let (z, g) = gift version cells ps h y cell into reg (Ref s) put.among is put.puts (λ e. cc) in
      let before : IsBefore cells ps z x = Between y put.among (Handing g.hands) (Standing (inl (put.thread, put.before))) in
      let (line, origin) = earlier z g.among before g.from s g.put (ap first_register g.op) g.held in
      let given : IsGivenBy cells ps y z = record {
        cell = g.cell;
        reg = g.into;
        index = g.index;
        entry = g.entry;
        op = g.taken;
        answer = g.answer;
        exchange = g.exchange;
        giver = g.among;
        line = sym g.line;
      } in
      (line, ByExchange {line = line} y z reg first (last_put cells ps x y reg s put) given origin)
  back x y reg s earlier first put (ops.Alloc to partition size) is left =
      absurd (not_some reg (put_by_change cells (ops.Alloc to partition size) y.answer reg s left))
  back x y reg s earlier first put (ops.Reset to) is left = absurd (not_some reg (put_by_change cells (ops.Reset to) y.answer reg s left))
  back x y reg s earlier first put (ops.Free to) is left = absurd (not_some reg (put_by_change cells (ops.Free to) y.answer reg s left))
  back x y reg s earlier first put (ops.Write to value) is left = absurd (not_some (reg, Ref s) left)
  back x y reg s earlier first put (ops.Read to place) is left = absurd (not_some (reg, Ref s) left)
  back x y reg s earlier first put ops.Purge is left = absurd (not_some (reg, Ref s) left)

  comes_from_copy : (x : Played) → Contains ps x → ComesFromCopy x
  comes_from_copy x among =
      from_below (IsBefore cells ps) ComesFromCopy ps (λ a b c there first next. Between b there first next) h.seen.ahead
      (λ a there earlier reg s y first put. back a y reg s earlier first put y.op refl put.puts) x among

  -- ---- a use is through a raw_ptr

  first_used : (op : Op) → (op ≡ ops.Purge) ⊎ (first_register op ≡ Some (used_by op))
  first_used (ops.Alloc reg partition size) = inr refl
  first_used (ops.Copy from to) = inr refl
  first_used (ops.Reset reg) = inr refl
  first_used (ops.Free reg) = inr refl
  first_used (ops.Write reg value) = inr refl
  first_used (ops.Read reg place) = inr refl
  first_used (ops.Swap cell reg) = inr refl
  first_used ops.Purge = inl refl

  purge_is_silent : (x : Played) (m : Mark) (regs next : Regs) → Row (facts_of version cells ps) x.op regs x.answer next → x.op ≡ ops.Purge
      → mark_of x ≡ Some m → ⊥
  purge_is_silent x m regs next row is mark =
      let (slots, answer, becomes) = subst (λ op. Row (facts_of version cells ps) op regs x.answer next) is row in
      not_some m (sym (ap (mark_of_answer x.line x.op) answer) ∙ mark)

  through : (x : Played) (m : Mark) (regs : Regs) (r : Reg) → Contains ps x → mark_of x ≡ Some m → IsQuarantined m.found
      → HasRegs (usable_of version) cells ps x regs
      → first_register x.op ≡ Some (used_by x.op) → regs (used_by x.op) ≡ r → slot_in r ≡ Some m.slot →
      (line : ℕ) × HasOrigin cells ps x line
  through x m regs Empty among mark q has first is names = absurd (not_some m.slot names)
  through x m regs (Own s) among mark (free, refs) has first is names =
      let bit = owners_find_the_bit version cells ps x m regs (used_by x.op) h has (is ∙ ap Own (of_some s m.slot names)) mark in
      absurd (omega (arith, free, bit))
  through x m regs (Ref s) among mark q has first is names =
      let (y, put) =
      was_put version cells ps x regs (used_by x.op) h.rising has (λ empty. let none : Ref s ≡ Empty = sym is ∙ empty in cc) in
      comes_from_copy x among (used_by x.op) s y first (subst (λ (r : Reg). WasPut cells ps x (used_by x.op) r y) is put)
  through x m regs Freed among mark q has first is names = absurd (not_some m.slot names)
  through x m regs Cleared among mark q has first is names = absurd (not_some m.slot names)

  pub use_has_origin : (x : Played) (m : Mark) → Contains ps x → mark_of x ≡ Some m → IsQuarantined m.found
      → (line : ℕ) × HasOrigin cells ps x line
  use_has_origin x m among mark (free, refs) =
      let (regs, next, has, row) = row_of version cells ps x h.registers among in
      elim (mark_named (facts_of version cells ps) x.line x.op regs next x.answer m row mark) [
        | inl issue ↦
            let (vs, run, one) = h.slots m.slot in
            let (first, can) = one.used m Issue (mark_in ps x m among mark) refl issue in
            let none = can.0.1 in
            absurd (omega (arith, none, refs))
        | inr names ↦ elim (first_used x.op) [
          | inl purge ↦ absurd (purge_is_silent x m regs next row purge mark)
          | inr first ↦ through x m regs (regs (used_by x.op)) among mark (free, refs) has first refl names
        ]
      ]

-- the record at a place has an origin, if it saw a slot in quarantine
pub saw_origin : (version : ℕ) (cells : Cells) (ps : List Played) (i : ℕ) (told : Played) (seen : Seen) →
    HaveHandles version cells ps → IsRecord ps i told
    → SawUse told seen → (x : Played) → IsRecord ps i x → (line : ℕ) × HasOrigin cells ps x line
saw_origin version cells ps i told seen h at ((m, saw), q) x here =
    let has = use_has_origin version cells ps h told m (at_in ps i told at) saw.mark (subst IsQuarantined (sym saw.found) q) in
    subst (λ (p : Played). (line : ℕ) × HasOrigin cells ps p line) (one_at ps i told x at here) has

-- ---- there is one

put_same : (cells : Cells) (ps : List Played) (x y z : Played) (reg k : ℕ) → RiseByLine ps → first_register x.op ≡ Some reg
    → first_register x.op ≡ Some k → IsLastPut cells ps x reg y
    → IsLastPut cells ps x k z → y ≡ z
put_same cells ps x y z reg k rising a b first second =
    one_put cells ps x y z k rising (subst (λ n. IsLastPut cells ps x n y) (of_some reg k (sym a ∙ b)) first) second

pub one_origin : (cells : Cells) (ps : List Played) (x : Played) (line other : ℕ) → RiseByLine ps → HasOrigin cells ps x line
    → HasOrigin cells ps x other → line ≡ other
one_origin cells ps x line other rising (ByCopy y reg first last copy is) (ByCopy z k first' last' copy' is') =
    is ∙ ap (λ (p : Played). p.line) (put_same cells ps x y z reg k rising first first' last last') ∙ sym is'
one_origin cells ps x line other rising (ByCopy y reg first last copy is) (ByExchange z w k first' last' given' rest') =
    let same = put_same cells ps x y z reg k rising first first' last last' in
    absurd (copy_not_swap z given'.cell given'.reg (subst IsCopy same copy) given'.op)
one_origin cells ps x line other rising (ByExchange y w reg first last given rest) (ByCopy z k first' last' copy' is') =
    let same = put_same cells ps x y z reg k rising first first' last last' in
    absurd (copy_not_swap y given.cell given.reg (subst IsCopy (sym same) copy') given.op)
one_origin cells ps x line other rising (ByExchange y w reg first last given rest) (ByExchange z v k first' last' given' rest') =
    let same = put_same cells ps x y z reg k rising first first' last last' in
    let giver = one_giver cells ps z w v rising (subst (λ p. IsGivenBy cells ps p w) same given) given' in
    one_origin cells ps w line other rising rest (subst (λ p. HasOrigin cells ps p other) (sym giver) rest')

pub uses_have_origins : UsesHaveOrigins
uses_have_origins = record {
  each = λ version cells ps x m h among mark q. use_has_origin version cells ps h x m among mark q;
  one = λ version cells ps x line other h. one_origin cells ps x line other h.rising;
}
