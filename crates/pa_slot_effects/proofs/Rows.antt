-- The rows so far, with a row more, by longer histories, and at the end.
use Rattle.std.proofs.Common.{◌≡◌, ℕ, Bool, if◌then◌else◌, ◌+◌, ◌<◌, List, [], ◌∷◌, ◌++◌, None, Contains, refl, sym, ap, ◌∙◌, subst, arith, add-one, zero, suc, inl, inr, ◌⊎◌}
use Rattle.pa_slot.specs.declared.word.SlotName.{SlotName}
use Rattle.pa_slot.specs.Run.{same_slot}
use Rattle.pa_slot.proofs.Runs.{same_slot_yes, same_slot_cases, same_slot_no}
use Rattle.pa_trace.specs.declared.script.Op.{Op}
use Rattle.pa_trace.specs.declared.script.Op.TheVariants as ops
use Rattle.pa_record.specs.declared.entry.Seen.{Seen}
use Rattle.pa_record.specs.declared.entry.Answer.{Answer}
use Rattle.pa_record.specs.declared.entry.Answer.TheVariants.{Made, Done, Value, Dangling, SecondFree, NotOwner, StaleReset, StaleUse, Nothing, Filled, NotRef, Shared, OutOfRange, TooLarge, Full, Swapped, Purged, Uncounted}
use Rattle.pa_record.specs.declared.history.CellEntry.{CellEntry}
use Rattle.pa_rules.specs.declared.register.Register.TheVariants.{Empty, Own, Ref, Freed, Cleared}
use Rattle.pa_rules.specs.declared.played.Played.{Played}
use Rattle.pa_rules.specs.Registers.{Reg, Regs, AllRegs, Row, RowsTo, AllocRow, CopyRow, CopyToRow, ReadRow, ReadFromRow, with_thread, made_of, usable_or, usable_in, is_plain_op, plain_or, plain_in}
use Rattle.pa_rules.specs.Cells.{IsExchange}
use Rattle.pa_slot_effects.specs.Shown.{IsUsed}
use Rattle.pa_slot_effects.specs.Known.{facts_of, RowsNamed, AreSized, ArePlaced}

-- slots that were stepped on stay so and keep their usable numbers and partitions, and each exchange is where it stood
pub record GoesOn (word next usable later : SlotName → ℕ) (plain placed : SlotName → Bool) (cells after : ℕ → List CellEntry) : Type 0 where
  pub used : (s : SlotName) → 0 < word s → 0 < next s
  pub sizes : (s : SlotName) → 0 < word s → later s ≡ usable s
  pub places : (s : SlotName) → 0 < word s → placed s ≡ plain s
  pub exchanges : (k j : ℕ) (e : CellEntry) → IsExchange cells k j e → IsExchange after k j e

pub used_on : (word next : SlotName → ℕ) → ((s : SlotName) → 0 < word s → 0 < next s) → (r : Reg) → IsUsed word r → IsUsed next r
used_on word next up Empty h = tt
used_on word next up (Own s) h = up s h
used_on word next up (Ref s) h = up s h
used_on word next up Freed h = tt
used_on word next up Cleared h = tt

module _ (version : ℕ) (word next usable later : SlotName → ℕ) (plain placed : SlotName → Bool) (cells after : ℕ → List CellEntry)
    (like : GoesOn word next usable later plain placed cells after) where
  alloc_like : (r : Reg) (regs : Regs) (reg size : ℕ) (answer : Answer) (then' : Regs)
      → AllocRow r (facts_of version usable plain cells) regs reg size answer then' →
      AllocRow r (facts_of version later placed after) regs reg size answer then'
  alloc_like Empty regs reg size answer then' h = h
  alloc_like (Own s) regs reg size answer then' h = h
  alloc_like (Ref s) regs reg size answer then' h = h
  alloc_like Freed regs reg size answer then' h = h
  alloc_like Cleared regs reg size answer then' h = h

  read_from_like : (s : SlotName) (regs : Regs) (place : ℕ) (answer : Answer) (then' : Regs) → 0 < word s
      → ReadFromRow s (facts_of version usable plain cells) regs place answer then' →
      ReadFromRow s (facts_of version later placed after) regs place answer then'
  read_from_like s regs place answer then' used h =
      let P : ℕ → Type 0 = λ u. ReadFromRow s (facts_of version (λ t. u) placed after) regs place answer then' in
      subst P (sym (like.sizes s used)) h

  read_like : (r : Reg) (regs : Regs) (place : ℕ) (answer : Answer) (then' : Regs) → IsUsed word r
      → ReadRow r (facts_of version usable plain cells) regs place answer then' →
      ReadRow r (facts_of version later placed after) regs place answer then'
  read_like Empty regs place answer then' used h = h
  read_like (Own s) regs place answer then' used h = read_from_like s regs place answer then' used h
  read_like (Ref s) regs place answer then' used h = read_from_like s regs place answer then' used h
  read_like Freed regs place answer then' used h = h
  read_like Cleared regs place answer then' used h = h

  copy_like : (r : Reg) (regs : Regs) (to : ℕ) (answer : Answer) (then' : Regs) → IsUsed word r
      → CopyRow r (facts_of version usable plain cells) regs to answer then' →
      CopyRow r (facts_of version later placed after) regs to answer then'
  copy_like Empty regs to answer then' used h = h
  copy_like (Own s) regs to answer then' used h =
      let P : Bool → Type 0 = λ b. CopyToRow (regs to) b s regs to answer then' in
      subst P (sym (like.places s used)) h
  copy_like (Ref s) regs to answer then' used h = h
  copy_like Freed regs to answer then' used h = h
  copy_like Cleared regs to answer then' used h = h

  row_like : (op : Op) (regs : Regs) (answer : Answer) (then' : Regs) → ((r : ℕ) → IsUsed word (regs r))
      → Row (facts_of version usable plain cells) op regs answer then' → Row (facts_of version later placed after) op regs answer then'
  row_like (ops.Alloc reg partition size) regs answer then' used h = alloc_like (regs reg) regs reg size answer then' h
  row_like (ops.Copy from to) regs answer then' used h = copy_like (regs from) regs to answer then' (used from) h
  row_like (ops.Reset reg) regs answer then' used h = h
  row_like (ops.Free reg) regs answer then' used h = h
  row_like (ops.Write reg value) regs answer then' used h = h
  row_like (ops.Read reg place) regs answer then' used h = read_like (regs reg) regs place answer then' (used reg) h
  row_like (ops.Swap cell reg) regs answer then' used h = (h.0, h.1, h.2, like.exchanges cell h.0 h.1 h.3, h.4, h.5)
  row_like ops.Purge regs answer then' used h = h

  -- rows stay rows by longer histories, with more steps, more slots made and more exchanges
  pub rows_on : (all : AllRegs) (ps : List Played) (end : AllRegs) → RowsNamed version word usable plain cells all ps end →
      RowsNamed version next later placed after all ps end
  rows_on all [] end h = h
  rows_on all (x ∷ xs) end h = (
    (λ r. used_on word next like.used (all x.thread r) (h.0 r)),
    h.1,
    row_like x.op (all x.thread) x.answer h.1 h.0 h.2,
    rows_on (with_thread all x.thread h.1) xs end h.3,
  )

  -- the rows as the rules ask
  pub rows_end : (all : AllRegs) (ps : List Played) (end : AllRegs) → RowsNamed version word usable plain cells all ps end →
      RowsTo (facts_of version later placed after) all ps end
  rows_end all [] end h = h
  rows_end all (x ∷ xs) end h = (h.1, row_like x.op (all x.thread) x.answer h.1 h.0 h.2, rows_end (with_thread all x.thread h.1) xs end h.3)

-- a row more
pub rows_push : (version : ℕ) (word usable : SlotName → ℕ) (plain : SlotName → Bool) (cells : ℕ → List CellEntry) (all : AllRegs)
    (ps : List Played) (mid : AllRegs) (x : Played) (next : Regs)
    → RowsNamed version word usable plain cells all ps mid → ((r : ℕ) → IsUsed word (mid x.thread r)) →
    Row (facts_of version usable plain cells) x.op (mid x.thread) x.answer next
    → RowsNamed version word usable plain cells all (ps ++ x ∷ []) (with_thread mid x.thread next)
rows_push version word usable plain cells all [] mid x next h named r =
    let P : AllRegs → Type 0 = λ y. Row (facts_of version usable plain cells) x.op (y x.thread) x.answer next in
    let N : AllRegs → Type 0 = λ y. (r : ℕ) → IsUsed word (y x.thread r) in
    (subst N h named, next, subst P h r, ap (λ (y : AllRegs). with_thread y x.thread next) h)
rows_push version word usable plain cells all (q ∷ ps) mid x next h named r =
    (h.0, h.1, h.2, rows_push version word usable plain cells (with_thread all q.thread h.1) ps mid x next h.3 named r)

-- ---- what the first record that made a slot says of it

made_or_none : (a : Answer) → ((seen : Seen) × (n : ℕ) × (a ≡ Made seen n)) ⊎ (made_of a ≡ None)
made_or_none (Made seen n) = inl (seen, n, refl)
made_or_none (Done seen) = inr refl
made_or_none (Value seen value) = inr refl
made_or_none (Dangling seen value) = inr refl
made_or_none (SecondFree seen) = inr refl
made_or_none (NotOwner seen) = inr refl
made_or_none StaleReset = inr refl
made_or_none (StaleUse seen) = inr refl
made_or_none Nothing = inr refl
made_or_none Filled = inr refl
made_or_none NotRef = inr refl
made_or_none (Shared seen) = inr refl
made_or_none OutOfRange = inr refl
made_or_none TooLarge = inr refl
made_or_none (Full entry) = inr refl
made_or_none (Swapped entry) = inr refl
made_or_none (Purged slots) = inr refl
made_or_none Uncounted = inr refl

-- What records say of slots: one that made a slot says this, by its usable number, and of other slots what the later ones say.
pub record Says {V : Type 0} (said : List Played → SlotName → V) (by : Played → ℕ → V) : Type 0 where
  pub none : (x : Played) (ps : List Played) (s : SlotName) → made_of x.answer ≡ None → said (x ∷ ps) s ≡ said ps s
  pub some : (x : Played) (ps : List Played) (s : SlotName) (seen : Seen) (n : ℕ) → x.answer ≡ Made seen n →
      said (x ∷ ps) s ≡ (if same_slot seen.slot s then by x n else said ps s)

pub usable_says : Says usable_in (λ x n. n)
usable_says = record {
  none = λ x ps s e. ap (λ o. usable_or o s (usable_in ps s)) e;
  some = λ x ps s seen n e. ap (λ a. usable_or (made_of a) s (usable_in ps s)) e;
}

pub plain_says : Says plain_in (λ x n. is_plain_op x.rules x.op)
plain_says = record {
  none = λ x ps s e. ap (λ o. plain_or o x s (plain_in ps s)) e;
  some = λ x ps s seen n e. ap (λ a. plain_or (made_of a) x s (plain_in ps s)) e;
}

module _ {V : Type 0} (said : List Played → SlotName → V) (by : Played → ℕ → V) (says : Says said by) where
  -- of the slot that the first record made
  said_here : (q : Played) (ps : List Played) (s : SlotName) (seen : Seen) (n : ℕ) → q.answer ≡ Made seen n → seen.slot ≡ s
      → said (q ∷ ps) s ≡ by q n
  said_here q ps s seen n e at = says.some q ps s seen n e ∙ rw (same_slot_yes seen.slot s at) refl

  -- either the first record made the slot, or the others say all
  said_cases : (q : Played) (s : SlotName) → ((seen : Seen) × (n : ℕ) × (q.answer ≡ Made seen n) × (seen.slot ≡ s))
      ⊎ ((ps : List Played) → said (q ∷ ps) s ≡ said ps s)
  said_cases q s = elim (made_or_none q.answer) [
    | inl (seen, n, e) ↦ elim (same_slot_cases seen.slot s) [
      | inl at ↦ inl (seen, n, e, at)
      | inr ne ↦ inr (λ ps. says.some q ps s seen n e ∙ rw (same_slot_no seen.slot s ne) refl)
    ]
    | inr none ↦ inr (λ ps. says.none q ps s none)
  ]

  -- records more don't change what is said of a slot that was made before
  pub said_more : (ps more : List Played) (s : SlotName) (x : Played) (seen : Seen) (n : ℕ) → Contains ps x → x.answer ≡ Made seen n
      → seen.slot ≡ s → said (ps ++ more) s ≡ said ps s
  said_more [] more s x seen n c e at = absurd (omega (arith, c.1))
  said_more (q ∷ ps) more s x seen n (zero, c, same) e at =
      let made : q.answer ≡ Made seen n = ap (λ (y : Played). y.answer) same ∙ e in
      said_here q (ps ++ more) s seen n made at ∙ sym (said_here q ps s seen n made at)
  said_more (q ∷ ps) more s x seen n (suc k, c, same) e at = elim (said_cases q s) [
    | inl (u, m, made, here) ↦ said_here q (ps ++ more) s u m made here ∙ sym (said_here q ps s u m made here)
    | inr later ↦ later (ps ++ more) ∙ said_more ps more s x seen n (k, omega (arith, c), same) e at ∙ sym (later ps)
  ]

  -- if each record that made a slot says its value, this is said of each slot that a record made
  said_made : (value : SlotName → V) (ps : List Played) (x : Played) (seen : Seen) (n : ℕ) (s : SlotName)
      → ((y : Played) (u : Seen) (m : ℕ) → Contains ps y → y.answer ≡ Made u m → by y m ≡ value u.slot) → Contains ps x
      → x.answer ≡ Made seen n → seen.slot ≡ s → said ps s ≡ value s
  said_made value [] x seen n s right c e at = absurd (omega (arith, c.1))
  said_made value (q ∷ ps) x seen n s right (zero, c, same) e at =
      let made : q.answer ≡ Made seen n = ap (λ (y : Played). y.answer) same ∙ e in
      said_here q ps s seen n made at ∙ right q seen n (0, omega arith, refl) made ∙ ap value at
  said_made value (q ∷ ps) x seen n s right (suc k, c, same) e at = elim (said_cases q s) [
    | inl (u, m, made, here) ↦ said_here q ps s u m made here ∙ right q u m (0, omega arith, refl) made ∙ ap value here
    | inr later ↦ later ps ∙
        said_made value ps x seen n s (λ y u m d f. right y u m (d.0 + 1, omega (arith, d.1), rw add-one d.2) f)
        (k, omega (arith, c), same) e at
  ]

-- if each record that makes a slot reports its usable bytes, usable_in has these for each slot that a record made
pub usable_made : (usable : SlotName → ℕ) (ps : List Played) (x : Played) (seen : Seen) (n : ℕ) (s : SlotName) → AreSized usable ps
    → Contains ps x → x.answer ≡ Made seen n → seen.slot ≡ s → usable_in ps s ≡ usable s
usable_made = said_made usable_in (λ x n. n) usable_says

-- and if each makes one that is plain exactly if its partition is, plain_in tells so of each slot that a record made
pub plain_made : (plain : SlotName → Bool) (ps : List Played) (x : Played) (seen : Seen) (n : ℕ) (s : SlotName) → ArePlaced plain ps
    → Contains ps x → x.answer ≡ Made seen n → seen.slot ≡ s → plain_in ps s ≡ plain s
plain_made = said_made plain_in (λ x n. is_plain_op x.rules x.op) plain_says
