-- The registers of the run, and through which one each read was, from the rows of each thread.
use Rattle.std.proofs.Common.{◌≡◌, ℕ, ◌-◌, ◌*◌, ◌<◌, ◌≤◌, ◌⊎◌, Bool, true, false, List, [], ◌∷◌, ◌++◌, Some, filter, refl, sym, ◌∙◌, ap, ap₂, subst, inl, inr}
use Rattle.std.specs.Prelude.{Contains}
use Rattle.std.proofs.lemmas.Bool.{cases_eq, eq-eqb, ne_eqb}
use Rattle.pa_slot.specs.declared.word.SlotName.{SlotName}
use Rattle.pa_slot.specs.declared.word.Step.TheVariants as steps
use Rattle.pa_region.specs.declared.view.Entry.{Entry}
use Rattle.pa_region.specs.declared.view.Entry.TheVariants.{Looked, Read}
use Rattle.pa_trace.specs.declared.script.Op.{Op}
use Rattle.pa_trace.specs.declared.script.Op.TheVariants as ops
use Rattle.pa_record.specs.declared.entry.Seen.{Seen}
use Rattle.pa_record.specs.declared.entry.Answer.{Answer}
use Rattle.pa_record.specs.declared.entry.Answer.TheVariants as answers
use Rattle.pa_record.specs.declared.history.CellEntry.{CellEntry}
use Rattle.pa_lists.proofs.Members.{not_in_none, first_in, later_in, in_cases}
use Rattle.pa_rules.specs.declared.register.Register.TheVariants.{Empty, Own, Ref, Freed, Cleared}
use Rattle.pa_rules.specs.declared.played.Played.{Played}
use Rattle.pa_rules.specs.Registers.{Reg, Regs, AllRegs, Facts, Row, RowsTo, AllocRow, PointRow, CopyToRow, CopyRow, ReadRow, ReadFromRow, with_thread, no_regs, usable_in, plain_in, facts_with}
use Rattle.pa_rules.specs.Sizes.{usable_of}
use Rattle.pa_logs.specs.Told.{ToldRecord, played_in, is_of_thread}
use Rattle.pa_logs.specs.Touches.{title_of, StepMade, step_in, step_by, IsReadTold, IsToldBy, AreTold}
use Rattle.pa_logs.specs.Reads.{ReadsThrough, HaveReaders}
use Rattle.pa_logs.specs.Said.{HoldsHandle, IsReadThrough, ReadsIts, HasToldRows}

-- ---- what is known of slots

-- a slot's usable bytes by its length and whether it is plain, and both by the records, where a version says what is usable of a request
abbrev pub by_length : ℕ → (SlotName → Bool) → (SlotName → ℕ) → (ℕ → List CellEntry) → Facts
by_length version plain sizes cells =
    record { usable_of = usable_of version; usable_at = λ s. sizes s - 8; plain_at = plain; cells = cells }

abbrev pub by_records : ℕ → List Played → (ℕ → List CellEntry) → Facts
by_records version ps cells = facts_with (usable_of version) ps cells

-- the record's seat had seen the issue of the slot, or the record made a step on it
abbrev pub IsSlotOf : (SlotName → ℕ) → ToldRecord → SlotName → Type 0
IsSlotOf sizes x s = (1 ≤ x.saw (title_of sizes s)) ⊎ ((d : StepMade) × (step_by x.played ≡ Some d) × (d.slot ≡ s))

-- the records say of the slot what its length and its partition do
abbrev pub AgreesAt : (SlotName → Bool) → (SlotName → ℕ) → List Played → SlotName → Type 0
AgreesAt plain sizes ps s = (usable_in ps s ≡ sizes s - 8) × (plain_in ps s ≡ plain s)

module _ (version : ℕ) (plain : SlotName → Bool) (sizes : SlotName → ℕ) (ps : List Played) (cells : ℕ → List CellEntry) where
  abbrev lengths : Facts
  lengths = by_length version plain sizes cells

  abbrev records : Facts
  records = by_records version ps cells

  alloc_row : (r : Reg) (regs : Regs) (reg size : ℕ) (a : Answer) (after : Regs) → AllocRow r lengths regs reg size a after →
      AllocRow r records regs reg size a after
  alloc_row Empty regs reg size a after h = h
  alloc_row (Own s) regs reg size a after h = h
  alloc_row (Ref s) regs reg size a after h = h
  alloc_row Freed regs reg size a after h = h
  alloc_row Cleared regs reg size a after h = h

  -- a register becomes a raw_ptr to the slot, or no raw_ptr to it would be counted
  point_row : (b c : Bool) (s : SlotName) (regs : Regs) (to : ℕ) (a : Answer) (after : Regs) → (a ≡ answers.Uncounted → c ≡ b) →
      ((seen : Seen) → a ≡ answers.Done seen → seen.slot ≡ s → c ≡ b) → PointRow b s regs to a after → PointRow c s regs to a after
  point_row true c s regs to a after refused done h = subst (λ d. PointRow d s regs to a after) (sym (refused h.0)) h
  point_row false c s regs to a after refused done h = subst (λ d. PointRow d s regs to a after) (sym (done h.0 h.2 h.1)) h

  copy_to_row : (q : Reg) (b c : Bool) (s : SlotName) (regs : Regs) (to : ℕ) (a : Answer) (after : Regs) →
      (PointRow b s regs to a after → PointRow c s regs to a after) → CopyToRow q b s regs to a after → CopyToRow q c s regs to a after
  copy_to_row Empty b c s regs to a after points h = points h
  copy_to_row (Own t) b c s regs to a after points h = h
  copy_to_row (Ref t) b c s regs to a after points h = h
  copy_to_row Freed b c s regs to a after points h = points h
  copy_to_row Cleared b c s regs to a after points h = points h

  copy_row : (r : Reg) (x : ToldRecord) (regs : Regs) (from to : ℕ) (after : Regs) → x.played.op ≡ ops.Copy from to →
      ((s : SlotName) → IsSlotOf sizes x s → AgreesAt plain sizes ps s) →
      ((s : SlotName) → r ≡ Own s → x.played.answer ≡ answers.Uncounted → 1 ≤ x.saw (title_of sizes s)) →
      CopyRow r lengths regs to x.played.answer after → CopyRow r records regs to x.played.answer after
  copy_row Empty x regs from to after op same knows h = h
  copy_row (Own s) x regs from to after op same knows h =
      copy_to_row (regs to) (plain s) (plain_in ps s) s regs to x.played.answer after
      (point_row (plain s) (plain_in ps s) s regs to x.played.answer after (λ e. (same s (inl (knows s refl e))).1)
      (λ seen e slot.
      let d : StepMade = record { slot = seen.slot; step = steps.Copy; found = seen.found.0; value = 0 } in
      let made : step_by x.played ≡ Some d = ap₂ step_in op e in
      (same s (inr (d, made, slot))).1)) h
  copy_row (Ref s) x regs from to after op same knows h = h
  copy_row Freed x regs from to after op same knows h = h
  copy_row Cleared x regs from to after op same knows h = h

  from_row : (s : SlotName) (regs : Regs) (place : ℕ) (a : Answer) (after : Regs) → usable_in ps s ≡ sizes s - 8 →
      ReadFromRow s lengths regs place a after → ReadFromRow s records regs place a after
  from_row s regs place a after same (becomes, inl (past, is)) = (becomes, inl (subst (λ n. n ≤ 8 * place) (sym same) past, is))
  from_row s regs place a after same (becomes, inr (inside, seen, value, slot, is)) =
      (becomes, inr (subst (λ n. 8 * place < n) (sym same) inside, seen, value, slot, is))

  read_row : (r : Reg) (regs : Regs) (place : ℕ) (a : Answer) (after : Regs) →
      ((s : SlotName) → HoldsHandle r s → usable_in ps s ≡ sizes s - 8) → ReadRow r lengths regs place a after →
      ReadRow r records regs place a after
  read_row Empty regs place a after same h = h
  read_row (Own s) regs place a after same h = from_row s regs place a after (same s refl) h
  read_row (Ref s) regs place a after same h = from_row s regs place a after (same s refl) h
  read_row Freed regs place a after same h = h
  read_row Cleared regs place a after same h = h

  one_row : (op : Op) (x : ToldRecord) (regs after : Regs) → x.played.op ≡ op →
      ((s : SlotName) → IsSlotOf sizes x s → AgreesAt plain sizes ps s) → Row lengths op regs x.played.answer after →
      ReadsIts sizes regs op x → Row records op regs x.played.answer after
  one_row (ops.Alloc reg partition size) x regs after is same h reads = alloc_row (regs reg) regs reg size x.played.answer after h
  one_row (ops.Copy from to) x regs after is same h reads = copy_row (regs from) x regs from to after is same reads h
  one_row (ops.Reset reg) x regs after is same h reads = h
  one_row (ops.Free reg) x regs after is same h reads = h
  one_row (ops.Write reg value) x regs after is same h reads = h
  one_row (ops.Read reg place) x regs after is same h reads =
      read_row (regs reg) regs place x.played.answer after (λ s has. (same s (inl (reads.issued s has))).0) h
  one_row (ops.Swap cell reg) x regs after is same h reads = h
  one_row ops.Purge x regs after is same h reads = h

  pub rows_same : (regs : Regs) (xs : List ToldRecord) →
      ((x : ToldRecord) (s : SlotName) → Contains xs x → IsSlotOf sizes x s → AgreesAt plain sizes ps s) →
      HasToldRows sizes lengths regs xs → HasToldRows sizes records regs xs
  rows_same regs [] same h = tt
  rows_same regs (x ∷ xs) same (next, row, reads, rest) = (
    next,
    one_row x.played.op x regs next refl (λ s of. same x s (first_in x xs) of) row reads,
    reads,
    rows_same next xs (λ y s among of. same y s (later_in x y xs among) of) rest,
  )

-- ---- the threads' rows are those of the run

own_told : (k : ℕ) (x : ToldRecord) (xs : List ToldRecord) → x.played.thread ≡ k →
    filter (is_of_thread k) (x ∷ xs) ≡ x ∷ filter (is_of_thread k) xs
own_told k x xs e = rw (eq-eqb x.played.thread k e) refl

other_told : (k : ℕ) (x : ToldRecord) (xs : List ToldRecord) → (x.played.thread ≡ k → ⊥) →
    filter (is_of_thread k) (x ∷ xs) ≡ filter (is_of_thread k) xs
other_told k x xs e = rw (ne_eqb x.played.thread k e) refl

-- the registers just before a record, and what its row and its read say of them
pub record StandsAfter (sizes : SlotName → ℕ) (facts : Facts) (all : AllRegs) (ps : List Played) (x : ToldRecord) : Type 0 where
  pub before : List Played
  pub after : List Played
  pub regs : AllRegs
  pub next : Regs
  pub parts : ps ≡ before ++ x.played ∷ after
  pub rows : RowsTo facts all before regs
  pub row : Row facts x.played.op (regs x.played.thread) x.played.answer next
  pub reads : ReadsIts sizes (regs x.played.thread) x.played.op x

module _ (sizes : SlotName → ℕ) (facts : Facts) where
  -- one record less
  go_on : (all : AllRegs) (x : ToldRecord) (xs : List ToldRecord) (next : Regs) →
      ((k : ℕ) → HasToldRows sizes facts (all k) (filter (is_of_thread k) (x ∷ xs))) →
      HasToldRows sizes facts next (filter (is_of_thread x.played.thread) xs) → (k : ℕ) →
      HasToldRows sizes facts (with_thread all x.played.thread next k) (filter (is_of_thread k) xs)
  go_on all x xs next each rest k = elim (cases_eq k x.played.thread) [
    | inl e ↦ rw (eq-eqb k x.played.thread e) (subst (λ n. HasToldRows sizes facts next (filter (is_of_thread n) xs)) (sym e) rest)
    | inr ne ↦ rw (ne_eqb k x.played.thread ne)
        (subst (λ ys. HasToldRows sizes facts (all k) ys) (other_told k x xs (λ e. ne (sym e))) (each k))
  ]

  pub merged : (all : AllRegs) (ts : List ToldRecord) → ((k : ℕ) → HasToldRows sizes facts (all k) (filter (is_of_thread k) ts)) →
      (after : AllRegs) × RowsTo facts all (played_in ts) after
  merged all [] each = (all, refl)
  merged all (x ∷ xs) each =
      let (next, row, reads, rest) =
      subst (λ ys. HasToldRows sizes facts (all x.played.thread) ys) (own_told x.played.thread x xs refl) (each x.played.thread) in
      let (after, rows) = merged (with_thread all x.played.thread next) xs (go_on all x xs next each rest) in
      (after, (next, row, rows))

  pub stands_at : (all : AllRegs) (ts : List ToldRecord) (x : ToldRecord) →
      ((k : ℕ) → HasToldRows sizes facts (all k) (filter (is_of_thread k) ts)) → Contains ts x →
      StandsAfter sizes facts all (played_in ts) x
  stands_at all [] x each among = absurd (not_in_none x among)
  stands_at all (y ∷ ys) x each among =
      let (next, row, reads, rest) =
      subst (λ zs. HasToldRows sizes facts (all y.played.thread) zs) (own_told y.played.thread y ys refl) (each y.played.thread) in
      elim (in_cases y x ys among) [
        | inl e ↦ subst (λ (z : ToldRecord). StandsAfter sizes facts all (played_in (y ∷ ys)) z) e
            (record { before = []; after = played_in ys; regs = all; next = next; parts = refl; rows = refl; row = row; reads = reads })
        | inr later ↦
            let there = stands_at (with_thread all y.played.thread next) ys x (go_on all y ys next each rest) later in
            record {
              before = y.played ∷ there.before;
              after = there.after;
              regs = there.regs;
              next = there.next;
              parts = ap (λ zs. y.played ∷ zs) there.parts;
              rows = (next, row, there.rows);
              row = there.row;
              reads = there.reads;
            }
      ]

-- ---- readers

value_is : (a b : Seen) (v w : ℕ) → answers.Value a v ≡ answers.Value b w → a ≡ b
value_is a b v w e = cc

-- the read of a log segment through an Own is an owner's
owned_read : (sizes : SlotName → ℕ) (s : SlotName) (seen : Seen) (place value : ℕ) (owned : Bool) (x : ToldRecord) (r : Reg) →
    IsReadThrough sizes r x → r ≡ Own s →
    IsReadTold (title_of sizes seen.slot) place seen.found.0 value owned x.stretch →
    IsReadTold (title_of sizes seen.slot) place seen.found.0 value true x.stretch
owned_read sizes s seen place value owned x r reads own told =
    let t = title_of sizes seen.slot in
    let looked : Entry = Looked t seen.found.0 in
    let read : Entry = Read t place value told.since owned told.unclean in
    let there : Contains x.stretch read =
    subst (λ es. Contains es read) (sym told.pair) (later_in looked read (read ∷ told.rest) (first_in read told.rest)) in
    subst (λ b. IsReadTold t place seen.found.0 value b x.stretch)
    (reads.owned s t place value told.since owned told.unclean own there) told

through : (sizes : SlotName → ℕ) (facts : Facts) (r : Reg) (regs after : Regs) (seen : Seen) (place value : ℕ) (owned : Bool)
    (x : ToldRecord) → IsReadThrough sizes r x →
    ReadRow r facts regs place (answers.Value seen value) after →
    IsReadTold (title_of sizes seen.slot) place seen.found.0 value owned x.stretch → ReadsThrough sizes r seen place value x
through sizes facts Empty regs after seen place value owned x reads row told = absurd cc
through sizes facts (Own s) regs after seen place value owned x reads row told =
    owned_read sizes s seen place value owned x (Own s) reads refl told
through sizes facts (Ref s) regs after seen place value owned x reads (becomes, inl (past, is)) told = absurd cc
through sizes facts (Ref s) regs after seen place value owned x reads (becomes, inr (inside, other, given, slot, inl (held, is))) told =
    (sym slot ∙ ap (λ (z : Seen). z.slot) (sym (value_is seen other value given is)), owned, told)
through sizes facts (Ref s) regs after seen place value owned x reads (becomes, inr (inside, other, given, slot, inr (freed, is))) told =
    absurd cc
through sizes facts Freed regs after seen place value owned x reads row told = absurd cc
through sizes facts Cleared regs after seen place value owned x reads row told = absurd cc

pub have_readers : (version : ℕ) (sizes : SlotName → ℕ) (cells : ℕ → List CellEntry) (ts : List ToldRecord) → AreTold sizes ts →
    ((k : ℕ) → HasToldRows sizes (by_records version (played_in ts) cells) (no_regs k) (filter (is_of_thread k) ts)) →
    HaveReaders version sizes cells ts
have_readers version sizes cells ts told each x seen value among answer =
    let facts = by_records version (played_in ts) cells in
    let at = stands_at sizes facts no_regs ts x each among in
    let (held, (reg, place, owned, op, read)) = subst (λ a. IsToldBy sizes x.played.op a x.stretch) answer (told x among) in
    let regs = at.regs x.played.thread in
    let row : ReadRow (regs reg) facts regs place (answers.Value seen value) at.next = subst
    (λ o. Row facts o regs (answers.Value seen value) at.next) op
    (subst (λ a. Row facts x.played.op regs a at.next) answer at.row) in
    let reads : IsReadThrough sizes (regs reg) x = subst (λ o. ReadsIts sizes regs o x) op at.reads in (
      reg,
      place,
      regs,
      op,
      (at.before, at.after, at.regs, at.parts, at.rows, refl),
      through sizes facts (regs reg) regs at.next seen place value owned x reads row read,
    )
