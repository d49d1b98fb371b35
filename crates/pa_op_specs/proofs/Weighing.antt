-- What a worker counts of an op, and owes after it, is what the op's record weighs, in every run that fits.
use Rattle.std.proofs.Common.{◌≡◌, ℕ, ◌<◌, Bool, true, false, List, [], ◌∷◌, length, Option, Some, None, refl, sym, ◌∙◌, ap, subst, arith, inl, inr}
use Rattle.std.proofs.lemmas.Bool.{eq-eqb}
use Rattle.pa_slot.specs.declared.word.SlotName.{SlotName}
use Rattle.pa_slot.specs.declared.word.Step.{Step}
use Rattle.pa_slot.specs.declared.word.Step.TheVariants as steps
use Rattle.pa_slot.specs.Run.{Mark}
use Rattle.pa_trace.specs.declared.script.Op.{Op}
use Rattle.pa_trace.specs.declared.script.Op.TheVariants as ops
use Rattle.pa_trace.specs.declared.script.Rules.{Rules}
use Rattle.pa_record.specs.declared.entry.Seen.{Seen}
use Rattle.pa_record.specs.declared.entry.Answer.{Answer}
use Rattle.pa_record.specs.declared.entry.Answer.TheVariants as answers
use Rattle.pa_record.specs.Spans.{name_of}
use Rattle.pa_region.specs.Lists.{list_of, IsBeginning}
use Rattle.pa_rules.specs.declared.played.Played.{Played}
use Rattle.pa_rules.specs.declared.register.Register.TheVariants as reg
use Rattle.pa_rules.specs.Played.{mark_at, mark_of_answer}
use Rattle.pa_rules.specs.Registers.{Reg, Regs, Facts, Row, RequestRow, AllocRow, PointRow, CopyToRow, CopyRow, ResetRow, FreeRow, WriteRow, ReadFromRow, ReadRow}
use Rattle.pa_logs.specs.Told.{ToldRecord}
use Rattle.pa_cells.specs.declared.handle.Handle.{Handle}
use Rattle.pa_cells.specs.Handles.{HasSeenMade}
use Rattle.pa_totals.specs.declared.owed.Owed.{Owed}
use Rattle.pa_op_specs.specs.declared.counts.Count.{Count}
use Rattle.pa_rules.specs.declared.register.Register.TheVariants.{Empty, Own, Ref, Freed, Cleared}
use Rattle.pa_op_specs.specs.Counts.{counts_after, owed_after, owned_in, pointed_in, done_seen, made_seen, CountsBy}
use Rattle.pa_op_specs.specs.Stocks.{StockRegister, StockValue, IsStock, register_in, as_reg, regs_of, rules_at}
use Rattle.pa_op_specs.specs.Outcomes.{Outcome, IsOutcome, IsSeenOf, FitsRun, row_facts}
use Rattle.pa_op_specs.specs.Plays.{Does}
use Rattle.pa_op_specs.proofs.Counting.{OwesBy, Uncounted, counts_stay, owed_stays, counts_step, owed_step}
use Rattle.pa_op_specs.proofs.Following.{seen_before}
use Rattle.pa_op_specs.proofs.Seeing.{slot_in_run}
use Rattle.pa_op_specs.proofs.Stocks.{register_has}

-- these records weigh this much, in slots and in bytes
abbrev pub Weighs : (home size : SlotName → ℕ) → List Played → (cs ds : List Count) → (os ps : List Owed) → Type 0
Weighs home size xs cs ds os ps = CountsBy home xs cs ds × OwesBy home size xs os ps

-- The counts of an op that was played so, and what is owed, are what its record weighs.
abbrev pub CountsOp : (line : ℕ) → Op → Answer → (before after : StockValue) → (cs ds : List Count) → (os ps : List Owed) → Type 0
CountsOp line op answer before after cs ds os ps =
    (phase : ℕ) → (x : ToldRecord) →
    x.played ≡ record { line = line; thread = before.thread; phase = phase; rules = rules_at before; op = op; answer = answer } →
    Does before after x → (o : Outcome) → FitsRun o before.partitions after.view x → Weighs o.homes o.sizes (x.played ∷ []) cs ds os ps

-- it is enough to show it of the op's row
counts_by_row : (line : ℕ) (op : Op) (answer : Answer) (before after : StockValue) (cs ds : List Count) (os ps : List Owed) →
    ((phase : ℕ) (o : Outcome) → IsOutcome o → IsSeenOf o after.view →
    ((k : ℕ) → IsBeginning (list_of k before.view) (list_of k after.view)) →
    Row (row_facts o) op (regs_of before.registers) answer (regs_of after.registers) →
    Weighs o.homes o.sizes (record {
      line = line;
      thread = before.thread;
      phase = phase;
      rules = rules_at before;
      op = op;
      answer = answer;
    } ∷ []) cs ds os ps) →
    CountsOp line op answer before after cs ds os ps
counts_by_row line op answer before after cs ds os ps each phase x is does o fits =
    subst (λ (p : Played). Weighs o.homes o.sizes (p ∷ []) cs ds os ps) (sym is)
    (each phase o fits.run fits.seen does.lists
    (subst (λ (p : Played). Row (row_facts o) p.op (regs_of before.registers) p.answer (regs_of after.registers)) is
    (does.answers o fits).row))

-- a slot has its handle's partition and length
record IsAtHome (home size : SlotName → ℕ) (h : Handle) : Type 0 where
  home_is : home (name_of h.title) ≡ h.partition
  size_is : size (name_of h.title) ≡ h.title.len
  low : h.partition < 4

at_home : (o : Outcome) (s : StockValue) (h : Handle) → IsOutcome o → IsSeenOf o s.view → HasSeenMade h s.view → IsAtHome o.homes o.sizes h
at_home o s h run seen made =
    let slot = slot_in_run o s.view h run seen made in
    record { home_is = slot.home; size_is = slot.length; low = made.partition }

-- no answer, no count, and nothing owed
counts_unseen : (step : Step) (handle : Option Handle) (cs : List Count) → counts_after step handle None cs ≡ cs
counts_unseen step None cs = refl
counts_unseen step (Some h) cs = refl

owed_unseen : (step : Step) (handle : Option Handle) (os : List Owed) → owed_after step handle None os ≡ os
owed_unseen step None os = refl
owed_unseen step (Some h) os = refl

module _ (home size : SlotName → ℕ) (line thread phase : ℕ) (rules : Rules) (cs : List Count) (four : length cs ≡ 4) (os : List Owed)
    (also : length os ≡ 4) where
  abbrev played_so : Op → Answer → Played
  played_so op answer = record { line = line; thread = thread; phase = phase; rules = rules; op = op; answer = answer }

  -- an answer that counts nothing
  stays : (op : Op) (answer given : Answer) → answer ≡ given → (o : Option Mark) → mark_of_answer line op given ≡ o → Uncounted o →
      Weighs home size (played_so op answer ∷ []) cs cs os os
  stays op answer given is o e un =
      let marked = ap (mark_of_answer line op) is ∙ e in
      (counts_stay home (played_so op answer) o cs marked un, owed_stays home size (played_so op answer) o os marked un)

  -- a step on the slot of a handle
  steps_on : (op : Op) (answer given : Answer) (seen : Seen) (step : Step) (h : Handle) → answer ≡ given →
      mark_of_answer line op given ≡ Some (mark_at line seen (Some step)) →
      seen.slot ≡ name_of h.title → IsAtHome home size h →
      Weighs home size (played_so op answer ∷ []) cs (counts_after step (Some h) (Some seen) cs) os
      (owed_after step (Some h) (Some seen) os)
  steps_on op answer given seen step h is marked slot at =
      let inside : h.partition < length cs = let low = at.low in omega arith in
      let within : h.partition < length os = let low = at.low in omega arith in
      let marks = ap (mark_of_answer line op) is ∙ marked in
      let there = ap home slot ∙ at.home_is in
      subst (λ n. Weighs home size (played_so op answer ∷ []) cs (counts_after step (Some h) (Some seen) cs)
      os (owed_after step (Some (record h { title = record h.title { len = n } })) (Some seen) os)) (ap size slot ∙ at.size_is) (
        counts_step home size (played_so op answer) (mark_at line seen (Some step)) step marks refl h.partition cs inside there,
        owed_step home size (played_so op answer) (mark_at line seen (Some step)) step marks refl h.partition os within there,
      )

  -- ---- op by op

  point_row : (plain : Bool) (s : SlotName) (regs after : Regs) (from to : ℕ) (answer : Answer) → PointRow plain s regs to answer after →
      Weighs home size (played_so (ops.Copy from to) answer ∷ []) cs cs os os
  point_row true s regs after from to answer (is, b) = stays (ops.Copy from to) answer answers.Uncounted is None refl tt
  point_row false s regs after from to answer (seen, slot, is, b) = stays (ops.Copy from to) answer (answers.Done seen) is
      (Some (mark_at line seen (Some steps.Copy))) refl (refl, refl, refl, refl)

  copy_to_row : (q : Reg) (plain : Bool) (s : SlotName) (regs after : Regs) (from to : ℕ) (answer : Answer) →
      CopyToRow q plain s regs to answer after → Weighs home size (played_so (ops.Copy from to) answer ∷ []) cs cs os os
  copy_to_row reg.Empty plain s regs after from to answer row = point_row plain s regs after from to answer row
  copy_to_row (reg.Own t) plain s regs after from to answer (is, b) = stays (ops.Copy from to) answer answers.Filled is None refl tt
  copy_to_row (reg.Ref t) plain s regs after from to answer (is, b) = stays (ops.Copy from to) answer answers.Filled is None refl tt
  copy_to_row reg.Freed plain s regs after from to answer row = point_row plain s regs after from to answer row
  copy_to_row reg.Cleared plain s regs after from to answer row = point_row plain s regs after from to answer row

  copy_row : (q : Reg) (facts : Facts) (regs after : Regs) (from to : ℕ) (answer : Answer) → CopyRow q facts regs to answer after →
      Weighs home size (played_so (ops.Copy from to) answer ∷ []) cs cs os os
  copy_row reg.Empty facts regs after from to answer (is, b) = stays (ops.Copy from to) answer answers.Nothing is None refl tt
  copy_row (reg.Own s) facts regs after from to answer row = copy_to_row (regs to) (facts.plain_at s) s regs after from to answer row
  copy_row (reg.Ref s) facts regs after from to answer row = copy_to_row (regs to) false s regs after from to answer row
  copy_row reg.Freed facts regs after from to answer (is, b) = stays (ops.Copy from to) answer (answers.StaleUse None) is None refl tt
  copy_row reg.Cleared facts regs after from to answer (is, b) = stays (ops.Copy from to) answer (answers.StaleUse None) is None refl tt

  write_row : (q : Reg) (regs after : Regs) (r value : ℕ) (answer : Answer) → WriteRow q regs answer after →
      Weighs home size (played_so (ops.Write r value) answer ∷ []) cs cs os os
  write_row reg.Empty regs after r value answer (is, b) = stays (ops.Write r value) answer answers.Nothing is None refl tt
  write_row (reg.Own s) regs after r value answer (seen, slot, b, inl (some, is)) =
      stays (ops.Write r value) answer (answers.Shared seen) is
      (Some (mark_at line seen None)) refl (refl, refl, refl, refl)
  write_row (reg.Own s) regs after r value answer (seen, slot, b, inr (none, is)) = stays (ops.Write r value) answer (answers.Done seen) is
      (Some (mark_at line seen (Some steps.Write))) refl (refl, refl, refl, refl)
  write_row (reg.Ref s) regs after r value answer (seen, slot, b, inl (some, is)) =
      stays (ops.Write r value) answer (answers.NotOwner seen) is
      (Some (mark_at line seen None)) refl (refl, refl, refl, refl)
  write_row (reg.Ref s) regs after r value answer (seen, slot, b, inr (none, is)) =
      stays (ops.Write r value) answer (answers.StaleUse (Some seen)) is
      (Some (mark_at line seen None)) refl (refl, refl, refl, refl)
  write_row reg.Freed regs after r value answer (is, b) = stays (ops.Write r value) answer (answers.StaleUse None) is None refl tt
  write_row reg.Cleared regs after r value answer (is, b) = stays (ops.Write r value) answer (answers.StaleUse None) is None refl tt

  read_from_row : (s : SlotName) (facts : Facts) (regs after : Regs) (r place : ℕ) (answer : Answer) →
      ReadFromRow s facts regs place answer after →
      Weighs home size (played_so (ops.Read r place) answer ∷ []) cs cs os os
  read_from_row s facts regs after r place answer (b, inl (out, is)) = stays (ops.Read r place) answer answers.OutOfRange is None refl tt
  read_from_row s facts regs after r place answer (b, inr (inside, seen, value, slot, inl (held, is))) =
      stays (ops.Read r place) answer (answers.Value seen value) is (Some (mark_at line seen None)) refl (refl, refl, refl, refl)
  read_from_row s facts regs after r place answer (b, inr (inside, seen, value, slot, inr (freed, is))) =
      stays (ops.Read r place) answer (answers.Dangling seen value) is (Some (mark_at line seen None)) refl (refl, refl, refl, refl)

  read_row : (q : Reg) (facts : Facts) (regs after : Regs) (r place : ℕ) (answer : Answer) → ReadRow q facts regs place answer after →
      Weighs home size
      (played_so (ops.Read r place) answer ∷ []) cs cs os os
  read_row reg.Empty facts regs after r place answer (is, b) = stays (ops.Read r place) answer answers.Nothing is None refl tt
  read_row (reg.Own s) facts regs after r place answer row = read_from_row s facts regs after r place answer row
  read_row (reg.Ref s) facts regs after r place answer row = read_from_row s facts regs after r place answer row
  read_row reg.Freed facts regs after r place answer (is, b) = stays (ops.Read r place) answer (answers.StaleUse None) is None refl tt
  read_row reg.Cleared facts regs after r place answer (is, b) = stays (ops.Read r place) answer (answers.StaleUse None) is None refl tt

  reset_row : (q : StockRegister) (regs after : Regs) (r : ℕ) (answer : Answer) → ((h : Handle) → q ≡ Ref h → IsAtHome home size h) →
      ResetRow (as_reg q) regs r answer after →
      Weighs home size (played_so (ops.Reset r) answer ∷ []) cs (counts_after steps.Reset (pointed_in q) (done_seen answer) cs) os
      (owed_after steps.Reset (pointed_in q) (done_seen answer) os)
  reset_row Empty regs after r answer at (is, b) = stays (ops.Reset r) answer answers.Nothing is None refl tt
  reset_row (Own h) regs after r answer at (is, b) = stays (ops.Reset r) answer answers.NotRef is None refl tt
  reset_row (Ref h) regs after r answer at (seen, slot, is, b) =
      subst (λ a. Weighs home size (played_so (ops.Reset r) answer ∷ []) cs (counts_after steps.Reset (Some h) (done_seen a) cs) os
      (owed_after steps.Reset (Some h) (done_seen a) os)) (sym is)
      (steps_on (ops.Reset r) answer (answers.Done seen) seen steps.Reset h is refl slot (at h refl))
  reset_row Freed regs after r answer at (is, b) = stays (ops.Reset r) answer answers.NotRef is None refl tt
  reset_row Cleared regs after r answer at (is, b) = stays (ops.Reset r) answer answers.StaleReset is None refl tt

  free_row : (q : StockRegister) (regs after : Regs) (r : ℕ) (answer : Answer) → ((h : Handle) → q ≡ Own h → IsAtHome home size h) →
      FreeRow (as_reg q) regs r answer after →
      Weighs home size (played_so (ops.Free r) answer ∷ []) cs (counts_after steps.Free (owned_in q) (done_seen answer) cs) os
      (owed_after steps.Free (owned_in q) (done_seen answer) os)
  free_row Empty regs after r answer at (is, b) = stays (ops.Free r) answer answers.Nothing is None refl tt
  free_row (Own h) regs after r answer at (seen, slot, is, b) =
      subst (λ a. Weighs home size (played_so (ops.Free r) answer ∷ []) cs (counts_after steps.Free (Some h) (done_seen a) cs) os
      (owed_after steps.Free (Some h) (done_seen a) os)) (sym is)
      (steps_on (ops.Free r) answer (answers.Done seen) seen steps.Free h is refl slot (at h refl))
  free_row (Ref h) regs after r answer at (seen, slot, b, inl (held, is)) =
      stays (ops.Free r) answer (answers.NotOwner seen) is (Some (mark_at line seen None)) refl (refl, refl, refl, refl)
  free_row (Ref h) regs after r answer at (seen, slot, b, inr (freed, is)) =
      stays (ops.Free r) answer (answers.SecondFree (Some seen)) is (Some (mark_at line seen None)) refl (refl, refl, refl, refl)
  free_row Freed regs after r answer at (is, b) = stays (ops.Free r) answer (answers.SecondFree None) is None refl tt
  free_row Cleared regs after r answer at (is, b) = stays (ops.Free r) answer (answers.StaleUse None) is None refl tt

  -- an allocation that made nothing, and one that made the slot which the register then owns
  made_none : (q : StockRegister) (r partition asked : ℕ) (answer given : Answer) → answer ≡ given →
      mark_of_answer line (ops.Alloc r partition asked) given ≡ None → made_seen given ≡ None →
      Weighs home size (played_so (ops.Alloc r partition asked) answer ∷ []) cs
      (counts_after steps.Issue (owned_in q) (made_seen answer) cs) os
      (owed_after steps.Issue (owned_in q) (made_seen answer) os)
  made_none q r partition asked answer given is unmarked none =
      let same : counts_after steps.Issue (owned_in q) (made_seen answer) cs ≡ cs =
      ap (λ a. counts_after steps.Issue (owned_in q) a cs) (ap made_seen is ∙ none) ∙ counts_unseen steps.Issue (owned_in q) cs in
      let also_same : owed_after steps.Issue (owned_in q) (made_seen answer) os ≡ os =
      ap (λ a. owed_after steps.Issue (owned_in q) a os) (ap made_seen is ∙ none) ∙ owed_unseen steps.Issue (owned_in q) os in
      let stay = stays (ops.Alloc r partition asked) answer given is None unmarked tt in (
        subst (λ ds. CountsBy home (played_so (ops.Alloc r partition asked) answer ∷ []) cs ds) (sym same) stay.0,
        subst (λ ps. OwesBy home size (played_so (ops.Alloc r partition asked) answer ∷ []) os ps) (sym also_same) stay.1,
      )

  made_some : (q : StockRegister) (r partition asked usable : ℕ) (answer : Answer) (seen : Seen) →
      ((h : Handle) → q ≡ Own h → IsAtHome home size h) → answer ≡
      answers.Made seen usable → as_reg q ≡ reg.Own seen.slot →
      Weighs home size (played_so (ops.Alloc r partition asked) answer ∷ []) cs
      (counts_after steps.Issue (owned_in q) (made_seen answer) cs) os
      (owed_after steps.Issue (owned_in q) (made_seen answer) os)
  made_some Empty r partition asked usable answer seen at is owns = absurd cc
  made_some (Own h) r partition asked usable answer seen at is owns =
      let slot : seen.slot ≡ name_of h.title = cc in
      subst (λ a. Weighs home size (played_so (ops.Alloc r partition asked) answer ∷ []) cs
      (counts_after steps.Issue (Some h) (made_seen a) cs) os
      (owed_after steps.Issue (Some h) (made_seen a) os)) (sym is)
      (steps_on (ops.Alloc r partition asked) answer (answers.Made seen usable) seen steps.Issue h is refl slot (at h refl))
  made_some (Ref h) r partition asked usable answer seen at is owns = absurd cc
  made_some Freed r partition asked usable answer seen at is owns = absurd cc
  made_some Cleared r partition asked usable answer seen at is owns = absurd cc

  request_row : (q : StockRegister) (facts : Facts) (regs after : Regs) (r partition asked : ℕ) (answer : Answer) →
      ((h : Handle) → q ≡ Own h → IsAtHome home size h) → after r ≡ as_reg q →
      RequestRow facts regs r asked answer after → Weighs home size (played_so (ops.Alloc r partition asked) answer ∷ []) cs
      (counts_after steps.Issue (owned_in q) (made_seen answer) cs) os (owed_after steps.Issue (owned_in q) (made_seen answer) os)
  request_row q facts regs after r partition asked answer at is_q (inl (large, is, b)) =
      made_none q r partition asked answer answers.TooLarge is refl refl
  request_row q facts regs after r partition asked answer at is_q (inr (inl (few, seen, is, b))) =
      let owns : as_reg q ≡ reg.Own seen.slot = sym is_q ∙ (b r ∙ rw (eq-eqb r r refl) refl) in
      made_some q r partition asked (facts.usable_of asked) answer seen at is owns
  request_row q facts regs after r partition asked answer at is_q (inr (inr (few, entry, is, b))) =
      made_none q r partition asked answer (answers.Full entry) is refl refl

  alloc_row : (old : Reg) (q : StockRegister) (facts : Facts) (regs after : Regs) (r partition asked : ℕ) (answer : Answer) →
      ((h : Handle) → q ≡ Own h → IsAtHome home size h) → after r ≡ as_reg q →
      AllocRow old facts regs r asked answer after → Weighs home size (played_so (ops.Alloc r partition asked) answer ∷ []) cs
      (counts_after steps.Issue (owned_in q) (made_seen answer) cs) os (owed_after steps.Issue (owned_in q) (made_seen answer) os)
  alloc_row reg.Empty q facts regs after r partition asked answer at is_q row =
      request_row q facts regs after r partition asked answer at is_q row
  alloc_row (reg.Own s) q facts regs after r partition asked answer at is_q (is, b) =
      made_none q r partition asked answer answers.Filled is refl refl
  alloc_row (reg.Ref s) q facts regs after r partition asked answer at is_q (is, b) =
      made_none q r partition asked answer answers.Filled is refl refl
  alloc_row reg.Freed q facts regs after r partition asked answer at is_q row =
      request_row q facts regs after r partition asked answer at is_q row
  alloc_row reg.Cleared q facts regs after r partition asked answer at is_q row =
      request_row q facts regs after r partition asked answer at is_q row

-- ---- the ops

module _ (line : ℕ) (answer : Answer) (before after : StockValue) (cs : List Count) (four : length cs ≡ 4) (os : List Owed)
    (also : length os ≡ 4) where
  pub copy_counts : (from to : ℕ) → CountsOp line (ops.Copy from to) answer before after cs cs os os
  copy_counts from to = counts_by_row line (ops.Copy from to) answer before after cs cs os os (λ phase o run seen begins row.
      copy_row o.homes o.sizes line before.thread phase (rules_at before) cs four os also (regs_of before.registers from) (row_facts o)
      (regs_of before.registers) (regs_of after.registers) from to answer row)

  pub write_counts : (r value : ℕ) → CountsOp line (ops.Write r value) answer before after cs cs os os
  write_counts r value = counts_by_row line (ops.Write r value) answer before after cs cs os os (λ phase o run seen begins row.
      write_row o.homes o.sizes line before.thread phase (rules_at before) cs four os also (regs_of before.registers r)
      (regs_of before.registers) (regs_of after.registers) r value answer row)

  pub read_counts : (r place : ℕ) → CountsOp line (ops.Read r place) answer before after cs cs os os
  read_counts r place = counts_by_row line (ops.Read r place) answer before after cs cs os os (λ phase o run seen begins row.
      read_row o.homes o.sizes line before.thread phase (rules_at before) cs four os also (regs_of before.registers r) (row_facts o)
      (regs_of before.registers) (regs_of after.registers) r place answer row)

  pub swap_counts : (cell r : ℕ) → CountsOp line (ops.Swap cell r) answer before after cs cs os os
  swap_counts cell r = counts_by_row line (ops.Swap cell r) answer before after cs cs os os (λ phase o run seen begins row.
      stays o.homes o.sizes line before.thread phase (rules_at before) cs four os also (ops.Swap cell r) answer
      (answers.Swapped row.0) row.2 None refl tt)

  pub purge_counts : CountsOp line ops.Purge answer before after cs cs os os
  purge_counts = counts_by_row line ops.Purge answer before after cs cs os os (λ phase o run seen begins row.
      stays o.homes o.sizes line before.thread phase (rules_at before) cs four os also ops.Purge answer
      (answers.Purged row.0) row.1 None refl tt)

  pub reset_counts : (r : ℕ) → IsStock before → r < 64 → CountsOp line (ops.Reset r) answer before after cs
      (counts_after steps.Reset (pointed_in (register_in before.registers r)) (done_seen answer) cs) os
      (owed_after steps.Reset (pointed_in (register_in before.registers r)) (done_seen answer) os)
  reset_counts r is below = counts_by_row line (ops.Reset r) answer before after cs
      (counts_after steps.Reset (pointed_in (register_in before.registers r)) (done_seen answer) cs) os
      (owed_after steps.Reset (pointed_in (register_in before.registers r)) (done_seen answer) os)
      (λ phase o run seen begins row.
      reset_row o.homes o.sizes line before.thread phase (rules_at before) cs four os also (register_in before.registers r)
      (regs_of before.registers) (regs_of after.registers) r answer
      (λ h ref. at_home o before h run (seen_before o before.view after.view begins seen) (register_has before r h is below (inr ref)).1)
      row)

  pub free_counts : (r : ℕ) → IsStock before → r < 64 → CountsOp line (ops.Free r) answer before after cs
      (counts_after steps.Free (owned_in (register_in before.registers r)) (done_seen answer) cs) os
      (owed_after steps.Free (owned_in (register_in before.registers r)) (done_seen answer) os)
  free_counts r is below = counts_by_row line (ops.Free r) answer before after cs
      (counts_after steps.Free (owned_in (register_in before.registers r)) (done_seen answer) cs) os
      (owed_after steps.Free (owned_in (register_in before.registers r)) (done_seen answer) os)
      (λ phase o run seen begins row.
      free_row o.homes o.sizes line before.thread phase (rules_at before) cs four os also (register_in before.registers r)
      (regs_of before.registers) (regs_of after.registers) r answer
      (λ h own. at_home o before h run (seen_before o before.view after.view begins seen) (register_has before r h is below (inl own)).1)
      row)

  pub alloc_counts : (r partition asked : ℕ) → IsStock after → r < 64 →
      CountsOp line (ops.Alloc r partition asked) answer before after cs
      (counts_after steps.Issue (owned_in (register_in after.registers r)) (made_seen answer) cs) os
      (owed_after steps.Issue (owned_in (register_in after.registers r)) (made_seen answer) os)
  alloc_counts r partition asked is below = counts_by_row line (ops.Alloc r partition asked) answer before after cs
      (counts_after steps.Issue (owned_in (register_in after.registers r)) (made_seen answer) cs) os
      (owed_after steps.Issue (owned_in (register_in after.registers r)) (made_seen answer) os)
      (λ phase o run seen begins row.
      alloc_row o.homes o.sizes line before.thread phase (rules_at before) cs four os also (regs_of before.registers r)
      (register_in after.registers r) (row_facts o)
      (regs_of before.registers) (regs_of after.registers) r partition asked answer
      (λ h own. at_home o after h run seen (register_has after r h is below (inl own)).1) refl row)
