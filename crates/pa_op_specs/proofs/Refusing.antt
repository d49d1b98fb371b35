-- An op that does nothing: its answer has no found word.
use Rattle.std.proofs.Common.{◌≡◌, ℕ, ◌<◌, Bool, true, List, [], Option, Some, None, refl, sym, ◌∙◌, ap, subst, arith, inl}
use Rattle.std.specs.Prelude.{Contains, Err}
use Rattle.pa_slot.specs.declared.word.SlotName.{SlotName}
use Rattle.pa_slot.specs.Run.{Mark}
use Rattle.pa_trace.specs.declared.script.Op.{Op}
use Rattle.pa_trace.specs.declared.script.Op.TheVariants as ops
use Rattle.pa_record.specs.declared.entry.Answer.{Answer}
use Rattle.pa_record.specs.declared.entry.Answer.TheVariants as answers
use Rattle.pa_record.specs.declared.entry.Seen.{Seen}
use Rattle.pa_record.specs.Spans.{name_of}
use Rattle.pa_lists.proofs.Members.{not_some, not_in_none}
use Rattle.pa_region.specs.declared.view.Entry.TheVariants.{Read}
use Rattle.pa_region.specs.declared.view.Made.{Made}
use Rattle.pa_region.specs.Views.{seen_of}
use Rattle.pa_region.specs.Aware.{IsAware}
use Rattle.pa_region.specs.Lists.{entered_in}
use Rattle.pa_rules.specs.declared.played.Played.{Played}
use Rattle.pa_rules.specs.Played.{mark_of_answer}
use Rattle.pa_rules.specs.Registers.{Regs, Row, PointRow, CopyToRow, CopyRow}
use Rattle.pa_rules.specs.Nexts.{copy_next, reset_next, free_next, write_next, read_next}
use Rattle.pa_rules.proofs.Nexts.{copy_refusal, reset_refusal, free_refusal, write_refusal, read_refusal, copy_refused, reset_refused, free_refused, write_refused, read_refused}
use Rattle.pa_rules.specs.Caches.{Cache, CacheRow, NoActs, SameLists}
use Rattle.pa_rules.specs.Roots.{Journals}
use Rattle.pa_logs.specs.Told.{ToldRecord}
use Rattle.pa_logs.specs.Touches.{title_of, IsToldBy}
use Rattle.pa_logs.specs.Said.{ReadsIts, HoldsHandle, IsReadThrough}
use Rattle.pa_rules.specs.declared.register.Register.TheVariants.{Empty, Own, Ref, Freed, Cleared}
use Rattle.pa_rules.specs.declared.register.Register.TheVariants as reg
use Rattle.pa_rules.specs.declared.register.Next.TheVariants.{Refused}
use Rattle.pa_cells.specs.declared.handle.Handle.{Handle}
use Rattle.pa_cells.specs.Handles.{is_plain}
use Rattle.pa_op_specs.specs.Stocks.{StockRegister, StockValue, IsStock, HasNoHandle, register_in, as_reg, regs_of, rules_at}
use Rattle.pa_op_specs.specs.Outcomes.{Outcome, IsOutcome, IsSeenOf, row_facts}
use Rattle.pa_op_specs.specs.Entering.{EntersCells}
use Rattle.pa_op_specs.specs.Owing.{OwesOf}
use Rattle.pa_op_specs.specs.Plays.{DoesOp}
use Rattle.pa_op_specs.proofs.Touching.{touched_none}
use Rattle.pa_op_specs.proofs.Quiet.{quiet_record, quiet_does}
use Rattle.pa_op_specs.proofs.Seeing.{slot_in_run, plain_in_run}
use Rattle.pa_op_specs.proofs.Stocks.{register_has}

-- the op isn't an exchange
abbrev pub IsNoSwap : Op → Type 0
IsNoSwap (ops.Alloc reg partition size) = Unit {0}
IsNoSwap (ops.Copy from to) = Unit {0}
IsNoSwap (ops.Reset reg) = Unit {0}
IsNoSwap (ops.Free reg) = Unit {0}
IsNoSwap (ops.Write reg value) = Unit {0}
IsNoSwap (ops.Read reg place) = Unit {0}
IsNoSwap (ops.Swap cell reg) = ⊥
IsNoSwap ops.Purge = Unit {0}

pub enters_no_cells : (op : Op) → IsNoSwap op → (list : List Made) (x : ToldRecord) → entered_in 5 x.stretch ≡ [] → EntersCells op list x
enters_no_cells (ops.Alloc reg partition size) is list x none = none
enters_no_cells (ops.Copy from to) is list x none = none
enters_no_cells (ops.Reset reg) is list x none = none
enters_no_cells (ops.Free reg) is list x none = none
enters_no_cells (ops.Write reg value) is list x none = none
enters_no_cells (ops.Read reg place) is list x none = none
enters_no_cells (ops.Swap cell reg) is list x none = absurd is
enters_no_cells ops.Purge is list x none = none

-- no word was found for this answer
abbrev pub IsNone : Option Seen → Type 0
IsNone None = Unit {0}
IsNone (Some seen) = ⊥

abbrev pub IsPlain : Answer → Type 0
IsPlain (answers.Made seen usable) = ⊥
IsPlain (answers.Done seen) = ⊥
IsPlain (answers.Value seen value) = ⊥
IsPlain (answers.Dangling seen value) = ⊥
IsPlain (answers.SecondFree seen) = IsNone seen
IsPlain (answers.NotOwner seen) = ⊥
IsPlain answers.StaleReset = Unit {0}
IsPlain (answers.StaleUse seen) = IsNone seen
IsPlain answers.Nothing = Unit {0}
IsPlain answers.Filled = Unit {0}
IsPlain answers.NotRef = Unit {0}
IsPlain (answers.Shared seen) = ⊥
IsPlain answers.OutOfRange = Unit {0}
IsPlain answers.TooLarge = Unit {0}
IsPlain (answers.Full entry) = ⊥
IsPlain (answers.Swapped entry) = ⊥
IsPlain (answers.Purged slots) = ⊥
IsPlain answers.Uncounted = Unit {0}

-- what follows for such an answer
record Plainly (op : Op) (answer : Answer) : Type 0 where
  room : (j : ℕ) → answer ≡ answers.Full j → ⊥
  no_swap : (j : ℕ) → answer ≡ answers.Swapped j → ⊥
  told : (sizes : SlotName → ℕ) → IsToldBy sizes op answer []
  owes : (registers : List StockRegister) → OwesOf registers op answer []
  lists : (partitions : ℕ) (roots : Journals) (x : Played) (cache after : Cache) → NoActs roots x.line → SameLists after cache →
      CacheRow partitions roots x answer cache after
  home : (line : ℕ) (m : Mark) → mark_of_answer line op answer ≡ Some m → ⊥

plainly : (op : Op) (answer : Answer) → IsPlain answer → Plainly op answer
plainly op (answers.Made seen usable) is = absurd is
plainly op (answers.Done seen) is = absurd is
plainly op (answers.Value seen value) is = absurd is
plainly op (answers.Dangling seen value) is = absurd is
plainly op (answers.SecondFree (Some seen)) is = absurd is
plainly op (answers.NotOwner seen) is = absurd is
plainly op (answers.StaleUse (Some seen)) is = absurd is
plainly op (answers.Shared seen) is = absurd is
plainly op (answers.Full entry) is = absurd is
plainly op (answers.Swapped entry) is = absurd is
plainly op (answers.Purged slots) is = absurd is
plainly op answer is = record {
  room = λ j e. cc;
  no_swap = λ j e. cc;
  told = λ sizes. refl;
  owes = λ rs q. refl;
  lists = λ n roots x c d none same. (none, same);
  home = λ line m e. not_some m e;
}

-- the op does what it should, if its row says so, and its register if it reads
pub plain_does : (s : StockValue) (op : Op) (answer : Answer) → IsStock s → IsNoSwap op → IsPlain answer →
    ((o : Outcome) → IsOutcome o → rules_at s ≡ o.rules → IsSeenOf o s.view →
    Row (row_facts o) op (regs_of s.registers) answer (regs_of s.registers)) →
    ((o : Outcome) (line phase : ℕ) → IsOutcome o → IsSeenOf o s.view →
    ReadsIts o.sizes (regs_of s.registers) op (quiet_record s s.view line phase op answer [])) →
    (line : ℕ) → DoesOp line op answer s s
plain_does s op answer is no_swap plain row reads =
    let p = plainly op answer plain in
    quiet_does s s.view s.registers op answer [] is.lists (touched_none s.thread s.view)
    (record { room = p.room; no_swap = p.no_swap; cells = enters_no_cells op no_swap })
    (p.owes s.registers) (λ refused q known. refl)
    (λ line phase o run rules sees. record {
      told = p.told o.sizes;
      row = row o run rules sees;
      reader = reads o line phase run sees;
      home = λ m e. absurd (p.home line m e);
    })
    (λ line phase o none same. p.lists o.partitions o.roots (quiet_record s s.view line phase op answer []).played _ _ none same)

-- A copy, a reset, a free, a write or a read that its register alone refuses.
pub copy_refuses : (s : StockValue) (from to : ℕ) (answer : Answer) → IsStock s → copy_next (register_in s.registers from) ≡ Err answer →
    (line : ℕ) → DoesOp line (ops.Copy from to) answer s s
copy_refuses s from to answer is refused =
    let r = register_in s.registers from in
    plain_does s (ops.Copy from to) answer is tt (copy_refusal IsPlain r answer refused tt tt)
    (λ o run rules sees. copy_refused (λ (h : Handle). name_of h.title) r answer (row_facts o) (regs_of s.registers) to refused)
    (λ o line phase run sees n own uncounted.
    absurd (copy_refusal (λ a. a ≡ answers.Uncounted → ⊥) r answer refused (λ e. cc) (λ e. cc) uncounted))

-- the row of a copy into a register without a handle, of a slot that is plain
uncounted_row : (q : StockRegister) (plain : Bool) (n : SlotName) (regs : Regs) (to : ℕ) → HasNoHandle q → plain ≡ true →
    CopyToRow (as_reg q) plain n regs to answers.Uncounted regs
uncounted_row Empty plain n regs to bare is = subst (λ b. PointRow b n regs to answers.Uncounted regs) (sym is) (refl, λ k. refl)
uncounted_row (Own h) plain n regs to bare is = absurd bare
uncounted_row (Ref h) plain n regs to bare is = absurd bare
uncounted_row Freed plain n regs to bare is = subst (λ b. PointRow b n regs to answers.Uncounted regs) (sym is) (refl, λ k. refl)
uncounted_row Cleared plain n regs to bare is = subst (λ b. PointRow b n regs to answers.Uncounted regs) (sym is) (refl, λ k. refl)

own_name : (h : Handle) (n : SlotName) → as_reg (Own h) ≡ reg.Own n → n ≡ name_of h.title
own_name h n e = cc

-- A copy of an Own of a plain slot into a register without a handle wouldn't be counted, and does nothing.
pub copy_uncounted : (s : StockValue) (from to : ℕ) (h : Handle) → IsStock s → IsAware s.view → from < 64 →
    register_in s.registers from ≡ Own h → HasNoHandle (register_in s.registers to) → is_plain s.plain_from h ≡ true →
    (line : ℕ) → DoesOp line (ops.Copy from to) answers.Uncounted s s
copy_uncounted s from to h is aware below own bare plain =
    let (user, made) = register_has s from h is below (inl own) in
    plain_does s (ops.Copy from to) answers.Uncounted is tt tt
    (λ o run rules sees.
    let slot = slot_in_run o s.view h run sees made in
    subst (λ r. CopyRow (as_reg r) (row_facts o) (regs_of s.registers) to answers.Uncounted (regs_of s.registers)) (sym own)
    (uncounted_row (register_in s.registers to) ((row_facts o).plain_at (name_of h.title)) (name_of h.title) (regs_of s.registers) to bare
    (plain_in_run o s h rules slot ∙ plain)))
    (λ o line phase run sees n owns e.
    let slot = slot_in_run o s.view h run sees made in
    let named = own_name h n (subst (λ r. as_reg r ≡ reg.Own n) own owns) in
    let titled : title_of o.sizes n ≡ h.title = ap (title_of o.sizes) named ∙ slot.title in
    let seen = aware.handles h.title user in
    let same = ap (seen_of s.view) titled in
    omega arith)

pub write_refuses : (s : StockValue) (i value : ℕ) (answer : Answer) → IsStock s → write_next (register_in s.registers i) ≡ Refused answer →
    (line : ℕ) → DoesOp line (ops.Write i value) answer s s
write_refuses s i value answer is refused =
    let r = register_in s.registers i in
    plain_does s (ops.Write i value) answer is tt (write_refusal IsPlain r answer refused tt tt)
    (λ o run rules sees. write_refused (λ (h : Handle). name_of h.title) r answer (regs_of s.registers) refused)
    (λ o line phase run sees. tt)

pub reset_refuses : (s : StockValue) (i : ℕ) (answer : Answer) → IsStock s → reset_next (register_in s.registers i) ≡ Err answer →
    (line : ℕ) → DoesOp line (ops.Reset i) answer s s
reset_refuses s i answer is refused =
    let r = register_in s.registers i in
    plain_does s (ops.Reset i) answer is tt (reset_refusal IsPlain r answer refused tt tt tt)
    (λ o run rules sees. reset_refused (λ (h : Handle). name_of h.title) r answer (regs_of s.registers) i refused)
    (λ o line phase run sees. tt)

pub free_refuses : (s : StockValue) (i : ℕ) (answer : Answer) → IsStock s → free_next (register_in s.registers i) ≡ Refused answer →
    (line : ℕ) → DoesOp line (ops.Free i) answer s s
free_refuses s i answer is refused =
    let r = register_in s.registers i in
    plain_does s (ops.Free i) answer is tt (free_refusal IsPlain r answer refused tt tt tt)
    (λ o run rules sees. free_refused (λ (h : Handle). name_of h.title) r answer (regs_of s.registers) i refused)
    (λ o line phase run sees. tt)

-- a register without a handle
no_reader : (s : StockValue) (sizes : SlotName → ℕ) (i : ℕ) (x : ToldRecord) → HasNoHandle (register_in s.registers i) → x.stretch ≡ [] →
    IsReadThrough sizes (regs_of s.registers i) x
no_reader s sizes i x none empty = record {
  issued = λ n has. absurd (go (register_in s.registers i) none n has);
  owned = λ n t p v since owner unclean own among. absurd
      (not_in_none _ (subst (λ es. Contains es (Read t p v since owner unclean)) empty among));
}
  where
    go : (r : StockRegister) → HasNoHandle r → (n : SlotName) → HoldsHandle (as_reg r) n → ⊥
    go Empty is n has = has
    go (Own h) is n has = is
    go (Ref h) is n has = is
    go Freed is n has = has
    go Cleared is n has = has

read_lacks : (r : StockRegister) (answer : Answer) → read_next r ≡ Err answer → HasNoHandle r
read_lacks Empty answer refused = tt
read_lacks (Own h) answer refused = absurd (let bad : ⊥ = cc in bad)
read_lacks (Ref h) answer refused = absurd (let bad : ⊥ = cc in bad)
read_lacks Freed answer refused = tt
read_lacks Cleared answer refused = tt

pub read_refuses : (s : StockValue) (i place : ℕ) (answer : Answer) → IsStock s → read_next (register_in s.registers i) ≡ Err answer →
    (line : ℕ) → DoesOp line (ops.Read i place) answer s s
read_refuses s i place answer is refused =
    let r = register_in s.registers i in
    plain_does s (ops.Read i place) answer is tt (read_refusal IsPlain r answer refused tt tt)
    (λ o run rules sees. read_refused (λ (h : Handle). name_of h.title) r answer (row_facts o) (regs_of s.registers) place refused)
    (λ o line phase run sees. no_reader s o.sizes i (quiet_record s s.view line phase (ops.Read i place) answer [])
    (read_lacks r answer refused) refl)
