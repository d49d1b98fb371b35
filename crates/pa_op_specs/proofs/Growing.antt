-- What is owed of a kind grows by no more than what the log segment of an op owes.
use Rattle.std.proofs.Common.{◌≡◌, ℕ, ◌+◌, ◌<◌, ◌≤◌, Bool, true, false, List, [], ◌∷◌, length, Option, Some, None, refl, ◌∙◌, ap, arith, inl, inr}
use Rattle.std.specs.Prelude.{slice_set, if◌then◌else◌}
use Rattle.std.specs.List.{sum_by}
use Rattle.std.proofs.lemmas.List.{length-set}
use Rattle.pa_slot.specs.declared.word.Step.{Step}
use Rattle.pa_slot.specs.declared.word.Step.TheVariants as steps
use Rattle.pa_trace.specs.declared.script.Op.{Op}
use Rattle.pa_trace.specs.declared.script.Op.TheVariants as ops
use Rattle.pa_record.specs.declared.entry.Answer.{Answer}
use Rattle.pa_record.specs.declared.entry.Answer.TheVariants as answers
use Rattle.pa_region.specs.Totals.{is_of_kind}
use Rattle.pa_rules.specs.declared.register.Register.TheVariants.{Empty, Own, Ref, Freed, Cleared}
use Rattle.pa_rules.specs.Played.{step_of}
use Rattle.pa_logs.specs.Touches.{value_by, done_step, step_in}
use Rattle.pa_cells.specs.declared.handle.Handle.{Handle}
use Rattle.pa_totals.specs.declared.owed.Owed.{Owed}
use Rattle.pa_totals.specs.Settled.{nothing_owed, owed_to, owed_at, owed_in}
use Rattle.pa_op_specs.specs.Stocks.{StockRegister, StockValue, IsStock, register_in}
use Rattle.pa_op_specs.specs.Counts.{more_if, owed_after_step, owed_after, owned_in, pointed_in, done_seen, made_seen}
use Rattle.pa_op_specs.specs.Owing.{bytes_in, bytes_through, bytes_stepped, owed_by, IsMadeIn}
use Rattle.pa_op_specs.proofs.Registers.{sum_set}
use Rattle.pa_op_specs.proofs.Stocks.{register_has}
use Rattle.pa_op_specs.proofs.Counting.{owed_kind}

-- ---- what is owed to one partition's words changes

owed_sum : (q : ℕ) (os : List Owed) → length os ≡ 4 → owed_in q os ≡ sum_by (owed_to q) os
owed_sum q [] four = absurd (omega arith)
owed_sum q (a ∷ []) four = absurd (omega arith)
owed_sum q (a ∷ b ∷ []) four = absurd (omega arith)
owed_sum q (a ∷ b ∷ c ∷ []) four = absurd (omega arith)
owed_sum q (a ∷ b ∷ c ∷ d ∷ []) four = omega arith
owed_sum q (a ∷ b ∷ c ∷ d ∷ e ∷ os) four = absurd (omega arith)

set_sums : (i j m n s t : ℕ) → i ≡ s → j ≡ t → t + m ≡ s + n → j + m ≡ i + n
set_sums i j m n s t a b c = omega arith

owed_set : (q k : ℕ) (o : Owed) (os : List Owed) → length os ≡ 4 → k < 4 →
    owed_in q (slice_set os k o) + owed_to q (owed_at os k) ≡ owed_in q os + owed_to q o
owed_set q k o os four low =
    let inside : k < length os = omega arith in
    set_sums (owed_in q os) (owed_in q (slice_set os k o)) (owed_to q (owed_at os k)) (owed_to q o) (sum_by (owed_to q) os)
    (sum_by (owed_to q) (slice_set os k o))
    (owed_sum q os four) (owed_sum q (slice_set os k o) (length-set os k o ∙ four)) (sum_set (owed_to q) os k o nothing_owed inside)

more_is : (b : Bool) (n m : ℕ) → more_if b n m ≡ m + (if b then n else 0)
more_is true n m = refl
more_is false n m = omega arith

grew_so : (i j m n b : ℕ) → j + m ≡ i + n → n ≡ m + b → j ≡ i + b
grew_so i j m n b c d = omega arith

-- a step owes its bytes to the words of its kind
grown : (q k found bytes : ℕ) (step : Step) (os : List Owed) → length os ≡ 4 → k < 4 →
    owed_in q (slice_set os k (owed_after_step step found bytes (owed_at os k))) ≡ owed_in q
    os + (if is_of_kind q step found then bytes else 0)
grown q k found bytes step os four low =
    let o = owed_after_step step found bytes (owed_at os k) in
    let more = owed_kind step found bytes q (owed_at os k) ∙ more_is (is_of_kind q step found) bytes (owed_to q (owed_at os k)) in
    grew_so (owed_in q os) (owed_in q (slice_set os k o)) (owed_to q (owed_at os k)) (owed_to q o)
    (if is_of_kind q step found then bytes else 0)
    (owed_set q k o os four low) more

-- ---- and not more than the log segment owes

pub at_least : (n m : ℕ) → n ≤ n + m
at_least n m = omega arith

no_more : (i j b c : ℕ) → j ≡ i + b → c ≡ b → j ≤ i + c
no_more i j b c d e = omega arith

-- by a step through a register
done_less : (q : ℕ) (rs : List StockRegister) (op : Op) (step : Step) (handle : Option Handle) (answer : Answer) (os : List Owed) →
    length os ≡ 4 →
    step_of op ≡ Some step → ((h : Handle) → handle ≡ Some h → (h.partition < 4) × (bytes_through rs op ≡ h.title.len)) →
    owed_in q (owed_after step handle (done_seen answer) os) ≤ owed_in q os + owed_by q (step_in op answer) (bytes_stepped rs op answer)
done_less q rs op step None answer os four made has = at_least (owed_in q os) (owed_by q (step_in op answer) (bytes_stepped rs op answer))
done_less q rs op step (Some h) (answers.Done seen) os four made has =
    let here = has h refl in
    let found = seen.found.0 in
    let bytes = bytes_through rs op in
    let owes : owed_by q (done_step (step_of op) (value_by op) seen) bytes ≡ (if is_of_kind q step found then h.title.len else 0) =
    ap (λ (z : Option Step). owed_by q (done_step z (value_by op) seen) bytes) made ∙
    ap (λ (n : ℕ). if is_of_kind q step found then n else 0) here.1 in
    no_more (owed_in q os) (owed_in q (slice_set os h.partition (owed_after_step step found h.title.len (owed_at os h.partition))))
    (if is_of_kind q step found then h.title.len else 0) (owed_by q (done_step (step_of op) (value_by op) seen) bytes)
    (grown q h.partition found h.title.len step os four here.0) owes
done_less q rs op step (Some h) answer os four made has =
    at_least (owed_in q os) (owed_by q (step_in op answer) (bytes_stepped rs op answer))

-- by the issue of a slot that the register then owns
made_less : (q : ℕ) (rs : List StockRegister) (op : Op) (r : StockRegister) (answer : Answer) (os : List Owed) → length os ≡ 4 →
    ((h : Handle) → r ≡ Own h → h.partition < 4) → IsMadeIn r answer →
    owed_in q (owed_after steps.Issue (owned_in r) (made_seen answer) os) ≤ owed_in q os + owed_by q (step_in op answer)
    (bytes_stepped rs op answer)
made_less q rs op Empty answer os four low is = at_least (owed_in q os) (owed_by q (step_in op answer) (bytes_stepped rs op answer))
made_less q rs op (Own h) (answers.Made seen usable) os four low is =
    let found = seen.found.0 in
    no_more (owed_in q os) (owed_in q (slice_set os h.partition (owed_after_step steps.Issue found h.title.len (owed_at os h.partition))))
    (if is_of_kind q steps.Issue found then h.title.len else 0) (if is_of_kind q steps.Issue found then usable + 8 else 0)
    (grown q h.partition found h.title.len steps.Issue os four (low h refl))
    (ap (λ (n : ℕ). if is_of_kind q steps.Issue found then n else 0) is)
made_less q rs op (Own h) answer os four low is = at_least (owed_in q os) (owed_by q (step_in op answer) (bytes_stepped rs op answer))
made_less q rs op (Ref h) answer os four low is = at_least (owed_in q os) (owed_by q (step_in op answer) (bytes_stepped rs op answer))
made_less q rs op Freed answer os four low is = at_least (owed_in q os) (owed_by q (step_in op answer) (bytes_stepped rs op answer))
made_less q rs op Cleared answer os four low is = at_least (owed_in q os) (owed_by q (step_in op answer) (bytes_stepped rs op answer))

-- ---- op by op

is_owned : (r : StockRegister) (h : Handle) → owned_in r ≡ Some h → r ≡ Own h
is_owned Empty h e = absurd cc
is_owned (Own g) h e = cc
is_owned (Ref g) h e = absurd cc
is_owned Freed h e = absurd cc
is_owned Cleared h e = absurd cc

is_pointed : (r : StockRegister) (h : Handle) → pointed_in r ≡ Some h → r ≡ Ref h
is_pointed Empty h e = absurd cc
is_pointed (Own g) h e = absurd cc
is_pointed (Ref g) h e = cc
is_pointed Freed h e = absurd cc
is_pointed Cleared h e = absurd cc

module _ (q r : ℕ) (answer : Answer) (os : List Owed) (four : length os ≡ 4) (below : r < 64) where
  pub reset_less : (s : StockValue) → IsStock s →
      owed_in q (owed_after steps.Reset (pointed_in (register_in s.registers r)) (done_seen answer) os)
      ≤ owed_in q os + owed_by q (step_in (ops.Reset r) answer) (bytes_stepped s.registers (ops.Reset r) answer)
  reset_less s sound = done_less q s.registers (ops.Reset r) steps.Reset (pointed_in (register_in s.registers r)) answer os four refl
      (λ h is. let e = is_pointed (register_in s.registers r) h is in ((register_has s r h sound below (inr e)).1.partition, ap bytes_in e))

  pub free_less : (s : StockValue) → IsStock s →
      owed_in q (owed_after steps.Free (owned_in (register_in s.registers r)) (done_seen answer) os)
      ≤ owed_in q os + owed_by q (step_in (ops.Free r) answer) (bytes_stepped s.registers (ops.Free r) answer)
  free_less s sound = done_less q s.registers (ops.Free r) steps.Free (owned_in (register_in s.registers r)) answer os four refl
      (λ h is. let e = is_owned (register_in s.registers r) h is in ((register_has s r h sound below (inl e)).1.partition, ap bytes_in e))

  pub alloc_less : (partition size : ℕ) (s after : StockValue) → IsStock after → IsMadeIn (register_in after.registers r) answer →
      owed_in q (owed_after steps.Issue (owned_in (register_in after.registers r)) (made_seen answer) os)
      ≤ owed_in q os + owed_by q (step_in (ops.Alloc r partition size) answer)
      (bytes_stepped s.registers (ops.Alloc r partition size) answer)
  alloc_less partition size s after sound is =
      made_less q s.registers (ops.Alloc r partition size) (register_in after.registers r) answer os four
      (λ h e. (register_has after r h sound below (inl e)).1.partition) is
