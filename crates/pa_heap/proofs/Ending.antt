-- How an op ends that may have made a step: what its worker is then, by what the calls say of its thread state and its account.
use Rattle.std.proofs.Common.{◌≡◌, ℕ, ◌+◌, ◌<◌, ◌≤◌, [], ◌∷◌, length, true, sym, ◌∙◌, ap, subst, arith}
use Rattle.std.specs.Prelude.{Option, None, Result, Ok, Err, IfOk, OnOk, OnErr}
use Rattle.std.proofs.lemmas.List.{length-append}
use Rattle.pa_slot.specs.declared.fault.OutOfMemory.{OutOfMemory}
use Rattle.pa_slot.specs.declared.word.Step.{Step}
use Rattle.pa_slot.specs.declared.word.Step.TheVariants as steps
use Rattle.pa_trace.specs.declared.script.Op.{Op}
use Rattle.pa_trace.specs.declared.script.Op.TheVariants as ops
use Rattle.pa_record.specs.declared.entry.Answer.{Answer}
use Rattle.pa_region.specs.Aware.{IsAware}
use Rattle.pa_cells.specs.declared.handle.Handle.{Handle}
use Rattle.pa_logs.specs.Touches.{step_in}
use Rattle.pa_totals.specs.Settled.{none_owed, owed_in}
use Rattle.pa_delay.specs.Queue.{QueueList}
use Rattle.pa_op_specs.specs.Counts.{counts_after, owed_after, owned_in, pointed_in}
use Rattle.pa_op_specs.specs.Stocks.{StockValue, IsStock, register_in}
use Rattle.pa_op_specs.specs.Workers.{WorkerValue, IsCovered, CanPlayOp, KeepsOn}
use Rattle.pa_op_specs.specs.Owing.{IsMadeIn, bytes_stepped, owed_by}
use Rattle.pa_op_specs.specs.Plays.{DoesOp, PlaysOp}
use Rattle.pa_op_specs.proofs.Growing.{alloc_less, at_least, free_less, reset_less}
use Rattle.pa_op_specs.proofs.Stakes.{covered_by_rule}
use Rattle.pa_op_specs.proofs.Weighing.{CountsOp, alloc_counts, copy_counts, reset_counts, free_counts, write_counts, read_counts, swap_counts, purge_counts}
use Rattle.pa_heap.specs.declared.account.Account.{Account}
use Rattle.pa_heap.specs.Accounts.{EndsStep, EntersStep, IsAccount, step_seen, worker_of}
use Rattle.pa_heap.specs.Waiting.{DoesDelayed, PlaysDelayed}
use Rattle.pa_heap.proofs.Working.{DoesSome, op_some, delayed_some, worker_plays, worker_delays, some_goes_on, counts_by, some_covered}

-- What an op that was answered did, with what may be its step: what the account counts and owes after the step is what the op's record
-- weighs, and no more is owed than that.
pub record MakesStep (line : ℕ) (op : Op) (step : Step) (handle : Option Handle) (s after : StockValue) (a : Account) (answer : Answer)
    : Type 0 where
  pub does : DoesSome line op answer s after
  pub counted : CountsOp line op answer s after a.counts (counts_after step handle (step_seen step answer) a.counts)
      a.owed (owed_after step handle (step_seen step answer) a.owed)
  pub less : (q : ℕ) → owed_in q (owed_after step handle (step_seen step answer) a.owed)
      ≤ owed_in q a.owed + owed_by q (step_in op answer) (bytes_stepped s.registers op answer)

-- so did an op, if it was answered
abbrev pub Makes : (line : ℕ) → Op → Step → Option Handle → (s after : StockValue) → Account → Result Answer OutOfMemory → Type 0
Makes line op step handle s after a ended = IfOk ended (λ answer. MakesStep line op step handle s after a answer)

module _ (line : ℕ) (s after : StockValue) (a : Account) (account : IsAccount a) where
  -- ---- ops whose step is counted, on the slot of this handle

  pub alloc_makes : (r p size : ℕ) → IsStock after → r < 64 → {handle : Option Handle} →
      handle ≡ owned_in (register_in after.registers r) → (ended : Result Answer OutOfMemory) →
      IfOk ended (λ answer. DoesOp line (ops.Alloc r p size) answer s after) →
      IfOk ended (λ answer. IsMadeIn (register_in after.registers r) answer) →
      Makes line (ops.Alloc r p size) steps.Issue handle s after a ended
  alloc_makes r p size is below owned (Ok answer) does made =
      subst (λ (h : Option Handle). MakesStep line (ops.Alloc r p size) steps.Issue h s after a answer) (sym owned) (record {
        does = op_some line (ops.Alloc r p size) answer s after does;
        counted = alloc_counts line answer s after a.counts account.counts.count a.owed account.owed.count r p size is below;
        less = λ q. alloc_less q r answer a.owed account.owed.count below p size s after is made;
      })
  alloc_makes r p size is below owned (Err e) does made = tt

  pub free_makes : (r : ℕ) → IsStock s → r < 64 → {handle : Option Handle} → handle ≡ owned_in (register_in s.registers r) →
      (ended : Result Answer OutOfMemory) → IfOk ended (λ answer. DoesSome line (ops.Free r) answer s after) →
      Makes line (ops.Free r) steps.Free handle s after a ended
  free_makes r is below owned (Ok answer) does =
      subst (λ (h : Option Handle). MakesStep line (ops.Free r) steps.Free h s after a answer) (sym owned) (record {
        does = does;
        counted = free_counts line answer s after a.counts account.counts.count a.owed account.owed.count r is below;
        less = λ q. free_less q r answer a.owed account.owed.count below s is;
      })
  free_makes r is below owned (Err e) does = tt

  pub reset_makes : (r : ℕ) → IsStock s → r < 64 → {handle : Option Handle} → handle ≡ pointed_in (register_in s.registers r) →
      (ended : Result Answer OutOfMemory) → IfOk ended (λ answer. DoesSome line (ops.Reset r) answer s after) →
      Makes line (ops.Reset r) steps.Reset handle s after a ended
  reset_makes r is below pointed (Ok answer) does =
      subst (λ (h : Option Handle). MakesStep line (ops.Reset r) steps.Reset h s after a answer) (sym pointed) (record {
        does = does;
        counted = reset_counts line answer s after a.counts account.counts.count a.owed account.owed.count r is below;
        less = λ q. reset_less q r answer a.owed account.owed.count below s is;
      })
  reset_makes r is below pointed (Err e) does = tt

  -- ---- ops that make no step which is counted

  plain_makes : (op : Op) (answer : Answer) → DoesSome line op answer s after →
      CountsOp line op answer s after a.counts a.counts a.owed a.owed → MakesStep line op steps.Write None s after a answer
  plain_makes op answer does counts = record {
    does = does;
    counted = counts;
    less = λ q. at_least (owed_in q a.owed) (owed_by q (step_in op answer) (bytes_stepped s.registers op answer));
  }

  pub copy_makes : (from to : ℕ) (answer : Answer) → DoesOp line (ops.Copy from to) answer s after →
      MakesStep line (ops.Copy from to) steps.Write None s after a answer
  copy_makes from to answer does = plain_makes (ops.Copy from to) answer (op_some line (ops.Copy from to) answer s after does)
      (copy_counts line answer s after a.counts account.counts.count a.owed account.owed.count from to)

  pub write_makes : (r value : ℕ) (answer : Answer) → DoesOp line (ops.Write r value) answer s after →
      MakesStep line (ops.Write r value) steps.Write None s after a answer
  write_makes r value answer does = plain_makes (ops.Write r value) answer (op_some line (ops.Write r value) answer s after does)
      (write_counts line answer s after a.counts account.counts.count a.owed account.owed.count r value)

  pub read_makes : (r place : ℕ) (answer : Answer) → DoesOp line (ops.Read r place) answer s after →
      MakesStep line (ops.Read r place) steps.Write None s after a answer
  read_makes r place answer does = plain_makes (ops.Read r place) answer (op_some line (ops.Read r place) answer s after does)
      (read_counts line answer s after a.counts account.counts.count a.owed account.owed.count r place)

  pub swap_makes : (cell r : ℕ) (ended : Result Answer OutOfMemory) → IfOk ended (λ answer. DoesOp line (ops.Swap cell r) answer s after) →
      Makes line (ops.Swap cell r) steps.Write None s after a ended
  swap_makes cell r (Ok answer) does = plain_makes (ops.Swap cell r) answer (op_some line (ops.Swap cell r) answer s after does)
      (swap_counts line answer s after a.counts account.counts.count a.owed account.owed.count cell r)
  swap_makes cell r (Err e) does = tt

  pub purge_makes : (ended : Result Answer OutOfMemory) → IfOk ended (λ answer. DoesSome line ops.Purge answer s after) →
      Makes line ops.Purge steps.Write None s after a ended
  purge_makes (Ok answer) does =
      plain_makes ops.Purge answer does (purge_counts line answer s after a.counts account.counts.count a.owed account.owed.count)
  purge_makes (Err e) does = tt

pub if_op_some : (line : ℕ) (op : Op) (s after : StockValue) (ended : Result Answer OutOfMemory) →
    IfOk ended (λ answer. DoesOp line op answer s after) → IfOk ended (λ answer. DoesSome line op answer s after)
if_op_some line op s after (Ok answer) does = op_some line op answer s after does
if_op_some line op s after (Err e) does = tt

pub if_delayed_some : (line : ℕ) (op : Op) (s : StockValue) (queue : QueueList) (after : StockValue) (rest : QueueList)
    (ended : Result Answer OutOfMemory) → IfOk ended (λ answer. DoesDelayed line op answer s queue after rest) →
    IfOk ended (λ answer. DoesSome line op answer s after)
if_delayed_some line op s queue after rest (Ok answer) does = delayed_some line op answer s queue after rest does
if_delayed_some line op s queue after rest (Err e) does = tt

-- a worker whose op ran out of memory is stopped
pub step_stops : {thread line : ℕ} {step : Step} {handle : Option Handle} {a b : Account} (ended : Result Answer OutOfMemory) →
    EndsStep thread line step handle ended a b → OnErr ended (b.stopped ≡ true)
step_stops (Ok answer) ends = tt
step_stops (Err e) ends = ap (λ (z : Account). z.stopped) ends.stops

-- of a worker whose op ran out of memory all else is as before
pub step_leaves : (s after : StockValue) (a b : Account) {old : WorkerValue} → worker_of s a ≡ old → {thread line : ℕ} {step : Step}
    {handle : Option Handle} (ended : Result Answer OutOfMemory) → EndsStep thread line step handle ended a b →
    OnErr ended (worker_of after b ≡ record old { stock = after; room = length old.records; stopped = true; owed = none_owed })
step_leaves s after a b is (Ok answer) ends = tt
step_leaves s after a b is (Err e) ends =
    ap (λ (z : Account). worker_of after z) ends.stops
    ∙ ap (λ (w : WorkerValue). record w { stock = after; room = length w.records; stopped = true; owed = none_owed }) is

-- if its thread state is as before too, all else is
pub step_leaves_stock : (s after : StockValue) (a b : Account) {old : WorkerValue} → worker_of s a ≡ old → {thread line : ℕ} {step : Step}
    {handle : Option Handle} (ended : Result Answer OutOfMemory) → EndsStep thread line step handle ended a b →
    OnErr ended (after ≡ s) →
    OnErr ended (worker_of after b ≡ record old { room = length old.records; stopped = true; owed = none_owed })
step_leaves_stock s after a b is (Ok answer) ends same = tt
step_leaves_stock s after a b {old} is (Err e) ends same =
    step_leaves s after a b is (Err e) ends
    ∙ ap (λ (z : StockValue). record old { stock = z; room = length old.records; stopped = true; owed = none_owed })
    (same ∙ ap (λ (w : WorkerValue). w.stock) is)

module _ (s after : StockValue) (a b : Account) {old : WorkerValue} (is : worker_of s a ≡ old) {thread line : ℕ} (op : Op) {step : Step}
    {handle : Option Handle} where
  -- the counts of an op that was answered
  entered_counts : (answer : Answer) → EntersStep thread line step handle answer a b →
      MakesStep line op step handle s after a answer → CountsOp line op answer s after a.counts b.counts a.owed b.owed
  entered_counts answer e makes = counts_by line op answer s after a.counts b.counts
      (counts_after step handle (step_seen step answer) a.counts) a.owed b.owed (owed_after step handle (step_seen step answer) a.owed)
      e.counts e.owed makes.counted

  pub step_plays : (ended : Result Answer OutOfMemory) → EndsStep thread line step handle ended a b →
      Makes line op step handle s after a ended → thread ≡ after.thread → IfOk ended (λ answer. DoesOp line op answer s after) →
      IfOk ended (λ answer. PlaysOp line op answer old (worker_of after b))
  step_plays (Ok answer) ends makes at does =
      subst (λ (w : WorkerValue). PlaysOp line op answer w (worker_of after b)) is
      (worker_plays line op answer (worker_of s a) after b.records.items b.counts b.owed thread b.room b.stopped ends.enters.records at
      does (entered_counts answer ends.enters makes))
  step_plays (Err e) ends makes at does = tt

  pub step_delays : (queue rest : QueueList) (ended : Result Answer OutOfMemory) → EndsStep thread line step handle ended a b →
      Makes line op step handle s after a ended → thread ≡ after.thread →
      IfOk ended (λ answer. DoesDelayed line op answer s queue after rest) →
      IfOk ended (λ answer. PlaysDelayed line op answer old queue (worker_of after b) rest)
  step_delays queue rest (Ok answer) ends makes at does =
      subst (λ (w : WorkerValue). PlaysDelayed line op answer w queue (worker_of after b) rest) is
      (worker_delays line op answer (worker_of s a) queue after rest b.records.items b.counts b.owed thread b.room b.stopped
      ends.enters.records at does (entered_counts answer ends.enters makes))
  step_delays queue rest (Err e) ends makes at does = tt

  -- a worker whose op was answered goes on
  pub step_goes_on : (ended : Result Answer OutOfMemory) → EndsStep thread line step handle ended a b →
      Makes line op step handle s after a ended → CanPlayOp old → OnOk ended (KeepsOn old (worker_of after b))
  step_goes_on (Ok answer) ends makes can =
      let could = subst (λ (w : WorkerValue). CanPlayOp w) (sym is) can in
      let on = some_goes_on line op answer (worker_of s a) after b.records.items b.counts b.owed _ ends.enters.records could makes.does in
      subst (λ (w : WorkerValue). KeepsOn w (worker_of after b)) is (record {
        going = ends.enters.stopped ∙ could.going;
        stake = on.stake;
        count = on.count;
        room = ends.enters.room;
      })
  step_goes_on (Err e) ends makes can = tt

  -- there is a counted step for each record to come, and what the worker owes may be added
  pub step_keeps : (ended : Result Answer OutOfMemory) → EndsStep thread line step handle ended a b →
      Makes line op step handle s after a ended → IfOk ended (λ answer. s.view.budget ≤ after.view.budget + 1) →
      a.room ≤ length a.records.items + s.view.budget → IsCovered a.owed s → CanPlayOp old → IsStock after → IsAware after.view →
      IsAccount b → IsAccount b × (b.room ≤ length b.records.items + after.view.budget) × IsCovered b.owed after
  step_keeps (Ok answer) ends makes budget room covered can sound aware account =
      let long : length b.records.items ≡ length a.records.items + 1 =
      ap length ends.enters.records ∙ length-append a.records.items (_ ∷ []) in
      let fits = ends.enters.room in
      let could = subst (λ (w : WorkerValue). CanPlayOp w) (sym is) can in (
        account,
        omega (arith, long, fits, budget, room),
        some_covered line op answer s after a.owed b.owed (owed_after step handle (step_seen step answer) a.owed) makes.does
            ends.enters.owed makes.less could.stake covered,
      )
  step_keeps (Err e) ends makes budget room covered can sound aware account =
      subst (λ (z : Account). IsAccount z × (z.room ≤ length z.records.items + after.view.budget) × IsCovered z.owed after)
      (sym ends.stops) (subst (λ (z : Account). IsAccount z) ends.stops account, omega arith, covered_by_rule after sound.stake aware)
