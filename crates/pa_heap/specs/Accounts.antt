-- A worker's account of what it played: what is always true of it, and what it is after an op that may have made a step.
use Rattle.std.specs.Prelude.{◌≡◌, ℕ, ◌≤◌, [], ◌∷◌, ◌++◌, length, true, Option, None, Result, IfOk, OnErr, vec_capacity}
use Rattle.pa_slot.specs.declared.fault.OutOfMemory.{OutOfMemory}
use Rattle.pa_slot.specs.declared.word.Step.{Step}
use Rattle.pa_slot.specs.declared.word.Step.TheVariants as steps
use Rattle.pa_record.specs.declared.entry.Answer.{Answer}
use Rattle.pa_record.specs.declared.entry.Seen.{Seen}
use Rattle.pa_cells.specs.declared.handle.Handle.{Handle}
use Rattle.pa_totals.specs.Settled.{none_owed}
use Rattle.pa_op_specs.specs.Counts.{AreOfSteps, IsOwedBySteps, counts_after, owed_after, done_seen, made_seen}
use Rattle.pa_op_specs.specs.Stocks.{StockValue}
use Rattle.pa_op_specs.specs.Workers.{WorkerValue}
use Rattle.pa_heap.specs.declared.account.Account.{Account}

-- the worker with this thread state and this account
abbrev pub worker_of : StockValue → Account → WorkerValue
worker_of s a =
    record { stock = s; records = a.records.items; room = a.room; stopped = a.stopped; counts = a.counts; owed = a.owed }

-- What is always true of an account. All records for which it has room have their place. It counted at most one step for each record, and
-- these steps owe what is owed.
pub record IsAccount (a : Account) : Type 0 where
  pub room : a.room ≤ vec_capacity a.records
  pub counts : AreOfSteps (length a.records.items) a.counts
  pub owed : IsOwedBySteps (length a.records.items) a.owed

-- what an answer says was found of the slot by the step that its op made: an issue makes the slot, the other steps are done on one
abbrev pub step_seen : Step → Answer → Option Seen
step_seen steps.Issue answer = made_seen answer
step_seen step answer = done_seen answer

-- An op got this answer: the account has its record besides, and what its step found of the handle's slot is counted, and owed.
pub record EntersStep (thread line : ℕ) (step : Step) (handle : Option Handle) (answer : Answer) (before after : Account) : Type 0 where
  pub records : after.records.items ≡ before.records.items ++ record { line = line; thread = thread; answer = answer } ∷ []
  pub counts : after.counts ≡ counts_after step handle (step_seen step answer) before.counts
  pub owed : after.owed ≡ owed_after step handle (step_seen step answer) before.owed
  pub room : after.room ≡ before.room
  pub stopped : after.stopped ≡ before.stopped

-- An op that may have made this step ended so. If it ran out of memory, it has no record: the worker is stopped, has no room for more
-- records, and owes nothing.
pub record EndsStep (thread line : ℕ) (step : Step) (handle : Option Handle) (ended : Result Answer OutOfMemory)
    (before after : Account) : Type 0 where
  pub enters : IfOk ended (λ answer. EntersStep thread line step handle answer before after)
  pub stops : OnErr ended
      (after ≡ record before { room = length before.records.items; stopped = true; owed = none_owed })

-- an op that made no step which is counted ended so
abbrev pub EndsOp : (thread line : ℕ) → (ended : Result Answer OutOfMemory) → (before after : Account) → Type 0
EndsOp thread line ended before after = EndsStep thread line steps.Write None ended before after
