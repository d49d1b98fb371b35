-- One turn of a delayed run in which a line is played: its worker gets its stake, plays the line, settles what it owes and lends its stake.
use Rattle.std.specs.Prelude.{◌≡◌, ℕ, ◌+◌, ◌≤◌, length}
use Rattle.pa_trace.specs.declared.script.Op.{Op}
use Rattle.pa_region.specs.declared.view.View.{View}
use Rattle.pa_region.specs.Aware.{IsAware}
use Rattle.pa_region.specs.Hands.{left_after, given_after, united}
use Rattle.pa_region.specs.Lending.{stake_parcel}
use Rattle.pa_region.specs.Views.{stake_of}
use Rattle.pa_rules.specs.Caches.{SameLists}
use Rattle.pa_rules.specs.Played.{op_line_of}
use Rattle.pa_logs.specs.Told.{ToldRecord}
use Rattle.pa_delay.specs.Queue.{QueueList, with_waiting}
use Rattle.pa_totals.specs.Settled.{none_owed}
use Rattle.pa_op_specs.specs.Stocks.{listed_in, rules_at}
use Rattle.pa_op_specs.specs.Workers.{WorkerValue, KeepsOn, worker_with_view}
use Rattle.pa_op_specs.specs.Plays.{PlaysOne}
use Rattle.pa_heap.specs.Waiting.{HoldsQueue, LeadsDelayed, waiting_in}
use Rattle.pa_execution.specs.Gathering.{told_worker}

-- The worker of thread k, which had lent its stake to the main seat `first`, played the op of this line and lent its stake again.
--   starts, heard, lists, numbers: as it began; its lists and its queue are at the same numbers
--   ends, plays: as it ended, before it lent its stake; its record leads lists and queue
--   keeps, same, settled: it goes on by the same rules, and owes nothing to the totals words
--   holds, waits: its queue's slots can wait, then and after it lent its stake
--   rest, few: the queue has the same limit and room, and at most one slot more
--   told, none, seat, aware: it lent its stake
pub record TakesTurn (k line : ℕ) (op : Op) (before : WorkerValue) (queue : QueueList) (first : View)
    (after : WorkerValue) (left : QueueList) (last : View) : Type 0 where
  pub starts : WorkerValue
  pub heard : starts ≡ worker_with_view (united before.stock.view (given_after (stake_parcel k) first)) before
  pub lists : SameLists (listed_in starts.stock) (listed_in before.stock)
  pub numbers : waiting_in starts.stock queue.slots ≡ waiting_in before.stock queue.slots
  pub ends : WorkerValue
  pub plays : (phase : ℕ) → (x : ToldRecord)
      × (op_line_of x.played ≡ record { line = line; thread = k; phase = phase; rules = rules_at before.stock; op = op })
      × PlaysOne starts ends x × LeadsDelayed queue.limit starts.stock queue.slots ends.stock left.slots x
  pub keeps : KeepsOn before ends
  pub same : (ends.stock.thread ≡ k) × (ends.stock.partitions ≡ before.stock.partitions) × (rules_at ends.stock ≡ rules_at before.stock)
  pub settled : ends.owed ≡ none_owed
  pub holds : HoldsQueue left.slots ends.stock
  pub rest : left ≡ with_waiting queue left.slots
  pub few : length left.slots ≤ length queue.slots + 1
  pub told : after ≡ told_worker k ends
  pub none : (j : ℕ) → stake_of after.stock.view j ≡ 0
  pub waits : HoldsQueue left.slots after.stock
  pub seat : last ≡ united (left_after (stake_parcel k) first) (given_after (stake_parcel k) ends.stock.view)
  pub aware : IsAware last
