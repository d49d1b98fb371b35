-- A worker that got its stake, played a line, settled what it owed and lent its stake has taken its turn.
use Rattle.std.proofs.Common.{◌≡◌, false, ℕ, ◌+◌, ◌<◌, ◌≤◌, List, length, refl, sym, ◌∙◌, ap, subst, arith}
use Rattle.pa_trace.specs.declared.script.Op.{Op}
use Rattle.pa_record.specs.declared.entry.Answer.{Answer}
use Rattle.pa_region.specs.declared.view.View.{View}
use Rattle.pa_region.specs.Aware.{IsAware}
use Rattle.pa_region.specs.Hands.{left_after, given_after, united}
use Rattle.pa_region.specs.Lending.{stake_parcel}
use Rattle.pa_region.specs.Views.{stake_of}
use Rattle.pa_region.proofs.JoinStep.{united_parts}
use Rattle.pa_region.proofs.LendBack.{given_stake}
use Rattle.pa_rules.specs.Caches.{SameLists}
use Rattle.pa_rules.specs.Sizes.{HasClass}
use Rattle.pa_rules.specs.Played.{op_line_of}
use Rattle.pa_logs.specs.Told.{ToldRecord}
use Rattle.pa_delay.specs.Queue.{QueueList, with_waiting}
use Rattle.pa_totals.specs.Settled.{all_added}
use Rattle.pa_cells.specs.declared.handle.Handle.{Handle}
use Rattle.pa_op_specs.specs.Stocks.{StockValue, listed_in, rules_at}
use Rattle.pa_op_specs.specs.Workers.{WorkerValue, IsWorker, HasItsStake, CanPlayOp, KeepsOn, worker_with_view}
use Rattle.pa_op_specs.specs.Plays.{KeepsApart, PlaysOne}
use Rattle.pa_op_specs.specs.Settling.{SettlingEndsTurn, lengthened, settled_worker}
use Rattle.pa_thread_state.specs.Changes.{StaysMade}
use Rattle.pa_heap.specs.Waiting.{HoldsQueue, LeadsDelayed, PlaysDelayed}
use Rattle.pa_heap.proofs.Beside.{same_waiting}
use Rattle.pa_execution.specs.Gathering.{told_worker}
use Rattle.pa_delay_runner.specs.Turning.{TakesTurn}

-- a worker that has its stake again can play an op
pub ready_heard : (k : ℕ) (before starts : WorkerValue) (first : View) →
    starts ≡ worker_with_view (united before.stock.view (given_after (stake_parcel k) first)) before → before.stock.thread ≡ k →
    0 < stake_of first k → before.stopped ≡ false → length before.records < before.room → CanPlayOp starts
ready_heard k before starts first is thread has going room =
    subst CanPlayOp (sym is) (record {
      going = going;
      stake = subst (λ n. 0 < stake_of (united before.stock.view (given_after (stake_parcel k) first)) n) (sym thread)
          (let parts = (united_parts before.stock.view (given_after (stake_parcel k) first)).stakes k in
          let given = given_stake k first in
          omega arith);
      room = room;
    })

-- what waits can wait still if what is free and on no list stays so, and the seat has seen all that it had of how slots were made
holds_made : (hs : List Handle) (before after : StockValue) → after.caches.version ≡ before.caches.version → KeepsApart before after →
    StaysMade before after → HoldsQueue hs before → HoldsQueue hs after
holds_made hs before after version apart made holds = record {
  each = λ h among.
      let can = holds.each h among in
      record {
        class = can.class;
        class_is = can.class_is;
        real = subst (λ v. HasClass v can.class) (sym version) can.real;
        apart = (apart h.title can.apart).0;
        made = made h can.made;
      };
  differ = holds.differ;
}

-- it can when the worker got its stake
pub holds_heard : (hs : List Handle) (before starts : WorkerValue) (v : View) → starts ≡ worker_with_view v before →
    KeepsApart before.stock starts.stock → StaysMade before.stock starts.stock → HoldsQueue hs before.stock → HoldsQueue hs starts.stock
holds_heard hs before starts v is apart made holds =
    holds_made hs before.stock starts.stock (ap (λ (z : WorkerValue). z.stock.caches.version) is) apart made holds

-- and when it settled, and when it lent its stake: neither changes lists, free titles or what the seat has seen
holds_settled : (hs : List Handle) (w : WorkerValue) → HoldsQueue hs w.stock → HoldsQueue hs (settled_worker w).stock
holds_settled hs w holds =
    holds_made hs w.stock (settled_worker w).stock refl (λ t can. (record { free = can.free; off = can.off; well = can.well }, refl))
    (λ h can. record { partition = can.partition; entry = can.entry }) holds

holds_told : (hs : List Handle) (k : ℕ) (w : WorkerValue) → HoldsQueue hs w.stock → HoldsQueue hs (told_worker k w).stock
holds_told hs k w holds =
    holds_made hs w.stock (told_worker k w).stock refl (λ t can. (record { free = can.free; off = can.off; well = can.well }, refl))
    (λ h can. record { partition = can.partition; entry = can.entry }) holds

-- The parts of a turn, as its calls leave them: `starts` got its stake, `played` played the op, `ends` settled, and `after` lent its stake.
pub record IsTurn (k line : ℕ) (op : Op) (answer : Answer) (before starts played ends after : WorkerValue) (queue left : QueueList)
    (first middle last : View) : Type 0 where
  pub thread : before.stock.thread ≡ k
  pub heard : starts ≡ worker_with_view (united before.stock.view (given_after (stake_parcel k) first)) before
  pub lists : SameLists (listed_in starts.stock) (listed_in before.stock)
  pub apart : KeepsApart before.stock starts.stock
  pub held : HoldsQueue queue.slots before.stock
  pub plays : PlaysDelayed line op answer starts queue played left
  pub keeps : KeepsOn starts played
  pub holds : HoldsQueue left.slots played.stock
  pub rest : left ≡ with_waiting queue left.slots
  pub few : length left.slots ≤ length queue.slots + 1
  pub kept : IsWorker played
  pub settled : ends ≡ settled_worker played
  pub stake : HasItsStake ends.stock
  pub told : after ≡ told_worker ends.stock.thread ends
  pub none : (j : ℕ) → stake_of after.stock.view j ≡ 0
  pub lent : middle ≡ left_after (stake_parcel k) first
  pub seat : last ≡ united middle (given_after (stake_parcel ends.stock.thread) ends.stock.view)
  pub aware : IsAware last

module _ (settling : SettlingEndsTurn) (k line : ℕ) (op : Op) (answer : Answer) (before starts played ends after : WorkerValue)
    (queue left : QueueList) (first middle last : View)
    (turn : IsTurn k line op answer before starts played ends after queue left first middle last) where
  -- the thread, the partitions and the rules of the worker stay as they were when it began
  began : (starts.stock.thread ≡ k) × (starts.stock.partitions ≡ before.stock.partitions) × (rules_at starts.stock ≡ rules_at before.stock)
  began = (
    ap (λ (z : WorkerValue). z.stock.thread) turn.heard ∙ turn.thread,
    ap (λ (z : WorkerValue). z.stock.partitions) turn.heard,
    ap (λ (z : WorkerValue). rules_at z.stock) turn.heard,
  )

  same : (played.stock.thread ≡ k) × (played.stock.partitions ≡ before.stock.partitions) × (rules_at played.stock ≡ rules_at before.stock)
  same =
      let (x, is, one, leads) = turn.plays 0 in (
        one.does.same.0 ∙ began.0,
        one.does.same.1 ∙ began.1,
        (let a = one.does.version in let b = one.does.same.2 in
            let here : rules_at played.stock ≡ rules_at starts.stock = cc in here) ∙ began.2,
      )

  plays : (phase : ℕ) → (x : ToldRecord)
      × (op_line_of x.played ≡ record { line = line; thread = k; phase = phase; rules = rules_at before.stock; op = op })
      × PlaysOne starts (settled_worker played) x
      × LeadsDelayed queue.limit starts.stock queue.slots (settled_worker played).stock left.slots x
  plays phase =
      let (x, is, one, leads) = turn.plays phase in
      let (longer, shorter) = settling starts played x one turn.kept turn.keeps.stake in (
        lengthened (all_added played.owed) x,
        ap op_line_of is ∙ (let a = began.0 in let b = began.2 in cc),
        longer,
        λ o fits. leads o (shorter o fits),
      )

  keeps : KeepsOn before (settled_worker played)
  keeps = record {
    going = turn.keeps.going;
    stake = subst (λ (z : WorkerValue). HasItsStake z.stock) turn.settled turn.stake;
    count = turn.keeps.count ∙ ap (λ (z : WorkerValue). length z.records + 1) turn.heard;
    room = turn.keeps.room ∙ ap (λ (z : WorkerValue). z.room) turn.heard;
  }

  told : after ≡ told_worker k (settled_worker played)
  told = turn.told ∙ (ap (λ (z : WorkerValue). told_worker z.stock.thread z) turn.settled
      ∙ ap (λ n. told_worker n (settled_worker played)) same.0)

  has_both : last ≡ united (left_after (stake_parcel k) first) (given_after (stake_parcel k) (settled_worker played).stock.view)
  has_both =
      turn.seat ∙ (ap (λ (v : View). united v (given_after (stake_parcel ends.stock.thread) ends.stock.view)) turn.lent
      ∙ (ap (λ (z : WorkerValue). united (left_after (stake_parcel k) first) (given_after (stake_parcel z.stock.thread) z.stock.view))
      turn.settled
      ∙ ap (λ n. united (left_after (stake_parcel k) first) (given_after (stake_parcel n) (settled_worker played).stock.view)) same.0))

  pub takes_turn : TakesTurn k line op before queue first after left last
  takes_turn = record {
    starts = starts;
    heard = turn.heard;
    lists = turn.lists;
    numbers = same_waiting queue.slots before.stock starts.stock turn.held turn.apart;
    ends = settled_worker played;
    plays = plays;
    keeps = keeps;
    same = same;
    settled = refl;
    holds = holds_settled left.slots played turn.holds;
    rest = turn.rest;
    few = turn.few;
    told = told;
    none = turn.none;
    waits = subst (λ (z : WorkerValue). HoldsQueue left.slots z.stock) (sym told)
        (holds_told left.slots k (settled_worker played) (holds_settled left.slots played turn.holds));
    seat = has_both;
    aware = turn.aware;
  }
