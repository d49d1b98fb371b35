-- A worker's op: the record, what the op did with its thread state, and what it owes then.
use Rattle.std.proofs.Common.{◌≡◌, ℕ, ◌+◌, ◌<◌, ◌≤◌, Bool, List, [], ◌∷◌, ◌++◌, length, refl, sym, ◌∙◌, ap, subst, arith}
use Rattle.std.proofs.lemmas.List.{length-append}
use Rattle.pa_trace.specs.declared.script.Op.{Op}
use Rattle.pa_record.specs.declared.entry.Answer.{Answer}
use Rattle.pa_record.specs.declared.entry.Entry.{Entry}
use Rattle.pa_region.specs.Views.{stake_of}
use Rattle.pa_rules.specs.declared.played.Played.{Played}
use Rattle.pa_rules.specs.Played.{entry_of}
use Rattle.pa_logs.specs.Touches.{step_in, step_by}
use Rattle.pa_totals.specs.declared.owed.Owed.{Owed}
use Rattle.pa_totals.specs.Settled.{owed_in}
use Rattle.pa_op_specs.specs.declared.counts.Count.{Count}
use Rattle.pa_logs.specs.Told.{ToldRecord}
use Rattle.pa_delay.specs.Queue.{QueueList}
use Rattle.pa_op_specs.specs.Stocks.{StockValue, rules_at}
use Rattle.pa_op_specs.specs.Workers.{WorkerValue, HasItsStake, IsCovered, CanPlayOp, KeepsOn}
use Rattle.pa_op_specs.specs.Owing.{AddsNothing, bytes_stepped, owed_by}
use Rattle.pa_op_specs.specs.Plays.{Does, DoesOp, PlaysOne, PlaysOp}
use Rattle.pa_op_specs.proofs.Booking.{op_books, op_covered}
use Rattle.pa_op_specs.proofs.Weighing.{CountsOp}
use Rattle.pa_heap.specs.Waiting.{DoesDelayed, PlaysDelayed}

-- What an op did, whatever became of its thread's lists, with its record in whatever phase the line is.
abbrev pub DoesSome : (line : ℕ) → Op → Answer → (before after : StockValue) → Type 0
DoesSome line op answer before after =
    (phase : ℕ) → (x : ToldRecord)
    × (x.played ≡ record { line = line; thread = before.thread; phase = phase; rules = rules_at before; op = op; answer = answer })
    × Does before after x × AddsNothing x.stretch

pub op_some : (line : ℕ) (op : Op) (answer : Answer) (before after : StockValue) → DoesOp line op answer before after →
    DoesSome line op answer before after
op_some line op answer before after does phase = let (x, is, done, leads, none) = does phase in (x, is, done, none)

pub delayed_some : (line : ℕ) (op : Op) (answer : Answer) (before : StockValue) (queue : QueueList) (after : StockValue)
    (rest : QueueList) → DoesDelayed line op answer before queue after rest → DoesSome line op answer before after
delayed_some line op answer before queue after rest does phase = let (x, is, done, none, leads) = does phase in (x, is, done, none)

-- The op was played, by what the calls leave: the thread state, the records with one more, the counts, and what is owed.
plays_one : (line phase : ℕ) (op : Op) (answer : Answer) (w : WorkerValue) (after : StockValue) (records : List Entry)
    (counts : List Count)
    (owed : List Owed) (thread room : ℕ) (stopped : Bool) (x : ToldRecord) →
    records ≡ w.records ++ record { line = line; thread = thread; answer = answer } ∷ [] → thread ≡ after.thread →
    x.played ≡ record { line = line; thread = w.stock.thread; phase = phase; rules = rules_at w.stock; op = op; answer = answer } →
    Does w.stock after x → AddsNothing x.stretch →
    CountsOp line op answer w.stock after w.counts counts w.owed owed →
    PlaysOne w (record { stock = after; records = records; room = room; stopped = stopped; counts = counts; owed = owed }) x
plays_one line phase op answer w after records counts owed thread room stopped x items at is done none counted = record {
  records = items ∙ (ap (λ k. w.records ++ record { line = line; thread = k; answer = answer } ∷ []) (at ∙ done.same.0)
      ∙ ap (λ p. w.records ++ entry_of p ∷ []) (sym is));
  does = done;
  counts = λ o fits. (counted phase x is done o fits).0;
  bytes = λ o fits. op_books o.homes o.sizes x w
      (record { stock = after; records = records; room = room; stopped = stopped; counts = counts; owed = owed }) done none
      (counted phase x is done o fits).1;
}

pub worker_plays : (line : ℕ) (op : Op) (answer : Answer) (w : WorkerValue) (after : StockValue) (records : List Entry)
    (counts : List Count)
    (owed : List Owed) (thread room : ℕ) (stopped : Bool) →
    records ≡ w.records ++ record { line = line; thread = thread; answer = answer } ∷ [] → thread ≡ after.thread →
    DoesOp line op answer w.stock after →
    CountsOp line op answer w.stock after w.counts counts w.owed owed →
    PlaysOp line op answer w (record { stock = after; records = records; room = room; stopped = stopped; counts = counts; owed = owed })
worker_plays line op answer w after records counts owed thread room stopped items at does counted phase =
    let (x, is, done, leads, none) = does phase in (
      x,
      is,
      plays_one line phase op answer w after records counts owed thread room stopped x items at is done none counted,
      leads,
    )

pub worker_delays : (line : ℕ) (op : Op) (answer : Answer) (w : WorkerValue) (queue : QueueList) (after : StockValue) (rest : QueueList)
    (records : List Entry) (counts : List Count) (owed : List Owed) (thread room : ℕ) (stopped : Bool) →
    records ≡ w.records ++ record { line = line; thread = thread; answer = answer } ∷ [] → thread ≡ after.thread →
    DoesDelayed line op answer w.stock queue after rest →
    CountsOp line op answer w.stock after w.counts counts w.owed owed →
    PlaysDelayed line op answer w queue
    (record { stock = after; records = records; room = room; stopped = stopped; counts = counts; owed = owed }) rest
worker_delays line op answer w queue after rest records counts owed thread room stopped items at does counted phase =
    let (x, is, done, none, leads) = does phase in (
      x,
      is,
      plays_one line phase op answer w after records counts owed thread room stopped x items at is done none counted,
      leads,
    )

-- a worker that played an op goes on
pub some_goes_on : (line : ℕ) (op : Op) (answer : Answer) (w : WorkerValue) (after : StockValue) (records : List Entry)
    (counts : List Count)
    (owed : List Owed) (e : Entry) → records ≡ w.records ++ e ∷ [] → CanPlayOp w → DoesSome line op answer w.stock after →
    KeepsOn w (record { stock = after; records = records; room = w.room; stopped = w.stopped; counts = counts; owed = owed })
some_goes_on line op answer w after records counts owed e items can does =
    let (x, is, done, none) = does 0 in
    record {
      going = can.going;
      stake = subst (λ k. 0 < stake_of after.view k) (sym done.same.0)
          (let e = done.stakes w.stock.thread in let h = can.stake in omega arith);
      count = ap length items ∙ length-append w.records (e ∷ []);
      room = refl;
    }

-- the counts, and what is owed, by what the calls say of them
pub counts_by : (line : ℕ) (op : Op) (answer : Answer) (before after : StockValue) (cs ds es : List Count) (os ps rs : List Owed) →
    ds ≡ es → ps ≡ rs →
    CountsOp line op answer before after cs es os rs → CountsOp line op answer before after cs ds os ps
counts_by line op answer before after cs ds es os ps rs counted owes counts =
    subst (λ (zs : List Owed). CountsOp line op answer before after cs ds os zs) (sym owes)
    (subst (λ (zs : List Count). CountsOp line op answer before after cs zs os rs) (sym counted) counts)

-- what is owed after an op may still be added
pub some_covered : (line : ℕ) (op : Op) (answer : Answer) (before after : StockValue) (os ps rs : List Owed) →
    DoesSome line op answer before after → ps ≡ rs →
    ((q : ℕ) → owed_in q rs ≤ owed_in q os + owed_by q (step_in op answer) (bytes_stepped before.registers op answer)) →
    HasItsStake before → IsCovered os before → IsCovered ps after
some_covered line op answer before after os ps rs does owes less stake covered =
    let (x, is, done, none) = does 0 in
    subst (λ (zs : List Owed). IsCovered zs after) (sym owes)
    (op_covered before after x os rs done none
    (λ q. subst (λ (y : Played). owed_in q rs ≤ owed_in q os + owed_by q (step_by y) (bytes_stepped before.registers y.op y.answer))
    (sym is) (less q))
    stake covered)
