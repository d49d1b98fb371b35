-- What a settling at the end of a phase, or of a turn, leaves of the records: what was added to totals words is at the end of the log
-- segment of the worker's last record.
use Rattle.std.specs.Prelude.{◌≡◌, List, [], ◌∷◌, ◌++◌}
use Rattle.pa_region.specs.declared.view.Entry.{Entry}
use Rattle.pa_logs.specs.Told.{ToldRecord, played_in}
use Rattle.pa_totals.specs.Settled.{none_owed, after_settle_all, all_added}
use Rattle.pa_op_specs.specs.Workers.{WorkerValue, IsWorker, HasItsStake, worker_with_view}
use Rattle.pa_op_specs.specs.Outcomes.{Outcome, FitsRun}
use Rattle.pa_op_specs.specs.Plays.{PlaysOne, PlaysAll}

-- the record with these entries at the end of its log segment
abbrev pub lengthened : List Entry → ToldRecord → ToldRecord
lengthened es x = record x { stretch = x.stretch ++ es }

-- the records, the last of them with these entries at the end
abbrev pub last_lengthened : List Entry → List ToldRecord → List ToldRecord
last_lengthened es [] = []
last_lengthened es (x ∷ []) = lengthened es x ∷ []
last_lengthened es (x ∷ y ∷ xs) = x ∷ last_lengthened es (y ∷ xs)

-- the worker after its seat settled what it owes
abbrev pub settled_worker : WorkerValue → WorkerValue
settled_worker w = record (worker_with_view (after_settle_all w.owed w.stock.view) w) { owed = none_owed }

-- If a worker played ops, at least one, and then settles what it owes, it played ops with the same records and is settled. Only the
-- log segment of the last one is longer.
abbrev pub SettlingEndsPhase : Type 0
SettlingEndsPhase =
    (w v : WorkerValue) (x : ToldRecord) (xs : List ToldRecord) → PlaysAll w (x ∷ xs) v → IsWorker v → HasItsStake v.stock →
    PlaysAll w (last_lengthened (all_added v.owed) (x ∷ xs)) (settled_worker v)
    × (played_in (last_lengthened (all_added v.owed) (x ∷ xs)) ≡ played_in (x ∷ xs))

-- The same of one op, whatever it did with the worker's lists: a run that fits the longer record and the settled worker fits it as it was.
abbrev pub SettlingEndsTurn : Type 0
SettlingEndsTurn =
    (w v : WorkerValue) (x : ToldRecord) → PlaysOne w v x → IsWorker v → HasItsStake v.stock →
    PlaysOne w (settled_worker v) (lengthened (all_added v.owed) x)
    × ((o : Outcome) → FitsRun o w.stock.partitions (settled_worker v).stock.view (lengthened (all_added v.owed) x) →
    FitsRun o w.stock.partitions v.stock.view x)
