-- Wrong runs that were worked out by hand, and the clauses and lines at which they fail.
use Rattle.std.specs.Prelude.{◌≡◌, ℕ, List, [], ◌∷◌, Some}
use Rattle.pa_trace.specs.declared.script.Trace.{Trace}
use Rattle.pa_trace.specs.declared.script.Line.TheVariants.{Do}
use Rattle.pa_trace.specs.declared.script.Op.TheVariants as ops
use Rattle.pa_record.specs.declared.entry.Entry.{Entry}
use Rattle.pa_record.specs.declared.entry.Seen.{Seen}
use Rattle.pa_record.specs.declared.entry.Answer.TheVariants as answers
use Rattle.pa_record.specs.declared.pool.PoolEntry.{PoolEntry}
use Rattle.pa_record.specs.declared.root.RootEntry.{RootEntry}
use Rattle.pa_record.specs.declared.run.Run.{Run}
use Rattle.pa_record.specs.Worked.{slots, fill, full, map_made, map_gone, pool_take, pool_give}
use Rattle.pa_rules.specs.declared.verdict.Clause.TheVariants as clauses
use Rattle.pa_rules.specs.Told.{Told, told_by}
use Rattle.pa_rules.specs.Roots.{journal_at}
use Rattle.pa_rules.specs.Cells.{history_at}
use Rattle.pa_rules.specs.Verdicts.{Holds, FailsAt}
use Rattle.pa_examples.specs.Worked.{seen_at}

-- a record of thread 0 that made a slot
abbrev pub made : ℕ → Seen → ℕ → Entry
made line seen usable = record { line = line; thread = 0; answer = answers.Made seen usable }

-- a record of thread 0 that made a step, and what that found
abbrev pub stepped : ℕ → Seen → Entry
stepped line seen = record { line = line; thread = 0; answer = answers.Done seen }

-- the lists of a run that has no exchanges and no report
abbrev pub telling : List Entry → List (List RootEntry) → List PoolEntry → Told
telling es journals pools = record { entries = es; roots = journal_at journals; pools = pools; cells = history_at []; report = [] }

-- A direct map is made, freed and unmapped at a number that isn't the one that it was left at. A second request of that size says that it
-- got the same slot, with no entry of the journal.
abbrev pub maps_trace : Trace
maps_trace = record {
  version = 1;
  region = 1;
  partitions = 1;
  threads = 1;
  plain = 0;
  lines = Do 0 (ops.Alloc 0 0 2000000) ∷ Do 0 (ops.Free 0) ∷ Do 0 (ops.Alloc 0 0 2000000) ∷ Do 0 (ops.Free 0) ∷ [];
}

-- that run's lists: both allocations got the slot at byte 16384, and the journal has one Map and one Unmap, this at number 4 and not 2
abbrev pub maps_told : Told
maps_told =
    telling
    (made 2 (seen_at 16384 0 0) 2002936 ∷ stepped 3 (seen_at 16384 0 0x1000001) ∷ made 4 (seen_at 16384 0 0x2000000) 2002936 ∷ stepped 5
    (seen_at 16384 0 0x3000001) ∷ [])
    ((map_made 2 0 16384 2002944 ∷ map_gone 3 1 16384 0 4 ∷ []) ∷ [])
    (pool_take 2 0 1 (Some 0) ∷ pool_give 3 0 1 0 ∷ [])

-- caches fails at the record of the second allocation, since that line lacks an entry, and not at the Unmap's
abbrev pub MapsFail : Type 0
MapsFail = (r : Run) → told_by r ≡ maps_told → FailsAt clauses.Caches maps_trace r 4

-- Two entries of the journal name an entry of the pool that isn't there.
abbrev pub refused_trace : Trace
refused_trace = record {
  version = 1;
  region = 1;
  partitions = 1;
  threads = 1;
  plain = 0;
  lines = Do 0 (ops.Alloc 0 0 1) ∷ Do 0 (ops.Free 0) ∷ [];
}

-- where eight slots start: 16 bytes apart from byte 16384 on, in super page 0
abbrev pub first_slots : List ℕ
first_slots = 16384 ∷ 16400 ∷ 16416 ∷ 16432 ∷ 16448 ∷ 16464 ∷ 16480 ∷ 16496 ∷ []

-- that run's lists: a fill, and two refusals that name entry 7 of the pool, which has only entry 0
abbrev pub refused_told : Told
refused_told =
    telling
    (made 2 (seen_at 16384 0 0) 8 ∷ stepped 3 (seen_at 16384 0 0x1000001) ∷ [])
    ((fill 2 0 (Some 0) (slots 0 0 first_slots) ∷ full 2 (Some 0) 7 ∷ full 2 (Some 0) 7 ∷ []) ∷ [])
    (pool_take 2 0 1 (Some 0) ∷ [])

-- roots fails at the first of the two refusals, and pool holds
abbrev pub RefusedFails : Type 0
RefusedFails =
    (r : Run) → told_by r ≡ refused_told → Holds clauses.Pool refused_trace r × FailsAt clauses.Roots refused_trace r 5

-- An allocation from partition 1 says that it got a slot that partition 0 filled.
abbrev pub astray_trace : Trace
astray_trace = record {
  version = 1;
  region = 2;
  partitions = 2;
  threads = 1;
  plain = 0;
  lines = Do 0 (ops.Alloc 0 0 8) ∷ Do 0 (ops.Alloc 1 1 8) ∷ [];
}

-- where eight slots start: 16 bytes apart from byte 2113536 on, in super page 1
abbrev pub second_slots : List ℕ
second_slots = 2113536 ∷ 2113552 ∷ 2113568 ∷ 2113584 ∷ 2113600 ∷ 2113616 ∷ 2113632 ∷ 2113648 ∷ []

-- that run's lists: each partition fills eight slots, and the slot of line 3 is the second of partition 0
abbrev pub astray_told : Told
astray_told =
    telling
    (made 2 (seen_at 16384 0 0) 8 ∷ made 3 (seen_at 16400 0 0) 8 ∷ [])
    ((fill 2 0 (Some 0) (slots 0 0 first_slots) ∷ []) ∷ (fill 3 0 (Some 1) (slots 1 0 second_slots) ∷ []) ∷ [])
    (pool_take 2 0 1 (Some 0) ∷ pool_take 3 1 1 (Some 1) ∷ [])

-- caches fails at the record of the second allocation, and holders holds, since its thread has the slot
abbrev pub AstrayFails : Type 0
AstrayFails =
    (r : Run) → told_by r ≡ astray_told → Holds clauses.Holders astray_trace r × FailsAt clauses.Caches astray_trace r 3
