-- What is proved of the records of a run in the order of its lines: the frame of the law that each run is played, and the lines
-- that make no entry of a journal.
use Rattle.std.specs.Prelude.{◌≡◌, ℕ, List, ◌∷◌, ◌++◌, Contains}
use Rattle.pa_trace.specs.declared.script.Trace.{Trace}
use Rattle.pa_trace.specs.Limits.{IsWithinLimits}
use Rattle.pa_record.specs.declared.run.Run.{Run}
use Rattle.pa_record.specs.declared.entry.Seen.{Seen}
use Rattle.pa_record.specs.declared.entry.Answer.TheVariants.{Made, Done, Full, Purged}
use Rattle.pa_record.specs.declared.numbered.Numbered.{Numbered}
use Rattle.pa_record.specs.declared.root.RootAct.TheVariants.{Give, Unmap}
use Rattle.pa_rules.specs.declared.played.Played.{Played}
use Rattle.pa_rules.specs.Caches.{NoActs, acts_of}
use Rattle.pa_rules.specs.Told.{told_by, records_of}
use Rattle.pa_rules.specs.Legal.{IsFileRun}
use Rattle.pa_one_run.specs.Parts.{parts_of}
use Rattle.pa_core_run.specs.Playing.{HasCoreRun}
use Rattle.pa_core_run.specs.Fronts.{CanBePlayed}

-- if each record of a sequential run can be played, the run has a run of the core
abbrev pub PlayedRecordsMakeARun : Type 0
PlayedRecordsMakeARun =
    (t : Trace) (r : Run) → IsWithinLimits t → IsFileRun t r →
    ((before : List Played) (x : Played) (rest : List Played) → records_of t (told_by r) ≡ before ++ x ∷ rest →
    CanBePlayed (parts_of t (told_by r)) before x rest) → HasCoreRun t r

-- Each record on a line without an entry of a journal can be played, whatever its op and its answer: a request that is too large or
-- finds its register filled, an allocation from the thread's list, a copy, a reset or free, even if it returns the slot to a list,
-- a write, a read, an exchange, and every look and refusal.
abbrev pub QuietRecordsArePlayed : Type 0
QuietRecordsArePlayed =
    (t : Trace) (r : Run) → IsWithinLimits t → IsFileRun t r → (before : List Played) (x : Played) (rest : List Played) →
    records_of t (told_by r) ≡ before ++ x ∷ rest → NoActs (told_by r).roots x.line → CanBePlayed (parts_of t (told_by r)) before x rest

-- Each allocation that finds no room can be played.
abbrev pub RefusedRecordsArePlayed : Type 0
RefusedRecordsArePlayed =
    (t : Trace) (r : Run) → IsWithinLimits t → IsFileRun t r → (before : List Played) (x : Played) (rest : List Played) (entry : ℕ) →
    records_of t (told_by r) ≡ before ++ x ∷ rest → x.answer ≡ Full entry → CanBePlayed (parts_of t (told_by r)) before x rest

-- Each allocation that made a slot can be played: from the front of the thread's list, after a fill of it, or as a direct map. New titles
-- are cut, and those that a fill takes, or the direct map's, come to the thread before the slot is issued.
abbrev pub MadeRecordsArePlayed : Type 0
MadeRecordsArePlayed =
    (t : Trace) (r : Run) → IsWithinLimits t → IsFileRun t r →
    (before : List Played) (x : Played) (rest : List Played) (seen : Seen) (usable : ℕ) →
    records_of t (told_by r) ≡ before ++ x ∷ rest → x.answer ≡ Made seen usable → CanBePlayed (parts_of t (told_by r)) before x rest

-- Each free or reset that returned a slot to a list which spilled can be played: what doesn't stay of the list goes back to the root.
abbrev pub SpilledRecordsArePlayed : Type 0
SpilledRecordsArePlayed =
    (t : Trace) (r : Run) → IsWithinLimits t → IsFileRun t r → (before : List Played) (x : Played) (rest : List Played) →
    (seen : Seen) (p : ℕ) (slots : List Numbered) → records_of t (told_by r) ≡ before ++ x ∷ rest → x.answer ≡ Done seen →
    Contains (acts_of (told_by r).roots x.line p) (Give slots) → CanBePlayed (parts_of t (told_by r)) before x rest

-- Each reset or free that gave back a direct map can be played: its line has an Unmap. The step leaves the map's free title,
-- which goes to actor 0 and is uncut.
abbrev pub UnmappedRecordsArePlayed : Type 0
UnmappedRecordsArePlayed =
    (t : Trace) (r : Run) → IsWithinLimits t → IsFileRun t r → (before : List Played) (x : Played) (rest : List Played) →
    (p asked : ℕ) (slot : Numbered) → records_of t (told_by r) ≡ before ++ x ∷ rest →
    Contains (acts_of (told_by r).roots x.line p) (Unmap asked slot) → CanBePlayed (parts_of t (told_by r)) before x rest

-- Each purge can be played: the free titles of all slots in its thread's lists go to actor 0, and the lists are empty then.
abbrev pub PurgedRecordsArePlayed : Type 0
PurgedRecordsArePlayed =
    (t : Trace) (r : Run) → IsWithinLimits t → IsFileRun t r → (before : List Played) (x : Played) (rest : List Played) (slots : ℕ) →
    records_of t (told_by r) ≡ before ++ x ∷ rest → x.answer ≡ Purged slots → CanBePlayed (parts_of t (told_by r)) before x rest
