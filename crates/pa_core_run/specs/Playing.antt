-- How the records of a run are played as events of the core: each op of a thread by its own actor, and by actor 0, which has
-- the raw bytes, the free slots of the roots, and what lies in cells. Thread k is actor k + 1.
use Rattle.std.specs.Prelude.{◌≡◌, ℕ, ◌+◌, ◌*◌, ◌<◌, ◌⊎◌, Bool, List, [], ◌∷◌, ◌++◌, Option, Some, None}
use Rattle.pa_slot.specs.declared.word.Step.{Step}
use Rattle.pa_slot.specs.declared.word.Step.TheVariants.{Issue, Copy, Reset, Free, Write}
use Rattle.pa_slot.specs.declared.title.Title.{Title}
use Rattle.pa_machine.specs.declared.event.Event.{Event}
use Rattle.pa_machine.specs.declared.event.Event.TheVariants.{Count, Sealed, Store, Poison, Load, Hand, Cut, Uncut}
use Rattle.pa_slot.specs.Run.{Mark}
use Rattle.pa_slot.specs.Titles.{content_count, content_place, count_place, content_at, count_word}
use Rattle.pa_machine.specs.Events.{State, IsStart}
use Rattle.pa_machine.specs.Trail.{IsGoodState, IsRunTo}
use Rattle.pa_core_steps.specs.Turns.{issue_event}
use Rattle.pa_trace.specs.declared.script.Op.{Op}
use Rattle.pa_trace.specs.declared.script.Op.TheVariants as ops
use Rattle.pa_trace.specs.declared.script.Trace.{Trace}
use Rattle.pa_trace.specs.Limits.{IsWithinLimits}
use Rattle.pa_record.specs.declared.entry.Answer.{Answer}
use Rattle.pa_record.specs.declared.entry.Answer.TheVariants as answers
use Rattle.pa_record.specs.declared.run.Run.{Run}
use Rattle.pa_record.specs.Spans.{name_of}
use Rattle.pa_record.specs.Sound.{IsMadeBy}
use Rattle.pa_rules.specs.declared.played.Played.{Played}
use Rattle.pa_rules.specs.Played.{mark_of}
use Rattle.pa_rules.specs.Registers.{is_plain_op}
use Rattle.pa_rules.specs.Told.{Told, told_by, records_of}
use Rattle.pa_rules.specs.Legal.{IsFileRun}

-- the word that an op read, and the value that its answer gives
abbrev pub read_by : Op → Answer → Option (ℕ × ℕ)
read_by (ops.Read reg place) (answers.Value seen value) = Some (place, value)
read_by (ops.Read reg place) (answers.Dangling seen value) = Some (place, value)
read_by op answer = None

-- the event of an actor's step on the count word of a title; an issue seals the Own if it is of a plain slot
abbrev pub count_event : Bool → ℕ → Title → Step → Event
count_event plain actor t Issue = issue_event plain actor t
count_event plain actor t Copy = Count actor t Copy
count_event plain actor t Reset = Count actor t Reset
count_event plain actor t Free = Count actor t Free
count_event plain actor t Write = Count actor t Write

-- the event of such a step, or of a look at the count word if there is no step
abbrev pub step_event : Bool → ℕ → Title → Option Step → Event
step_event plain actor t None = Load actor (8 * count_place t)
step_event plain actor t (Some step) = count_event plain actor t step

-- the load of the word of the content that was read, if one was
abbrev pub read_events : ℕ → Title → Option (ℕ × ℕ) → List Event
read_events actor t None = []
read_events actor t (Some read) = Load actor (8 * content_place t read.0) ∷ []

-- the step on the count word, or the look at it, and then the read, and no events if no slot is reported
abbrev pub mark_events : Bool → ℕ → Title → Option Mark → Option (ℕ × ℕ) → List Event
mark_events plain actor t None read = []
mark_events plain actor t (Some mark) read = step_event plain actor t mark.step ∷ read_events actor t read

-- The events that a record reports of a slot with this title, by the actor of its thread. One that made a slot in a plain
-- partition reports an issue with a sealed Own.
abbrev pub told_events : Played → Title → List Event
told_events x t = mark_events (is_plain_op x.rules x.op) (x.thread + 1) t (mark_of x) (read_by x.op x.answer)

-- the words have what was read of the title's content, if anything was
abbrev pub HasRead : List ℕ → Title → Option (ℕ × ℕ) → Type 0
HasRead words t None = Unit {0}
HasRead words t (Some read) = (read.0 < content_count t) × (content_at words t read.0 ≡ read.1)

-- The title is the one that was made by this name, and the words have what was found. A record may report no slot.
abbrev pub Finds : (Title → Type 0) → List ℕ → Title → Option Mark → Option (ℕ × ℕ) → Type 0
Finds Made words t None read = Unit {0}
Finds Made words t (Some mark) read = Made t × (name_of t ≡ mark.slot) × (count_word words t ≡ mark.found) × HasRead words t read

-- the other actor is actor 0 or this one
abbrev pub IsOfTwo : ℕ → ℕ → Type 0
IsOfTwo actor other = (other ≡ 0) ⊎ (other ≡ actor)

-- The event is no step on a count word, and is of this actor or of actor 0, as both sides are if something is handed over.
abbrev pub IsBeside : ℕ → Event → Type 0
IsBeside actor (Count other t step) = ⊥
IsBeside actor (Sealed other t) = ⊥
IsBeside actor (Store other at value) = IsOfTwo actor other
IsBeside actor (Poison other t) = IsOfTwo actor other
IsBeside actor (Load other at) = IsOfTwo actor other
IsBeside actor (Hand from to item) = IsOfTwo actor from × IsOfTwo actor to
IsBeside actor (Cut other t) = IsOfTwo actor other
IsBeside actor (Uncut other t) = IsOfTwo actor other

-- none of the events is a step on a count word, and each is of this actor or of actor 0
abbrev pub AreBeside : ℕ → List Event → Type 0
AreBeside actor [] = Unit {0}
AreBeside actor (e ∷ es) = IsBeside actor e × AreBeside actor es

-- A record is played by these events, from one state to another: first some that prepare, then those that it reports, which
-- find what it says, and then some that clear up.
pub record IsPlayedAs (Made : Title → Type 0) (x : Played) (s : State) (events : List Event) (next : State) : Type 0 where
  pub title : Title
  pub first : List Event
  pub last : List Event
  pub mid : State
  pub after : State
  pub parts : events ≡ first ++ (told_events x title ++ last)
  pub prepares : IsRunTo s first mid
  pub finds : Finds Made mid.words title (mark_of x) (read_by x.op x.answer)
  pub tells : IsRunTo mid (told_events x title) after
  pub clears : IsRunTo after last next
  pub prepared_beside : AreBeside (x.thread + 1) first
  pub cleared_beside : AreBeside (x.thread + 1) last

-- some events by which the record is played
abbrev pub Plays : (Title → Type 0) → Played → State → State → Type 0
Plays Made x s next = (events : List Event) × IsPlayedAs Made x s events next

-- the records are played one after the other
abbrev pub PlaysTo : (Title → Type 0) → State → List Played → List Event → State → Type 0
PlaysTo Made s [] events last = (events ≡ []) × (last ≡ s)
PlaysTo Made s (x ∷ xs) events last =
    (here : List Event) × (next : State) × (rest : List Event) × (events ≡ here ++ rest) × IsPlayedAs Made x s here next
    × PlaysTo Made next xs rest last

-- the journals make the title, as a slot or as a direct map
abbrev pub IsTitleOf : Told → Title → Type 0
IsTitleOf r t = (p : ℕ) × IsMadeBy r.pools (r.roots p) t

-- A run has a run of the core, from its start: one event after the other was enabled and the core good at every moment, and
-- the events are those of the records, in the order of the lines.
pub record HasCoreRun (t : Trace) (r : Run) : Type 0 where
  pub start : State
  pub events : List Event
  pub last : State
  pub starts : IsStart (2097152 * t.region) (t.threads + 1) start
  pub good : IsGoodState start
  pub run : IsRunTo start events last
  pub plays : PlaysTo (IsTitleOf (told_by r)) start (records_of t (told_by r)) events last

-- each run in the order of the lines has a run of the core
abbrev pub FileRunsArePlayed : Type 0
FileRunsArePlayed = (t : Trace) (r : Run) → IsWithinLimits t → IsFileRun t r → HasCoreRun t r
