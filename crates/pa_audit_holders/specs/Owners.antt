-- Who holds a free slot at a number, as tables have it while the journals are gone through.
use Rattle.std.specs.Prelude.{◌≡◌, ℕ, ◌+◌, ◌<◌, ◌⊎◌, Bool, true, false, List, [], ◌∷◌, ◌++◌, filter, Option, Some, None}
use Rattle.pa_slot.specs.declared.word.SlotName.{SlotName}
use Rattle.pa_slot.specs.declared.word.Step.{Step}
use Rattle.pa_slot.specs.Count.{number_of}
use Rattle.pa_slot.specs.Run.{Mark, IsReturning}
use Rattle.pa_record.specs.declared.numbered.Numbered.{Numbered}
use Rattle.pa_record.specs.declared.root.RootAct.{RootAct}
use Rattle.pa_record.specs.declared.root.RootAct.TheVariants.{Fill, Map, Full, Give, Unmap, Purge}
use Rattle.pa_rules.specs.declared.played.Played.{Played}
use Rattle.pa_rules.specs.declared.verdict.Place.TheVariants as places
use Rattle.pa_rules.specs.Played.{mark_of}
use Rattle.pa_rules.specs.RecordDemands.{IsRecord, SlotsDemand}
use Rattle.pa_rules.specs.Order.{IsOfLine}
use Rattle.pa_rules.specs.Holders.{Holder, InRoot, WithThread, Way, Out, Back, Move, is_move_of, IsReturnedBy, IsFirstHolder, HolderAfter, needed_by}
use Rattle.pa_audit_records.specs.Keys.{word_key}
use Rattle.pa_rules.specs.Rising.{RiseByLine}
use Rattle.pa_audit_records.specs.Marks.{IsSized}
use Rattle.pa_audit_holders.specs.declared.owners.Owner.{Owner}
use Rattle.pa_audit_holders.specs.declared.owners.Owner.TheVariants.{Nobody, Root, Thread}
use Rattle.pa_audit_holders.specs.declared.owners.Course.{Course}
use Rattle.pa_audit_holders.specs.declared.owners.Course.TheVariants as courses

-- the record's step returned the slot, and left this number
abbrev pub HasReturned : Played → SlotName → ℕ → Type 0
HasReturned x s k =
    (m : Mark) × (step : Step) × (mark_of x ≡ Some m) × (m.slot ≡ s) × (m.step ≡ Some step) × IsReturning step m.found
    × (number_of m.found + 1 ≡ k)

-- the table has the thread that returned each slot at each number, by the first j records
pub record HasReturnsTo (ps : List Played) (j : ℕ) (at : ℕ → Option ℕ) : Type 0 where
  pub hit : (s : SlotName) (k t : ℕ) → IsSized s k → at (word_key s k) ≡ Some t → (x : Played) × IsReturnedBy ps s k x × (t ≡ x.thread)
  pub miss : (s : SlotName) (k i : ℕ) (x : Played) → IsSized s k → at (word_key s k) ≡ None → i < j →
      IsRecord ps i x → HasReturned x s k → ⊥

-- the table has the thread that returned each slot at each number, by all records
pub record HasReturns (ps : List Played) (at : ℕ → Option ℕ) : Type 0 where
  pub hit : (s : SlotName) (k t : ℕ) → IsSized s k → at (word_key s k) ≡ Some t → (x : Played) × IsReturnedBy ps s k x × (t ≡ x.thread)
  pub miss : (s : SlotName) (k : ℕ) (x : Played) → IsSized s k → at (word_key s k) ≡ None → IsReturnedBy ps s k x → ⊥

-- this thread's record is on the line
abbrev pub IsThreadsLine : List Played → ℕ → ℕ → Type 0
IsThreadsLine ps line thread = (x : Played) × IsOfLine ps line x × (thread ≡ x.thread)

-- the slot's holder at the number after its moves there, whether or not they had the one that they need
abbrev pub HolderNow : List Played → List Move → SlotName → ℕ → Holder → Type 0
HolderNow ps own s k last = (h : Holder) × IsFirstHolder ps s k h × HolderAfter ps h own last

-- The owner is the root or the thread that holds the slot at the number after its moves, and nobody if no one holds it there.
abbrev pub TellsOwner : List Played → List Move → SlotName → ℕ → Owner → Type 0
TellsOwner ps own s k Nobody = (last : Holder) → HolderNow ps own s k last → ⊥
TellsOwner ps own s k Root = HolderNow ps own s k InRoot
TellsOwner ps own s k (Thread t) = HolderNow ps own s k (WithThread t)

-- the table has the owner of each slot at each number at which it is moved
pub record HasOwners (ps : List Played) (ms : List Move) (at : ℕ → Option Owner) : Type 0 where
  pub hit : (s : SlotName) (k : ℕ) (o : Owner) → IsSized s k → at (word_key s k) ≡ Some o
      → TellsOwner ps (filter (is_move_of s k) ms) s k o × (filter (is_move_of s k) ms ≡ [] → ⊥)
  pub miss : (s : SlotName) (k : ℕ) → IsSized s k → at (word_key s k) ≡ None → filter (is_move_of s k) ms ≡ []

-- the way of a slot on this course: out of the root, or back to it
abbrev pub way_of : Course → Way
way_of courses.Out = Out
way_of courses.Back = Back

-- the move of a slot at its number on this line, out of the root or back to it
abbrev pub move_on : ℕ → Course → Numbered → Move
move_on line course n = record { line = line; slot = n.slot; number = n.number; way = way_of course }

-- if an act is on a direct map, the slots are that one, at its number
abbrev pub AreDirect : RootAct → List Numbered → Type 0
AreDirect (Map asked slot len) xs = xs ≡ record { slot = slot; number = 0 } ∷ []
AreDirect (Unmap asked slot) xs = xs ≡ slot ∷ []
AreDirect (Fill class asked slots) xs = Unit {0}
AreDirect (Full class asked) xs = Unit {0}
AreDirect (Give slots) xs = Unit {0}
AreDirect Purge xs = Unit {0}

-- after these moves the slot has the holder that the next move needs
abbrev pub MoveFits : List Played → List Move → Move → Type 0
MoveFits ps ms m =
    (x : Played) × IsOfLine ps m.line x × HolderNow ps (filter (is_move_of m.slot m.number) ms) m.slot m.number (needed_by m.way x)

-- each of the moves fits, one after the other, after those that were made before
abbrev pub AllFit : List Played → List Move → List Move → Type 0
AllFit ps ms [] = Unit {0}
AllFit ps ms (m ∷ rest) = MoveFits ps ms m × AllFit ps (ms ++ m ∷ []) rest

-- the owner after a move on a line of this thread: the thread if the slot goes out, the root if it comes back
abbrev pub owner_after : Course → ℕ → Owner
owner_after courses.Out thread = Thread thread
owner_after courses.Back thread = Root

-- the owner after a move, and nobody if there was none before it, or if its line is of no record
abbrev pub made_owner : Owner → Course → Option ℕ → Owner
made_owner Nobody course thread = Nobody
made_owner Root course None = Nobody
made_owner Root course (Some thread) = owner_after course thread
made_owner (Thread t) course None = Nobody
made_owner (Thread t) course (Some thread) = owner_after course thread

-- the owner that a move on a line of this thread needs: the root if the slot goes out, the thread if it comes back
abbrev pub needed_owner : Course → ℕ → Owner
needed_owner courses.Out thread = Root
needed_owner courses.Back thread = Thread thread

-- this is the owner that a move needs, which no owner is if the move's line is of no record
abbrev pub IsNeeded : Owner → Course → Option ℕ → Type 0
IsNeeded held course None = ⊥
IsNeeded held course (Some thread) = held ≡ needed_owner course thread

-- the table has what it had, and the thread of the record if its step returned a slot
pub record EntersReturn (x : Played) (f g : ℕ → Option ℕ) : Type 0 where
  pub hit : (s : SlotName) (k t : ℕ) → IsSized s k → g (word_key s k) ≡ Some t →
      (f (word_key s k) ≡ Some t) ⊎ (HasReturned x s k × (t ≡ x.thread))
  pub kept : (s : SlotName) (k : ℕ) → IsSized s k → g (word_key s k) ≡ None → f (word_key s k) ≡ None
  pub has : (s : SlotName) (k : ℕ) → IsSized s k → HasReturned x s k → g (word_key s k) ≡ None → ⊥

-- ---- lines

-- the line is one of this thread's record, or of none
abbrev pub TellsThread : List Played → ℕ → Option ℕ → Type 0
TellsThread ps line None = (x : Played) → IsOfLine ps line x → ⊥
TellsThread ps line (Some t) = IsThreadsLine ps line t

-- what is known of the records: each has a line of its own, and those of a slot are of one run
pub record AreOfRuns (ps : List Played) : Type 0 where
  pub rising : RiseByLine ps
  pub slots : (i : ℕ) → SlotsDemand ps (places.Record i)

-- ---- journals, entry by entry

-- each of the first n places meets what is required, or this is the first that doesn't
abbrev pub FirstSoFar : (ℕ → Type 0) → ℕ → Option ℕ → Type 0
FirstSoFar P n None = (j : ℕ) → j < n → P j
FirstSoFar P n (Some i) = (P i → ⊥) × ((j : ℕ) → j < i → P j)

-- the first place that doesn't fit, once the next one is known to fit or not
abbrev pub first_place : Option ℕ → ℕ → Bool → Option ℕ
first_place (Some i) at fits = Some i
first_place None at true = None
first_place None at false = Some at
