-- What histories and logs imply for callers, as laws: of a word that a look found, of a step in a log,
-- of a longer history, and of reads.
use Rattle.std.specs.Prelude.{◌≡◌, ℕ, ◌+◌, ◌<◌, ◌≤◌, List, ◌∷◌, ◌++◌, length}
use Rattle.std.specs.List.{sum_by}
use mathlib.Core.Option.{some}
use lib.ListN.{get_elem?}
use Rattle.pa_slot.specs.declared.title.Title.{Title}
use Rattle.pa_slot.specs.declared.word.Step.{Step}
use Rattle.pa_slot.specs.declared.word.Step.TheVariants.{Free}
use Rattle.pa_slot.specs.Count.{number_of}
use Rattle.pa_region.specs.declared.view.Entry.{Entry}
use Rattle.pa_region.specs.declared.view.Stake.{Stake}
use Rattle.pa_region.specs.declared.view.View.{View}
use Rattle.pa_region.specs.Views.{looked_at, counted_as, logged_of, HasEveryStake}
use Rattle.pa_region.specs.History.{Done, IsChained}
use Rattle.pa_region.specs.Contents.{up_to, word_at_number}
use Rattle.pa_region.specs.Frees.{IsFirstFree}
use Rattle.pa_region.specs.Pairs.{logged_of_by}
use Rattle.pa_region.specs.Rule.{IsKept}
use Rattle.pa_region.specs.Waiting.{IsFreedElsewhere}
use Rattle.pa_region.specs.AllReads.{HasAllLogs, HasReads, AreReadsRight}
use Rattle.pa_region.specs.Order.{HasOneOrder}

-- a look that some log has found the history's word with its number
abbrev pub LookFindsItsWord : Type 0
LookFindsItsWord =
    (logs : (Entry → ℕ) → ℕ) (t : Title) (history : List Done) (word : ℕ) → IsChained logs t history → 0 < logs (looked_at t word) →
    (number_of word ≤ length history) × (word_at_number (number_of word) history ≡ word)

-- The logs add up: if two weights of each entry are together within a third, so are their sums over all entries.
abbrev pub AddsUp : ((Entry → ℕ) → ℕ) → Type 0
AddsUp logs = (f g h : Entry → ℕ) → ((e : Entry) → f e + g e ≤ h e) → logs f + logs g ≤ logs h

-- the logs of a view add up
abbrev pub LogsAddUp : Type 0
LogsAddUp = (v : View) → AddsUp (logged_of v)

-- a counted step that such logs have is in the history at the number that it found, and found the word there
abbrev pub StepStandsAtItsNumber : Type 0
StepStandsAtItsNumber =
    (logs : (Entry → ℕ) → ℕ) (t : Title) (history : List Done) (step : Step) (word value : ℕ) → AddsUp logs → IsChained logs t history →
    0 < logs (counted_as t step word value) →
    (number_of word < length history) × (word_at_number (number_of word) history ≡ word) ×
    (up_to (number_of word + 1) history ≡ record { step = step; value = value } ∷ up_to (number_of word) history)

-- If logs grew, the history goes on from what it was. So logs have one history.
abbrev pub HistoryGoesOn : Type 0
HistoryGoesOn =
    (logs after : (Entry → ℕ) → ℕ) (t : Title) (older newer : List Done) → AddsUp after →
    ((weight : Entry → ℕ) → logs weight ≤ after weight) → IsChained logs t older → IsChained after t newer → (later : List Done)
    × (newer ≡ later ++ older)

-- up to a number that it had already reached, a longer history is what it was
abbrev pub LongerIsTheSame : Type 0
LongerIsTheSame = (later history : List Done) (k : ℕ) → k ≤ length history → up_to k (later ++ history) ≡ up_to k history

-- a history has one first Free from a number on, and a longer one has the same
abbrev pub FirstFreeStays : Type 0
FirstFreeStays =
    ((history : List Done) (k n m : ℕ) → IsFirstFree history k n → IsFirstFree history k m → n ≡ m) ×
    ((later history : List Done) (k n : ℕ) → IsFirstFree history k n → IsFirstFree (later ++ history) k n)

-- under the rule a view that has every stake knows all logs, with the reads in them
abbrev pub AllLogsAreKnown : Type 0
AllLogsAreKnown =
    (words : List ℕ) (views : List View) (i : ℕ) (v : View) → IsKept words views → get_elem? views i ≡ some v → HasEveryStake v →
    HasAllLogs v

-- under the rule a view that has every stake has one order of its logs, with the lists as it has seen them
abbrev pub OneOrderIsKnown : Type 0
OneOrderIsKnown =
    (words : List ℕ) (views : List View) (i : ℕ) (v : View) → IsKept words views → get_elem? views i ≡ some v → HasEveryStake v →
    HasOneOrder v

-- if the reads in a view's logs gave what they should, each read gave so at its place in its log
abbrev pub ReadsHavePlaces : Type 0
ReadsHavePlaces = (history : Title → List Done) (v : View) → HasReads history v → AreReadsRight history v

-- Of the Frees of a title in a view's logs that found a number of at least k,
-- the one that found this word is the first, and is in the log of s.
pub record IsNextFree (v : View) (t : Title) (k : ℕ) (s : Stake) (word : ℕ) : Type 0 where
  pub behind : k ≤ number_of word
  pub logged : (value : ℕ) × (0 < sum_by (counted_as t Free word value) s.log)
  pub first : (other value : ℕ) → 0 < logged_of v (counted_as t Free other value) → k ≤ number_of other → number_of word ≤ number_of other

-- if a read gave poison because its slot was freed elsewhere, the log of another stake has the next Free
abbrev pub OthersHaveTheFree : Type 0
OthersHaveTheFree =
    (v : View) (t : Title) (history : List Done) (r k : ℕ) → IsChained (logged_of v) t history →
    IsFreedElsewhere (logged_of_by v) history t r k →
    (j : ℕ) × (s : Stake) × (word : ℕ) × (get_elem? v.stakes j ≡ some s) × (s.number ≡ r → ⊥) × IsNextFree v t k s word
