-- The history of a slot's steps, the records that made them, and what follows: the run of each slot, and contents.
use Rattle.std.specs.Prelude.{◌≡◌, ℕ, ◌+◌, ◌<◌, ◌≤◌, List, ◌∷◌, length, Some, Contains}
use Rattle.pa_slot.specs.declared.title.Title.{Title}
use Rattle.pa_slot.specs.declared.word.SlotName.{SlotName}
use Rattle.pa_slot.specs.Count.{number_of}
use Rattle.pa_slot.specs.Run.{Mark, Slots}
use Rattle.pa_region.specs.declared.view.View.{View}
use Rattle.pa_region.specs.Views.{logged_of}
use Rattle.pa_region.specs.History.{Done, IsLegal, IsWordIn, IsChained}
use Rattle.pa_region.specs.Contents.{up_to, word_at_number, content_at_number}
use Rattle.pa_rules.specs.declared.played.Played.{Played}
use Rattle.pa_rules.specs.Played.{mark_of, marks_of}
use Rattle.pa_rules.specs.Contents.{IsContent}
use Rattle.pa_logs.specs.Told.{ToldRecord, played_in, AreLogs}
use Rattle.pa_logs.specs.Touches.{title_of, StepMade, step_by, AreTold}

-- a step is in the history at the number that it found, and found the history's word there
pub record StandsIn (history : List Done) (d : StepMade) : Type 0 where
  pub below : number_of d.found < length history
  pub word : word_at_number (number_of d.found) history ≡ d.found
  pub next : up_to (number_of d.found + 1) history ≡ record { step = d.step; value = d.value } ∷ up_to (number_of d.found) history

-- The history is that of slot s by these records.
--   legal: each of its steps was enabled
--   stand: each step that a record made of the slot is in it
--   made: a record made each of its steps, and found its word
--   one: no two did so at one number
--   looks: each word that a record found is one of the history
pub record AreSteps (ps : List Played) (s : SlotName) (history : List Done) : Type 0 where
  pub legal : IsLegal history
  pub stand : (x : Played) (d : StepMade) → Contains ps x → step_by x ≡ Some d → d.slot ≡ s → StandsIn history d
  pub made : (k : ℕ) → k < length history
      → (x : Played) × (d : StepMade) × Contains ps x × (step_by x ≡ Some d) × (d.slot ≡ s) × (d.found ≡ word_at_number k history)
  pub one : (x y : Played) (d e : StepMade) → Contains ps x → Contains ps y → step_by x ≡ Some d → step_by y ≡ Some e
      → d.slot ≡ s → e.slot ≡ s → number_of d.found ≡ number_of e.found → x ≡ y
  pub looks : (x : Played) (m : Mark) → Contains ps x → mark_of x ≡ Some m → m.slot ≡ s → IsWordIn m.found history

-- If a view's logs are those of the records, each title's history is that of its slot.
abbrev pub HistoriesFollow : Type 0
HistoriesFollow =
    (sizes : SlotName → ℕ) (v : View) (ts : List ToldRecord) (history : Title → List Done) → AreLogs v ts → AreTold sizes ts →
    ((t : Title) → IsChained (logged_of v) t (history t)) → (s : SlotName) → AreSteps (played_in ts) s (history (title_of sizes s))

-- If each slot has a history by the records, it has one run.
abbrev pub SlotsFollow : Type 0
SlotsFollow = (ps : List Played) (history : SlotName → List Done) → ((s : SlotName) → AreSteps ps s (history s)) → Slots (marks_of ps)

-- The content of a slot at a number is that of its history.
abbrev pub ContentFollows : Type 0
ContentFollows =
    (ps : List Played) (s : SlotName) (history : List Done) (k : ℕ) → AreSteps ps s history → k ≤ length history →
    IsContent ps s k (content_at_number k history)
