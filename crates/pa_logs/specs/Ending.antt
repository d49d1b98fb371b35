-- What the words of the closed region are, and that they hold the run.
use Rattle.std.specs.Prelude.{◌≡◌, ℕ, List}
use Rattle.pa_slot.specs.declared.title.Title.{Title}
use Rattle.pa_slot.specs.declared.word.SlotName.{SlotName}
use Rattle.pa_slot.specs.Run.{IsLive, IsQuarantined}
use Rattle.pa_slot.specs.Titles.{poison, count_word, HasContentFrom}
use Rattle.pa_region.specs.declared.view.View.{View}
use Rattle.pa_region.specs.Views.{HasTitle, logged_of, names, uncut_of}
use Rattle.pa_region.specs.Waiting.{unclean_of}
use Rattle.pa_region.specs.Ends.{IsEnd}
use Rattle.pa_region.specs.History.{Done, reached, content_of}
use Rattle.pa_trace.specs.declared.script.Trace.{Trace}
use Rattle.pa_record.specs.Spans.{name_of}
use Rattle.pa_rules.specs.Told.{Told, records_of}
use Rattle.pa_rules.specs.Held.{IsStanding, IsHeldIn}
use Rattle.pa_logs.specs.Told.{ToldRecord, played_in, AreLogs}
use Rattle.pa_logs.specs.Touches.{AreTold}
use Rattle.pa_logs.specs.Reads.{KnowsAll}

-- The words end with a title's history. Its count word is the last word. If it is quarantined its content is poison, and if it is
-- live, what the history says.
pub record EndsWith (words : List ℕ) (t : Title) (history : List Done) : Type 0 where
  pub word : count_word words t ≡ reached history
  pub quarantined : IsQuarantined (count_word words t) → HasContentFrom words t 0 poison
  pub live : IsLive (count_word words t) → HasContentFrom words t 0 (content_of history)

-- each title that was made and exists has the length of its slot, and the words end with its history
abbrev pub AreEnds : (SlotName → ℕ) → List ℕ → Told → (Title → List Done) → Type 0
AreEnds sizes words r history =
    (p : ℕ) (title : Title) → IsStanding r.pools (r.roots p) title →
    (sizes (name_of title) ≡ title.len) × EndsWith words title (history title)

-- if the words end with the history of each title that exists, they hold the run
abbrev pub HeldFollows : Type 0
HeldFollows =
    (sizes : SlotName → ℕ) (words : List ℕ) (t : Trace) (r : Told) (v : View) (ts : List ToldRecord) → played_in ts ≡ records_of t r →
    AreTold sizes ts → (knows : KnowsAll v ts) → AreEnds sizes words r knows.all.history → IsHeldIn t r words

-- What the closing seat must satisfy besides what the close ensures for it.
--   long: a title that was made and exists has the length of its slot
--   cut: no log says of it that it was uncut
--   kept: if no log names it, the seat holds it
--   clean: each Own of the seat is clean
pub record IsClosing (sizes : SlotName → ℕ) (r : Told) (v : View) : Type 0 where
  pub long : (p : ℕ) (title : Title) → IsStanding r.pools (r.roots p) title → sizes (name_of title) ≡ title.len
  pub cut : (p : ℕ) (title : Title) → IsStanding r.pools (r.roots p) title → uncut_of v title ≡ 0
  pub kept : (p : ℕ) (title : Title) → IsStanding r.pools (r.roots p) title → logged_of v (names title) ≡ 0 → HasTitle v title
  pub clean : unclean_of v ≡ 0

-- If the closing seat is as it must be, the words end with each standing title's history.
-- If the logs are those of a run's records too, they hold the run.
pub record ClosesHolding : Type 0 where
  pub ends : (sizes : SlotName → ℕ) (words : List ℕ) (r : Told) (v : View) → (end : IsEnd words v) → IsClosing sizes r v →
      AreEnds sizes words r end.logs.history
  pub held : (sizes : SlotName → ℕ) (words : List ℕ) (t : Trace) (r : Told) (v : View) (ts : List ToldRecord) →
      played_in ts ≡ records_of t r → AreTold sizes ts → AreLogs v ts → IsEnd words v → IsClosing sizes r v → IsHeldIn t r words
