-- What the words say at the end, to a view that has every stake.
use Rattle.std.specs.Prelude.{◌≡◌, ℕ, ◌<◌, List, false, slice_index}
use Rattle.pa_slot.specs.declared.title.Title.{Title}
use Rattle.pa_slot.specs.Count.{held_of}
use Rattle.pa_slot.specs.Run.{IsQuarantined}
use Rattle.pa_slot.specs.Titles.{count_word, content_count, HasContentFrom, IsPoisonedTo}
use Rattle.pa_region.specs.declared.view.View.{View}
use Rattle.pa_region.specs.Views.{HasTitle, Knows, logged_of, names, uncut_of}
use Rattle.pa_region.specs.History.{Done, reached, content_of}
use Rattle.pa_region.specs.AllReads.{HasAllLogs}
use Rattle.pa_region.specs.Aware.{IsAware}
use Rattle.pa_region.specs.Loads.{has_unclean}

-- What the words say of a title with this history. Its count word is the last word of the history. While it is quarantined its
-- content is poison. While it is owned, but not by an unclean Own of the view, its content is the history's.
pub record EndsWith (words : List ℕ) (v : View) (t : Title) (history : List Done) : Type 0 where
  pub last : count_word words t ≡ reached history
  pub poison : IsQuarantined (count_word words t) → IsPoisonedTo words t (content_count t)
  pub content : held_of (count_word words t) ≡ 1 → has_unclean v t ≡ false → HasContentFrom words t 0 (content_of history)

-- At the end a view with every stake satisfies what the rule says of one view, which includes what its stakes entered in each
-- keeper's list. It knows all logs, and what reads gave. It knows what the words say of each title that a log names and none
-- says was uncut, and of each title that it holds. And the words that it knows are those of the end.
pub record IsEnd (words : List ℕ) (v : View) : Type 0 where
  pub aware : IsAware v
  pub logs : HasAllLogs v
  pub named : (t : Title) → 0 < logged_of v (names t) → uncut_of v t ≡ 0 → EndsWith words v t (logs.history t)
  pub held : (t : Title) → HasTitle v t → EndsWith words v t (logs.history t)
  pub values : (word : ℕ) → Knows v word → slice_index v.words word ≡ slice_index words word

-- a title that the view holds, and that no log names, has the word 0 at the end
abbrev pub UnnamedEndsNew : Type 0
UnnamedEndsNew =
    (words : List ℕ) (v : View) (t : Title) → IsEnd words v → HasTitle v t → logged_of v (names t) ≡ 0 → count_word words t ≡ 0
