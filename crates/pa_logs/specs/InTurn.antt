-- What is said besides of a run whose lines are played one after the other.
use Rattle.std.specs.Prelude.{ℕ, ◌<◌, ◌≤◌, Bool, nat_le, List, Contains, filter}
use Rattle.pa_slot.specs.declared.title.Title.{Title}
use Rattle.pa_region.specs.declared.view.View.{View}
use Rattle.pa_region.specs.Lists.{list_of, IsBeginning}
use Rattle.pa_logs.specs.Told.{ToldRecord}
use Rattle.pa_logs.specs.Said.{HasLogs}

-- the record is of a line up to this one
abbrev pub is_up_to : ℕ → ToldRecord → Bool
is_up_to line x = nat_le x.played.line line

-- the records of the lines up to this one, in order
abbrev pub told_up_to : ℕ → List ToldRecord → List ToldRecord
told_up_to line ts = filter (is_up_to line) ts

-- What the runner ensures besides, where each line is played after those before it. `seats` are those at the lines' ends.
--   ends: after a record's line the seat has every stake, with the logs of the records so far
--   begins: what it has seen of each list then is a beginning of what the seat at the end has
--   hands: a record's seat has seen what the records of the lines before hand on
pub record TurnsSay (v : View) (ts : List ToldRecord) (seats : ℕ → View) : Type 0 where
  pub ends : (x : ToldRecord) → Contains ts x → HasLogs (seats x.played.line) (told_up_to x.played.line ts)
  pub begins : (x : ToldRecord) (q : ℕ) → Contains ts x → q < 6 → IsBeginning (list_of q (seats x.played.line)) (list_of q v)
  pub hands : (x y : ToldRecord) (u : Title) → Contains ts x → Contains ts y → x.played.line < y.played.line → x.gives u ≤ y.saw u
