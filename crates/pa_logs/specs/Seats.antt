-- What a seat's type keeps gives: that it knows all logs of the records, and that the lists are theirs.
use Rattle.std.specs.Prelude.{◌≡◌, ℕ, ◌<◌, List, Contains}
use Rattle.std.specs.List.{AllByRecursion as Each}
use Rattle.pa_trace.specs.Limits.{most_threads}
use Rattle.pa_region.specs.declared.view.Stake.{Stake}
use Rattle.pa_region.specs.declared.view.Made.{Made}
use Rattle.pa_region.specs.declared.view.View.{View}
use Rattle.pa_region.specs.Views.{HasEveryStake}
use Rattle.pa_region.specs.Lists.{list_of, entered_in}
use Rattle.pa_region.specs.Aware.{IsAware}
use Rattle.pa_logs.specs.Told.{ToldRecord, log_of, AreLogs}
use Rattle.pa_logs.specs.Listed.{line_of, IsListOf}
use Rattle.pa_logs.specs.Reads.{KnowsAll}

-- each record is of one of the 16 threads
abbrev pub AreOfThreads : List ToldRecord → Type 0
AreOfThreads ts = (x : ToldRecord) → Contains ts x → x.played.thread < most_threads

-- each record entered only what is of its line
abbrev pub AreOfLines : ℕ → List ToldRecord → Type 0
AreOfLines q ts = (x : ToldRecord) (m : Made) → Contains ts x → Contains (entered_in q x.stretch) m → line_of m ≡ x.played.line

-- A seat that has every stake, with the logs of these records, knows all of them. What it has seen of a list is theirs.
pub record SeatsKnow : Type 0 where
  pub logs : (v : View) (ts : List ToldRecord) → IsAware v → HasEveryStake v → AreOfThreads ts →
      Each (λ (s : Stake). s.log ≡ log_of s.number ts) v.stakes → KnowsAll v ts
  pub lists : (q : ℕ) (v : View) (ts : List ToldRecord) → IsAware v → AreLogs v ts → AreOfLines q ts → IsListOf q (list_of q v) ts
