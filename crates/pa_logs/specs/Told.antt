-- Annotated records: the records of a run, each with what the log of its thread says of it.
use Rattle.std.specs.Prelude.{◌≡◌, ℕ, ◌<◌, ◌≤◌, List, ◌==◌, nat_le, map, filter, flat_map, Bool, Contains}
use Rattle.std.specs.List.{sum_by}
use Rattle.std.specs.List.{AllByRecursion as Each}
use Rattle.pa_slot.specs.declared.title.Title.{Title}
use Rattle.pa_trace.specs.Limits.{most_threads}
use Rattle.pa_region.specs.declared.view.Entry.{Entry}
use Rattle.pa_region.specs.declared.view.Stake.{Stake}
use Rattle.pa_region.specs.declared.view.View.{View}
use Rattle.pa_region.specs.Views.{stake_of, logged_of, HasEveryStake}
use Rattle.pa_rules.specs.declared.played.Played.{Played}

-- A record of a run, with what its thread's log and its seat say of it.
--   stretch: the log segment of its thread's log that belongs to it
--   saw: the number of each title that its seat had seen before it
--   gives: the number up to which it hands on what was seen, which is what its seat had seen after it, and for an exchange what the
--     entry in the cells' list carries
pub record ToldRecord : Type 0 where
  pub played : Played
  pub stretch : List Entry
  pub saw : Title → ℕ
  pub gives : Title → ℕ

-- the records without what logs say of them
abbrev pub played_in : List ToldRecord → List Played
played_in ts = map (λ (x : ToldRecord). x.played) ts

-- the record is thread k's
abbrev pub is_of_thread : ℕ → ToldRecord → Bool
is_of_thread k x = x.played.thread == k

-- the log of thread k: the log segments of its records, in order
abbrev pub log_of : ℕ → List ToldRecord → List Entry
log_of k ts = flat_map (λ (x : ToldRecord). x.stretch) (filter (is_of_thread k) ts)

-- the entries of all log segments, each with its weight, added up
abbrev pub told_of : List ToldRecord → (Entry → ℕ) → ℕ
told_of ts weight = sum_by (λ (x : ToldRecord). sum_by weight x.stretch) ts

-- the records up to the end of a phase
abbrev pub is_until : ℕ → ToldRecord → Bool
is_until phase x = nat_le x.played.phase phase

-- the records of phases up to this one, in order
abbrev pub told_until : ℕ → List ToldRecord → List ToldRecord
told_until phase ts = filter (is_until phase) ts

-- The view has the 16 logs, and they are those of these records: the log of each stake is that of its thread.
pub record AreLogs (v : View) (ts : List ToldRecord) : Type 0 where
  pub every : HasEveryStake v
  pub once : (k : ℕ) → stake_of v k ≤ 1
  pub threads : (x : ToldRecord) → Contains ts x → x.played.thread < most_threads
  pub logs : Each (λ (s : Stake). s.log ≡ log_of s.number ts) v.stakes

-- what is weighed over the logs of such a view is weighed over the records
abbrev pub LogsAreTold : Type 0
LogsAreTold = (v : View) (ts : List ToldRecord) (weight : Entry → ℕ) → AreLogs v ts → logged_of v weight ≡ told_of ts weight
