-- The records of an execution in the order of the trace's lines, and what the run became.
use Rattle.std.specs.Prelude.{◌≡◌, ℕ, ◌<◌, ◌≤◌, List, [], ◌∷◌, ◌++◌, map, take, drop, nat_lt, if◌then◌else◌}
use Rattle.pa_trace.specs.declared.script.Trace.{Trace}
use Rattle.pa_trace.specs.Limits.{IsWithinLimits, most_partitions}
use Rattle.pa_trace.specs.Rules.{rules_of}
use Rattle.pa_record.specs.declared.history.Held.TheVariants.{Nothing}
use Rattle.pa_record.specs.declared.report.ReportLine.{ReportLine}
use Rattle.pa_record.specs.Pool.{IsPool}
use Rattle.pa_record.specs.Root.{IsJournal}
use Rattle.pa_region.specs.declared.view.Made.{Made}
use Rattle.pa_region.specs.declared.view.View.{View}
use Rattle.pa_region.specs.Lists.{list_of}
use Rattle.pa_rules.specs.Played.{OpLine, entry_of}
use Rattle.pa_rules.specs.Cells.{IsChain}
use Rattle.pa_rules.specs.Caches.{Caches, no_caches}
use Rattle.pa_rules.specs.Report.{phases_of}
use Rattle.pa_rules.specs.Legal.{phases_in}
use Rattle.pa_rules.specs.Told.{Told}
use Rattle.pa_legal.specs.Numbers.{AreNumbered}
use Rattle.pa_logs.specs.Told.{ToldRecord, played_in}
use Rattle.pa_logs.specs.Listed.{IsJournalOf, IsPoolList}
use Rattle.pa_logs.specs.Swaps.{SwapMade}
use Rattle.pa_logs.specs.Said.{sizes_in, homes_in}
use Rattle.pa_cells.specs.Cells.{Exchange, exchange_numbers, entries_with}
use Rattle.pa_op_specs.specs.Stocks.{listed_in}
use Rattle.pa_op_specs.specs.Outcomes.{Outcome}
use Rattle.pa_execution.specs.Turns.{Manner, Beside, turn_of, last_turn, ops_of, is_line_in}
use Rattle.pa_execution.specs.Courses.{Course}

-- what is left of each thread's records in each turn when that of this line is taken
abbrev pub without_line : Manner → OpLine → (ℕ → ℕ → List ToldRecord) → ℕ → ℕ → List ToldRecord
without_line way o plays n k = if is_line_in way n k o then drop 1 (plays n k) else plays n k

-- line by line, the next record of the line's thread in its turn
abbrev pub merged_by_lines : Manner → (ℕ → ℕ → List ToldRecord) → List OpLine → List ToldRecord
merged_by_lines way plays [] = []
merged_by_lines way plays (o ∷ os) = take 1 (plays (turn_of way o) o.thread) ++ merged_by_lines way (without_line way o plays) os

-- the records of all threads and turns, in the order of the trace's lines
abbrev pub told_by_turns : Manner → Trace → Course → List ToldRecord
told_by_turns way t c = merged_by_lines way c.plays (ops_of t)

-- the records of threads that play beside each other
abbrev pub told_in : Trace → Course → List ToldRecord
told_in t c = told_by_turns Beside t c

-- the main seat at the end of a phase
abbrev pub phase_seats : Manner → Trace → Course → ℕ → View
phase_seats way t c n = c.seats (last_turn way t n)

-- the threads' lists at the end of a turn; a thread that the run doesn't have has none
abbrev pub lists_at : Trace → Course → ℕ → Caches
lists_at t c n k = if nat_lt k t.threads then listed_in (c.ends n k).stock else no_caches k

-- the exchanges beside their entries in the cells' list
abbrev pub swaps_of : List Made → List Exchange → List SwapMade
swaps_of [] xs = []
swaps_of (m ∷ ms) [] = []
swaps_of (m ∷ ms) (x ∷ xs) = record { made = m; cell = x.cell; entry = x.entry } ∷ swaps_of ms xs

-- What the run became, as the ops of workers see it, by the trace's rules:
-- each slot has the length and the partition that the journals say.
abbrev pub outcome_of : Trace → Told → Outcome
outcome_of t r =
    record {
      rules = rules_of t;
      partitions = t.partitions;
      roots = r.roots;
      pools = r.pools;
      cells = r.cells;
      sizes = sizes_in t r;
      homes = homes_in t r;
    }

-- The output is what the execution left. `v` is the seat that closes and `xs` are the exchanges.
--   limits: the trace is within the limits
--   entries: the records are those of the execution
--   pool, fits: the pool's list is its entries in numbers, and they replay
--   lists, journals, past: so are the roots' lists, each a journal that replays, and there are four
--   numbers: a root gives a slot out at the number at which it has it
--   exchanges, cells, chain: the cells' list is the exchanges in numbers, each cell's history is those with it, and each found what
--     the one before gave
--   places: the report has one line for each phase and partition, in order
pub record IsLeftBehind (t : Trace) (r : Told) (v : View) (ts : List ToldRecord) (xs : List Exchange) : Type 0 where
  pub limits : IsWithinLimits t
  pub entries : r.entries ≡ map entry_of (played_in ts)
  pub pool : IsPoolList (list_of 4 v) r.pools
  pub fits : IsPool t.region r.pools
  pub lists : (p : ℕ) → p < most_partitions → IsJournalOf (list_of p v) (r.roots p)
  pub journals : (p : ℕ) → IsJournal r.pools (r.roots p)
  pub past : (p : ℕ) → most_partitions ≤ p → r.roots p ≡ []
  pub numbers : AreNumbered r.roots
  pub exchanges : map (λ (m : Made). m.numbers) (list_of 5 v) ≡ map exchange_numbers xs
  pub cells : (k : ℕ) → r.cells k ≡ entries_with k xs
  pub chain : (k : ℕ) → IsChain Nothing (r.cells k)
  pub places : map (λ (l : ReportLine). (l.phase, l.partition)) r.report ≡ phases_of t.partitions 1 (phases_in t.lines)
