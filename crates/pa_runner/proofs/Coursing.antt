-- A phase that passed is one more of the execution. When all workers have their stakes back, the next one begins.
use Rattle.std.proofs.Common.{◌≡◌, ℕ, ◌+◌, ◌<◌, ◌≤◌, List, length, map, sym, ◌∙◌, ap, subst, arith}
use Rattle.pa_trace.specs.declared.script.Rules.{Rules}
use Rattle.pa_trace.specs.Rules.{rules_of}
use Rattle.pa_op_specs.specs.Stocks.{rules_at}
use Rattle.pa_region.specs.declared.view.View.{View}
use Rattle.pa_region.specs.Views.{stake_of}
use Rattle.pa_region.specs.Aware.{IsAware}
use Rattle.pa_trace.specs.declared.script.Trace.{Trace}
use Rattle.pa_op_specs.specs.Workers.{WorkerValue}
use Rattle.pa_execution.specs.Courses.{Course, HasSeenAll, HasHeardAll, Hears, lines_in}
use Rattle.pa_execution.specs.Growing.{Agree, HasBegun, HasEnded}
use Rattle.pa_execution.specs.Gathering.{told_worker}
use Rattle.pa_execution.proofs.Growing.{courses_grow}
use Rattle.pa_execution.proofs.Gathering.{workers_tell, workers_hear}
use Rattle.pa_execution.proofs.Playing.{sees_then}
use Rattle.pa_runner.specs.declared.thread_lines.LineOp.{LineOp}
use Rattle.pa_runner.specs.Playing.{in_phase}
use Rattle.pa_runner.specs.Phases.{AreReady, HaveHeard, HeardFrom, HasPassed, queue_in, worker_in}
use Rattle.pa_runner.proofs.Behind.{thread_is}

module _ (t : Trace) (n : ℕ) (c : Course) (queues : List (List LineOp)) (before after : List WorkerValue) (first seat : View)
    (many : length before ≡ t.threads) (passed : HasPassed queues before after first seat)
    (aware : IsAware seat) where
  heard_all : HasHeardAll t.threads (worker_in passed.ends) seat
  heard_all = subst (λ m. HasHeardAll m (worker_in passed.ends) seat) many
      (workers_tell.all (length before) (worker_in passed.ends) first seat passed.heard aware)

  -- one phase more
  pub phase_grows : AreReady queues before → HasBegun t n c (worker_in before) → (1 ≤ n → HasSeenAll (c.seats n) first) →
      ((k : ℕ) → k < t.threads → rules_at (worker_in before k).stock ≡ rules_of t) →
      ((k : ℕ) → k < t.threads → map (in_phase (rules_of t) (n + 1) k) (queue_in queues k) ≡ lines_in (rules_of t) t.lines (n + 1) k) →
      (d : Course) × Agree n c d × HasEnded t (n + 1) d (worker_in passed.ends) seat
  phase_grows ready begun more rules lines =
      courses_grow.ends t n c (worker_in before) (worker_in passed.ends) seat begun
      (λ k few.
      let (xs, all, of) = (passed.played k (omega arith)).plays (n + 1) in
      let played_by = ap (λ (by : Rules). map (in_phase by (n + 1) (worker_in before k).stock.thread) (queue_in queues k)) (rules k few) in
      let of_thread = ap (λ j. map (in_phase (rules_of t) (n + 1) j) (queue_in queues k)) (thread_is queues before ready k (omega arith)) in
      (xs, all, of ∙ (played_by ∙ (of_thread ∙ lines k few)), passed.settled k (omega arith)))
      heard_all (λ some. sees_then (c.seats n) first seat (more some) passed.heard.grows)

  -- a worker that got its stake back from the main seat
  heard_one : (k : ℕ) → k < t.threads → (w : WorkerValue) → HeardFrom (length before) k seat (worker_in after k) w →
      Hears k seat (worker_in passed.ends k) w
  heard_one k few w from =
      let ends = worker_in passed.ends in
      let told : worker_in after k ≡ told_worker k (ends k) = passed.told.told k (omega arith) in
      let f = subst (λ (z : WorkerValue). HeardFrom (length before) k seat z w) told from in
      let none : stake_of (told_worker k (ends k)).stock.view k ≡ 0 =
      ap (λ (z : WorkerValue). stake_of z.stock.view k) (sym told) ∙ passed.told.none k (omega arith) k in
      workers_hear.hears (length before) k ends seat f.seat w
      (workers_tell.all (length before) ends first seat passed.heard aware) f.answered (omega arith) none f.heard f.lists

  -- the next phase begins
  pub phase_begins : (d : Course) → HasEnded t (n + 1) d (worker_in passed.ends) seat → (again : List WorkerValue) →
      HaveHeard (length before) (length before) seat after again →
      HasBegun t (n + 1) d (worker_in again)
  phase_begins d ended again heard =
      courses_grow.goes_on t (n + 1) d (worker_in passed.ends) (worker_in again) seat (omega arith) ended
      (λ k few. heard_one k few (worker_in again k) (heard.heard k (omega arith)))
