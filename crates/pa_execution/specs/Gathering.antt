-- How all workers lend their stakes to the main seat at a phase's end, one after the other, and how they get them back.
use Rattle.std.specs.Prelude.{◌≡◌, ◌≢◌, ℕ, ◌+◌, ◌<◌, ◌≤◌, []}
use Rattle.pa_trace.specs.Limits.{most_threads}
use Rattle.pa_region.specs.declared.view.View.{View}
use Rattle.pa_region.specs.Views.{stake_of}
use Rattle.pa_region.specs.Waiting.{unclean_of}
use Rattle.pa_region.specs.Hands.{left_after, given_after, united, CanHand}
use Rattle.pa_region.specs.Lending.{stake_parcel}
use Rattle.pa_region.specs.Aware.{IsAware}
use Rattle.pa_region.specs.Takes.{log_of}
use Rattle.pa_rules.specs.Caches.{SameLists}
use Rattle.pa_op_specs.specs.Stocks.{IsForThread, listed_in}
use Rattle.pa_op_specs.specs.Workers.{WorkerValue, HasItsStake, worker_with_view}
use Rattle.pa_execution.specs.Courses.{HasSeenAll, HasHeardAll, Hears}

-- The main seat while workers play: it has the stakes that are no thread's, with empty logs, and no unclean Own.
pub record IsMain (threads : ℕ) (seat : View) : Type 0 where
  pub own : (k : ℕ) → threads ≤ k → k < most_threads → 0 < stake_of seat k
  pub idle : (k : ℕ) → threads ≤ k → log_of k seat ≡ []
  pub clean : unclean_of seat ≡ 0

-- The first `count` workers have lent their stakes to the main seat, which was `first` before. It has these besides, each with its
-- log, and has seen what the workers have, and what it had seen.
pub record HasHeardSome (threads count : ℕ) (ends : ℕ → WorkerValue) (first seat : View) : Type 0 where
  pub main : IsMain threads seat
  pub told : (k : ℕ) → k < count → 0 < stake_of seat k
  pub logs : (k : ℕ) → k < count → log_of k seat ≡ log_of k (ends k).stock.view
  pub sees : (k : ℕ) → k < count → HasSeenAll (ends k).stock.view seat
  pub grows : HasSeenAll first seat

-- The first `count` workers got their stakes back from the main seat, which was `whole` before. It has the stakes of the others, with
-- their logs, and has seen what it had.
pub record HasAnswered (threads count : ℕ) (whole seat : View) : Type 0 where
  pub main : IsMain threads seat
  pub stakes : (k : ℕ) → count ≤ k → stake_of seat k ≡ stake_of whole k
  pub logs : (k : ℕ) → count ≤ k → log_of k seat ≡ log_of k whole
  pub seen : seat.seen ≡ whole.seen
  pub lists : seat.seen_lists ≡ whole.seen_lists

-- the worker when it has lent its stake
abbrev pub told_worker : ℕ → WorkerValue → WorkerValue
told_worker k w = worker_with_view (left_after (stake_parcel k) w.stock.view) w

-- The next worker lends its stake: if the seat takes its note in, it has one more. And when it has those of all threads, it has all.
pub record WorkersTell : Type 0 where
  pub none : (threads : ℕ) (ends : ℕ → WorkerValue) (seat : View) → IsMain threads seat → HasHeardSome threads 0 ends seat seat
  pub next : (threads k : ℕ) (ends : ℕ → WorkerValue) (first seat : View) → HasHeardSome threads k ends first seat → k < threads →
      (ends k).stock.thread ≡ k → HasItsStake (ends k).stock →
      IsAware (united seat (given_after (stake_parcel k) (ends k).stock.view)) →
      HasHeardSome threads (k + 1) ends first (united seat (given_after (stake_parcel k) (ends k).stock.view))
  pub all : (threads : ℕ) (ends : ℕ → WorkerValue) (first seat : View) → HasHeardSome threads threads ends first seat → IsAware seat →
      HasHeardAll threads ends seat

-- The next worker gets its stake back: the seat can hand it over, and it fits the worker. The seat has then served one more. When it
-- has served all threads it is a main seat again.
pub record WorkersHear : Type 0 where
  pub none : (threads : ℕ) (ends : ℕ → WorkerValue) (first whole : View) → HasHeardSome threads threads ends first whole →
      HasAnswered threads 0 whole whole
  pub can : (threads k : ℕ) (whole seat : View) → HasAnswered threads k whole seat → CanHand (stake_parcel k) seat
  pub for : (threads k : ℕ) (whole seat : View) → HasAnswered threads k whole seat → 0 < stake_of whole k → k < most_threads →
      IsForThread k (given_after (stake_parcel k) seat)
  pub next : (threads k : ℕ) (whole seat : View) → HasAnswered threads k whole seat → k < threads →
      HasAnswered threads (k + 1) whole (left_after (stake_parcel k) seat)
  pub hears : (threads k : ℕ) (ends : ℕ → WorkerValue) (whole seat : View) (after : WorkerValue) → HasHeardAll threads ends whole →
      HasAnswered threads k whole seat → k < threads → stake_of (left_after (stake_parcel k) (ends k).stock.view) k ≡ 0 →
      after ≡ worker_with_view (united (told_worker k (ends k)).stock.view (given_after (stake_parcel k) seat)) (told_worker k (ends k)) →
      SameLists (listed_in after.stock) (listed_in (told_worker k (ends k)).stock) → Hears k whole (ends k) after
  pub grows : (threads count : ℕ) (whole seat : View) → HasAnswered threads count whole seat → HasSeenAll whole seat

-- the main seat when the worker of thread k had its stake back from it, went on to `w`, and lent it again
abbrev pub lent_again : ℕ → View → WorkerValue → View
lent_again k seat w = united (left_after (stake_parcel k) seat) (given_after (stake_parcel k) w.stock.view)

-- The main seat has heard all. One worker alone had its stake back from it, and lends it again: if the seat takes its note in, it has
-- heard all again, is a main seat still, and has seen what it had.
abbrev pub OneLendsAgain : Type 0
OneLendsAgain =
    (threads k : ℕ) (ends after : ℕ → WorkerValue) (seat : View) → IsMain threads seat → HasHeardAll threads ends seat → k < threads →
    (after k).stock.thread ≡ k → HasItsStake (after k).stock → ((j : ℕ) → j < threads → j ≢ k → after j ≡ ends j) →
    IsAware (lent_again k seat (after k)) →
    IsMain threads (lent_again k seat (after k)) × HasHeardAll threads after (lent_again k seat (after k))
    × HasSeenAll seat (lent_again k seat (after k))
