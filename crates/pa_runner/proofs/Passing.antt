-- A phase passes.
use Rattle.std.proofs.Common.{◌≡◌, ℕ, ◌+◌, ◌<◌, Bool, false, List, length, ◌≤◌, ◌++◌, get_or, sym, ◌∙◌, ap, subst, arith, inl, inr}
use Rattle.std.proofs.lemmas.Bool.{cases_eq, cases_lt}
use Rattle.std.proofs.lemmas.List.{get_or_default, length-append, length-map}
use Rattle.pa_record.specs.declared.entry.Entry.{Entry}
use Rattle.pa_region.specs.declared.view.View.{View}
use Rattle.pa_region.specs.Views.{HasEveryStake}
use Rattle.pa_op_specs.specs.Workers.{WorkerValue}
use Rattle.pa_execution.specs.Courses.{HasSeenAll}
use Rattle.pa_execution.specs.Gathering.{HasHeardSome}
use Rattle.pa_execution.proofs.Playing.{sees_then}
use Rattle.pa_runner.specs.declared.thread_lines.LineOp.{LineOp}
use Rattle.pa_runner.specs.Phases.{AreReady, ArePlayed, AreGoing, HaveStakes, HaveTold, HaveReturned, HasPassed, no_worker, queue_in, worker_in}
use Rattle.pa_runner.specs.Reporting.{HasAsked}
use Rattle.pa_runner.proofs.Behind.{thread_is}

-- one more isn't stopped
pub going_more : (ws : List WorkerValue) (i : ℕ) (d : WorkerValue) (b : Bool) →
    ((k : ℕ) → k < i → (worker_in ws k).stopped ≡ false) → i < length ws →
    b ≡ (get_or ws i d).stopped → b ≡ false → (k : ℕ) → k < i + 1 → (worker_in ws k).stopped ≡ false
going_more ws i d b before low is off k less = elim (cases_eq k i) [
  | inl e ↦
      subst (λ n. (worker_in ws n).stopped ≡ false) (sym e)
      (ap (λ (w : WorkerValue). w.stopped) (get_or_default ws i no_worker d low) ∙ (sym is ∙ off))
  | inr ne ↦ before k (omega arith)
]

-- each has its stake, whether it is stopped or not
pub returned_stakes : (queues : List (List LineOp)) (before ends : List WorkerValue) → AreReady queues before →
    length ends ≡ length before → ArePlayed queues before ends → HaveStakes ends
returned_stakes queues before ends ready count played = record {
  thread = λ k low. (played k (omega arith)).keeps.thread ∙ thread_is queues before ready k (omega arith);
  each = λ k low. (played k (omega arith)).keeps.stake;
}

-- when all have handed their stakes over
pub returned : (queues : List (List LineOp)) (before ends after : List WorkerValue) (first seat : View) → length ends ≡ length before →
    ArePlayed queues before ends →
    HasHeardSome (length ends) (length ends) (worker_in ends) first seat → HaveTold (length ends) ends after →
    HaveReturned queues before after first seat
returned queues before ends after first seat count played heard told = record {
  ends = ends;
  count = count;
  played = played;
  heard = subst (λ n. HasHeardSome n n (worker_in ends) first seat) count heard;
  told = subst (λ n. HaveTold n ends after) count told;
}

-- A main seat with the stakes of all threads has every stake.
pub heard_every : (threads : ℕ) (workers : ℕ → WorkerValue) (first seat : View) →
    HasHeardSome threads threads workers first seat → HasEveryStake seat
heard_every threads workers first seat heard k small =
    elim (cases_lt k threads) [ inl few ↦ heard.told k few | inr past ↦ heard.main.own k past small ]

-- A main seat that asked roots gives the stakes back all the same.
pub heard_asked : (threads count : ℕ) (workers : ℕ → WorkerValue) (first seat next : View) → HasHeardSome threads count workers first seat
    → HasAsked seat next → HasHeardSome threads count workers first next
heard_asked threads count workers first seat next heard asked = record {
  main = record {
    own = λ k past small. let h = heard.main.own k past small in let s = asked.keeps.stakes k in omega arith;
    idle = λ k past. asked.logs k ∙ heard.main.idle k past;
    clean = asked.keeps.unclean ∙ heard.main.clean;
  };
  told = λ k low. let h = heard.told k low in let s = asked.keeps.stakes k in omega arith;
  logs = λ k low. asked.logs k ∙ heard.logs k low;
  sees = λ k low. sees_then (workers k).stock.view seat next (heard.sees k low) goes_on;
  grows = sees_then first seat next heard.grows goes_on;
}
  where
    goes_on : HasSeenAll seat next
    goes_on = record { lists = asked.keeps.lists; seen = asked.keeps.seen }

module _ (queues : List (List LineOp)) (before after : List WorkerValue) (first seat : View)
    (back : HaveReturned queues before after first seat) where
  pub returned_every : HasEveryStake seat
  returned_every = heard_every (length before) (worker_in back.ends) first seat back.heard

  pub returned_asked : (next : View) → HasAsked seat next → HaveReturned queues before after first next
  returned_asked next asked = record {
    ends = back.ends;
    count = back.count;
    played = back.played;
    heard = heard_asked (length before) (length before) (worker_in back.ends) first seat next back.heard asked;
    told = back.told;
  }

  -- if none is stopped, the phase has passed
  pub passed : length after ≡ length before → AreGoing after → HasPassed queues before after first seat
  passed count going = record {
    ends = back.ends;
    count = back.count;
    played = λ k low. (back.played k low).played (sym (ap (λ (w : WorkerValue). w.stopped) (back.told.told k low)) ∙ going k (omega arith));
    settled = λ k low. (back.played k low).settled;
    heard = back.heard;
    told = back.told;
  }

-- both, after the main seat asked roots
pub asked_back : (queues : List (List LineOp)) (before ends after : List WorkerValue) (first seat next : View) →
    length ends ≡ length before → ArePlayed queues before ends →
    HasHeardSome (length ends) (length ends) (worker_in ends) first seat → HaveTold (length ends) ends after → HasAsked seat next →
    HaveReturned queues before after first next × HasEveryStake next
asked_back queues before ends after first seat next count played heard told asked =
    let back = returned_asked queues before after first seat
    (returned queues before ends after first seat count played heard told) next asked in
    (back, returned_every queues before after first next back)

module _ (queues : List (List LineOp)) (before after : List WorkerValue) (first seat : View)
    (over : HasPassed queues before after first seat) where
  pub passed_asked : (next : View) → HasAsked seat next → HasPassed queues before after first next
  passed_asked next asked = record {
    ends = over.ends;
    count = over.count;
    played = over.played;
    settled = over.settled;
    heard = heard_asked (length before) (length before) (worker_in over.ends) first seat next over.heard asked;
    told = over.told;
  }

  -- the main seat has every stake then
  pub passed_every : HasEveryStake seat
  passed_every = heard_every (length before) (worker_in over.ends) first seat over.heard

  -- no worker has more records than it had room for
  pub passed_few : AreReady queues before → ((k : ℕ) → k < length before → (worker_in before k).room ≤ 65536) → (k : ℕ) →
      k < length before → length (worker_in after k).records ≤ 65536
  passed_few ready few k low =
      let can = (ready.each k low).room in
      let room = few k low in
      let (es, is, lines) = (over.played k low).records in
      let told : (worker_in after k).records ≡ (worker_in before k).records ++ es =
      ap (λ (w : WorkerValue). w.records) (over.told.told k low) ∙ is in
      let a = ap (λ (xs : List Entry). length xs) told in
      let b = length-append (worker_in before k).records es in
      let e = length-map es (λ (x : Entry). x.line) in
      let f = length-map (queue_in queues k) (λ (due : LineOp). due.line) in
      let h = ap (λ (xs : List ℕ). length xs) lines in
      omega arith
