-- The workers of a phase from one thread on: the first one, and those after it.
use Rattle.std.proofs.Common.{◌≡◌, ℕ, zero, suc, ◌+◌, ◌<◌, List, ◌∷◌, length, sym, ◌∙◌, subst, arith}
use Rattle.pa_op_specs.specs.Workers.{WorkerValue}
use Rattle.pa_runner.specs.declared.thread_lines.LineOp.{LineOp}
use Rattle.pa_runner.specs.Playing.{CanPlay, IsPlayed}
use Rattle.pa_runner.specs.Phases.{AreReady, AreReadyFrom, ArePlayed, worker_in}

-- of all workers, each one's thread is its place
pub thread_is : (queues : List (List LineOp)) (workers : List WorkerValue) → AreReady queues workers → (k : ℕ) → k < length workers →
    (worker_in workers k).stock.thread ≡ k
thread_is queues workers ready k low = ready.thread k low ∙ omega arith

module _ (first : ℕ) (queues others : List (List LineOp)) (workers rest : List WorkerValue) (queue : List LineOp) (worker : WorkerValue)
    (queues_are : queues ≡ queue ∷ others)
    (workers_are : workers ≡ worker ∷ rest) (ready : AreReadyFrom first queues workers) where
  all : AreReadyFrom first (queue ∷ others) (worker ∷ rest)
  all = subst (λ (ws : List WorkerValue). AreReadyFrom first (queue ∷ others) ws) workers_are
      (subst (λ (qs : List (List LineOp)). AreReadyFrom first qs workers) queues_are ready)

  -- the first one can play
  pub ready_first : (lines : List LineOp) → lines ≡ queue → CanPlay lines worker
  ready_first lines same = subst (λ (ls : List LineOp). CanPlay ls worker) (sym same) (all.each zero (omega arith))

  -- those after it are ready from the next thread on
  pub ready_behind : AreReadyFrom (first + 1) others rest
  ready_behind = record {
    count = (let c = all.count in omega arith);
    thread = λ k low. all.thread (suc k) (omega arith) ∙ omega arith;
    each = λ k low. all.each (suc k) (omega arith);
    settled = λ k low. all.settled (suc k) (omega arith);
  }

-- if the first one played its lines and those after it theirs, all did
played_both : (queue : List LineOp) (others : List (List LineOp)) (worker now : WorkerValue) (rest then : List WorkerValue) →
    IsPlayed queue worker now → ArePlayed others rest then →
    ArePlayed (queue ∷ others) (worker ∷ rest) (now ∷ then)
played_both queue others worker now rest then first behind zero low = first
played_both queue others worker now rest then first behind (suc k) low = behind k (omega arith)

pub all_played : (queues others : List (List LineOp)) (workers rest then : List WorkerValue) (lines queue : List LineOp)
    (worker now : WorkerValue) → queues ≡ queue ∷ others →
    workers ≡ worker ∷ rest → lines ≡ queue → IsPlayed lines worker now → ArePlayed others rest then → ArePlayed queues workers (now ∷ then)
all_played queues others workers rest then lines queue worker now queues_are workers_are same first behind =
    subst (λ (qs : List (List LineOp)). ArePlayed qs workers (now ∷ then)) (sym queues_are)
    (subst (λ (ws : List WorkerValue). ArePlayed (queue ∷ others) ws (now ∷ then)) (sym workers_are)
    (played_both queue others worker now rest then (subst (λ (ls : List LineOp). IsPlayed ls worker now) same first) behind))
