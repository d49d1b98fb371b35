-- The queues of the threads before the first line.
use Rattle.std.proofs.Common.{◌≡◌, ℕ, ◌+◌, ◌<◌, List, [], ◌∷◌, ◌++◌, length, sym, ◌∙◌, ap, subst, arith, inl, inr}
use Rattle.std.proofs.lemmas.Bool.{cases_eq}
use Rattle.std.proofs.lemmas.List.{length_push, get_or_push, get_or_append_left}
use Rattle.pa_trace.specs.declared.script.Trace.{Trace}
use Rattle.pa_delay.specs.Queue.{QueueList}
use Rattle.pa_runner.specs.Tracing.{lines_by}
use Rattle.pa_delay_runner.specs.Played.{no_queue, delay_in}

-- the first `count` threads have an empty queue each
pub record AreOpened (bytes : ℕ) (t : Trace) (count : ℕ) (queues : List QueueList) : Type 0 where
  pub long : length queues ≡ count
  pub each : (k : ℕ) → k < count → delay_in queues k ≡ record { limit = bytes; room = lines_by k t.lines; slots = [] }

pub opened_none : (bytes : ℕ) (t : Trace) (queues : List QueueList) → queues ≡ [] → AreOpened bytes t 0 queues
opened_none bytes t queues none = record { long = ap (λ (qs : List QueueList). length qs) none; each = λ k low. absurd (omega arith) }

-- one more
pub opened_more : (bytes : ℕ) (t : Trace) (count : ℕ) (queues now : List QueueList) (q : QueueList) → AreOpened bytes t count queues →
    q ≡ record { limit = bytes; room = lines_by count t.lines; slots = [] } → now ≡ queues ++ q ∷ [] → AreOpened bytes t (count + 1) now
opened_more bytes t count queues now q opened new pushed = subst (AreOpened bytes t (count + 1)) (sym pushed) (record {
  long = length_push queues q ∙ ap (λ n. n + 1) opened.long;
  each = λ k low. elim (cases_eq k count) [
    | inl e ↦
        subst (λ j. delay_in (queues ++ q ∷ []) j ≡ record { limit = bytes; room = lines_by j t.lines; slots = [] }) (sym e)
        (get_or_push queues q no_queue count opened.long ∙ new)
    | inr ne ↦ let long = opened.long in
        get_or_append_left queues (q ∷ []) no_queue k (omega arith) ∙ opened.each k (omega arith)
  ];
})
