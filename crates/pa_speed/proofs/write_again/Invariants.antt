use Rattle.std.proofs.Common.{◌≡◌, ◌*◌, ◌≤◌, ℕ, List, length}
use Rattle.pa_trace.specs.Grammar.{IsTraceText}
use Rattle.pa_speed.proofs.write_again.Given as goal

-- the bytes of the rounds so far, each of them at most those that an input may have
abbrev pub invariant-loop : goal.invariant-loop
invariant-loop l = record {
  told : (text : List ℕ) → IsTraceText l.trace text → l.total ≡ l.counter * length text;
  few : l.total ≤ l.counter * 4194304;
}
