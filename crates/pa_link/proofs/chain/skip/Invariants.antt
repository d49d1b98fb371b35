use Rattle.std.proofs.Common.{◌≡◌, ◌+◌, List}
use Rattle.pa_slot.specs.declared.title.Title.{Title}
use Rattle.pa_link.specs.Chains.{IsChain, IsSkipped}
use Rattle.pa_link.proofs.chain.skip.Given as goal

-- `done` titles came off the front
abbrev pub invariant-loop-done : goal.invariant-loop-done
invariant-loop-done l = record {
  seat : l.seat ≡ l.initial.seat;
  chain : (ts : List Title) → IsChain l.initial.seat.view l.initial.chain ts → IsSkipped l.initial.seat.view l.chain l.done l.last ts;
  slot_len : l.chain.slot_len ≡ l.initial.chain.slot_len;
  len : l.chain.len + l.done ≡ l.initial.chain.len;
}
