use Rattle.std.proofs.Common.{◌≡◌, ◌≤◌, List, length}
use Rattle.pa_slot.specs.declared.title.Title.{Title}
use Rattle.pa_link.specs.Chains.{IsChain}
use Rattle.pa_link.proofs.Gaps.{AreTaken}
use Rattle.pa_link.proofs.chain.take_front.Given as goal

-- `taken` titles came off the front, if there were as many
abbrev pub invariant-loop-taken : goal.invariant-loop-taken
invariant-loop-taken l = record {
  seat : l.seat ≡ l.initial.seat;
  chain : (ts : List Title) → IsChain l.initial.seat.view l.initial.chain ts →
      AreTaken l.initial.seat.view l.chain l.taken l.batch.items ts;
  slot_len : l.chain.slot_len ≡ l.initial.chain.slot_len;
  len : l.chain.len ≤ l.initial.chain.len;
  few : length l.batch.items ≤ l.taken;
}
