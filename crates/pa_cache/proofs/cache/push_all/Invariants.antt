use Rattle.std.proofs.Common.{◌≡◌, ◌-◌, drop, length}
use Rattle.pa_link.specs.Chains.{IsChain, Relinked, SameBeside}
use Rattle.pa_cache.proofs.cache.push_all.Given as goal

-- this many were pushed, the last ones
abbrev pub invariant-loop-done : goal.invariant-loop-done
invariant-loop-done l = record {
  region : l.seat.region ≡ l.initial.seat.region;
  relinked : Relinked l.initial.seat.view l.seat.view;
  beside : SameBeside l.titles l.initial.seat.view.words l.seat.view.words;
  chain : IsChain l.seat.view l.chain (drop (length l.titles - l.done) l.titles);
  slot_len : l.chain.slot_len ≡ l.initial.chain.slot_len;
}
