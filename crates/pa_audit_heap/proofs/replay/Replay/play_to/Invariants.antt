use Rattle.std.proofs.Common.{◌≡◌, take}
use Rattle.pa_record.specs.Pool.{new_pool, pool_replayed}
use Rattle.pa_audit_heap.proofs.replay.Replay.play_to.Given as goal

abbrev pub invariant-loop-at : goal.invariant-loop-at
invariant-loop-at l = record {
  plan : l.self.plan ≡ pool_replayed (take l.at l.pools) (new_pool l.fn.self.plan.supers);
  root : l.self.root ≡ l.fn.self.root;
}
