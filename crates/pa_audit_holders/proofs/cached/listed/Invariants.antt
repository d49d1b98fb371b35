use Rattle.std.proofs.Common.{◌*◌, ◌≤◌}
use Rattle.pa_audit_holders.specs.Lists.{caches_in}
use Rattle.pa_audit_holders.specs.Cached.{IsListed}
use Rattle.pa_audit_holders.proofs.cached.listed.Given as goal

abbrev pub invariant-loop-thread : goal.invariant-loop-thread
invariant-loop-thread l = record {
  listed : IsListed l.thread (caches_in l.caches) l.partition l.sum;
  few : l.sum.slots ≤ 10880 * l.thread;
  small : l.sum.bytes ≤ 10695475200 * l.thread;
}
