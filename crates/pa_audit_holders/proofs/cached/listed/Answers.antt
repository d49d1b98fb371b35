use Rattle.std.proofs.Common.{◌≡◌, ◌+◌, ◌<◌, length, ◌∙◌, ap, arith}
use Rattle.std.proofs.lemmas.List.{get_or_default}
use Rattle.pa_record.specs.declared.report.Tally.{Tally}
use Rattle.pa_audit_holders.specs.Lists.{cache_in, caches_in, no_lists}
use Rattle.pa_audit_holders.proofs.Tallying.{listed_next}
use Rattle.pa_audit_holders.proofs.cached.listed.Goals as goal

pub loop-thread-preserved : goal.loop-thread-preserved
loop-thread-preserved c =
    let l = c.loop-thread in
    let p = c.args.partition in
    let below : c.loop-thread.thread < length c.args.caches.now =
    omega (arith, c.loop-thread-test.true, c.requires.threads, c.requires.many) in
    let there : cache_in c.index-caches-thread.result ≡ caches_in c.args.caches.now c.loop-thread.thread =
    ap cache_in (c.index-caches-thread.is ∙
    get_or_default c.args.caches.now c.loop-thread.thread c.index-caches-thread.result no_lists below) in
    let sum : c.and-sum.result.slots ≡ l.sum.slots + c.sum.result.slots = ap (λ (t : Tally). t.slots) c.and-sum.ensures in
    let more : c.and-sum.result.bytes ≡ l.sum.bytes + c.sum.result.bytes = ap (λ (t : Tally). t.bytes) c.and-sum.ensures in
    record {
      listed = listed_next (caches_in c.args.caches.now) (cache_in c.index-caches-thread.result) p l.thread l.sum c.sum.result
          c.and-sum.result l.invariant.listed c.sum.ensures.listed there c.and-sum.ensures;
      few = omega (arith, sum, l.invariant.few, c.sum.ensures.few);
      small = omega (arith, more, l.invariant.small, c.sum.ensures.small);
    }
