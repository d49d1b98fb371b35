use Rattle.std.proofs.Common.{get_or, sym, subst, arith}
use Rattle.pa_record.specs.Pool.{PoolActFits}
use Rattle.pa_audit_heap.proofs.Playing.{no_entry, entry_at, played_entries, played_next}
use Rattle.pa_audit_heap.proofs.replay.Replay.play_to.Goals as goal

pub act_fits-requires : goal.act_fits-requires
act_fits-requires c =
    let l = c.loop-at in
    let few = c.requires.few in
    let within = c.requires.within in
    let below = c.loop-at-test.true in
    let e = played_entries c.args.self.now.plan.supers c.args.pools.now l.at l.self.plan (omega arith) l.invariant.plan in
    omega arith

pub loop-at-preserved : goal.loop-at-preserved
loop-at-preserved c =
    let l = c.loop-at in
    let pools = c.args.pools.now in
    let within = c.requires.within in
    let below = c.loop-at-test.true in
    let e = get_or pools l.at no_entry in
    let at = entry_at pools l.at (omega arith) in
    let fits = subst (PoolActFits pools e.partition e.act) (sym l.invariant.plan) (c.requires.pool l.at e at) in
    record {
      plan = played_next c.args.self.now.plan.supers pools l.at l.self.plan c.act_fits.new.plan e at l.invariant.plan
          (c.act_fits.ensures.next (c.act_fits.ensures.fits.1 fits));
      root = l.invariant.root;
    }
