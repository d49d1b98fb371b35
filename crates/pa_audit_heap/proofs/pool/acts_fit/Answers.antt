use Rattle.std.proofs.Common.{length, get_or, sym, subst, arith}
use Rattle.pa_audit_heap.specs.Parts.{FitsPool}
use Rattle.pa_audit_heap.proofs.Playing.{no_entry, entry_at, played_entries, played_more, played_misfit, fits_past}
use Rattle.pa_audit_heap.proofs.Telling.{tells_none}
use Rattle.std.proofs.lemmas.Bool.{both_ways}
use Rattle.pa_audit_heap.proofs.pool.acts_fit.Goals as goal

pub act_fits-requires : goal.act_fits-requires
act_fits-requires c =
    let l = c.loop-entry in
    let within = c.loop-entry-test.true in
    let few = c.requires.few in
    let e = played_entries c.args.supers c.args.pools.now l.entry-index l.plan (omega arith) l.invariant.played.plan_is in
    omega arith

pub returns-then-not-act_fits : goal.returns-then-not-act_fits
returns-then-not-act_fits c =
    let l = c.loop-entry in
    let pools = c.args.pools.now in (
      subst (λ i. FitsPool c.args.supers pools i → ⊥) (sym l.invariant.at)
          (played_misfit c.args.supers pools l.entry-index l.plan (get_or pools l.entry-index no_entry) l.invariant.played
          (entry_at pools l.entry-index c.loop-entry-test.true)
          (λ fits. both_ways _ c.if-not-act_fits.true (c.act_fits.ensures.fits.1 fits))),
      λ j less. l.invariant.played.met j (omega arith),
    )

pub loop-entry-preserved : goal.loop-entry-preserved
loop-entry-preserved c =
    let l = c.loop-entry in
    let pools = c.args.pools.now in
    record {
      at = omega arith;
      played = played_more c.args.supers pools l.entry-index l.plan c.act_fits.new.plan
          (get_or pools l.entry-index no_entry) l.invariant.played
          (entry_at pools l.entry-index c.loop-entry-test.true) (c.act_fits.ensures.fits.0 c.if-not-act_fits.false)
          (c.act_fits.ensures.next c.if-not-act_fits.false);
    }

pub returns : goal.returns
returns c =
    let l = c.loop-entry in
    let pools = c.args.pools.now in
    let past = c.loop-entry-test.false in
    tells_none (FitsPool c.args.supers pools) (length pools) (λ j less. l.invariant.played.met j (omega arith))
    (λ j more. fits_past c.args.supers pools j more)
