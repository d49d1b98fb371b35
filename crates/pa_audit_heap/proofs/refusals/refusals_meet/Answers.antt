use Rattle.std.proofs.Common.{length, Some, None, subst, arith}
use Rattle.std.proofs.lemmas.Bool.{both_ways}
use Rattle.std.proofs.lemmas.Option.{slice_get-get_or}
use Rattle.pa_rules.specs.declared.verdict.Place.TheVariants as places
use Rattle.pa_rules.specs.Roots.{journal_at}
use Rattle.pa_rules.specs.HeapDemands.{RootsDemand}
use Rattle.pa_audit_heap.proofs.Refusing.{no_played, NamesFullAt, record_named, named_record, named_past, named_here}
use Rattle.pa_audit_heap.proofs.Telling.{tells_none, tells_same}
use Rattle.pa_audit_heap.proofs.refusals.refusals_meet.Goals as goal
use Rattle.pa_lists.proofs.Tests.{met_more}

pub returns-then-not-names_full : goal.returns-then-not-names_full
returns-then-not-names_full c = λ partitions pools.
    let l = c.loop-found in
    let ps = c.args.records.now in
    let roots = journal_at c.args.roots.now in
    let at = l.invariant.at in
    tells_same (NamesFullAt roots ps) (λ i. RootsDemand partitions ps pools roots (places.Record i)) (Some l.at)
    (record_named partitions ps pools roots) (named_record partitions ps pools roots) (
      λ named. both_ways _ c.if-not-names_full.true (c.names_full.ensures.1
          (subst (NamesFullAt roots ps) at named _ (slice_get-get_or ps l.found-index no_played c.loop-found-test.true))),
      λ j less. l.invariant.met j (omega arith),
    )

pub loop-found-preserved : goal.loop-found-preserved
loop-found-preserved c =
    let l = c.loop-found in
    let ps = c.args.records.now in
    let roots = journal_at c.args.roots.now in
    record {
      at = omega arith;
      met = met_more (NamesFullAt roots ps) l.found-index l.invariant.met
          (named_here roots ps l.found-index c.loop-found-test.true (c.names_full.ensures.0 c.if-not-names_full.false));
    }

pub returns : goal.returns
returns c = λ partitions pools.
    let l = c.loop-found in
    let ps = c.args.records.now in
    let roots = journal_at c.args.roots.now in
    let past = c.loop-found-test.false in
    tells_same (NamesFullAt roots ps) (λ i. RootsDemand partitions ps pools roots (places.Record i)) None
    (record_named partitions ps pools roots) (named_record partitions ps pools roots)
    (tells_none (NamesFullAt roots ps) (length ps) (λ j less. l.invariant.met j (omega arith)) (named_past roots ps))
