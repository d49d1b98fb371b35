use Rattle.std.proofs.Common.{◌≡◌, ◌≤◌, List, length, take, ◌∙◌, ap, subst, arith}
use Rattle.std.proofs.lemmas.List.{take_all}
use Rattle.pa_record.specs.declared.root.RootEntry.{RootEntry}
use Rattle.pa_record.specs.Census.{census}
use Rattle.pa_rules.specs.declared.verdict.Place.TheVariants as places
use Rattle.pa_rules.specs.HeapDemands.{RootsDemand}
use Rattle.pa_rules.specs.Roots.{journal_at}
use Rattle.pa_audit_heap.specs.Censuses.{HaveCensuses}
use Rattle.pa_audit_heap.specs.Walking.{TellsWalk}
use Rattle.pa_audit_heap.proofs.Counting.{counted_all}
use Rattle.pa_audit_heap.proofs.Journaling.{meets_alone, meets_among, meets_past}
use Rattle.pa_audit_heap.proofs.Telling.{tells_none}
use Rattle.pa_audit_heap.proofs.roots.journal_meets.Goals as goal
use Rattle.pa_lists.proofs.Tests.{met_more}

pub loop-at-init : goal.loop-at-init
loop-at-init c = record {
  walked = c.in_ok-walk.ensures c.args.phases c.args.records.now c.args.pools.now c.journal_of-journal.result.now;
  met = λ j less. absurd (omega (arith, less));
}

pub returns-then-not-meets : goal.returns-then-not-meets
returns-then-not-meets c =
    let n = c.args.partitions in
    let ps = c.args.records.now in
    let pools = c.args.pools.now in
    let es = c.journal_of-journal.result.now in
    let p = c.args.partition in
    let told = subst (TellsWalk c.args.supers n c.args.phases ps pools p es c.loop-at.at c.meets_next.new.self) c.if-not-meets.true
    c.in_ok-meets.ensures.walks in (
      λ demand. told (meets_alone n ps pools (journal_at c.args.roots.now) es p c.loop-at.at c.journal_of-journal.ensures demand),
      c.loop-at.invariant.met,
    )

pub loop-at-preserved : goal.loop-at-preserved
loop-at-preserved c =
    let n = c.args.partitions in
    let ps = c.args.records.now in
    let pools = c.args.pools.now in
    let roots = journal_at c.args.roots.now in
    let es = c.journal_of-journal.result.now in
    let p = c.args.partition in
    let told = subst (TellsWalk c.args.supers n c.args.phases ps pools p es c.loop-at.at c.meets_next.new.self) c.if-not-meets.false
    c.in_ok-meets.ensures.walks in
    record {
      walked = told.1;
      met = met_more (λ j. RootsDemand n ps pools roots (places.Root p j)) c.loop-at.at c.loop-at.invariant.met
          (meets_among n ps pools roots es p c.loop-at.at c.journal_of-journal.ensures told.0);
    }

pub returns : goal.returns
returns c =
    let n = c.args.partitions in
    let ps = c.args.records.now in
    let pools = c.args.pools.now in
    let roots = journal_at c.args.roots.now in
    let es = c.journal_of-journal.result.now in
    let p = c.args.partition in
    let i = c.loop-at.at in
    let walked = c.loop-at.invariant.walked in
    let long : length c.journal_of-journal.result.now ≡ length (journal_at c.args.roots.now c.args.partition) =
    ap (λ (zs : List RootEntry). length zs) c.journal_of-journal.ensures in
    let behind = c.loop-at-test.false in
    let past : length (journal_at c.args.roots.now c.args.partition) ≤ c.loop-at.at = omega (arith, long, behind) in
    let all : take c.loop-at.at c.journal_of-journal.result.now ≡ journal_at c.args.roots.now c.args.partition =
    take_all i es (omega (arith, behind)) ∙ c.journal_of-journal.ensures in
    let counted = counted_all c.args.phases ps pools (take i es) c.loop-at.walk.order.phase c.loop-at.walk.censuses c.fill_up.new.self
    (census c.loop-at.walk.replay.root) walked.counted c.in_ok-fill_up.ensures.filled
    (ap census walked.replayed.root) in (
      tells_none (λ j. RootsDemand n ps pools roots (places.Root p j)) i c.loop-at.invariant.met
          (λ j more. meets_past n ps pools roots p j (omega (arith, past, more))),
      subst (λ (xs : List RootEntry). HaveCensuses ps pools (λ q. xs) 0 c.fill_up.new.self) all counted.0.told,
      counted.1,
    )
