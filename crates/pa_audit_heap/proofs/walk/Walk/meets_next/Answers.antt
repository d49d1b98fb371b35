use Rattle.std.proofs.Common.{length, Some, refl, sym, ◌∙◌, ap, subst, arith}
use Rattle.std.proofs.lemmas.Bool.{both_ways}
use Rattle.std.proofs.lemmas.Option.{slice_get_read}
use Rattle.pa_record.specs.Census.{census}
use Rattle.pa_record.specs.Root.{RootActFits, asked_by}
use Rattle.pa_record.specs.Sound.{AsksFrom, least_after}
use Rattle.pa_rules.specs.declared.played.Played.{Played}
use Rattle.pa_rules.specs.Order.{IsOfLine}
use Rattle.pa_rules.specs.Roots.{MakesEntry}
use Rattle.pa_audit_heap.specs.Ordered.{IsTheRecord}
use Rattle.pa_audit_heap.specs.Replayed.{TellsPlay}
use Rattle.pa_audit_heap.specs.Walking.{AreFilledUp}
use Rattle.pa_audit_heap.proofs.Journaling.{meets_here, not_rises}
use Rattle.pa_audit_heap.proofs.Walking.{IsTaken, fits_next, unmet_order, walked_next}
use Rattle.pa_audit_heap.proofs.walk.Walk.meets_next.Goals.{then-partition-partitions-via-then-partition-partitions, then-partition-partitions-via-else-partition-partitions+then-not-makes_entry}
use Rattle.pa_audit_heap.proofs.walk.Walk.meets_next.Goals as goal

pub returns-in_default-clause-walks : goal.returns-in_default-clause-walks
returns-in_default-clause-walks c = λ demand.
    let es = c.args.journal.now in
    let e = c.index-journal-at.result in
    let at = slice_get_read es (length es) c.args.at e refl c.requires.within c.index-journal-at.is in
    let (x, of, makes) = (demand e at).line in
    c.in_default.ensures.the_record x (subst (λ n. IsOfLine c.args.records.now n x) (sym c.line.ensures.line) of)

pub returns-then-partition-partitions-clause-walks : goal.returns-then-partition-partitions-clause-walks
returns-then-partition-partitions-clause-walks c = λ demand.
    let es = c.args.journal.now in
    let e = c.index-journal-at.result in
    let at = slice_get_read es (length es) c.args.at e refl c.requires.within c.index-journal-at.is in
    let fits = demand e at in
    elim c.then-partition-partitions.branch [
      | then-partition-partitions-via-then-partition-partitions w ↦ let low = fits.partition in
          let high = w.if-partition-partitions.true in omega (arith, low, high)
      | then-partition-partitions-via-else-partition-partitions+then-not-makes_entry w ↦
          let (x, of, makes) = fits.line in
          let same = c.in-Some.ensures.the_record.1 x (subst (λ n. IsOfLine c.args.records.now n x) (sym c.line.ensures.line) of) in
          let here = subst (λ (z : Played). MakesEntry c.args.pools.now c.args.partition e.act z) same makes in
          both_ways _ w.if-not-makes_entry.true
          (w.makes_entry.ensures.1
          (subst (λ act. MakesEntry c.args.pools.now c.args.partition act c.in-Some.found) (sym w.act.ensures.act) here))
    ]

pub returns-then-not-rises-clause-walks : goal.returns-then-not-rises-clause-walks
returns-then-not-rises-clause-walks c = λ demand.
    let es = c.args.journal.now in
    let e = c.index-journal-at.result in
    let at = slice_get_read es (length es) c.args.at e refl c.requires.within c.index-journal-at.is in
    let w = c.args.self.now in
    not_rises c.args.supers c.args.pools.now (λ q. es) c.args.partition c.args.at e w.replay w.least
    (asked_by e.act) c.requires.walked.replayed refl
    (λ from. both_ways _ c.if-not-rises.true
    (c.rises.ensures.1 (subst (AsksFrom w.least) (sym (c.asked_by-asked.ensures ∙ ap asked_by c.act-2.ensures.act)) from)))
    (demand e at).rises

pub returns-then-not-enter-clause-walks : goal.returns-then-not-enter-clause-walks
returns-then-not-enter-clause-walks c = λ demand.
    let es = c.args.journal.now in
    let e = c.index-journal-at.result in
    let at = slice_get_read es (length es) c.args.at e refl c.requires.within c.index-journal-at.is in
    unmet_order c.args.supers c.args.partitions c.args.phases c.args.records.now c.args.pools.now es c.args.partition c.args.at
    c.args.self.now e c.in-Some.found c.requires.walked at
    (subst (λ n. IsTheRecord c.args.records.now n (Some c.in-Some.found)) c.line.ensures.line c.in-Some.ensures.the_record)
    (λ behind. both_ways _ c.if-not-enter.true (c.enter.ensures.behind.1 behind)) (demand e at)

pub returns-then-not-played-clause-walks : goal.returns-then-not-played-clause-walks
returns-then-not-played-clause-walks c = λ demand.
    let es = c.args.journal.now in
    let e = c.index-journal-at.result in
    let at = slice_get_read es (length es) c.args.at e refl c.requires.within c.index-journal-at.is in
    let w = c.args.self.now in
    let played =
    subst (λ act. TellsPlay c.args.pools.now act w.replay.plan w.replay.root c.play.new.self.plan c.play.new.self.root
    c.in_ok-played.played)
    c.act-3.ensures.act c.in_ok-played.ensures.plays in
    let misfit =
    subst (TellsPlay c.args.pools.now e.act w.replay.plan w.replay.root c.play.new.self.plan c.play.new.self.root)
    c.if-not-played.true played in
    misfit (subst (RootActFits c.args.pools.now e.act) (sym c.requires.walked.replayed.root) (demand e at).fits)

pub returns-clause-walks : goal.returns-clause-walks
returns-clause-walks c =
    let es = c.args.journal.now in
    let e = c.index-journal-at.result in
    let at = slice_get_read es (length es) c.args.at e refl c.requires.within c.index-journal-at.is in
    let ps = c.args.records.now in
    let pools = c.args.pools.now in
    let p = c.args.partition in
    let w = c.args.self.now in
    let x = c.in-Some.found in
    let high = c.if-partition-partitions.false in
    let asks = c.asked_by-asked.ensures ∙ ap asked_by c.act-2.ensures.act in
    let taken : IsTaken c.args.partitions c.args.records.now c.args.pools.now c.args.partition c.args.self.now c.index-journal-at.result
    c.in-Some.found = record {
      partition = omega (arith, high);
      is = subst (λ n. IsTheRecord c.args.records.now n (Some c.in-Some.found)) c.line.ensures.line c.in-Some.ensures.the_record;
      makes = subst (λ act. MakesEntry c.args.pools.now c.args.partition act c.in-Some.found) c.act.ensures.act
          (c.makes_entry.ensures.0 c.if-not-makes_entry.false);
      from = subst (AsksFrom c.args.self.now.least) asks (c.rises.ensures.0 c.if-not-rises.false);
      behind = c.enter.ensures.behind.0 c.if-not-enter.false;
    } in
    let told = subst (λ act. TellsPlay pools act w.replay.plan w.replay.root c.play.new.self.plan c.play.new.self.root
    c.in_ok-played.played) c.act-3.ensures.act c.in_ok-played.ensures.plays in
    let played =
    subst (TellsPlay pools e.act w.replay.plan w.replay.root c.play.new.self.plan c.play.new.self.root) c.if-not-played.false told in
    let filled =
    subst (λ n. AreFilledUp (census w.replay.root) n w.censuses c.fill_up.new.self) c.phases_before-over.ensures
    c.in_ok-fill_up.ensures.filled in (
      meets_here c.args.partitions ps pools es p c.args.at e at
          (fits_next c.args.supers c.args.partitions c.args.phases ps pools es p c.args.at w e x c.requires.walked at taken played.0),
      walked_next c.args.supers c.args.partitions c.args.phases ps pools es p c.args.at w _ e x c.requires.threads c.requires.walked at
          taken (c.enter.ensures.entered c.if-not-enter.false) filled played.1
          (c.least_after-self.ensures.next ∙ ap (least_after w.least) asks) c.least_after-self.ensures.bound,
    )
