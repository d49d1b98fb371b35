use Rattle.std.proofs.Common.{ℕ, ◌+◌, Some, ap, subst, sym, refl}
use Rattle.std.proofs.lemmas.Bool.{false≢true}
use Rattle.pa_rules.specs.declared.verdict.Place.TheVariants as places
use Rattle.pa_rules.specs.Cells.{history_at}
use Rattle.pa_rules.specs.RecordDemands.{RegistersDemand}
use Rattle.pa_rules.specs.Sizes.{usable_of}
use Rattle.pa_rules.specs.Tells.{TellsFirst}
use Rattle.pa_audit_records.proofs.Walking.{record_among, regs_start, regs_not, regs_more, regs_all}
use Rattle.pa_audit_records.proofs.walk.registers_meet.Goals as goal

pub loop-record-init : goal.loop-record-init
loop-record-init c = record {
  walk =
      regs_start c.args.version (history_at c.args.cells.now) c.args.records.now c.in_ok-registers.registers c.in_ok-registers.ensures;
  at = refl;
}

pub returns-then-not-may_answer : goal.returns-then-not-may_answer
returns-then-not-may_answer c =
    let ps = c.args.records.now in
    let cells = history_at c.args.cells.now in
    let P = λ (k : ℕ). TellsFirst (λ i. RegistersDemand (usable_of c.args.version) cells ps (places.Record i)) (Some k) in
    subst P (sym c.loop-record.invariant.at)
    (regs_not c.args.version cells ps c.loop-record.registers c.loop-record.record-index _ c.loop-record-test.true
    c.loop-record.invariant.walk
    (λ may. false≢true
    ((c.if-not-may_answer.ensures ps
    (c.in_ok-known.ensures.0 _ (record_among ps c.loop-record.record-index _ c.loop-record-test.true)) c.in_ok-known.ensures.1).1 may)))

pub loop-record-preserved : goal.loop-record-preserved
loop-record-preserved c =
    let ps = c.args.records.now in
    let cells = history_at c.args.cells.now in
    record {
      walk =
          regs_more c.args.version cells ps c.loop-record.registers c.change.new.self c.loop-record.record-index _ c.loop-record-test.true
          c.loop-record.invariant.walk
          ((c.if-not-may_answer.ensures ps
          (c.in_ok-known.ensures.0 _ (record_among ps c.loop-record.record-index _ c.loop-record-test.true))
          c.in_ok-known.ensures.1).0 refl)
          c.change.ensures;
      at = ap (λ n. n + 1) c.loop-record.invariant.at;
    }

pub returns : goal.returns
returns c = regs_all c.args.version (history_at c.args.cells.now) c.args.records.now c.loop-record.registers c.loop-record.record-index
    c.loop-record-test.false c.loop-record.invariant.walk
