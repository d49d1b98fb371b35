use Rattle.std.proofs.Common.{◌+◌, length, ap, refl, arith}
use Rattle.std.proofs.lemmas.Bool.{false≢true}
use Rattle.pa_rules.specs.declared.verdict.Place.TheVariants as places
use Rattle.pa_rules.specs.Cells.{history_at}
use Rattle.pa_rules.specs.RecordDemands.{ContentsDemand}
use Rattle.pa_rules.specs.Sizes.{usable_of}
use Rattle.pa_audit_records.proofs.Telling.{tells_at, tells_none}
use Rattle.pa_audit_records.proofs.Walking.{regs_start}
use Rattle.pa_audit_order.specs.declared.numbers.Kind.TheVariants.{Fill, Free}
use Rattle.pa_audit_order.proofs.Giving.{regs_on, content_met, content_may}
use Rattle.pa_audit_order.proofs.Stamping.{one_at}
use Rattle.pa_audit_order.proofs.contents.contents_meet.Goals as goal
use Rattle.pa_lists.proofs.Indexed.{none_past}
use Rattle.pa_lists.proofs.Tests.{met_more}

pub by_number-requires-clause-one : goal.by_number-requires-clause-one
by_number-requires-clause-one c = one_at Fill c.args.records.now c.requires.rising c.requires.slots

pub by_number-requires-2-clause-one : goal.by_number-requires-2-clause-one
by_number-requires-2-clause-one c = one_at Free c.args.records.now c.requires.rising c.requires.slots

pub may_give-requires-clause-one_fill : goal.may_give-requires-clause-one_fill
may_give-requires-clause-one_fill c = one_at Fill c.args.records.now c.requires.rising c.requires.slots

pub may_give-requires-clause-one_free : goal.may_give-requires-clause-one_free
may_give-requires-clause-one_free c = one_at Free c.args.records.now c.requires.rising c.requires.slots

pub loop-record-init : goal.loop-record-init
loop-record-init c = record {
  met = λ version meet j below. absurd (omega arith);
  regs = λ version meet. regs_start version (history_at c.args.cells.now) c.args.records.now c.in_ok-registers.registers
      c.in_ok-registers.ensures;
  at = refl;
}

pub returns-then-not-may_give : goal.returns-then-not-may_give
returns-then-not-may_give c = λ version meet.
    let ps = c.args.records.now in
    let cells = history_at c.args.cells.now in
    let l = c.loop-record in
    tells_at (λ k. ContentsDemand (usable_of version) cells ps (places.Record k)) l.record-index l.at l.invariant.at
    (λ asks. false≢true (c.if-not-may_give.ensures.1
    (content_may version cells ps l.registers l.record-index _ c.requires.rising c.loop-record-test.true
    (l.invariant.regs version meet) asks)))
    (l.invariant.met version meet)

pub loop-record-preserved : goal.loop-record-preserved
loop-record-preserved c =
    let ps = c.args.records.now in
    let cells = history_at c.args.cells.now in
    let l = c.loop-record in
    let i = l.record-index in
    record {
      met = λ version meet. met_more (λ k. ContentsDemand (usable_of version) cells ps (places.Record k)) i (l.invariant.met version meet)
          (content_met version cells ps l.registers i _ c.loop-record-test.true (l.invariant.regs version meet)
          (c.if-not-may_give.ensures.0 refl));
      regs = λ version meet. regs_on version cells ps l.registers c.change.new.self i _ c.loop-record-test.true meet
          (l.invariant.regs version meet) c.change.ensures;
      at = ap (λ n. n + 1) l.invariant.at;
    }

pub returns : goal.returns
returns c = λ version meet.
    let ps = c.args.records.now in
    let cells = history_at c.args.cells.now in
    tells_none (λ k. ContentsDemand (usable_of version) cells ps (places.Record k)) (length ps) c.loop-record.record-index
    c.loop-record-test.false (c.loop-record.invariant.met version meet) (λ j past x at. absurd (none_past ps j x past at))
