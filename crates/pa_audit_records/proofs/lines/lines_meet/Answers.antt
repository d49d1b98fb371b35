use Rattle.std.proofs.Common.{rules, ℕ, ◌+◌, arith, drop, sym, subst, refl}
use Rattle.pa_trace.specs.declared.script.Rules.{Rules}
use Rattle.pa_audit_records.proofs.Due.{DueSoFar, due_start, due_phase, due_more, due_not, due_over, due_all}
use Rattle.pa_audit_records.proofs.lines.lines_meet.Goals.{in-Do+else-not-is_due, in_default}
use Rattle.pa_audit_records.proofs.lines.lines_meet.Goals as goal

pub loop-line-init : goal.loop-line-init
loop-line-init c = record { due = λ r. due_start r c.args.lines.now c.args.records.now; few = omega arith; number = refl }

pub returns-then-not-is_due : goal.returns-then-not-is_due
returns-then-not-is_due c = λ r.
    due_not r c.args.lines.now c.args.records.now c.loop-line.line-index c.loop-line.number c.loop-line.at c.in-Do.thread c.in-Do.op
    c.loop-line-test.true c.in-Do.is (c.loop-line.invariant.due r)
    (search rules)

pub loop-line-preserved : goal.loop-line-preserved
loop-line-preserved c =
    let ls = c.args.lines.now in
    let es = c.args.records.now in
    let i = c.loop-line.line-index in
    let n = c.loop-line.number in
    let at = c.loop-line.at in
    let next = λ (k : ℕ). (r : Rules) → DueSoFar r ls es (drop (i + 1) ls) (n + 1) k in
    elim c.match-line.branch [
      | in-Do+else-not-is_due w ↦ record {
        due = subst next (sym w.at-is)
            (λ r. due_more r ls es i n at w.in-Do.thread w.in-Do.op c.loop-line-test.true w.in-Do.is (c.loop-line.invariant.due r)
            (search rules));
        few = omega arith;
        number = omega arith;
      }
      | in_default w ↦ record {
        due = subst next (sym w.at-is) (λ r. due_phase r ls es i n at c.loop-line-test.true w.in_default.is (c.loop-line.invariant.due r));
        few = omega arith;
        number = omega arith;
      }
    ]

pub returns-then-at-records : goal.returns-then-at-records
returns-then-at-records c = λ r.
    due_over r c.args.lines.now c.args.records.now c.loop-line.line-index c.loop-line.number c.loop-line.at c.loop-line-test.false
    (c.loop-line.invariant.due r) c.if-at-records.true

pub returns-else-at-records : goal.returns-else-at-records
returns-else-at-records c = λ r.
    due_all r c.args.lines.now c.args.records.now c.loop-line.line-index c.loop-line.number c.loop-line.at c.loop-line-test.false
    (c.loop-line.invariant.due r) c.if-at-records.false
