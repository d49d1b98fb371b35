use Rattle.std.proofs.Common.{◌+◌, sym, subst}
use Rattle.pa_audit_records.specs.Along.{word_by}
use Rattle.pa_audit_records.specs.ByKeys.{value_at}
use Rattle.pa_audit_records.proofs.Going.{RunsTo, along_start, along_told, along_quiet, along_end}
use Rattle.pa_audit_records.proofs.along.stand_in_order.Goals.{in-Some+in_ok-continues+else-not-branch, in_default}
use Rattle.pa_audit_records.proofs.along.stand_in_order.Goals as goal

pub loop-record-init : goal.loop-record-init
loop-record-init c = along_start c.args.records.now (value_at c.new-words.result) c.new-words.ensures

pub loop-record-preserved : goal.loop-record-preserved
loop-record-preserved c =
    let ps = c.args.records.now in
    let n = c.loop-record.record-index in
    let before = word_by (value_at c.loop-record.words) in
    elim c.match-told_mark.branch [
      | in-Some+in_ok-continues+else-not-branch w ↦
          subst (λ z. RunsTo ps (n + 1) (word_by (value_at z))) (sym w.words-is)
          (along_told ps before (word_by (value_at w.continues.new.words)) n _ _ c.requires.rising c.loop-record-test.true
          w.in-Some.ensures.mark (w.in_ok-continues.ensures w.if-not-branch.false) c.loop-record.invariant)
      | in_default w ↦
          subst (λ z. RunsTo ps (n + 1) (word_by (value_at z))) (sym w.words-is)
          (along_quiet ps before n _ c.loop-record-test.true w.in_default.ensures.mark c.loop-record.invariant)
    ]

pub returns : goal.returns
returns c = λ all. along_end c.args.records.now
    (word_by (value_at c.loop-record.words)) c.loop-record.record-index c.loop-record-test.false c.loop-record.invariant
