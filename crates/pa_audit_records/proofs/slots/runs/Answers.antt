use Rattle.std.proofs.Common.{◌≡◌, ◌+◌, ap, sym, ◌∙◌, subst, rules}
use Rattle.std.specs.Option.{is_some}
use Rattle.pa_audit_records.specs.ByKeys.{value_at}
use Rattle.pa_audit_records.specs.Keys.{word_key}
use Rattle.pa_audit_records.proofs.Fitting.{RunsSoFar, runs_start, runs_told, runs_quiet, slots_all}
use Rattle.pa_audit_records.proofs.slots.runs.Goals.{in-Some+then-is_none+in_ok-reach, in-Some+else-is_none, in_default}
use Rattle.pa_audit_records.proofs.slots.runs.Goals as goal

pub loop-record-init : goal.loop-record-init
loop-record-init c = runs_start c.args.records.now (value_at c.new-reached.result) (λ q. search rules)

pub reach-requires-clause-reached : goal.reach-requires-clause-reached
reach-requires-clause-reached c = c.loop-record.invariant.runs

pub loop-record-preserved : goal.loop-record-preserved
loop-record-preserved c =
    let ps = c.args.records.now in
    let f = value_at c.args.firsts.now in
    let before = value_at c.loop-record.reached in
    let n = c.loop-record.record-index in
    elim c.match-told_mark.branch [
      | in-Some+then-is_none+in_ok-reach w ↦
          subst (λ z. RunsSoFar ps (value_at z) (n + 1)) (sym w.reached-is)
          (runs_told ps f before (value_at w.reach.new.reached) n _ _ c.loop-record-test.true c.requires.firsts c.loop-record.invariant
          w.in_ok-reach.ensures.reached w.in_ok-reach.ensures.kept w.in-Some.ensures.mark
          w.in_ok-reach.ensures.first)
      | in-Some+else-is_none w ↦
          let there : is_some w.find.result ≡ is_some (before (word_key w.in-Some.mark.slot 0)) =
          ap is_some (w.find.ensures ∙ ap before w.key_word.ensures.key) in
          subst (λ z. RunsSoFar ps (value_at z) (n + 1)) (sym w.reached-is)
          (runs_told ps f before before n _ _ c.loop-record-test.true c.requires.firsts c.loop-record.invariant
          c.loop-record.invariant.runs (λ t low some. some) w.in-Some.ensures.mark (sym there ∙ w.if-is_none.ensures))
      | in_default w ↦
          subst (λ z. RunsSoFar ps (value_at z) (n + 1)) (sym w.reached-is)
          (runs_quiet ps f before n _ c.loop-record-test.true c.requires.firsts c.loop-record.invariant w.in_default.ensures.mark)
    ]

pub returns-clause-all : goal.returns-clause-all
returns-clause-all c =
    slots_all c.args.records.now (value_at c.loop-record.reached) c.loop-record.record-index c.loop-record-test.false
    c.loop-record.invariant.all
