use Rattle.std.proofs.Common.{◌≡◌}
use Rattle.pa_audit_input.specs.Input.{run_line}
use Rattle.pa_audit_input.proofs.Cutting.{cut_next, cut_count, cut_parted, none_begins, not_run, run_begins}
use Rattle.pa_audit_input.proofs.parts.parts_of.Goals.{then-loop-rest-test+else-not-starts_with, else-loop-rest-test}
use Rattle.pa_audit_input.proofs.parts.parts_of.Goals as goal

pub loop-rest-preserved : goal.loop-rest-preserved
loop-rest-preserved c =
    let rest = c.loop-rest.rest.now in
    let after = c.behind_line-rest.result.now in
    let behind = c.behind_line-rest.ensures in
    cut_next (λ line. line ≡ run_line → ⊥) c.args.bytes.now rest after c.loop-rest.lines c.loop-rest.invariant behind
    (not_run rest after c.starts_with.result c.starts_with.ensures.value c.if-not-starts_with.true behind)

pub returns-clause-parted : goal.returns-clause-parted
returns-clause-parted c =
    let rest = c.loop-rest.rest.now in
    cut_parted c.args.bytes.now rest c.split_at.result.0.now c.split_at.result.1.now c.loop-rest.lines c.loop-rest.invariant
    c.split_at.ensures.front c.split_at.ensures.back
    (elim c.loop-rest-test.branch [
      | then-loop-rest-test+else-not-starts_with w ↦
          run_begins rest w.starts_with.result w.starts_with.ensures.value w.if-not-starts_with.false
      | else-loop-rest-test w ↦ none_begins rest c.is_empty.result c.is_empty.ensures w.loop-rest-test.false
    ])

pub returns-clause-lines : goal.returns-clause-lines
returns-clause-lines c =
    cut_count (λ line. line ≡ run_line → ⊥) c.args.bytes.now c.loop-rest.rest.now c.split_at.result.0.now c.loop-rest.lines
    c.loop-rest.invariant
    c.split_at.ensures.front
