use Rattle.std.proofs.Common.{sym, ◌∙◌}
use Rattle.std.proofs.lemmas.Bool.{true≢false}
use Rattle.pa_count.proofs.steps.release.Goals as goal

pub returns-then-returns-clause-last : goal.returns-then-returns-clause-last
returns-then-returns-clause-last c is_last =
    (c.releases_leave.ensures c.args.step c.args.title c.count_step-found.result.0 c.args.seat.now c.count_step-found.new.seat
    c.requires.release c.requires.able.0 c.count_step-found.ensures).0
    (c.returns.ensures.0 c.if-returns.true)

pub returns-else-returns-clause-kept : goal.returns-else-returns-clause-kept
returns-else-returns-clause-kept c is_kept =
    (c.releases_leave.ensures c.args.step c.args.title c.count_step-found.result.0 c.args.seat.now c.count_step-found.new.seat
    c.requires.release c.requires.able.0 c.count_step-found.ensures).1
    (λ r. true≢false (sym (c.returns.ensures.1 r) ∙ c.if-returns.false))
