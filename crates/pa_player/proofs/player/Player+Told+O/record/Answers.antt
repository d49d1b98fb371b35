use Rattle.std.proofs.Common.{Some, sym, ap, ◌∙◌, subst}
use Rattle.pa_slot.proofs.Outcomes.{any_err}
use Rattle.pa_trace.specs.declared.script.Line.TheVariants.{Do}
use Rattle.pa_player.specs.Plays.{GoesTo}
use Rattle.pa_player.specs.Told.{Lists, told_before}
use Rattle.pa_player.proofs.Settling.{op_settled}
use Rattle.pa_player.proofs.Trace.{line_few}
use Rattle.pa_player.proofs.player.Player+Told+O.record.Goals as goal

pub answer-requires-2 : goal.answer-requires-2
answer-requires-2 g c = line_few c.args.self.now c.args.thread c.args.op c.answer.new.self c.in_ok-answer.answer c.requires
    c.in_ok-answer.ensures.played

pub returns-clause-played : goal.returns-clause-played
returns-clause-played g c =
    let q = c.answer.new.self in
    subst (λ (t : Lists). GoesTo c.args.self.now (Do c.args.thread c.args.op) (Some c.in_ok-answer.answer) (record q { told = t }))
    (sym c.in_ok-answer-2.ensures.answered)
    c.in_ok-answer.ensures.played

pub returns-in_err-answer-2-clause-same : goal.returns-in_err-answer-2-clause-same
returns-in_err-answer-2-clause-same g c =
    any_err _ _ (ap told_before c.in_err-answer-2.ensures.same
    ∙ op_settled c.args.self.now c.args.thread c.args.op c.answer.new.self c.in_ok-answer.answer c.requires c.in_ok-answer.ensures.played)
