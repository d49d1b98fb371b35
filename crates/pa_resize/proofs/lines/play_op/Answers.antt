use Rattle.std.proofs.Common.{Option, subst}
use Rattle.pa_record.specs.declared.entry.Answer.{Answer}
use Rattle.pa_trace.specs.declared.script.Line.TheVariants.{Do}
use Rattle.pa_model.specs.Player.{PlaysLine, ReadsOwned}
use Rattle.pa_resize.proofs.Steps.{went_one}
use Rattle.pa_resize.proofs.lines.play_op.Goals as goal

pub returns-clause-went : goal.returns-clause-went
returns-clause-went g c =
    let p = c.args.player.now in
    let q = c.line.new.self in
    let played = subst (λ (a : Option Answer). PlaysLine p (Do c.args.thread c.args.op) a q) c.in-Some.is c.in_ok-answer.ensures.played in
    went_one p q c.args.thread c.args.op c.in-Some.answer played

pub returns-clause-owned : goal.returns-clause-owned
returns-clause-owned g c =
    subst (λ (a : Option Answer). ReadsOwned c.args.player.now (Do c.args.thread c.args.op) a) c.in-Some.is c.in_ok-answer.ensures.owned
