use Rattle.std.proofs.Common.{◌≡◌, ℕ, ◌∙◌, sym, ap}
use Rattle.pa_trace.specs.declared.script.Op.TheVariants as ops
use Rattle.pa_record.specs.declared.entry.Answer.{Answer}
use Rattle.pa_record.specs.declared.entry.Answer.TheVariants as answers
use Rattle.pa_rules.specs.Nexts.{reset_next}
use Rattle.pa_rules.specs.declared.register.Register.{Register}
use Rattle.pa_rules.proofs.Nexts.{reset_steps}
use Rattle.pa_player.specs.Changes.{Resets, seen_at}
use Rattle.pa_player.specs.Plays.{Plays}
use Rattle.pa_player.proofs.Answers.{reset_refuses}
use Rattle.pa_player.proofs.Branches.{reset_plays}
use Rattle.pa_player.proofs.Outcome.{both_ok}
use Rattle.pa_player.proofs.Ready.{reset_ready}
use Rattle.pa_player.proofs.steps.Player+Told+O.reset.Goals as goal

pub clear-requires : goal.clear-requires
clear-requires g c =
    reset_ready c.args.self.now c.args.thread c.args.reg c.in-Ok.place c.requires
    (reset_steps _ c.in-Ok.place (sym (c.for_reset.ensures ∙ ap (λ (r : Register ℕ). reset_next r) c.register.ensures) ∙ c.in-Ok.is))

pub returns-in-Ok-clause-played : goal.returns-in-Ok-clause-played
returns-in-Ok-clause-played g c =
    let p = c.args.self.now in
    let is = reset_steps _ c.in-Ok.place (sym (c.for_reset.ensures ∙ ap (λ (r : Register ℕ). reset_next r) c.register.ensures) ∙
    c.in-Ok.is) in
    both_ok c.clear.result (λ (a : Answer). a ≡ answers.Done (seen_at p.table c.in-Ok.place))
    (λ a. Plays p c.args.thread (ops.Reset c.args.reg) c.clear.new.self a)
    (Resets c.args.thread c.args.reg c.in-Ok.place p c.clear.new.self)
    c.clear.ensures.answer c.clear.ensures.resets
    (λ a says resets. reset_plays p c.clear.new.self c.args.thread c.args.reg c.in-Ok.place a is
    (reset_ready p c.args.thread c.args.reg c.in-Ok.place c.requires is) says resets)

pub returns-in-Err-clause-played : goal.returns-in-Err-clause-played
returns-in-Err-clause-played g c =
    reset_refuses c.args.self.now c.args.thread c.args.reg c.in-Err.refusal
    (sym (c.for_reset.ensures ∙ ap (λ (r : Register ℕ). reset_next r) c.register.ensures) ∙ c.in-Err.is)
