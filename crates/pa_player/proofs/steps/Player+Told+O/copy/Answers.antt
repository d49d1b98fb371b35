use Rattle.std.proofs.Common.{ℕ, ◌∙◌, sym, ap, subst}
use Rattle.pa_rules.specs.Nexts.{copy_next, is_owner}
use Rattle.pa_rules.specs.declared.register.Register.{Register}
use Rattle.pa_rules.proofs.Nexts.{copy_steps}
use Rattle.pa_player.specs.Changes.{Copies}
use Rattle.pa_player.proofs.Answers.{copy_refuses}
use Rattle.pa_player.proofs.Branches.{copy_plays}
use Rattle.pa_player.proofs.Ready.{copy_ready}
use Rattle.pa_player.proofs.Showing.{handle_points}
use Rattle.pa_player.proofs.steps.Player+Told+O.copy.Goals as goal

pub copy_to-requires : goal.copy_to-requires
copy_to-requires g c =
    copy_ready c.args.self.now c.args.thread c.args.from c.args.to c.in-Ok.place c.requires
    (handle_points _ c.in-Ok.place
    (copy_steps _ c.in-Ok.place (sym (c.for_copy.ensures ∙ ap (λ (r : Register ℕ). copy_next r) c.register-held.ensures) ∙ c.in-Ok.is)))

pub returns-in-Ok : goal.returns-in-Ok
returns-in-Ok g c =
    copy_plays c.args.self.now c.copy_to.new.self c.args.thread c.args.from c.args.to c.in-Ok.place c.copy_to.result
    (handle_points _ c.in-Ok.place
    (copy_steps _ c.in-Ok.place (sym (c.for_copy.ensures ∙ ap (λ (r : Register ℕ). copy_next r) c.register-held.ensures) ∙ c.in-Ok.is)))
    (subst (λ owner. Copies c.args.thread owner c.args.to c.in-Ok.place c.args.self.now c.copy_to.new.self c.copy_to.result)
    (c.is_owner.ensures ∙ ap (λ (r : Register ℕ). is_owner r) c.register-held.ensures) c.copy_to.ensures)

pub returns-in-Err : goal.returns-in-Err
returns-in-Err g c =
    copy_refuses c.args.self.now c.args.thread c.args.from c.args.to c.in-Err.refusal
    (sym (c.for_copy.ensures ∙ ap (λ (r : Register ℕ). copy_next r) c.register-held.ensures) ∙ c.in-Err.is)
