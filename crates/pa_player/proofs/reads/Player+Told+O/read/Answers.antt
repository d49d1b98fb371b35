use Rattle.std.proofs.Common.{ℕ, ◌∙◌, sym, ap}
use Rattle.pa_rules.specs.Nexts.{read_next}
use Rattle.pa_rules.specs.declared.register.Register.{Register}
use Rattle.pa_rules.proofs.Nexts.{read_looks}
use Rattle.pa_player.proofs.Answers.{read_refuses}
use Rattle.pa_player.proofs.Looks.{read_plays}
use Rattle.pa_player.proofs.Owning.{owns_no_place, reads_owned}
use Rattle.pa_player.proofs.Ready.{read_ready}
use Rattle.pa_player.proofs.Showing.{handle_points}
use Rattle.pa_player.proofs.reads.Player+Told+O.read.Goals as goal

pub read_from-requires : goal.read_from-requires
read_from-requires g c =
    read_ready c.args.self.now c.args.thread c.args.reg c.args.word c.in-Ok.place c.requires
    (handle_points _ c.in-Ok.place
    (read_looks _ c.in-Ok.place (sym (c.for_read.ensures ∙ ap (λ (r : Register ℕ). read_next r) c.register.ensures) ∙ c.in-Ok.is)))

pub returns-in-Ok-clause-played : goal.returns-in-Ok-clause-played
returns-in-Ok-clause-played g c =
    read_plays c.args.self.now c.args.thread c.args.reg c.args.word c.in-Ok.place c.read_from.result
    (handle_points _ c.in-Ok.place
    (read_looks _ c.in-Ok.place (sym (c.for_read.ensures ∙ ap (λ (r : Register ℕ). read_next r) c.register.ensures) ∙ c.in-Ok.is)))
    c.read_from.ensures

pub returns-in-Err-clause-played : goal.returns-in-Err-clause-played
returns-in-Err-clause-played g c =
    read_refuses c.args.self.now c.args.thread c.args.reg c.args.word c.in-Err.refusal
    (sym (c.for_read.ensures ∙ ap (λ (r : Register ℕ). read_next r) c.register.ensures) ∙ c.in-Err.is)

pub returns-in-Ok-clause-owned : goal.returns-in-Ok-clause-owned
returns-in-Ok-clause-owned g c =
    reads_owned c.args.self.now c.args.thread c.args.reg c.args.word c.in-Ok.place c.read_from.result c.requires
    (sym (c.for_read.ensures ∙ ap (λ (r : Register ℕ). read_next r) c.register.ensures) ∙ c.in-Ok.is) c.read_from.ensures

pub returns-in-Err-clause-owned : goal.returns-in-Err-clause-owned
returns-in-Err-clause-owned g c =
    owns_no_place c.args.self.now c.args.thread c.args.reg c.args.word c.in-Err.refusal
    (sym (c.for_read.ensures ∙ ap (λ (r : Register ℕ). read_next r) c.register.ensures) ∙ c.in-Err.is)
