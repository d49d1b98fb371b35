use Rattle.std.proofs.Common.{ℕ, subst}
use Rattle.pa_rules.specs.Nexts.{HasSomeHandle}
use Rattle.pa_rules.specs.declared.register.Register.{Register}
use Rattle.pa_player.proofs.Answers.{alloc_filled}
use Rattle.pa_player.proofs.alloc.Player+Told+O.allocate.Goals as goal

pub returns-then-has_handle-clause-played : goal.returns-then-has_handle-clause-played
returns-then-has_handle-clause-played g c =
    alloc_filled c.args.self.now c.args.thread c.args.reg c.args.partition c.args.size
    (subst (λ (r : Register ℕ). HasSomeHandle r) c.register.ensures (c.has_handle.ensures.0 c.if-has_handle.true))
