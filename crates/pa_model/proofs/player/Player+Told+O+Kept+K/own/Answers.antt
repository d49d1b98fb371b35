use Rattle.std.proofs.Common.{◌≡◌, ap, sym, ◌∙◌, subst}
use Rattle.pa_model.specs.Player.{Owns, owned_of, owned_by}
use Rattle.pa_model.proofs.Owned.{owns}
use Rattle.pa_model.proofs.player.Player+Told+O+Kept+K.own.Goals as goal

pub returns-clause-owned : goal.returns-clause-owned
returns-clause-owned g c =
    let p = c.args.self.now in
    let is : c.owned_by.result ≡ owned_by p c.args.thread c.args.reg = c.owned_by.ensures ∙ ap owned_of c.owned.ensures in
    subst (Owns p c.args.thread c.args.reg) (sym is) (owns p c.args.thread c.args.reg c.requires.going)
