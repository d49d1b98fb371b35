use Rattle.std.proofs.Common.{[], sym, ap, ◌∙◌, subst, arith}
use Rattle.pa_slot.proofs.Outcomes.{any_err}
use Rattle.pa_buckets.specs.Limits.{first_class}
use Rattle.pa_rules.specs.Sizes.{class_total}
use Rattle.pa_player.specs.Player.{Player}
use Rattle.pa_player.specs.Told.{told_before}
use Rattle.pa_player.specs.Asks.{CanGive}
use Rattle.pa_player.proofs.Purging.{given_all_can}
use Rattle.pa_player.proofs.Settling.{given_settled}
use Rattle.pa_player.proofs.purge.Player+Told+O.purge_one.Goals as goal

pub purge-requires-clause-among : goal.purge-requires-clause-among
purge-requires-clause-among g c =
    (subst (CanGive c.args.partition []) (sym c.in_ok-slots.ensures.given)
    (given_all_can c.args.thread c.args.partition c.args.self.now (grind (arith, c.requires.gives.four)) c.requires.gives)).root

pub purge-requires-clause-turn : goal.purge-requires-clause-turn
purge-requires-clause-turn g c =
    let can = subst (CanGive c.args.partition []) (sym c.in_ok-slots.ensures.given)
    (given_all_can c.args.thread c.args.partition c.args.self.now (grind (arith, c.requires.gives.four)) c.requires.gives) in
    let turn = can.turn in
    omega arith

pub root-requires-clause-partition : goal.root-requires-clause-partition
root-requires-clause-partition g c =
    (subst (CanGive c.args.partition []) (sym c.in_ok-slots.ensures.given)
    (given_all_can c.args.thread c.args.partition c.args.self.now (grind (arith, c.requires.gives.four)) c.requires.gives)).journal

pub root-requires-clause-few : goal.root-requires-clause-few
root-requires-clause-few g c =
    let can = subst (CanGive c.args.partition []) (sym c.in_ok-slots.ensures.given)
    (given_all_can c.args.thread c.args.partition c.args.self.now (grind (arith, c.requires.gives.four)) c.requires.gives) in
    let few = can.few in
    omega arith

pub returns-in_err-root-clause-same : goal.returns-in_err-root-clause-same
returns-in_err-root-clause-same g c =
    any_err _ _ (ap told_before c.in_err-root.ensures.same ∙ ap (λ (z : Player). told_before z.told) c.in_ok-slots.ensures.given
    ∙ given_settled c.args.thread c.args.partition (first_class c.args.self.now.version) (class_total c.args.self.now.version)
    c.args.self.now)
