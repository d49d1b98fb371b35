use Rattle.std.proofs.Common.{◌<◌, ◌∙◌, ap, subst, rules}
use Rattle.pa_record.specs.Root.{Root}
use Rattle.pa_place.specs.Placed.{IsStep}
use Rattle.pa_place.specs.Store.{AsksWhere}
use Rattle.pa_place.proofs.Refused.{fill_refused}
use Rattle.pa_place.proofs.Keeping.{fills_by, two_steps}
use Rattle.pa_record.specs.Sound.{IsSound}
use Rattle.pa_place.proofs.placement.Placement.fill_into.Goals as goal

pub returns-clause-filled : goal.returns-clause-filled
returns-clause-filled c =
    let e = c.ready.ensures.root ∙ c.self.view_is in
    fills_by c.args.class c.args.want c.args.pool.now c.ask-entry.new.pool c.args.self.now c.ask-entry.new.root.root c.take.new.self.root
    c.take.new.titles.items c.ask-entry.result
    (subst (λ r. AsksWhere c.args.class c.args.pool.now c.ask-entry.new.pool r c.ask-entry.new.root.root c.ask-entry.result) e
    c.ask-entry.ensures.asks)
    c.take.ensures.took

pub returns-clause-empty : goal.returns-clause-empty
returns-clause-empty c =
    let e = c.ready.ensures.root ∙ c.self.view_is in
    let real : c.args.class < 170 = search rules in
    let sound = subst (λ r. IsSound r) c.self.view_is c.is_sound.ensures.sound in
    fill_refused c.args.class c.args.want c.args.pool.now c.ask-entry.new.pool c.args.self.now c.take.new.self.root
    c.take.new.titles.items c.ask-entry.result sound c.requires.born real c.requires.some
    (fills_by c.args.class c.args.want c.args.pool.now c.ask-entry.new.pool c.args.self.now c.ask-entry.new.root.root c.take.new.self.root
    c.take.new.titles.items c.ask-entry.result
    (subst (λ r. AsksWhere c.args.class c.args.pool.now c.ask-entry.new.pool r c.ask-entry.new.root.root c.ask-entry.result) e
    c.ask-entry.ensures.asks)
    c.take.ensures.took)

pub returns-clause-step : goal.returns-clause-step
returns-clause-step c =
    let e = c.ready.ensures.root ∙ c.self.view_is in
    let m = c.ask-entry.new.pool.entries in
    subst (λ r. IsStep c.args.pool.now.entries m r c.take.new.self.root) e
    (two_steps c.args.pool.now.entries m c.ready.new.self.root c.ask-entry.new.root.root c.take.new.self.root c.ask-entry.ensures.step
    c.ask-entry.ensures.turn (c.take.ensures.step m))

pub returns-clause-maps : goal.returns-clause-maps
returns-clause-maps c = c.take.ensures.maps ∙ c.ask-entry.ensures.maps ∙ ap (λ (r : Root). r.maps) (c.ready.ensures.root ∙ c.self.view_is)
