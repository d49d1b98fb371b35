use Rattle.std.proofs.Common.{◌≡◌, ◌+◌, sym, ◌∙◌, ap, subst}
use Rattle.pa_record.specs.Pool.{PoolState}
use Rattle.pa_place.specs.Placed.{IsStep, mapped_by}
use Rattle.pa_place.proofs.Keeping.{entries_after}
use Rattle.pa_place.proofs.Refused.{map_refused}
use Rattle.pa_place.proofs.placement.Placement.map.Goals as goal

pub returns-clause-empty : goal.returns-clause-empty
returns-clause-empty c =
    let e = c.ready_map.ensures.root ∙ c.self.view_is in
    map_refused c.args.slot c.args.supers c.entries-entry.result c.take-found.result c.args.pool.now c.args.self.now
    c.map_found-titles.new.root.root c.map_found-titles.result.items
    c.entries-entry.ensures c.take-found.ensures.lowest
    (sym (ap (mapped_by c.args.slot c.entries-entry.result c.take-found.result) e) ∙ c.map_found-titles.ensures.mapped)

pub returns-clause-step : goal.returns-clause-step
returns-clause-step c =
    let e = c.ready_map.ensures.root ∙ c.self.view_is in
    let n = c.entries-entry.ensures in
    let after = c.map_found-titles.new.root.root in
    let m : c.entries-entry.result + 1 ≡ c.take-found.new.self.entries =
    ap (λ k. k + 1) n ∙ sym (ap (λ (p : PoolState). p.entries) c.take-found.ensures.after ∙
    entries_after c.args.supers c.take-found.result c.args.pool.now) in
    subst (λ r. IsStep c.args.pool.now.entries c.take-found.new.self.entries r after) e
    (subst (λ k. IsStep k c.take-found.new.self.entries c.ready_map.new.self.root after) n
    (subst (λ k. IsStep c.entries-entry.result k c.ready_map.new.self.root after) m c.map_found-titles.ensures.step))
