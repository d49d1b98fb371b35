use Rattle.std.proofs.Common.{◌≡◌, Some, subst, arith}
use Rattle.pa_layout.specs.Pages.{supers_for, page_place}
use Rattle.pa_record.specs.declared.pool.PoolAct.TheVariants as pool
use Rattle.pa_record.specs.Pool.{FoundRun}
use Rattle.pa_place.specs.Placed.{MapDid, IsStep}
use Rattle.pa_audit_heap.proofs.Rooting.{at_entry, ready_at, map_plays}
use Rattle.pa_audit_heap.proofs.replay.Replay.map.Goals as goal

pub map-requires-clause-entries : goal.map-requires-clause-entries
map-requires-clause-entries c =
    let few = c.requires.few in
    let at = at_entry c.args.pools.now c.args.self.now.plan.supers c.args.asked
    (pool.Take c.supers_for-supers.result (Some c.in-Some.first)) c.play_to.new.self.plan c.requires.pool c.in-Some.ensures.some
    c.play_to.ensures.plan in
    omega (arith, at.entries, at.within)

pub map-requires-clause-born : goal.map-requires-clause-born
map-requires-clause-born c =
    let a = pool.Take c.supers_for-supers.result (Some c.in-Some.first) in
    let at = at_entry c.args.pools.now c.args.self.now.plan.supers c.args.asked a c.play_to.new.self.plan c.requires.pool
    c.in-Some.ensures.some c.play_to.ensures.plan in
    ready_at c.args.pools.now c.args.self.now.plan c.play_to.new.self.plan c.args.self.now.root c.play_to.new.self.root c.args.asked a
    c.requires.step c.requires.ahead at c.play_to.ensures.root

pub returns-clause-plays : goal.returns-clause-plays
returns-clause-plays c =
    let pools = c.args.pools.now in
    let r = c.args.self.now.root in
    let plan0 = c.args.self.now.plan in
    let plan = c.play_to.new.self.plan in
    let placed = c.in_ok-map.field-0 in
    let first = c.in-Some.first in
    let found : FoundRun pools c.args.asked (supers_for c.args.len) first =
    subst (λ n. FoundRun pools c.args.asked n first) c.supers_for-supers.ensures.supers c.in-Some.ensures.some in
    let at = at_entry pools plan0.supers c.args.asked
    (pool.Take (supers_for c.args.len) (Some first)) plan c.requires.pool found c.play_to.ensures.plan in
    let did : MapDid c.args.len plan c.map.new.pool r c.map.new.self placed =
    subst (λ z. MapDid c.args.len plan c.map.new.pool z c.map.new.self placed) c.play_to.ensures.root c.in_ok-map.ensures.mapped in
    let step : IsStep plan.entries c.map.new.pool.entries r c.map.new.self =
    subst (λ z. IsStep plan.entries c.map.new.pool.entries z c.map.new.self) c.play_to.ensures.root c.map.ensures.step in
    let start : c.args.slot.start ≡ page_place first 1 = omega (arith, c.if-from-start.false, c.from.ensures, c.from-2.ensures) in
    map_plays pools plan0 plan c.map.new.pool r c.map.new.self c.args.asked first c.args.len c.args.slot placed c.requires.step
    c.requires.ahead found at start c.if-slot-asked.false did step
