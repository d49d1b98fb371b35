use Rattle.std.proofs.Common.{◌≡◌, sym, ◌∙◌, ap, subst, arith}
use Rattle.std.proofs.lemmas.Bool.{both_ways}
use Rattle.pa_layout.specs.Pages.{supers_for, super_page_at, page_place}
use Rattle.pa_record.specs.declared.pool.PoolAct.TheVariants as pool
use Rattle.pa_record.specs.Pool.{GaveRun}
use Rattle.pa_record.specs.Root.{unmapped}
use Rattle.pa_place.specs.Placed.{IsStep}
use Rattle.pa_audit_heap.proofs.Rooting.{at_entry, unmap_plays, unmap_misfits, unmap_none}
use Rattle.pa_audit_heap.proofs.replay.Replay.unmap.Goals as goal
use Rattle.pa_record.proofs.Calling.{act_low}

pub returns-in_default : goal.returns-in_default
returns-in_default c = unmap_none c.args.pools.now c.args.self.now.root c.args.asked c.args.slot c.in_default.ensures.none

pub returns-then-title-ne16384 : goal.returns-then-title-ne16384
returns-then-title-ne16384 c =
    let found = c.in-Some.ensures.some in
    let other = c.if-title-ne16384.true in
    unmap_misfits c.args.pools.now c.args.self.now.root c.args.asked c.args.slot c.in-Some.title c.in-Some.ensures.sound found.0 found.1
    (λ start gave. omega (arith, other, start))

pub returns-then-not-gave_run : goal.returns-then-not-gave_run
returns-then-not-gave_run c =
    let found = c.in-Some.ensures.some in
    unmap_misfits c.args.pools.now c.args.self.now.root c.args.asked c.args.slot c.in-Some.title c.in-Some.ensures.sound found.0 found.1
    (λ start gave. both_ways _ c.if-not-gave_run.true (c.gave_run.ensures.1
    (subst (λ n. GaveRun c.args.pools.now c.args.asked n c.super_page_of-first.result) (sym c.supers_for.ensures.supers)
    (subst (λ n. GaveRun c.args.pools.now c.args.asked (supers_for c.in-Some.title.len) n) (sym c.super_page_of-first.ensures.page) gave))))

pub play_to-requires-clause-within : goal.play_to-requires-clause-within
play_to-requires-clause-within c =
    let gave = c.gave_run.ensures.0 c.if-not-gave_run.false in
    let within = act_low c.args.pools.now c.args.asked (pool.Give c.supers_for.result c.super_page_of-first.result) gave in
    omega arith

pub unmap-requires-clause-one_take : goal.unmap-requires-clause-one_take
unmap-requires-clause-one_take c =
    let gave = subst (λ n. GaveRun c.args.pools.now c.args.asked (supers_for c.in-Some.title.len) n) c.super_page_of-first.ensures.page
    (subst (λ n. GaveRun c.args.pools.now c.args.asked n c.super_page_of-first.result) c.supers_for.ensures.supers
    (c.gave_run.ensures.0 c.if-not-gave_run.false)) in
    let at = at_entry c.args.pools.now c.args.self.now.plan.supers c.args.asked
    (pool.Give (supers_for c.in-Some.title.len) (super_page_at c.in-Some.title.start)) c.play_to.new.self.plan
    c.requires.pool gave c.play_to.ensures.plan in
    (at.fits.0, at.fits.1)

pub unmap-requires-clause-entries : goal.unmap-requires-clause-entries
unmap-requires-clause-entries c =
    let few = c.requires.few in
    let a = pool.Give c.supers_for.result c.super_page_of-first.result in
    let at = at_entry c.args.pools.now c.args.self.now.plan.supers c.args.asked a c.play_to.new.self.plan c.requires.pool
    (c.gave_run.ensures.0 c.if-not-gave_run.false) c.play_to.ensures.plan in
    omega (arith, at.entries, at.within)

pub returns : goal.returns
returns c =
    let pools = c.args.pools.now in
    let r = c.args.self.now.root in
    let plan0 = c.args.self.now.plan in
    let plan = c.play_to.new.self.plan in
    let t = c.in-Some.title in
    let found = c.in-Some.ensures.some in
    let gave = subst (λ n. GaveRun pools c.args.asked (supers_for t.len) n) c.super_page_of-first.ensures.page
    (subst (λ n. GaveRun pools c.args.asked n c.super_page_of-first.result) c.supers_for.ensures.supers
    (c.gave_run.ensures.0 c.if-not-gave_run.false)) in
    let at = at_entry pools plan0.supers c.args.asked
    (pool.Give (supers_for t.len) (super_page_at t.start)) plan c.requires.pool gave c.play_to.ensures.plan in
    let start : t.start ≡ page_place (super_page_at t.start) 1 = omega (arith, c.if-title-ne16384.false) in
    let after_is =
    c.unmap.ensures.unmapped ∙ ap (λ name. unmapped name c.play_to.new.self.root) found.1 ∙
    ap (unmapped c.args.slot.slot) c.play_to.ensures.root in
    let step : IsStep plan.entries c.unmap.new.pool.entries r c.unmap.new.self = subst
    (λ z. IsStep plan.entries c.unmap.new.pool.entries z c.unmap.new.self) c.play_to.ensures.root c.unmap.ensures.step in
    unmap_plays pools plan0 plan c.unmap.new.pool r c.unmap.new.self c.args.asked c.args.slot t c.requires.step c.requires.ahead found.0
    found.1 start gave at c.unmap.ensures.pool after_is step
