use Rattle.std.proofs.Common.{Some, None, sym, ◌∙◌, subst, arith}
use Rattle.pa_buckets.specs.Bands.{fill_of}
use Rattle.pa_buckets.proofs.Facts.{IsRow-of}
use Rattle.pa_record.specs.declared.pool.PoolAct.TheVariants as pool
use Rattle.pa_record.specs.declared.root.RootAct.TheVariants.{Full}
use Rattle.pa_place.specs.Placed.{FillDid, IsStep}
use Rattle.pa_audit_heap.proofs.Rooting.{at_entry, ready_at, plays_by, full_plays, full_misfits}
use Rattle.pa_audit_heap.proofs.replay.Replay.full.Goals as goal

pub fill-requires-clause-some : goal.fill-requires-clause-some
fill-requires-clause-some c = let row = IsRow-of c.args.class c.fill_count.ensures.bound in
    omega (arith, c.fill_count.ensures.count, row.some_fill)

pub fill-requires-clause-few : goal.fill-requires-clause-few
fill-requires-clause-few c = let row = IsRow-of c.args.class c.fill_count.ensures.bound in
    omega (arith, c.fill_count.ensures.count, row.few_fill)

pub fill-requires-clause-entries : goal.fill-requires-clause-entries
fill-requires-clause-entries c =
    let found = c.found_none.ensures.0 c.if-not-found_none.false in
    let at = at_entry c.args.pools.now c.args.self.now.plan.supers c.args.asked
    (pool.Take 1 None) c.play_to.new.self.plan c.requires.pool found c.play_to.ensures.plan in
    let few = c.requires.few in
    omega (arith, at.entries, at.within)

pub fill-requires-clause-born : goal.fill-requires-clause-born
fill-requires-clause-born c =
    let found = c.found_none.ensures.0 c.if-not-found_none.false in
    let at = at_entry c.args.pools.now c.args.self.now.plan.supers c.args.asked
    (pool.Take 1 None) c.play_to.new.self.plan c.requires.pool found c.play_to.ensures.plan in
    ready_at c.args.pools.now c.args.self.now.plan c.play_to.new.self.plan c.args.self.now.root c.play_to.new.self.root c.args.asked
    (pool.Take 1 None) c.requires.step c.requires.ahead at c.play_to.ensures.root

pub returns-clause-plays : goal.returns-clause-plays
returns-clause-plays c =
    let pools = c.args.pools.now in
    let r = c.args.self.now.root in
    let plan = c.play_to.new.self.plan in
    let placed = c.in_ok-placed.placed in
    let found = c.found_none.ensures.0 c.if-not-found_none.false in
    let at = at_entry pools c.args.self.now.plan.supers c.args.asked (pool.Take 1 None) plan c.requires.pool found c.play_to.ensures.plan in
    let did : FillDid c.args.class (fill_of c.args.class) plan c.fill.new.pool r c.fill.new.self placed =
    subst (λ z. FillDid c.args.class (fill_of c.args.class) plan c.fill.new.pool z c.fill.new.self placed) c.play_to.ensures.root
    (subst (λ w. FillDid c.args.class w plan c.fill.new.pool c.play_to.new.self.root c.fill.new.self placed) c.fill_count.ensures.count
    c.in_ok-placed.ensures.filled) in
    let step : IsStep plan.entries c.fill.new.pool.entries r c.fill.new.self =
    subst (λ z. IsStep plan.entries c.fill.new.pool.entries z c.fill.new.self) c.play_to.ensures.root c.fill.ensures.step in
    plays_by pools (Full (Some c.args.class) c.args.asked) c.args.self.now.plan r c.fill.new.pool c.fill.new.self c.is_some.result
    (λ some. full_plays pools c.args.self.now.plan plan c.fill.new.pool r c.fill.new.self c.args.class c.args.asked placed c.requires.step
    c.requires.ahead found at did step (sym c.is_some.ensures ∙ some))
    (λ none. full_misfits pools plan c.fill.new.pool r c.fill.new.self c.args.class c.args.asked placed did (sym c.is_some.ensures ∙ none))
