use Rattle.std.proofs.Common.{map, Some, sym, ◌∙◌, ap, subst, arith}
use Rattle.std.proofs.lemmas.Bool.{both_ways}
use Rattle.pa_buckets.specs.Bands.{fill_of}
use Rattle.pa_buckets.proofs.Facts.{IsRow-of}
use Rattle.pa_record.specs.declared.pool.PoolAct.TheVariants as pool
use Rattle.pa_record.specs.declared.root.RootAct.TheVariants.{Fill}
use Rattle.pa_record.specs.Pool.{FoundRun}
use Rattle.pa_record.specs.Spans.{name_of}
use Rattle.pa_place.specs.Placed.{FillDid, IsStep}
use Rattle.pa_audit_heap.proofs.Rooting.{some_is, at_entry, ready_at, plays_by, fill_from_plays, fill_from_misfits}
use Rattle.pa_audit_heap.proofs.replay.Replay.fill_from.Goals as goal

pub fill-requires-clause-some : goal.fill-requires-clause-some
fill-requires-clause-some c = let row = IsRow-of c.args.class c.fill_count.ensures.bound in
    omega (arith, c.fill_count.ensures.count, row.some_fill)

pub fill-requires-clause-few : goal.fill-requires-clause-few
fill-requires-clause-few c = let row = IsRow-of c.args.class c.fill_count.ensures.bound in
    omega (arith, c.fill_count.ensures.count, row.few_fill)

pub fill-requires-clause-entries : goal.fill-requires-clause-entries
fill-requires-clause-entries c =
    let (first, found) = some_is c.found_run.result
    (FoundRun c.args.pools.now c.args.asked 1) c.found_run.ensures.some c.is_none.result c.is_none.ensures c.if-is_none.false in
    let at = at_entry c.args.pools.now c.args.self.now.plan.supers c.args.asked
    (pool.Take 1 (Some first)) c.play_to.new.self.plan c.requires.pool found c.play_to.ensures.plan in
    let few = c.requires.few in
    omega (arith, at.entries, at.within)

pub fill-requires-clause-born : goal.fill-requires-clause-born
fill-requires-clause-born c =
    let (first, found) = some_is c.found_run.result
    (FoundRun c.args.pools.now c.args.asked 1) c.found_run.ensures.some c.is_none.result c.is_none.ensures c.if-is_none.false in
    let at = at_entry c.args.pools.now c.args.self.now.plan.supers c.args.asked
    (pool.Take 1 (Some first)) c.play_to.new.self.plan c.requires.pool found c.play_to.ensures.plan in
    ready_at c.args.pools.now c.args.self.now.plan c.play_to.new.self.plan c.args.self.now.root c.play_to.new.self.root c.args.asked
    (pool.Take 1 (Some first)) c.requires.step c.requires.ahead at c.play_to.ensures.root

pub returns-then-is_some-clause-plays : goal.returns-then-is_some-clause-plays
returns-then-is_some-clause-plays c =
    let pools = c.args.pools.now in
    let r = c.args.self.now.root in
    let plan = c.play_to.new.self.plan in
    let placed = c.in_ok-placed.placed in
    let (first, found) = some_is c.found_run.result
    (FoundRun pools c.args.asked 1) c.found_run.ensures.some c.is_none.result c.is_none.ensures c.if-is_none.false in
    let at = at_entry pools c.args.self.now.plan.supers c.args.asked
    (pool.Take 1 (Some first)) plan c.requires.pool found c.play_to.ensures.plan in
    let did : FillDid c.args.class (fill_of c.args.class) plan c.fill.new.pool r c.fill.new.self placed =
    subst (λ z. FillDid c.args.class (fill_of c.args.class) plan c.fill.new.pool z c.fill.new.self placed) c.play_to.ensures.root
    (subst (λ w. FillDid c.args.class w plan c.fill.new.pool c.play_to.new.self.root c.fill.new.self placed) c.fill_count.ensures.count
    c.in_ok-placed.ensures.filled) in
    let step : IsStep plan.entries c.fill.new.pool.entries r c.fill.new.self =
    subst (λ z. IsStep plan.entries c.fill.new.pool.entries z c.fill.new.self) c.play_to.ensures.root c.fill.ensures.step in
    let same = ap (map name_of) c.as_slice.ensures.value in
    plays_by pools (Fill c.args.class (Some c.args.asked) c.args.slots.now) c.args.self.now.plan r c.fill.new.pool c.fill.new.self
    c.are_named.result
    (λ taken. fill_from_plays pools c.args.self.now.plan plan c.fill.new.pool r c.fill.new.self c.args.class c.args.asked first
    c.args.slots.now placed c.fill_count.ensures.bound
    c.requires.step c.requires.ahead found at did step (sym c.is_some.ensures ∙ c.if-is_some.true) (sym same ∙ c.are_named.ensures.0 taken))
    (λ left. fill_from_misfits pools c.args.self.now.plan.supers plan c.fill.new.pool r c.fill.new.self c.args.class c.args.asked first
    c.args.slots.now placed found at did
    (λ some names. both_ways _ left (c.are_named.ensures.1 (same ∙ names))))

pub returns-else-is_some-clause-plays : goal.returns-else-is_some-clause-plays
returns-else-is_some-clause-plays c =
    let pools = c.args.pools.now in
    let r = c.args.self.now.root in
    let plan = c.play_to.new.self.plan in
    let placed = c.in_ok-placed.placed in
    let (first, found) = some_is c.found_run.result
    (FoundRun pools c.args.asked 1) c.found_run.ensures.some c.is_none.result c.is_none.ensures c.if-is_none.false in
    let at = at_entry pools c.args.self.now.plan.supers c.args.asked
    (pool.Take 1 (Some first)) plan c.requires.pool found c.play_to.ensures.plan in
    let did : FillDid c.args.class (fill_of c.args.class) plan c.fill.new.pool r c.fill.new.self placed =
    subst (λ z. FillDid c.args.class (fill_of c.args.class) plan c.fill.new.pool z c.fill.new.self placed) c.play_to.ensures.root
    (subst (λ w. FillDid c.args.class w plan c.fill.new.pool c.play_to.new.self.root c.fill.new.self placed) c.fill_count.ensures.count
    c.in_ok-placed.ensures.filled) in
    plays_by pools (Fill c.args.class (Some c.args.asked) c.args.slots.now) c.args.self.now.plan r c.fill.new.pool c.fill.new.self
    c.is_some.result
    (λ some. absurd (both_ways _ c.if-is_some.false some))
    (λ left. fill_from_misfits pools c.args.self.now.plan.supers plan c.fill.new.pool r c.fill.new.self c.args.class c.args.asked first
    c.args.slots.now placed found at did
    (λ some names. both_ways _ left (c.is_some.ensures ∙ some)))
