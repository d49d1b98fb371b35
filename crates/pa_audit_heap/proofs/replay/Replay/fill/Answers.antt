use Rattle.std.proofs.Common.{◌≡◌, map, not, true, None, sym, ◌∙◌, ap, subst, arith}
use Rattle.std.specs.Prelude.{is_some}
use Rattle.std.proofs.lemmas.Bool.{both_ways}
use Rattle.pa_buckets.specs.Bands.{fill_of}
use Rattle.pa_buckets.proofs.Facts.{IsRow-of}
use Rattle.pa_record.specs.declared.root.RootAct.TheVariants.{Fill}
use Rattle.pa_record.specs.Spans.{name_of}
use Rattle.pa_place.specs.Placed.{FillDid}
use Rattle.pa_audit_heap.proofs.Rooting.{plays_by, fill_plays, fill_misfits}
use Rattle.pa_audit_heap.proofs.replay.Replay.fill.Goals as goal

pub fill-requires-clause-some : goal.fill-requires-clause-some
fill-requires-clause-some c = let row = IsRow-of c.args.class c.fill_count.ensures.bound in
    omega (arith, c.fill_count.ensures.count, row.some_fill)

pub fill-requires-clause-few : goal.fill-requires-clause-few
fill-requires-clause-few c = let row = IsRow-of c.args.class c.fill_count.ensures.bound in
    omega (arith, c.fill_count.ensures.count, row.few_fill)

pub returns-then-is_none-clause-plays : goal.returns-then-is_none-clause-plays
returns-then-is_none-clause-plays c =
    let pools = c.args.pools.now in
    let plan = c.args.self.now.plan in
    let r = c.args.self.now.root in
    let placed = c.in_ok-placed.placed in
    let did : FillDid c.args.class (fill_of c.args.class) plan c.fill.new.pool r c.fill.new.self placed =
    subst (λ w. FillDid c.args.class w plan c.fill.new.pool r c.fill.new.self placed) c.fill_count.ensures.count
    c.in_ok-placed.ensures.filled in
    let same = ap (map name_of) c.as_slice.ensures.value in
    plays_by pools (Fill c.args.class None c.args.slots.now) plan r c.fill.new.pool c.fill.new.self c.are_named.result
    (λ taken. fill_plays pools plan c.fill.new.pool r c.fill.new.self c.args.class c.args.slots.now placed c.fill_count.ensures.bound
    c.requires.step did c.fill.ensures.step
    (c.is_none.ensures ∙ ap not c.if-is_none.true) (sym same ∙ c.are_named.ensures.0 taken))
    (λ left. fill_misfits pools plan c.fill.new.pool r c.fill.new.self c.args.class c.args.slots.now placed did
    (λ none names. both_ways _ left (c.are_named.ensures.1 (same ∙ names))))

pub returns-else-is_none-clause-plays : goal.returns-else-is_none-clause-plays
returns-else-is_none-clause-plays c =
    let pools = c.args.pools.now in
    let plan = c.args.self.now.plan in
    let r = c.args.self.now.root in
    let placed = c.in_ok-placed.placed in
    let did : FillDid c.args.class (fill_of c.args.class) plan c.fill.new.pool r c.fill.new.self placed =
    subst (λ w. FillDid c.args.class w plan c.fill.new.pool r c.fill.new.self placed) c.fill_count.ensures.count
    c.in_ok-placed.ensures.filled in
    let asked : is_some placed.pool ≡ true = c.is_none.ensures ∙ ap not c.if-is_none.false in
    plays_by pools (Fill c.args.class None c.args.slots.now) plan r c.fill.new.pool c.fill.new.self c.is_none.result
    (λ none. absurd (both_ways _ c.if-is_none.false none))
    (λ left. fill_misfits pools plan c.fill.new.pool r c.fill.new.self c.args.class c.args.slots.now placed did
    (λ none names. both_ways _ none asked))
