use Rattle.std.proofs.Common.{◌*◌, ◌<◌, rules, length, sym, ◌∙◌, ap, subst, arith, refl}
use Rattle.std.specs.Prelude.{min, ◌-◌}
use Rattle.std.specs.Vec.{vec_capacity}
use Rattle.std.proofs.lemmas.Option.{get_or_from_slice_get}
use Rattle.pa_record.specs.declared.pool.PoolEntry.{PoolEntry}
use Rattle.pa_record.specs.Pool.{PoolState, IsOneTake}
use Rattle.pa_pool.specs.Pools.{PoolValue}
use Rattle.pa_pool.specs.Calls.{give_entry, IsAsBefore}
use Rattle.pa_pool.proofs.Runs.{counted, out_below}
use Rattle.pa_pool.proofs.NextPool.{plan_follows}
use Rattle.pa_pool.proofs.Gave.{is_out, at_taken, run_found, out_take, give_ends, given_so}
use Rattle.pa_pool.proofs.pool.Pool.give.Goals as goal

pub index-requires : goal.index-requires
index-requires g c =
    let x = c.self.inside in
    let run = c.requires.back.2.run in
    let out = is_out x.plan.supers c.args.taken x.entries.items x.seat.view c.args.note.view c.take.new.seat.view c.self.invariant.2
    c.aware-2.ensures.aware c.take.ensures.parted (run.leases c.args.taken) in
    let below = out_below x.plan.supers x.entries.items c.args.taken c.self.invariant.2.pool out in
    search rules

pub run_of-first-requires : goal.run_of-first-requires
run_of-first-requires g c =
    let x = c.self.inside in
    let run = c.requires.back.2.run in
    let out = is_out x.plan.supers c.args.taken x.entries.items x.seat.view c.args.note.view c.take.new.seat.view c.self.invariant.2
    c.aware-2.ensures.aware c.take.ensures.parted (run.leases c.args.taken) in
    let e = at_taken x.plan.supers c.args.taken x.entries.items x.seat.view c.self.invariant.2 out in (
      out.0.count,
      out.0.first,
      ap (λ (y : PoolEntry). y.act) (c.index.ensures ∙ get_or_from_slice_get x.entries.items c.args.taken e.0 c.index.result.now e.1) ∙
          e.2,
    )

pub give-requires-clause-one_take : goal.give-requires-clause-one_take
give-requires-clause-one_take g c =
    let x = c.self.inside in
    let run = c.requires.back.2.run in
    let out = is_out x.plan.supers c.args.taken x.entries.items x.seat.view c.args.note.view c.take.new.seat.view c.self.invariant.2
    c.aware-2.ensures.aware c.take.ensures.parted (run.leases c.args.taken) in
    let first = c.run_of-first.result.0 in
    let count = c.run_of-first.result.1 in
    let found = run_found x.plan.supers c.args.taken first count x.entries.items x.seat.view c.index.result.now c.self.invariant.2 out
    c.index.ensures c.run_of-first.ensures in (
      out.0,
      subst (λ s. IsOneTake s first count out.0) (sym c.self.invariant.1)
          (out_take x.plan.supers c.args.taken first count x.entries.items x.seat.view c.self.invariant.2 out found),
    )

pub give-requires-clause-entries : goal.give-requires-clause-entries
give-requires-clause-entries g c =
    let e = ap (λ (s : PoolState). s.entries) c.self.invariant.1 in
    let n = counted c.self.inside.plan.supers c.self.inside.entries.items in
    let few : length c.self.inside.entries.items < 2147483647 = search rules in
    omega arith

pub invariant_of-self : goal.invariant_of-self
invariant_of-self g c =
    let x = c.self.inside in
    let run = c.requires.back.2.run in
    let out = is_out x.plan.supers c.args.taken x.entries.items x.seat.view c.args.note.view c.take.new.seat.view c.self.invariant.2
    c.aware-2.ensures.aware c.take.ensures.parted (run.leases c.args.taken) in
    let first = c.run_of-first.result.0 in
    let count = c.run_of-first.result.1 in
    let found = run_found x.plan.supers c.args.taken first count x.entries.items x.seat.view c.index.result.now c.self.invariant.2 out
    c.index.ensures c.run_of-first.ensures in
    let entry = give_entry c.args.line c.args.partition count first in
    let noted = c.append.ensures.noted in
    let ends = give_ends c.args.line c.args.partition x.plan.supers c.args.taken first count c.requires.back.0 c.requires.back.1 _
    x.entries.items x.seat.view c.args.note.view
    c.take.new.seat.view c.append.new.host.view c.args.seat.now.view c.append.new.lender.view noted.0 c.self.invariant.2
    c.aware.ensures.aware c.aware-2.ensures.aware c.take.ensures.view c.take.ensures.parted
    c.requires.back.2 found noted.1 c.append.ensures.again.1 in
    let plan = plan_follows x.plan c.give.new.self x.entries.items c.append.new.entries.items entry c.append.new.host.view
    c.self.invariant.1 c.give.ensures c.append.ensures.entries ends.0 in (
      c.append.ensures.regions.1 ∙ (c.take.ensures.region ∙ c.self.invariant.0),
      plan.0,
      plan.1,
      c.self.invariant.3 ∙ ap (λ (s : PoolState). 262144 * s.supers) (sym c.give.ensures),
    )

pub returns-clause-gave : goal.returns-clause-gave
returns-clause-gave g c from of back =
    let x = c.self.inside in
    let run = c.requires.back.2.run in
    let out = is_out x.plan.supers c.args.taken x.entries.items x.seat.view c.args.note.view c.take.new.seat.view c.self.invariant.2
    c.aware-2.ensures.aware c.take.ensures.parted (run.leases c.args.taken) in
    let first = c.run_of-first.result.0 in
    let count = c.run_of-first.result.1 in
    let found = run_found x.plan.supers c.args.taken first count x.entries.items x.seat.view c.index.result.now c.self.invariant.2 out
    c.index.ensures c.run_of-first.ensures in
    let noted = c.append.ensures.noted in
    let ends = give_ends c.args.line c.args.partition x.plan.supers c.args.taken first count from of _ x.entries.items x.seat.view
    c.args.note.view
    c.take.new.seat.view c.append.new.host.view c.args.seat.now.view c.append.new.lender.view noted.0 c.self.invariant.2
    c.aware.ensures.aware c.aware-2.ensures.aware c.take.ensures.view c.take.ensures.parted
    back found noted.1 c.append.ensures.again.1 in
    let was : PoolValue = record {
      view = x.seat.view;
      entries = x.entries.items;
      supers = x.plan.supers;
      spare = min (vec_capacity x.entries) 2147483647 - length x.entries.items;
    } in
    let now : PoolValue = record {
      view = c.append.new.host.view;
      entries = c.append.new.entries.items;
      supers = c.give.new.self.supers;
      spare = min (vec_capacity c.append.new.entries) 2147483647 - length c.append.new.entries.items;
    } in
    let same = subst (λ y. IsAsBefore c.args.self.now y) (sym {A = PoolValue} c.self.view_is) c.room.ensures.same in
    given_so c.args.line c.args.partition c.args.taken first count from of c.append.result c.take.new.seat.view c.args.seat.now
    c.append.new.lender c.append.new.host
    c.args.self.now was now noted.0 same c.append.ensures.index found ends.2.0 ends.2.1 noted.1 ends.1 c.append.ensures.entries
    (ap (λ (s : PoolState). s.supers) c.give.ensures) refl
