use Rattle.std.proofs.Common.{◌≡◌, ◌*◌, ◌<◌, rules, [], ◌∷◌, ◌++◌, length, sym, ◌∙◌, ap, subst, arith, refl, Some, None}
use Rattle.std.specs.Prelude.{min, ◌-◌}
use Rattle.std.specs.Vec.{vec_capacity}
use Rattle.pa_record.specs.Pool.{PoolState, IsLowest}
use Rattle.pa_record.specs.Numbers.{pool_numbers}
use Rattle.pa_region.specs.declared.view.View.{View}
use Rattle.pa_region.specs.Lists.{list_of}
use Rattle.pa_region.specs.Hands.{CanHand}
use Rattle.pa_region.specs.Lending.{MakesEntry}
use Rattle.pa_pool.specs.Pools.{PoolValue}
use Rattle.pa_pool.specs.Calls.{take_entry, run_parcel, IsAsBefore}
use Rattle.pa_pool.proofs.Runs.{counted}
use Rattle.pa_pool.proofs.NextPool.{plan_follows, taken_so, taken_seen}
use Rattle.pa_pool.proofs.Took.{made_by, took_none, can_part, take_ends}
use Rattle.pa_pool.proofs.pool.Pool.take.Goals as goal

pub take-found-requires-clause-entries : goal.take-found-requires-clause-entries
take-found-requires-clause-entries g c =
    let e = ap (λ (s : PoolState). s.entries) c.self.invariant.1 in
    let n = counted c.self.inside.plan.supers c.self.inside.entries.items in
    let few : length c.self.inside.entries.items < 2147483647 = search rules in
    omega arith

pub hand_run-requires-clause-able : goal.hand_run-requires-clause-able
hand_run-requires-clause-able g c =
    let x = c.self.inside in
    let lowest = subst (λ s. IsLowest s c.args.count (Some c.in-Some.first)) c.self.invariant.1 c.in-Some.ensures.lowest in
    let noted = c.append-index.ensures.noted in
    subst (λ n. CanHand (run_parcel c.in-Some.first c.args.count n) c.append-index.new.host.view) (sym c.append-index.ensures.index)
    (can_part c.args.line c.args.partition c.args.count x.plan.supers x.entries.items x.seat.view c.append-index.new.host.view noted.0
    c.in-Some.first
    c.self.invariant.2 lowest.0 noted.1.hosts)

pub invariant_of-self : goal.invariant_of-self
invariant_of-self g c =
    let x = c.self.inside in
    let found = Some c.in-Some.first in
    let lowest = subst (λ s. IsLowest s c.args.count found) c.self.invariant.1 c.in-Some.ensures.lowest in
    let entry = take_entry c.args.line c.args.partition c.args.count in
    let noted = subst (λ f. MakesEntry 4 (pool_numbers (entry f)) c.args.seat.now c.append-index.new.lender x.seat c.append-index.new.host)
    c.in-Some.is c.append-index.ensures.noted in
    let made = made_by _ (entry found) _ _ x.seat.view c.append-index.new.host.view noted.0 noted.1 c.append-index.ensures.again.1 in
    let ends = take_ends c.args.line c.args.partition c.args.count x.plan.supers x.entries.items x.seat.view c.append-index.new.host.view
    noted.0 c.in-Some.first c.append-index.result
    c.hand_run.new.seat.view c.hand_run.result.view c.hand_run.ensures.left c.hand_run.ensures.given c.append-index.ensures.index
    c.hand_run.ensures.parted c.self.invariant.2 c.requires.count.0 lowest made c.aware.ensures.aware in
    let plan = plan_follows x.plan c.take-found.new.self x.entries.items c.append-index.new.entries.items
    (entry found) c.hand_run.new.seat.view c.self.invariant.1 c.in-Some.ensures.after
    (subst (λ f. c.append-index.new.entries.items ≡ x.entries.items ++ entry f ∷ []) c.in-Some.is c.append-index.ensures.entries) ends.0 in (
      c.hand_run.ensures.regions.0 ∙ (c.append-index.ensures.regions.1 ∙ c.self.invariant.0),
      plan.0,
      plan.1,
      c.self.invariant.3 ∙ ap (λ (s : PoolState). 262144 * s.supers) (sym c.in-Some.ensures.after),
    )

pub invariant_of-self-in-None : goal.invariant_of-self-in-None
invariant_of-self-in-None g c =
    let x = c.self.inside in
    let lowest = subst (λ s. IsLowest s c.args.count None) c.self.invariant.1 c.in-None.ensures.lowest in
    let entry = take_entry c.args.line c.args.partition c.args.count in
    let noted = subst (λ f. MakesEntry 4 (pool_numbers (entry f)) c.args.seat.now c.append-index.new.lender x.seat c.append-index.new.host)
    c.in-None.is c.append-index.ensures.noted in
    let made = made_by _ (entry None) _ _ x.seat.view c.append-index.new.host.view noted.0 noted.1 c.append-index.ensures.again.1 in
    let sound = took_none c.args.line c.args.partition c.args.count x.plan.supers x.entries.items x.seat.view c.append-index.new.host.view
    noted.0 c.self.invariant.2 c.requires.count.0 lowest made in
    let plan = plan_follows x.plan c.take-found.new.self x.entries.items c.append-index.new.entries.items
    (entry None) c.append-index.new.host.view c.self.invariant.1 c.in-None.ensures.after
    (subst (λ f. c.append-index.new.entries.items ≡ x.entries.items ++ entry f ∷ []) c.in-None.is c.append-index.ensures.entries) sound in (
      c.append-index.ensures.regions.1 ∙ c.self.invariant.0,
      plan.0,
      plan.1,
      c.self.invariant.3 ∙ ap (λ (s : PoolState). 262144 * s.supers) (sym c.in-None.ensures.after),
    )

pub returns-in-Some-clause-took : goal.returns-in-Some-clause-took
returns-in-Some-clause-took g c =
    let x = c.self.inside in
    let found = Some c.in-Some.first in
    let lowest = subst (λ s. IsLowest s c.args.count found) c.self.invariant.1 c.in-Some.ensures.lowest in
    let entry = take_entry c.args.line c.args.partition c.args.count in
    let noted = subst (λ f. MakesEntry 4 (pool_numbers (entry f)) c.args.seat.now c.append-index.new.lender x.seat c.append-index.new.host)
    c.in-Some.is c.append-index.ensures.noted in
    let was : PoolValue = record {
      view = x.seat.view;
      entries = x.entries.items;
      supers = x.plan.supers;
      spare = min (vec_capacity x.entries) 2147483647 - length x.entries.items;
    } in
    let now : PoolValue = record {
      view = c.hand_run.new.seat.view;
      entries = c.append-index.new.entries.items;
      supers = c.take-found.new.self.supers;
      spare = min (vec_capacity c.append-index.new.entries) 2147483647 - length c.append-index.new.entries.items;
    } in
    let same = subst (λ y. IsAsBefore c.args.self.now y) (sym {A = PoolValue} c.self.view_is) c.room.ensures.same in
    taken_so c.args.line c.args.partition c.args.count found c.append-index.result c.args.seat.now c.append-index.new.lender
    c.append-index.new.host c.args.self.now was now same c.append-index.ensures.index lowest
    noted.0 noted.1 (subst (λ f. c.append-index.new.entries.items ≡ x.entries.items ++
    entry f ∷ []) c.in-Some.is c.append-index.ensures.entries)
    (ap (λ (s : PoolState). s.supers) c.in-Some.ensures.after) (ap (λ (v : View). list_of 4 v) c.hand_run.ensures.left)

pub returns-in-Some-clause-note : goal.returns-in-Some-clause-note
returns-in-Some-clause-note g c =
    let x = c.self.inside in
    let found = Some c.in-Some.first in
    let lowest = subst (λ s. IsLowest s c.args.count found) c.self.invariant.1 c.in-Some.ensures.lowest in
    let entry = take_entry c.args.line c.args.partition c.args.count in
    let noted = subst (λ f. MakesEntry 4 (pool_numbers (entry f)) c.args.seat.now c.append-index.new.lender x.seat c.append-index.new.host)
    c.in-Some.is c.append-index.ensures.noted in
    let made = made_by _ (entry found) _ _ x.seat.view c.append-index.new.host.view noted.0 noted.1 c.append-index.ensures.again.1 in
    let ends = take_ends c.args.line c.args.partition c.args.count x.plan.supers x.entries.items x.seat.view c.append-index.new.host.view
    noted.0 c.in-Some.first c.append-index.result
    c.hand_run.new.seat.view c.hand_run.result.view c.hand_run.ensures.left c.hand_run.ensures.given c.append-index.ensures.index
    c.hand_run.ensures.parted c.self.invariant.2 c.requires.count.0 lowest made c.aware.ensures.aware in (
      c.hand_run.ensures.regions.1 ∙ (c.append-index.ensures.regions.1 ∙ c.self.invariant.0),
      record { run = ends.1.0; only = ends.1.1; list = ends.2 },
    )

pub returns-in-None-clause-refused : goal.returns-in-None-clause-refused
returns-in-None-clause-refused g c =
    let x = c.self.inside in
    let lowest = subst (λ s. IsLowest s c.args.count None) c.self.invariant.1 c.in-None.ensures.lowest in
    let entry = take_entry c.args.line c.args.partition c.args.count in
    let noted = subst (λ f. MakesEntry 4 (pool_numbers (entry f)) c.args.seat.now c.append-index.new.lender x.seat c.append-index.new.host)
    c.in-None.is c.append-index.ensures.noted in
    let was : PoolValue = record {
      view = x.seat.view;
      entries = x.entries.items;
      supers = x.plan.supers;
      spare = min (vec_capacity x.entries) 2147483647 - length x.entries.items;
    } in
    let now : PoolValue = record {
      view = c.append-index.new.host.view;
      entries = c.append-index.new.entries.items;
      supers = c.take-found.new.self.supers;
      spare = min (vec_capacity c.append-index.new.entries) 2147483647 - length c.append-index.new.entries.items;
    } in
    let same = subst (λ y. IsAsBefore c.args.self.now y) (sym {A = PoolValue} c.self.view_is) c.room.ensures.same in
    taken_so c.args.line c.args.partition c.args.count None c.append-index.result c.args.seat.now c.append-index.new.lender
    c.append-index.new.host c.args.self.now was now same c.append-index.ensures.index lowest
    noted.0 noted.1 (subst (λ f. c.append-index.new.entries.items ≡ x.entries.items ++
    entry f ∷ []) c.in-None.is c.append-index.ensures.entries)
    (ap (λ (s : PoolState). s.supers) c.in-None.ensures.after) refl

pub returns-in-Some-clause-seen : goal.returns-in-Some-clause-seen
returns-in-Some-clause-seen g c =
    let x = c.self.inside in
    let entry = take_entry c.args.line c.args.partition c.args.count in
    let noted = subst (λ f. MakesEntry 4 (pool_numbers (entry f)) c.args.seat.now c.append-index.new.lender x.seat c.append-index.new.host)
    c.in-Some.is c.append-index.ensures.noted in
    taken_seen c.args.line c.args.partition c.args.count c.in-Some.first c.append-index.result x.plan.supers _ x.entries.items _
    c.append-index.new.lender.view x.seat.view c.append-index.new.host.view noted.0
    c.self.invariant.2 noted.1 c.append-index.ensures.index
