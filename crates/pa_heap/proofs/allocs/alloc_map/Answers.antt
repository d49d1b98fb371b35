use Rattle.std.proofs.Common.{◌<◌, arith, ℕ, None, ap, subst}
use Rattle.pa_direct.specs.declared.maps.Shape.{Shape}
use Rattle.pa_thread_state.specs.Allocating.{FindsNone}
use Rattle.pa_root.specs.declared.fault.FillFault.{FillFault}
use Rattle.pa_root.specs.declared.fault.FillFault.TheVariants.{Full}
use Rattle.pa_heap.proofs.Issuing.{issued_made, issued_budget}
use Rattle.pa_heap.proofs.Allocated.{map_issues, map_does}
use Rattle.pa_thread_state.proofs.Fetching.{mapped_slot}
use Rattle.pa_heap.proofs.Fulling.{full_map_does}
use Rattle.pa_heap.proofs.Stopped.{map_asks}
use Rattle.pa_heap.proofs.allocs.alloc_map.Goals as goal

pub issue-requires-clause-stake : goal.issue-requires-clause-stake
issue-requires-clause-stake g c =
    let low : c.args.partition < 4 = let few = c.kept.ensures.stock.partitions in let here = c.requires.partition in omega arith in
    (map_issues c.args.line c.args.partition c.in-Some.shape.slot c.args.reg c.in-Ok.title c.args.stock.now c.map_title.new.self
    c.in-Ok.ensures.mapped low (record {
      stock = c.kept.ensures.stock;
      aware = c.kept.ensures.aware;
      stake = c.requires.stake;
      bare = c.requires.none;
      below = c.requires.reg;
      now = c.kept-in-Ok.ensures.stock;
      now_aware = c.kept-in-Ok.ensures.aware;
    })).stake

pub issue-requires-clause-none : goal.issue-requires-clause-none
issue-requires-clause-none g c =
    let low : c.args.partition < 4 = let few = c.kept.ensures.stock.partitions in let here = c.requires.partition in omega arith in
    (map_issues c.args.line c.args.partition c.in-Some.shape.slot c.args.reg c.in-Ok.title c.args.stock.now c.map_title.new.self
    c.in-Ok.ensures.mapped low (record {
      stock = c.kept.ensures.stock;
      aware = c.kept.ensures.aware;
      stake = c.requires.stake;
      bare = c.requires.none;
      below = c.requires.reg;
      now = c.kept-in-Ok.ensures.stock;
      now_aware = c.kept-in-Ok.ensures.aware;
    })).bare

pub issue-requires-clause-back : goal.issue-requires-clause-back
issue-requires-clause-back g c =
    let low : c.args.partition < 4 = let few = c.kept.ensures.stock.partitions in let here = c.requires.partition in omega arith in
    (map_issues c.args.line c.args.partition c.in-Some.shape.slot c.args.reg c.in-Ok.title c.args.stock.now c.map_title.new.self
    c.in-Ok.ensures.mapped low (record {
      stock = c.kept.ensures.stock;
      aware = c.kept.ensures.aware;
      stake = c.requires.stake;
      bare = c.requires.none;
      below = c.requires.reg;
      now = c.kept-in-Ok.ensures.stock;
      now_aware = c.kept-in-Ok.ensures.aware;
    })).back

pub issue-requires-clause-budget : goal.issue-requires-clause-budget
issue-requires-clause-budget g c =
    let low : c.args.partition < 4 = let few = c.kept.ensures.stock.partitions in let here = c.requires.partition in omega arith in
    let more = (map_issues c.args.line c.args.partition c.in-Some.shape.slot c.args.reg c.in-Ok.title c.args.stock.now
    c.map_title.new.self c.in-Ok.ensures.mapped low (record {
      stock = c.kept.ensures.stock;
      aware = c.kept.ensures.aware;
      stake = c.requires.stake;
      bare = c.requires.none;
      below = c.requires.reg;
      now = c.kept-in-Ok.ensures.stock;
      now_aware = c.kept-in-Ok.ensures.aware;
    })).budget in
    let some = c.requires.budget in
    omega arith

pub returns-in-Ok-clause-does : goal.returns-in-Ok-clause-does
returns-in-Ok-clause-does g c =
    map_does c.counted_steps_leave.ensures c.sealed_steps_leave.ensures
    c.args.line c.args.size c.args.partition c.in-Some.shape.slot c.args.reg c.in-Ok.title
    c.args.stock.now c.map_title.new.self c.issue.new.self c.issue.result
    c.in-Ok.ensures.mapped c.requires.partition (record {
      stock = c.kept.ensures.stock;
      aware = c.kept.ensures.aware;
      stake = c.requires.stake;
      bare = c.requires.none;
      below = c.requires.reg;
      now = c.kept-in-Ok.ensures.stock;
      now_aware = c.kept-in-Ok.ensures.aware;
    })
    c.requires.direct (ap (λ (x : Shape). x.slot) c.in-Some.ensures.shape) c.issue.ensures

pub returns-in-Ok-clause-budget : goal.returns-in-Ok-clause-budget
returns-in-Ok-clause-budget g c =
    let low : c.args.partition < 4 = let few = c.kept.ensures.stock.partitions in let here = c.requires.partition in omega arith in
    issued_budget (mapped_slot c.args.partition c.in-Ok.title) c.args.reg c.args.stock.now.view.budget c.issue.result c.map_title.new.self
    c.issue.new.self c.issue.ensures
    (map_issues c.args.line c.args.partition c.in-Some.shape.slot c.args.reg c.in-Ok.title c.args.stock.now c.map_title.new.self
    c.in-Ok.ensures.mapped low (record {
      stock = c.kept.ensures.stock;
      aware = c.kept.ensures.aware;
      stake = c.requires.stake;
      bare = c.requires.none;
      below = c.requires.reg;
      now = c.kept-in-Ok.ensures.stock;
      now_aware = c.kept-in-Ok.ensures.aware;
    })).budget

pub returns-in-Err-Full-clause-does : goal.returns-in-Err-Full-clause-does
returns-in-Err-Full-clause-does g c =
    let shape = ap (λ (x : Shape). x.supers) c.in-Some.ensures.shape in
    full_map_does c.args.line c.args.size c.args.reg c.args.partition c.in-Err-Full.entry c.args.stock.now c.map_title.new.self
    (subst (λ (n : ℕ). FindsNone c.args.line c.args.partition n None c.args.stock.now c.map_title.new.self (Full c.in-Err-Full.entry)) shape
    (subst (λ (f : FillFault). FindsNone c.args.line c.args.partition c.in-Some.shape.supers None c.args.stock.now c.map_title.new.self f)
    c.in-Err-Full.field-0-is c.in-Err-Full.ensures.none))
    c.kept.ensures.stock c.kept.ensures.aware c.kept-in-Err-Full.ensures.aware c.requires.partition c.requires.none c.requires.direct

pub returns-in-Ok-clause-made : goal.returns-in-Ok-clause-made
returns-in-Ok-clause-made g c =
    issued_made (mapped_slot c.args.partition c.in-Ok.title) c.args.reg c.issue.result c.map_title.new.self c.issue.new.self c.issue.ensures
    c.kept-in-Ok.ensures.stock c.requires.reg

pub returns-in-Err-OutOfMemory-clause-asks : goal.returns-in-Err-OutOfMemory-clause-asks
returns-in-Err-OutOfMemory-clause-asks g c =
    map_asks c.args.reg c.args.partition c.args.size c.args.stock.now c.requires.none c.requires.direct
