use Rattle.std.proofs.Common.{◌≡◌, ◌+◌, ◌<◌, ◌≤◌, arith, sym, subst, []}
use Rattle.std.specs.Prelude.{IfOk, OnErr}
use Rattle.std.specs.Prelude.{max}
use Rattle.pa_buckets.specs.Classes.{IsClassIn}
use Rattle.pa_direct.specs.Shapes.{greatest_size}
use Rattle.pa_trace.specs.declared.script.Op.TheVariants as ops
use Rattle.pa_op_specs.specs.Stocks.{StockValue, HasNoHandle, register_in, titles_in, listed_slot}
use Rattle.pa_op_specs.specs.Workers.{HasItsStake}
use Rattle.pa_op_specs.specs.Plays.{DoesOp}
use Rattle.pa_heap.specs.Stopping.{AsksRoot}
use Rattle.pa_heap.proofs.Issuing.{issued_made, issued_budget}
use Rattle.pa_heap.proofs.Allocated.{front_issues, front_does}
use Rattle.pa_heap.proofs.allocs.alloc_slot.Goals as goal

pub pop-requires-clause-class : goal.pop-requires-clause-class
pop-requires-clause-class g c = (c.requires.class.1.from, c.requires.class.1.real)

pub issue-requires-clause-stake : goal.issue-requires-clause-stake
issue-requires-clause-stake g c =
    let low : c.args.partition < 4 = let few = c.kept.ensures.stock.partitions in let here = c.requires.partition in omega arith in
    (front_issues c.args.partition c.args.class c.args.reg c.in-Some.title c.args.stock.now c.pop.new.self c.in-Some.ensures low
    (record {
      stock = c.kept.ensures.stock;
      aware = c.kept.ensures.aware;
      stake = c.requires.stake;
      bare = c.requires.none;
      below = c.requires.reg;
      now = c.kept-in-Some.ensures.stock;
      now_aware = c.kept-in-Some.ensures.aware;
    })).stake

pub issue-requires-clause-none : goal.issue-requires-clause-none
issue-requires-clause-none g c =
    let low : c.args.partition < 4 = let few = c.kept.ensures.stock.partitions in let here = c.requires.partition in omega arith in
    (front_issues c.args.partition c.args.class c.args.reg c.in-Some.title c.args.stock.now c.pop.new.self c.in-Some.ensures low
    (record {
      stock = c.kept.ensures.stock;
      aware = c.kept.ensures.aware;
      stake = c.requires.stake;
      bare = c.requires.none;
      below = c.requires.reg;
      now = c.kept-in-Some.ensures.stock;
      now_aware = c.kept-in-Some.ensures.aware;
    })).bare

pub issue-requires-clause-back : goal.issue-requires-clause-back
issue-requires-clause-back g c =
    let low : c.args.partition < 4 = let few = c.kept.ensures.stock.partitions in let here = c.requires.partition in omega arith in
    (front_issues c.args.partition c.args.class c.args.reg c.in-Some.title c.args.stock.now c.pop.new.self c.in-Some.ensures low
    (record {
      stock = c.kept.ensures.stock;
      aware = c.kept.ensures.aware;
      stake = c.requires.stake;
      bare = c.requires.none;
      below = c.requires.reg;
      now = c.kept-in-Some.ensures.stock;
      now_aware = c.kept-in-Some.ensures.aware;
    })).back

pub issue-requires-clause-budget : goal.issue-requires-clause-budget
issue-requires-clause-budget g c =
    let low : c.args.partition < 4 = let few = c.kept.ensures.stock.partitions in let here = c.requires.partition in omega arith in
    let more = (front_issues c.args.partition c.args.class c.args.reg c.in-Some.title c.args.stock.now c.pop.new.self c.in-Some.ensures
    low (record {
      stock = c.kept.ensures.stock;
      aware = c.kept.ensures.aware;
      stake = c.requires.stake;
      bare = c.requires.none;
      below = c.requires.reg;
      now = c.kept-in-Some.ensures.stock;
      now_aware = c.kept-in-Some.ensures.aware;
    })).budget in
    let some = c.requires.budget in
    omega arith

pub returns-in-Some-clause-does : goal.returns-in-Some-clause-does
returns-in-Some-clause-does g c =
    front_does c.counted_steps_leave.ensures c.sealed_steps_leave.ensures
    c.args.line c.args.size c.args.partition c.args.class c.args.reg c.in-Some.title
    c.args.stock.now c.pop.new.self c.issue.new.self c.issue.result
    c.in-Some.ensures c.requires.partition (record {
      stock = c.kept.ensures.stock;
      aware = c.kept.ensures.aware;
      stake = c.requires.stake;
      bare = c.requires.none;
      below = c.requires.reg;
      now = c.kept-in-Some.ensures.stock;
      now_aware = c.kept-in-Some.ensures.aware;
    })
    c.requires.class.0 c.requires.class.1 c.issue.ensures

pub returns-in-Some-clause-budget : goal.returns-in-Some-clause-budget
returns-in-Some-clause-budget g c =
    let low : c.args.partition < 4 = let few = c.kept.ensures.stock.partitions in let here = c.requires.partition in omega arith in
    issued_budget (listed_slot c.args.partition c.args.class c.in-Some.title) c.args.reg c.args.stock.now.view.budget c.issue.result
    c.pop.new.self c.issue.new.self c.issue.ensures
    (front_issues c.args.partition c.args.class c.args.reg c.in-Some.title c.args.stock.now c.pop.new.self c.in-Some.ensures low
    (record {
      stock = c.kept.ensures.stock;
      aware = c.kept.ensures.aware;
      stake = c.requires.stake;
      bare = c.requires.none;
      below = c.requires.reg;
      now = c.kept-in-Some.ensures.stock;
      now_aware = c.kept-in-Some.ensures.aware;
    })).budget

pub alloc_filled-requires-clause-stake : goal.alloc_filled-requires-clause-stake
alloc_filled-requires-clause-stake g c = subst (λ (z : StockValue). HasItsStake z) (sym c.in-None.ensures.0) c.requires.stake

pub alloc_filled-requires-clause-budget : goal.alloc_filled-requires-clause-budget
alloc_filled-requires-clause-budget g c = subst (λ (z : StockValue). 0 < z.view.budget) (sym c.in-None.ensures.0) c.requires.budget

pub alloc_filled-requires-clause-partition : goal.alloc_filled-requires-clause-partition
alloc_filled-requires-clause-partition g c =
    subst (λ (z : StockValue). c.args.partition < z.partitions) (sym c.in-None.ensures.0) c.requires.partition

pub alloc_filled-requires-clause-none : goal.alloc_filled-requires-clause-none
alloc_filled-requires-clause-none g c =
    subst (λ (z : StockValue). HasNoHandle (register_in z.registers c.args.reg)) (sym c.in-None.ensures.0) c.requires.none

pub alloc_filled-requires-clause-class : goal.alloc_filled-requires-clause-class
alloc_filled-requires-clause-class g c =
    subst (λ (z : StockValue). (c.args.size ≤ greatest_size) × IsClassIn z.caches.version (max c.args.size 1 + 8) c.args.class)
    (sym c.in-None.ensures.0)
    c.requires.class

pub alloc_filled-requires-clause-empty : goal.alloc_filled-requires-clause-empty
alloc_filled-requires-clause-empty g c =
    subst (λ (z : StockValue). titles_in z.caches c.args.partition c.args.class ≡ []) (sym c.in-None.ensures.0) c.in-None.ensures.1

pub returns-in-None-clause-does : goal.returns-in-None-clause-does
returns-in-None-clause-does g c =
    subst (λ (z : StockValue). IfOk c.alloc_filled.result (λ a. DoesOp c.args.line (ops.Alloc c.args.reg c.args.partition c.args.size) a z
    c.alloc_filled.new.stock)) c.in-None.ensures.0 c.alloc_filled.ensures.does

pub returns-in-None-clause-budget : goal.returns-in-None-clause-budget
returns-in-None-clause-budget g c =
    subst (λ (z : StockValue). z.view.budget ≤ c.alloc_filled.new.stock.view.budget + 1) c.in-None.ensures.0 c.alloc_filled.ensures.budget

pub returns-in-None-clause-same : goal.returns-in-None-clause-same
returns-in-None-clause-same g c =
    subst (λ (z : StockValue). OnErr c.alloc_filled.result (c.alloc_filled.new.stock ≡ z)) c.in-None.ensures.0 c.alloc_filled.ensures.same

pub returns-in-Some-clause-made : goal.returns-in-Some-clause-made
returns-in-Some-clause-made g c =
    issued_made (listed_slot c.args.partition c.args.class c.in-Some.title) c.args.reg c.issue.result c.pop.new.self c.issue.new.self
    c.issue.ensures c.kept-in-Some.ensures.stock c.requires.reg

pub returns-in-None-clause-asks : goal.returns-in-None-clause-asks
returns-in-None-clause-asks g c =
    subst (λ (z : StockValue). OnErr c.alloc_filled.result (AsksRoot c.args.reg c.args.partition c.args.size z)) c.in-None.ensures.0
    c.alloc_filled.ensures.asks
