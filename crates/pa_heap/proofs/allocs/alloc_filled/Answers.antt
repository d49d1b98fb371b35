use Rattle.std.proofs.Common.{◌+◌, ◌<◌, arith, ℕ, Some, sym, subst}
use Rattle.pa_trace.specs.declared.script.Op.TheVariants as ops
use Rattle.pa_op_specs.specs.Stocks.{listed_slot}
use Rattle.pa_thread_state.specs.Allocating.{FindsNone}
use Rattle.pa_op_specs.specs.Plays.{DoesOp}
use Rattle.pa_record.specs.declared.entry.Answer.TheVariants as answers
use Rattle.pa_root.specs.declared.fault.FillFault.{FillFault}
use Rattle.pa_region.specs.Views.{free_of, own_of, ref_of}
use Rattle.pa_heap.proofs.Issuing.{issued_made, issued_budget}
use Rattle.pa_heap.proofs.Allocated.{fill_issues, fill_does}
use Rattle.pa_heap.proofs.Fulling.{full_class_does}
use Rattle.pa_heap.proofs.Stopped.{class_asks}
use Rattle.pa_heap.proofs.allocs.alloc_filled.Goals as goal

pub fill_list-requires-clause-class : goal.fill_list-requires-clause-class
fill_list-requires-clause-class g c = (c.requires.class.1.from, c.requires.class.1.real)

pub issue-requires-clause-stake : goal.issue-requires-clause-stake
issue-requires-clause-stake g c =
    let low : c.args.partition < 4 = let few = c.kept.ensures.stock.partitions in let here = c.requires.partition in omega arith in
    (fill_issues c.args.line c.args.partition c.args.class c.args.reg c.in-Ok.title c.args.stock.now c.fill_list.new.self
    c.in-Ok.ensures.filled low (record {
      stock = c.kept.ensures.stock;
      aware = c.kept.ensures.aware;
      stake = c.requires.stake;
      bare = c.requires.none;
      below = c.requires.reg;
      now = c.kept-in-Ok.ensures.stock;
      now_aware = c.kept-in-Ok.ensures.aware;
    })).stake

pub issue-requires-clause-none : goal.issue-requires-clause-none
issue-requires-clause-none g c =
    let low : c.args.partition < 4 = let few = c.kept.ensures.stock.partitions in let here = c.requires.partition in omega arith in
    (fill_issues c.args.line c.args.partition c.args.class c.args.reg c.in-Ok.title c.args.stock.now c.fill_list.new.self
    c.in-Ok.ensures.filled low (record {
      stock = c.kept.ensures.stock;
      aware = c.kept.ensures.aware;
      stake = c.requires.stake;
      bare = c.requires.none;
      below = c.requires.reg;
      now = c.kept-in-Ok.ensures.stock;
      now_aware = c.kept-in-Ok.ensures.aware;
    })).bare

pub issue-requires-clause-back : goal.issue-requires-clause-back
issue-requires-clause-back g c =
    let low : c.args.partition < 4 = let few = c.kept.ensures.stock.partitions in let here = c.requires.partition in omega arith in
    (fill_issues c.args.line c.args.partition c.args.class c.args.reg c.in-Ok.title c.args.stock.now c.fill_list.new.self
    c.in-Ok.ensures.filled low (record {
      stock = c.kept.ensures.stock;
      aware = c.kept.ensures.aware;
      stake = c.requires.stake;
      bare = c.requires.none;
      below = c.requires.reg;
      now = c.kept-in-Ok.ensures.stock;
      now_aware = c.kept-in-Ok.ensures.aware;
    })).back

pub issue-requires-clause-budget : goal.issue-requires-clause-budget
issue-requires-clause-budget g c =
    let low : c.args.partition < 4 = let few = c.kept.ensures.stock.partitions in let here = c.requires.partition in omega arith in
    let more = (fill_issues c.args.line c.args.partition c.args.class c.args.reg c.in-Ok.title c.args.stock.now c.fill_list.new.self
    c.in-Ok.ensures.filled low (record {
      stock = c.kept.ensures.stock;
      aware = c.kept.ensures.aware;
      stake = c.requires.stake;
      bare = c.requires.none;
      below = c.requires.reg;
      now = c.kept-in-Ok.ensures.stock;
      now_aware = c.kept-in-Ok.ensures.aware;
    })).budget in
    let some = c.requires.budget in
    omega arith

pub returns-in-Ok-clause-does : goal.returns-in-Ok-clause-does
returns-in-Ok-clause-does g c =
    fill_does c.counted_steps_leave.ensures c.sealed_steps_leave.ensures
    c.args.line c.args.size c.args.partition c.args.class c.args.reg _ c.in-Ok.title
    c.args.stock.now c.fill_list.new.self c.issue.new.self c.issue.result
    c.in-Ok.ensures.filled c.requires.partition (record {
      stock = c.kept.ensures.stock;
      aware = c.kept.ensures.aware;
      stake = c.requires.stake;
      bare = c.requires.none;
      below = c.requires.reg;
      now = c.kept-in-Ok.ensures.stock;
      now_aware = c.kept-in-Ok.ensures.aware;
    })
    c.requires.class.0 c.requires.class.1 c.lies.ensures c.issue.ensures

pub returns-in-Ok-clause-budget : goal.returns-in-Ok-clause-budget
returns-in-Ok-clause-budget g c =
    let low : c.args.partition < 4 = let few = c.kept.ensures.stock.partitions in let here = c.requires.partition in omega arith in
    issued_budget (listed_slot c.args.partition c.args.class c.in-Ok.title) c.args.reg c.args.stock.now.view.budget c.issue.result
    c.fill_list.new.self c.issue.new.self c.issue.ensures
    (fill_issues c.args.line c.args.partition c.args.class c.args.reg c.in-Ok.title c.args.stock.now c.fill_list.new.self
    c.in-Ok.ensures.filled low (record {
      stock = c.kept.ensures.stock;
      aware = c.kept.ensures.aware;
      stake = c.requires.stake;
      bare = c.requires.none;
      below = c.requires.reg;
      now = c.kept-in-Ok.ensures.stock;
      now_aware = c.kept-in-Ok.ensures.aware;
    })).budget

pub lies-requires : goal.lies-requires
lies-requires g c =
    let low : c.args.partition < 4 = let few = c.kept.ensures.stock.partitions in let here = c.requires.partition in omega arith in
    let t = c.in-Ok.title in
    let can = fill_issues c.args.line c.args.partition c.args.class c.args.reg t c.args.stock.now c.fill_list.new.self
    c.in-Ok.ensures.filled low (record {
      stock = c.kept.ensures.stock;
      aware = c.kept.ensures.aware;
      stake = c.requires.stake;
      bare = c.requires.none;
      below = c.requires.reg;
      now = c.kept-in-Ok.ensures.stock;
      now_aware = c.kept-in-Ok.ensures.aware;
    }) in
    let free : 0 < free_of c.fill_list.new.self.view t = can.back.free in
    let has : 0 < free_of c.fill_list.new.self.view t + own_of c.fill_list.new.self.view t +
    ref_of c.fill_list.new.self.view t = omega arith in
    has

pub returns-in-Err-Full-clause-does : goal.returns-in-Err-Full-clause-does
returns-in-Err-Full-clause-does g c =
    subst (λ (n : ℕ). DoesOp c.args.line (ops.Alloc c.args.reg c.args.partition c.args.size)
    (answers.Full n) c.args.stock.now c.fill_list.new.self) (sym c.in-Err-Full.entry-is)
    (full_class_does c.args.line c.args.size c.args.reg c.args.partition c.in-Err-Full.entry c.args.class c.args.stock.now
    c.fill_list.new.self
    (subst (λ (f : FillFault). FindsNone c.args.line c.args.partition 1 (Some c.args.class) c.args.stock.now c.fill_list.new.self f)
    c.in-Err-Full.field-0-is c.in-Err-Full.ensures.none)
    c.kept.ensures.stock c.kept.ensures.aware c.kept-in-Err-Full.ensures.aware c.requires.partition c.requires.none c.requires.class.0
    c.requires.class.1 c.requires.empty)

pub returns-in-Ok-clause-made : goal.returns-in-Ok-clause-made
returns-in-Ok-clause-made g c =
    issued_made (listed_slot c.args.partition c.args.class c.in-Ok.title) c.args.reg c.issue.result c.fill_list.new.self c.issue.new.self
    c.issue.ensures c.kept-in-Ok.ensures.stock c.requires.reg

pub returns-in-Err-OutOfMemory-clause-asks : goal.returns-in-Err-OutOfMemory-clause-asks
returns-in-Err-OutOfMemory-clause-asks g c =
    class_asks c.args.reg c.args.partition c.args.size c.args.class c.args.stock.now c.requires.none c.requires.class.0 c.requires.class.1
    c.requires.empty
