use Rattle.std.proofs.Common.{arith}
use Rattle.pa_buckets.specs.declared.spans.State.TheVariants as state
use Rattle.pa_buckets.proofs.Facts.{IsRow-of}
use Rattle.pa_shelf.proofs.Totals.{bytes_low, one_low}
use Rattle.pa_shelf.proofs.counts.with_span.Goals as goal

pub overflow_add-result-2 : goal.overflow_add-result-2
overflow_add-result-2 c =
    let (n, few, are) = c.requires.below in let so_far = are.bytes in
    let made = c.requires.small.1 in
    let most = (IsRow-of c.args.span.now.class c.slot_size.ensures.bound).greatest_slot in
    let size = c.slot_size.ensures.size in let as_size = c.from-2.ensures in let as_kept = c.from-kept.ensures in
    let low = bytes_low c.from-2.result c.from-kept.result (omega arith) (omega arith) in
    omega arith

pub overflow_add-result-3 : goal.overflow_add-result-3
overflow_add-result-3 c =
    let (n, few, are) = c.requires.below in let so_far = are.pages in
    let held = c.requires.small.2 in let as_held = c.from-3.ensures in
    omega arith

pub returns-clause-below : goal.returns-clause-below
returns-clause-below c n are =
    let x = c.args.span.now in
    let made = c.requires.small.1 in let held = c.requires.small.2 in
    let most = (IsRow-of x.class c.slot_size.ensures.bound).greatest_slot in
    let size = c.slot_size.ensures.size in let as_size = c.from-2.ensures in let as_kept = c.from-kept.ensures in
    let low = bytes_low c.from-2.result c.from-kept.result (omega arith) (omega arith) in
    record {
      slots = let so_far = are.slots in omega arith;
      bytes = let so_far = are.bytes in omega arith;
      pages = let so_far = are.pages in let as_held = c.from-3.ensures in omega arith;
      full = let so_far = are.full in let e = c.count_of.ensures in let one = one_low state.Full x in omega arith;
      active = let so_far = are.active in let e = c.count_of-2.ensures in let one = one_low state.Active x in omega arith;
      empty = let so_far = are.empty in let e = c.count_of-3.ensures in let one = one_low state.Empty x in omega arith;
      decommitted = let so_far = are.decommitted in let e = c.count_of-4.ensures in let one = one_low state.Decommitted x in omega arith;
    }
