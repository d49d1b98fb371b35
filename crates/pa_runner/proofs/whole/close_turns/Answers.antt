use Rattle.std.proofs.Common.{◌≡◌, ℕ, List, length, refl, sym, ap, subst, arith}
use Rattle.pa_record.specs.declared.root.RootEntry.{RootEntry}
use Rattle.pa_heap.specs.Closing.{IsClosedBy}
use Rattle.pa_runner.specs.Merging.{IsMergeOf}
use Rattle.pa_runner.proofs.Gone.{entries_of, are_merged_in, lines_within, seat_has, have_told}
use Rattle.pa_runner.proofs.whole.close_turns.Goals as goal

pub merge_records-requires-clause-threads : goal.merge_records-requires-clause-threads
merge_records-requires-clause-threads g c =
    let t = c.args.trace.now in
    let (way, gone) = c.requires.gone in (
      t.partitions,
      lines_within way t c.args.workers.items c.args.seat.view c.args.report.items c.requires.limits gone c.as_slice.result.now
          c.as_slice-2.result.now c.as_slice.ensures c.as_slice-2.ensures.value,
    )

pub merge_records-requires-clause-whole : goal.merge_records-requires-clause-whole
merge_records-requires-clause-whole g c =
    let t = c.args.trace.now in
    let (way, gone) = c.requires.gone in (
      entries_of way t gone.course,
      are_merged_in way t c.args.workers.items c.args.seat.view c.args.report.items c.requires.limits gone c.as_slice.result.now
          c.as_slice-2.result.now c.as_slice.ensures c.as_slice-2.ensures.value,
    )

pub close-roots-requires-clause-stakes : goal.close-roots-requires-clause-stakes
close-roots-requires-clause-stakes g c =
    let (way, gone) = c.requires.gone in
    seat_has way c.args.trace.now c.args.workers.items c.args.seat.view c.args.report.items c.requires.limits gone

pub close-roots-requires-clause-told : goal.close-roots-requires-clause-told
close-roots-requires-clause-told g c =
    let (way, gone) = c.requires.gone in
    have_told way c.args.trace.now c.args.workers.items c.args.seat.view c.args.report.items c.requires.limits gone

pub returns : goal.returns
returns g c =
    let t = c.args.trace.now in
    let left = c.close-roots.result in
    let same : c.in_ok-roots.roots.items ≡ left.roots = c.in_ok-roots.ensures.items in
    record {
      left = left;
      closed = subst (λ (words : ℕ). IsClosedBy words c.args.workers.items c.args.seat.view left) c.requires.long c.close-roots.ensures;
      count =
          let e = ap (λ (js : List (List RootEntry)). length js) same in
          let l = c.in_ok-roots.ensures.len in
          let k = c.in_ok-roots.roots.ok in
          omega arith;
      entries = λ es merge.
          c.in_ok-entries.ensures es
          (subst (λ ls. IsMergeOf ls c.as_slice-2.result.now es) (sym c.as_slice.ensures)
          (subst (λ ws. IsMergeOf t.lines ws es) (sym c.as_slice-2.ensures.value) merge));
      roots = same;
      pool = refl;
      cells = refl;
      report_is = refl;
      words_are = refl;
    }
