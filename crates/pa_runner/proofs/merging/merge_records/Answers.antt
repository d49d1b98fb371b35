use Rattle.std.proofs.Common.{rules, ◌<◌, length, refl, ◌∙◌, ap, slice_index_or}
use Rattle.std.specs.Prelude.{Vec}
use Rattle.std.specs.declared.alloc.Global.{Global}
use Rattle.std.proofs.lemmas.List.{length-set}
use Rattle.pa_record.specs.declared.entry.Entry.{Entry}
use Rattle.pa_runner.proofs.MergedRecords.{none_merged, phase_merged, has_next, line_merged, merge_all}
use Rattle.pa_runner.proofs.merging.merge_records.Goals.{in-Phase, in-Do+in_ok-push-in-Do}
use Rattle.pa_runner.proofs.merging.merge_records.Goals as goal

pub loop-line-init : goal.loop-line-init
loop-line-init g c = record {
  long = refl;
  merging = λ es of. none_merged c.args.lines.now c.args.workers.now c.new-merged.result.items es c.new-merged.ensures.items of;
}

pub bounds-records-at : goal.bounds-records-at
bounds-records-at g c =
    let whole = c.requires.whole in
    let within = c.requires.threads in
    has_next c.loop-line.line-index c.args.lines.now _ c.args.workers.now c.in-Do.thread within.0 c.in-Do.op c.loop-line-test.true
    c.in-Do.is c.requires.few within.1
    c.loop-line.next c.loop-line.merged.items whole.0 c.records-records.result.now _ whole.1 (c.loop-line.invariant.merging whole.0 whole.1)
    (c.records-records.ensures ∙ ap (λ w. w.records) c.index-workers-k.is)

pub offset_bounds-records-at : goal.offset_bounds-records-at
offset_bounds-records-at g c =
    let whole = c.requires.whole in
    let within = c.requires.threads in
    let below : slice_index_or c.loop-line.next c.in-Do.thread 0 < length c.records-records.result.now =
    has_next c.loop-line.line-index c.args.lines.now _ c.args.workers.now c.in-Do.thread within.0 c.in-Do.op c.loop-line-test.true
    c.in-Do.is c.requires.few within.1
    c.loop-line.next c.loop-line.merged.items whole.0 c.records-records.result.now _ whole.1 (c.loop-line.invariant.merging whole.0 whole.1)
    (c.records-records.ensures ∙ ap (λ w. w.records) c.index-workers-k.is) in
    search rules

pub overflow_add-next : goal.overflow_add-next
overflow_add-next g c =
    let whole = c.requires.whole in
    let within = c.requires.threads in
    let below : slice_index_or c.loop-line.next c.in-Do.thread 0 < length c.records-records.result.now =
    has_next c.loop-line.line-index c.args.lines.now _ c.args.workers.now c.in-Do.thread within.0 c.in-Do.op c.loop-line-test.true
    c.in-Do.is c.requires.few within.1
    c.loop-line.next c.loop-line.merged.items whole.0 c.records-records.result.now _ whole.1 (c.loop-line.invariant.merging whole.0 whole.1)
    (c.records-records.ensures ∙ ap (λ w. w.records) c.index-workers-k.is) in
    search rules

pub loop-line-preserved : goal.loop-line-preserved
loop-line-preserved g c =
    elim c.match-line.branch [
      | in-Phase w ↦ record {
        long = ap length w.next-is ∙ c.loop-line.invariant.long;
        merging = λ es of.
            phase_merged c.loop-line.line-index c.args.lines.now _ c.loop-line.next c.match-line.next c.loop-line.merged.items
            c.match-line.merged.items es (c.loop-line.invariant.merging es of)
            c.loop-line-test.true w.in-Phase.is w.next-is (ap (λ (v : Vec Entry Global). v.items) w.merged-is);
      }
      | in-Do+in_ok-push-in-Do w ↦ record {
        long = ap length w.next-is ∙ (length-set c.loop-line.next w.in-Do.thread _ ∙ c.loop-line.invariant.long);
        merging = λ es of.
            let within = c.requires.threads in
            line_merged c.loop-line.line-index c.args.lines.now _ c.args.workers.now w.in-Do.thread within.0 w.in-Do.op
            c.loop-line-test.true w.in-Do.is c.requires.few within.1
            c.loop-line.next c.loop-line.merged.items es w.records-records.result.now _ of (c.loop-line.invariant.merging es of)
            (w.records-records.ensures ∙ ap (λ x. x.records) w.index-workers-k.is)
            _ c.match-line.next c.match-line.merged.items c.loop-line.invariant.long w.next-is
            (ap (λ (v : Vec Entry Global). v.items) w.merged-is ∙ w.in_ok-push-in-Do.ensures.items);
      }
    ]

pub returns : goal.returns
returns g c es of =
    merge_all c.loop-line.line-index c.args.lines.now c.loop-line.next c.loop-line.merged.items es
    (c.loop-line.invariant.merging es of) c.loop-line-test.false
