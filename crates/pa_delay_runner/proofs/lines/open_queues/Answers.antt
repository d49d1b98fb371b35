use Rattle.std.proofs.Common.{◌≡◌, List, [], slice_index_or, sym, ◌∙◌, ap, subst, arith}
use Rattle.std.specs.List.{AllByRecursion}
use Rattle.pa_trace.specs.declared.script.Line.{Line}
use Rattle.pa_trace.specs.Limits.{IsLineWithin}
use Rattle.pa_runner.specs.Tracing.{lines_by}
use Rattle.pa_delay_runner.proofs.Opening.{AreOpened, opened_none, opened_more}
use Rattle.pa_delay_runner.proofs.lines.open_queues.Goals as goal

pub count_lines-rooms-requires-clause-within : goal.count_lines-rooms-requires-clause-within
count_lines-rooms-requires-clause-within c =
    let t = c.args.trace.now in (
      t.partitions,
      t.threads,
      c.requires.limits.head.2.1,
      subst (λ (ls : List Line). AllByRecursion (IsLineWithin t.partitions t.threads) ls) (sym c.as_slice.ensures) c.requires.limits.lines,
    )

pub loop-k-init : goal.loop-k-init
loop-k-init c = record {
  low = omega arith;
  opened = opened_none c.args.bytes c.args.trace.now c.in_ok-queues.queues.items c.in_ok-queues.ensures.items;
}

pub loop-k-preserved : goal.loop-k-preserved
loop-k-preserved c =
    let t = c.args.trace.now in
    let k = c.loop-k.k in
    let most = c.requires.limits.head.2.1 in
    let below = c.loop-k-test.true in
    let e : slice_index_or c.count_lines-rooms.result k 0 ≡ lines_by k t.lines = c.count_lines-rooms.ensures k (omega arith) ∙
    ap (lines_by k) c.as_slice.ensures in
    record {
      low = omega arith;
      opened =
          opened_more c.args.bytes t k c.loop-k.queues.items c.push.new.self.items c.in_ok-new.field-0 c.loop-k.invariant.opened
          (c.in_ok-new.ensures ∙ ap (λ n. record { limit = c.args.bytes; room = n; slots = [] }) e) c.in_ok-push.ensures.items;
    }

pub returns-clause-count : goal.returns-clause-count
returns-clause-count c =
    let low = c.loop-k.invariant.low in
    let past = c.loop-k-test.false in
    let all : c.loop-k.k ≡ c.args.trace.now.threads = omega arith in
    c.loop-k.invariant.opened.long ∙ all

pub returns-clause-each : goal.returns-clause-each
returns-clause-each c =
    let t = c.args.trace.now in
    let low = c.loop-k.invariant.low in
    let past = c.loop-k-test.false in
    let all : c.loop-k.k ≡ t.threads = omega arith in
    (subst (λ n. AreOpened c.args.bytes t n c.loop-k.queues.items) all c.loop-k.invariant.opened).each
