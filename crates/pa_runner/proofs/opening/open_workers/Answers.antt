use Rattle.std.proofs.Common.{◌≡◌, ◌+◌, List, [], ◌∷◌, slice_index_or, refl, sym, ◌∙◌, ap, subst, arith}
use Rattle.pa_slot.proofs.Outcomes.{any_err}
use Rattle.std.specs.List.{AllByRecursion}
use Rattle.pa_trace.specs.declared.script.Line.{Line}
use Rattle.pa_trace.specs.Limits.{IsLineWithin}
use Rattle.pa_trace.specs.declared.script.Rules.{Rules}
use Rattle.pa_trace.specs.Rules.{rules_of}
use Rattle.pa_region.specs.declared.marks.Mark.TheVariants.{Stake}
use Rattle.pa_region.specs.Hands.{left_after}
use Rattle.pa_region.specs.Marks.{parcel_of}
use Rattle.pa_op_specs.specs.Workers.{WorkerValue}
use Rattle.pa_runner.specs.Opening.{IsNewFor}
use Rattle.pa_runner.specs.Opening.{after_opening}
use Rattle.pa_runner.specs.Tracing.{lines_by}
use Rattle.pa_runner.proofs.Opened.{IsOpening, open_start, open_budget, open_handed, open_next}
use Rattle.pa_runner.proofs.opening.open_workers.Goals as goal

pub count_lines-counts-requires-clause-within : goal.count_lines-counts-requires-clause-within
count_lines-counts-requires-clause-within g c =
    let t = c.args.trace.now in (
      t.partitions,
      t.threads,
      c.requires.limits.head.2.1,
      subst (λ (ls : List Line). AllByRecursion (IsLineWithin t.partitions t.threads) ls)
          (sym c.as_slice.ensures) c.requires.limits.lines,
    )

pub loop-k-init : goal.loop-k-init
loop-k-init g c =
    let (budget, fits, all) = c.requires.stakes in
    record {
      region = refl;
      low = omega arith;
      opening = subst (λ (ws : List WorkerValue). IsOpening c.args.trace.now 0 ws c.args.seat.now.view c.args.seat.now.view)
          (sym c.new-workers.ensures.items)
          (open_start c.args.trace.now budget c.args.seat.now.view fits all);
    }

pub open_worker-requires-clause-budget : goal.open_worker-requires-clause-budget
open_worker-requires-clause-budget g c =
    let t = c.args.trace.now in
    let k = c.loop-k.k in
    let most = c.requires.limits.head.2.1 in
    let below = c.loop-k-test.true in
    let e : slice_index_or c.count_lines-counts.result k 0 ≡ lines_by k t.lines = c.count_lines-counts.ensures k (omega arith) ∙
    ap (lines_by k) c.as_slice.ensures in
    let b = open_budget t k c.loop-k.workers.items c.args.seat.now.view c.loop-k.seat.view c.loop-k.invariant.opening below in
    omega arith

pub loop-k-preserved : goal.loop-k-preserved
loop-k-preserved g c =
    let t = c.args.trace.now in
    let k = c.loop-k.k in
    let most = c.requires.limits.head.2.1 in
    let below = c.loop-k-test.true in
    let e : slice_index_or c.count_lines-counts.result k 0 ≡ lines_by k t.lines = c.count_lines-counts.ensures k (omega arith) ∙
    ap (lines_by k) c.as_slice.ensures in
    let w = c.in_ok-open_worker.field-0 in
    let left : c.open_worker.new.seat.view ≡ left_after (parcel_of [] (lines_by k t.lines) (Stake k ∷ [])) c.loop-k.seat.view =
    c.open_worker.ensures.left ∙ ap (λ n. left_after (parcel_of [] n (Stake k ∷ [])) c.loop-k.seat.view) e in
    record {
      region = c.open_worker.ensures.region ∙ sym c.requires.region;
      low = omega arith;
      opening = subst (λ (ws : List WorkerValue). IsOpening t (k + 1) ws c.args.seat.now.view c.open_worker.new.seat.view)
          (sym c.in_ok-push.ensures.items)
          (open_next t k c.loop-k.workers.items c.args.seat.now.view c.loop-k.seat.view c.loop-k.invariant.opening below
          c.open_worker.new.seat.view w left
          (subst (λ n. IsNewFor k t.partitions (rules_of t) n w) e
          (subst (λ (by : Rules). IsNewFor k t.partitions by (slice_index_or c.count_lines-counts.result k 0) w) c.rules-rules.ensures
          c.in_ok-open_worker.ensures.new)));
    }

pub returns-in_err-open_worker-clause-stops : goal.returns-in_err-open_worker-clause-stops
returns-in_err-open_worker-clause-stops g c =
    let t = c.args.trace.now in
    let k = c.loop-k.k in
    let most = c.requires.limits.head.2.1 in
    let below = c.loop-k-test.true in
    let e : slice_index_or c.count_lines-counts.result k 0 ≡ lines_by k t.lines = c.count_lines-counts.ensures k (omega arith) ∙
    ap (lines_by k) c.as_slice.ensures in
    let left : c.open_worker.new.seat.view ≡ left_after (parcel_of [] (lines_by k t.lines) (Stake k ∷ [])) c.loop-k.seat.view =
    c.open_worker.ensures.left ∙ ap (λ n. left_after (parcel_of [] n (Stake k ∷ [])) c.loop-k.seat.view) e in
    let handed =
    open_handed t k c.loop-k.workers.items c.args.seat.now.view c.loop-k.seat.view c.loop-k.invariant.opening below
    c.open_worker.new.seat.view left in
    any_err c.from_residual.result _ (k + 1, omega arith, handed)

pub returns-in_err-push-clause-stops : goal.returns-in_err-push-clause-stops
returns-in_err-push-clause-stops g c =
    let t = c.args.trace.now in
    let k = c.loop-k.k in
    let most = c.requires.limits.head.2.1 in
    let below = c.loop-k-test.true in
    let e : slice_index_or c.count_lines-counts.result k 0 ≡ lines_by k t.lines = c.count_lines-counts.ensures k (omega arith) ∙
    ap (lines_by k) c.as_slice.ensures in
    let left : c.open_worker.new.seat.view ≡ left_after (parcel_of [] (lines_by k t.lines) (Stake k ∷ [])) c.loop-k.seat.view =
    c.open_worker.ensures.left ∙ ap (λ n. left_after (parcel_of [] n (Stake k ∷ [])) c.loop-k.seat.view) e in
    let handed =
    open_handed t k c.loop-k.workers.items c.args.seat.now.view c.loop-k.seat.view c.loop-k.invariant.opening below
    c.open_worker.new.seat.view left in
    any_err c.from_residual-in_err-push.result _ (k + 1, omega arith, handed)

pub returns-clause-handed : goal.returns-clause-handed
returns-clause-handed g c =
    let t = c.args.trace.now in
    let low = c.loop-k.invariant.low in
    let past = c.loop-k-test.false in
    let all : c.loop-k.k ≡ t.threads = omega arith in
    subst (λ n. c.loop-k.seat.view ≡ after_opening t.lines n c.args.seat.now.view) all c.loop-k.invariant.opening.handed
