use Rattle.std.proofs.Common.{◌<◌, ◌∙◌, length, subst, sym}
use Rattle.std.proofs.lemmas.List.{length-set}
use Rattle.pa_record.specs.declared.report.ReportLine.{ReportLine}
use Rattle.pa_runner.specs.Phases.{worker_in}
use Rattle.pa_delay_runner.specs.Played.{slots_in}
use Rattle.pa_delay_runner.proofs.Counting.{no_line, still_there, done_more, rest_more}
use Rattle.pa_rules.specs.Lists.{no_tally}
use Rattle.pa_delay_runner.proofs.report.recount.Goals as goal

pub cached_with-cached-requires-clause-partition : goal.cached_with-cached-requires-clause-partition
cached_with-cached-requires-clause-partition g c =
    let threads = length c.args.workers.now in
    let workers = worker_in c.args.workers.now in
    let queues = slots_in c.args.queues.now in
    let at = c.loop-at.at in
    let low = c.loop-at-test.true in
    let so = c.loop-at.invariant in
    let there = still_there threads workers queues at c.args.lines.now c.loop-at.lines no_line no_tally low so.long so.done so.rest in
    subst (λ (l : ReportLine). l.partition < 4) (sym there) (c.requires.partitions at no_line low)

pub loop-at-preserved : goal.loop-at-preserved
loop-at-preserved g c =
    let threads = length c.args.workers.now in
    let workers = worker_in c.args.workers.now in
    let queues = slots_in c.args.queues.now in
    let at = c.loop-at.at in
    let low = c.loop-at-test.true in
    let so = c.loop-at.invariant in
    let cached = c.cached_with-cached.result in
    record {
      long = length-set c.loop-at.lines at _ ∙ so.long;
      done = done_more threads workers queues at c.args.lines.now c.loop-at.lines no_line cached low so.long so.done so.rest
          c.cached_with-cached.ensures;
      rest = rest_more threads workers queues at c.args.lines.now c.loop-at.lines no_line cached low so.long so.done so.rest;
    }
