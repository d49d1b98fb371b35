use Rattle.std.proofs.Common.{length, refl}
use Rattle.pa_runner.specs.Phases.{worker_in}
use Rattle.pa_runner.proofs.Reported.{live_by, quarantined_by}
use Rattle.pa_runner.proofs.report.line_of.Goals as goal

pub returns-clause-right : goal.returns-clause-right
returns-clause-right g c seat tells balance =
    let p = c.args.partition in
    let threads = length c.args.workers.now in
    let workers = worker_in c.args.workers.now in
    let counted = c.counted_by-count in
    record {
      phase_is = refl;
      totals = record {
        live = live_by p threads workers seat counted.result c.args.bytes c.left_of.result counted.ensures balance c.left_of.ensures;
        quarantined =
            quarantined_by p threads workers seat counted.result c.args.bytes c.left_of-2.result counted.ensures balance
            c.left_of-2.ensures;
        root = tells;
      };
      cached = c.cached_by.ensures.cached;
    }
