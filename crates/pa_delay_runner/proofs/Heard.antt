-- The main seat between turns: it has heard all workers, and does so still when it asks roots.
use Rattle.std.proofs.Common.{ℕ, ◌≤◌, ◌∙◌, ap, subst, arith}
use Rattle.pa_trace.specs.declared.script.Trace.{Trace}
use Rattle.pa_region.specs.declared.view.View.{View}
use Rattle.pa_region.specs.Aware.{IsAware}
use Rattle.pa_region.specs.Takes.{log_of}
use Rattle.pa_op_specs.specs.Workers.{WorkerValue}
use Rattle.pa_execution.specs.Turns.{Manner}
use Rattle.pa_execution.specs.Courses.{Course, HasSeenAll, HasHeardAll}
use Rattle.pa_execution.specs.Growing.{HasEndedBy}
use Rattle.pa_execution.specs.Gathering.{IsMain}
use Rattle.pa_execution.proofs.Playing.{sees_then}
use Rattle.pa_runner.specs.Reporting.{HasAsked}
use Rattle.pa_runner.proofs.Reported.{asked_every}

-- it has heard all at the end of a turn
pub heard_ended : (way : Manner) (t : Trace) (n : ℕ) (c : Course) (ends : ℕ → WorkerValue) (seat : View) → 1 ≤ n →
    HasEndedBy way t n c ends seat → HasHeardAll t.threads ends seat
heard_ended way t n c ends seat low ended =
    let all = ended.course.tells n low (omega arith) in
    subst (λ (v : View). HasHeardAll t.threads ends v) ended.seat (record {
      aware = all.aware;
      every = all.every;
      logs = λ k few. all.logs k few ∙ ap (λ (w : WorkerValue). log_of k w.stock.view) (ended.ends k few);
      idle = all.idle;
      sees = λ k few. subst (λ (w : WorkerValue). HasSeenAll w.stock.view (c.seats n)) (ended.ends k few) (all.sees k few);
    })

-- it sees more of lists and titles, and forgets nothing
pub asked_sees : (seat next : View) → HasAsked seat next → HasSeenAll seat next
asked_sees seat next asked = record { lists = asked.keeps.lists; seen = asked.keeps.seen }

pub main_asked : (threads : ℕ) (seat next : View) → HasAsked seat next → IsMain threads seat → IsMain threads next
main_asked threads seat next asked main = record {
  own = λ k past small. let h = main.own k past small in let s = asked.keeps.stakes k in omega arith;
  idle = λ k past. asked.logs k ∙ main.idle k past;
  clean = asked.keeps.unclean ∙ main.clean;
}

pub heard_asked : (threads : ℕ) (ends : ℕ → WorkerValue) (seat next : View) → HasAsked seat next → IsAware next →
    HasHeardAll threads ends seat → HasHeardAll threads ends next
heard_asked threads ends seat next asked aware heard = record {
  aware = aware;
  every = asked_every seat next asked heard.every;
  logs = λ k few. asked.logs k ∙ heard.logs k few;
  idle = λ k past. asked.logs k ∙ heard.idle k past;
  sees = λ k few. sees_then (ends k).stock.view seat next (heard.sees k few) (asked_sees seat next asked);
}
