use Rattle.std.proofs.Common.{◌≡◌}
use Rattle.pa_thread_state.specs.Giving.{GivesBatches}
use Rattle.pa_thread_state.proofs.stock.Stock.give_tail.Given as goal

-- this many batches went back
abbrev pub invariant-loop-done : goal.invariant-loop-done
invariant-loop-done g l = record {
  some : GivesBatches l.line l.partition l.class l.keep l.done l.initial.self l.self;
  budget : l.self.view.budget ≡ l.initial.self.view.budget;
}
