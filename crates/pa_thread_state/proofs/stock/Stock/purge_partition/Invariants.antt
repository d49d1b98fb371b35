use Rattle.std.proofs.Common.{◌≡◌, ◌-◌}
use Rattle.pa_buckets.specs.Limits.{past_class}
use Rattle.pa_rules.specs.Caches.{listed_slots}
use Rattle.pa_op_specs.specs.Stocks.{listed_in}
use Rattle.pa_thread_state.specs.Purging.{GivesLists}
use Rattle.pa_thread_state.proofs.Purging.{AreLeft}
use Rattle.pa_thread_state.proofs.stock.Stock.purge_partition.Given as goal

-- the lists of the classes before this one went back, and so many slots are left
abbrev pub invariant-lists : goal.invariant-lists
invariant-lists g l = record {
  some : GivesLists l.line l.partition l.number l.initial.self l.self;
  left : AreLeft l.initial.self l.partition l.number l.left;
  slots : l.slots ≡ listed_slots (listed_in l.initial.self l.partition) 0 170;
  budget : l.self.view.budget ≡ l.initial.self.view.budget;
}

abbrev pub decreases-lists : goal.decreases-lists
decreases-lists g l = past_class l.initial.self.caches.version - l.number
