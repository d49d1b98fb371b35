use Rattle.pa_rules.specs.declared.verdict.Place.TheVariants as places
use Rattle.pa_rules.specs.Cells.{history_at}
use Rattle.pa_rules.specs.RecordDemands.{SeenDemand}
use Rattle.pa_audit_order.specs.Cuts.{TellsBelow}
use Rattle.pa_audit_order.proofs.seen.seen_meets.Given as goal

abbrev pub invariant-loop-thread : goal.invariant-loop-thread
invariant-loop-thread l = TellsBelow l.records l.thread (λ i. SeenDemand (history_at l.cells) l.records (places.Record i)) l.first
