use Rattle.std.proofs.Common.{◌≡◌, map, take}
use Rattle.pa_rules.specs.declared.played.Played.{Played}
use Rattle.pa_audit_records.proofs.phases.record_phases.Given as goal

abbrev pub invariant-loop-record : goal.invariant-loop-record
invariant-loop-record l = l.phases.items ≡ map (λ (x : Played). x.phase) (take l.record-index l.records)
