use Rattle.std.proofs.Common.{◌≡◌, length, map, take}
use Rattle.pa_audit_records.specs.ByKeys.{value_at}
use Rattle.pa_rules.specs.declared.played.Played.{Played}
use Rattle.pa_audit_report.specs.Counts.{HasCounted, HaveUses}
use Rattle.pa_audit_records.specs.Cuts.{IsLow}
use Rattle.pa_audit_report.proofs.counts.in_use_of.Given as goal

abbrev pub invariant-loop-end : goal.invariant-loop-end
invariant-loop-end l = record {
  many : length l.uses.items ≡ l.end-index;
  low : IsLow (map (λ (x : Played). x.phase) l.records) l.end-index l.from;
  counted : HasCounted (value_at l.homes) l.partition (take l.from l.records) l.count;
  uses : HaveUses (value_at l.homes) l.partition l.records l.uses.items;
}
