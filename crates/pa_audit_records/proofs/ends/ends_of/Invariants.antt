use Rattle.std.proofs.Common.{◌≡◌, length}
use Rattle.pa_audit_records.specs.Cuts.{AreCuts, IsLow}
use Rattle.pa_audit_records.proofs.ends.ends_of.Given as goal

abbrev pub invariant-loop-at : goal.invariant-loop-at
invariant-loop-at l = record {
  many : length l.ends.items ≡ l.at;
  cuts : AreCuts l.phases l.ends.items;
  low : IsLow l.phases l.at l.end;
}
