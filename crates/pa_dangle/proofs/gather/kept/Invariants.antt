use Rattle.std.proofs.Common.{◌≡◌, ◌≤◌, length, take}
use Rattle.std.specs.Prelude.{filter}
use Rattle.pa_rules.specs.declared.played.Played.{Played}
use Rattle.pa_dangle.specs.Pairs.{keeps_slot}
use Rattle.pa_dangle.proofs.gather.kept.Given as goal

abbrev pub invariant-loop-record : goal.invariant-loop-record
invariant-loop-record l = record {
  kept : l.kept ≡ length (filter (λ (x : Played). keeps_slot x.op x.answer) (take l.record-index l.records));
  few : l.kept ≤ l.record-index;
}
