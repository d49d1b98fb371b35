use Rattle.std.proofs.Common.{take}
use Rattle.std.specs.Prelude.{All}
use Rattle.pa_dangle.specs.Collected.{IsNoUse}
use Rattle.pa_dangle.proofs.gather.uses_none.Given as goal

-- the first records use none
abbrev pub invariant-loop-record : goal.invariant-loop-record
invariant-loop-record l = All IsNoUse (take l.record-index l.records)
