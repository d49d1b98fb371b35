use Rattle.std.proofs.Common.{take}
use Rattle.std.specs.List.{All}
use Rattle.pa_audit_holders.specs.Rows.{IsOfThreads}
use Rattle.pa_test_audit.proofs.homed.are_within.Given as goal

abbrev pub invariant-loop-found : goal.invariant-loop-found
invariant-loop-found l = All (IsOfThreads l.version) (take l.found-index l.records)
