use Rattle.std.proofs.Common.{◌≤◌}
use Rattle.std.specs.Io.KnownBytes.{Consumes}
use Rattle.pa_test_base.proofs.sources.read_all.Given as goal

-- the bytes so far came from the source, and its count of faults didn't fall
abbrev pub invariant-loop : goal.invariant-loop
invariant-loop g l = Consumes (g.S.Source.left l.initial.source) (g.S.Source.left l.source) l.bytes.items ×
    (g.S.Source.faults l.initial.source ≤ g.S.Source.faults l.source)
