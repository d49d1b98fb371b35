use Rattle.std.proofs.Common.{◌≡◌, [], length}
use Rattle.std.specs.List.{All}
use Rattle.pa_audit_holders.proofs.lines.ByLine.new.Given as goal

-- that many lines have no entries
abbrev pub invariant-loop : goal.invariant-loop
invariant-loop l = (length l.lines.items ≡ l.counter) × All (λ h. h ≡ []) l.lines.items
