use Rattle.std.proofs.Common.{◌≡◌, [], length}
use Rattle.std.specs.List.{All}
use Rattle.pa_player.proofs.output.ListOutput.new.Given as goal

-- that many journals are empty
abbrev pub invariant-loop : goal.invariant-loop
invariant-loop l = (length l.journals.items ≡ l.counter) × All (λ h. h ≡ []) l.journals.items
