use Rattle.std.proofs.Common.{◌≡◌, [], length}
use Rattle.std.specs.List.{All}
use Rattle.pa_player.proofs.told.Told.new.Given as goal

-- that many histories are empty
abbrev pub invariant-loop : goal.invariant-loop
invariant-loop g l = (length l.histories.items ≡ l.counter) × All (λ h. h ≡ []) l.histories.items
