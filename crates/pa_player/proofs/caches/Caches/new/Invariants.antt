use Rattle.std.proofs.Common.{◌≡◌, [], length}
use Rattle.std.specs.List.{All}
use Rattle.pa_player.proofs.caches.Caches.new.Given as goal

-- that many lists are empty
abbrev pub invariant-loop : goal.invariant-loop
invariant-loop l = (length l.lists.items ≡ l.counter) × All (λ h. h ≡ []) l.lists.items
