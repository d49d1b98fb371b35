use Rattle.std.proofs.Common.{◌≡◌, length}
use Rattle.std.specs.List.{All}
use Rattle.pa_record.specs.Root.{new_root}
use Rattle.pa_player.proofs.roots.Roots.new.Given as goal

-- that many roots have no span
abbrev pub invariant-loop : goal.invariant-loop
invariant-loop l = (length l.of.items ≡ l.counter) × All (λ r. r ≡ new_root) l.of.items
