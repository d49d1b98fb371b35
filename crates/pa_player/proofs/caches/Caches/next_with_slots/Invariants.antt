use Rattle.std.proofs.Common.{◌≡◌, ℕ, ◌-◌, ◌<◌, ◌≤◌, [], get_or}
use Rattle.pa_player.proofs.caches.Caches.next_with_slots.Given as goal

-- the lists before this one are empty
abbrev pub invariant-lists : goal.invariant-lists
invariant-lists l = record { from : l.from ≤ l.at; to : l.at ≤ l.to; empty : (k : ℕ) → l.from ≤ k → k < l.at → get_or l.self k [] ≡ [] }

abbrev pub decreases-lists : goal.decreases-lists
decreases-lists l = l.to - l.at
