use Rattle.std.proofs.Common.{◌≡◌, ℕ, ◌<◌, ◌≤◌, Some, None}
use Rattle.std.specs.List.{slice_index_or}
use Rattle.pa_machine.proofs.tables.Tables.holds_raw.Given as goal

abbrev pub invariant-loop-byte : goal.invariant-loop-byte
invariant-loop-byte l = (b : ℕ) → l.start ≤ b → b < l.byte → slice_index_or l.self.holders.items b None ≡ Some l.actor
