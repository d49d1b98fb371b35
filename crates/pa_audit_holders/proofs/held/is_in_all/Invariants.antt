use Rattle.std.proofs.Common.{ℕ, ◌<◌}
use Rattle.pa_rules.specs.Roots.{journal_at}
use Rattle.pa_audit_holders.specs.Gone.{IsUnmapped}
use Rattle.pa_audit_holders.proofs.held.is_in_all.Given as goal

abbrev pub invariant-loop-table : goal.invariant-loop-table
invariant-loop-table l = (p n : ℕ) → p < l.table-index → IsUnmapped (journal_at l.roots p) l.slot.slot n → l.slot.number < n
