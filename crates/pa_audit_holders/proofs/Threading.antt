-- The thread of the record on a line.
use Rattle.std.proofs.Common.{ℕ, List, get_or, refl}
use Rattle.pa_rules.specs.declared.played.Played.{Played}
use Rattle.pa_audit_records.specs.Seeking.{IsOnLine, NoneOnLine}
use Rattle.pa_audit_records.proofs.Seeking.{line_is, line_none}
use Rattle.pa_audit_holders.specs.Owners.{IsThreadsLine}
use Rattle.pa_rules.specs.Order.{IsOfLine}

pub thread_is : (ps : List Played) (line i : ℕ) (d : Played) → IsOnLine ps line i → IsThreadsLine ps line (get_or ps i d).thread
thread_is ps line i d on = (get_or ps i d, line_is ps line i d on, refl)

pub thread_none : (ps : List Played) (line : ℕ) → NoneOnLine ps line → (x : Played) → IsOfLine ps line x → ⊥
thread_none ps line none x (among, mine) = line_none ps line x none among mine
