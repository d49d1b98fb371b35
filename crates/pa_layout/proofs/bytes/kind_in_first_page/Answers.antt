use Rattle.std.proofs.Common.{inl, inr, arith}
use Rattle.std.proofs.lemmas.Bool.{cases_lt}
use Rattle.pa_layout.proofs.Intervals.{first_guard, metadata, second_guard}
use Rattle.pa_layout.proofs.bytes.kind_in_first_page.Goals as goal

pub returns-then-within-eq1 : goal.returns-then-within-eq1
returns-then-within-eq1 c = metadata _ (omega arith) (omega arith)

pub returns-else-within-eq1 : goal.returns-else-within-eq1
returns-else-within-eq1 c =
    elim (cases_lt c.args.within 4096) [
      | inl below ↦ first_guard _ (omega arith)
      | inr above ↦ second_guard _ (omega arith) (omega arith)
    ]
