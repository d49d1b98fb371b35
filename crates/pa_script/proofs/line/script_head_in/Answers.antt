use Rattle.std.proofs.Common.{ℕ, Option, Some, Result, sym, ap, ◌∙◌}
use Rattle.pa_trace.specs.declared.field.LineFault.{LineFault}
use Rattle.pa_trace.specs.Reading.{◌>>=◌, head_of}
use Rattle.pa_script.specs.Reading.{script_head_in}
use Rattle.pa_script.proofs.line.script_head_in.Goals as goal

pub returns : goal.returns
unfolding script_head_in
returns c = c.head_of.ensures ∙
    sym (ap (λ (r : Result (Option ℕ × Option ℕ × Option ℕ) LineFault). r >>= λ numbers. head_of 1 numbers.0 numbers.1 numbers.2 (Some 0))
    c.in_ok-region.ensures)
