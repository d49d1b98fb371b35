use Rattle.std.proofs.Common.{ℕ, List, sym, subst}
use Rattle.pa_trace.specs.Limits.{most_bytes}
use Rattle.pa_cli.specs.Call.{IsRead, stream_of}
use Rattle.pa_cli.proofs.Printing.{input_printed}
use Rattle.pa_cli.proofs.alone.model.Goals as goal

-- what is printed is that of what was read
pub returns-clause-text : goal.returns-clause-text
returns-clause-text g c =
    let before = stream_of (g.S.Source.left c.args.source.now) (g.S.Source.faults c.args.source.now) in
    let after = stream_of (g.S.Source.left c.read_input.new.source) (g.S.Source.faults c.read_input.new.source) in
    let read = subst (λ (bytes : List ℕ). IsRead most_bytes before after bytes) (sym c.as_slice.ensures.value) c.in_ok-input.ensures.read in
    input_printed c.as_slice.result.now c.in_ok-text.text.items before after read c.in_ok-text.ensures.text
