use Rattle.std.proofs.Common.{ℕ, List, sym, subst}
use Rattle.pa_trace.specs.Limits.{most_bytes}
use Rattle.pa_cli.specs.Call.{IsRead, stream_of}
use Rattle.pa_cli.proofs.Printing.{script_printed}
use Rattle.pa_cli.proofs.scripts.resize.Goals as goal

-- what is printed is that of the script that was read
pub returns-clause-text : goal.returns-clause-text
returns-clause-text g c =
    let before = stream_of (g.S.Source.left c.args.source.now) (g.S.Source.faults c.args.source.now) in
    let after = stream_of (g.S.Source.left c.read_input.new.source) (g.S.Source.faults c.read_input.new.source) in
    let read = subst (λ (bytes : List ℕ). IsRead most_bytes before after bytes) (sym c.as_slice.ensures.value) c.in_ok-input.ensures.read in
    script_printed c.as_slice.result.now c.in_ok-expanded.expanded.trace.items c.in_ok-expanded.expanded.run.items before after read
    c.in_ok-expanded.ensures.expanded
