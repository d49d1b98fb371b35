use Rattle.std.proofs.Common.{ℕ, List, sym, subst}
use Rattle.pa_audit_input.specs.Input.{most_audited}
use Rattle.pa_audit_input.specs.Judged.{IsLegalOf, IsJudgementOn}
use Rattle.pa_cli.specs.Call.{IsRead, stream_of}
use Rattle.pa_cli.proofs.Refusing.{input_paired}
use Rattle.pa_cli.proofs.alone.dangling.Goals as goal

-- what is printed are the pairs of what was read
pub returns-in-Legal-clause-text : goal.returns-in-Legal-clause-text
returns-in-Legal-clause-text g c =
    let before = stream_of (g.S.Source.left c.args.source.now) (g.S.Source.faults c.args.source.now) in
    let after = stream_of (g.S.Source.left c.read_input.new.source) (g.S.Source.faults c.read_input.new.source) in
    let bytes = c.as_slice.result.now in
    let read = subst (λ (x : List ℕ). IsRead most_audited before after x) (sym c.as_slice.ensures.value) c.in_ok-input.ensures.read in
    let legal : IsLegalOf c.in-Legal.trace c.in-Legal.run' bytes =
    subst (λ j. IsJudgementOn j bytes) c.in-Legal.is c.in_ok-trace.ensures.judged in
    input_paired c.in-Legal.trace c.in-Legal.run' bytes c.in_ok-pairs_text-in-Legal.field-0.items before after read legal
    c.in_ok-pairs_text-in-Legal.ensures
