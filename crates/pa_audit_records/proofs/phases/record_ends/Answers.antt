use Rattle.std.proofs.Common.{◌≤◌, sym, ◌∙◌, subst}
use Rattle.std.specs.Prelude.{AllPairs}
use Rattle.pa_audit_records.specs.Cuts.{AreCuts}
use Rattle.pa_audit_records.proofs.Cutting.{phases_sorted}
use Rattle.pa_audit_records.proofs.phases.record_ends.Goals as goal

pub ends_of-requires-clause-rising : goal.ends_of-requires-clause-rising
ends_of-requires-clause-rising c =
    subst (λ ks. AllPairs ◌≤◌ ks) (sym (c.as_slice.ensures.value ∙ c.in_ok-record_phases.ensures))
    (phases_sorted c.args.records.now c.requires.rising)

pub returns-clause-cuts : goal.returns-clause-cuts
returns-clause-cuts c =
    subst (λ ks. AreCuts ks c.in_ok-ends.ends.items) (c.as_slice.ensures.value ∙ c.in_ok-record_phases.ensures) c.in_ok-ends.ensures.cuts
