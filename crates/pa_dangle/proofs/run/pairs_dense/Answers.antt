use Rattle.std.proofs.Common.{sym, ◌∙◌, ap, subst}
use Rattle.pa_trace.specs.Rules.{rules_of}
use Rattle.pa_rules.specs.Cells.{history_at}
use Rattle.pa_rules.specs.Played.{played}
use Rattle.pa_rules.specs.Told.{told_by, records_of}
use Rattle.pa_legal.proofs.owners.Putting.{legal_has_handles}
use Rattle.pa_dangle.specs.Origins.{HaveHandlesOf}
use Rattle.pa_dangle.proofs.run.pairs_dense.Goals as goal

pub pairs_of-requires-clause-handles : goal.pairs_of-requires-clause-handles
pairs_of-requires-clause-handles c =
    let t = c.args.trace.now in
    let run = c.args.run.now in
    let told = c.as_slice-2.ensures.value ∙ c.in_ok-records.ensures.records
    ∙ ap (λ k. played k c.as_slice.result.now c.entries.result.now) c.rules.ensures ∙
    ap (λ ls. played (rules_of t) ls c.entries.result.now) c.as_slice.ensures
    ∙ ap (played (rules_of t) t.lines) c.entries.ensures.entries in
    let whole : HaveHandlesOf (history_at run.cells.items) (records_of t (told_by run)) =
    (t.version, legal_has_handles t (told_by run) c.requires.legal) in
    subst (λ cs. HaveHandlesOf (history_at cs) c.as_slice-2.result.now) (sym c.cells.ensures.cells)
    (subst (λ ps. HaveHandlesOf (history_at run.cells.items) ps) (sym told) whole)
