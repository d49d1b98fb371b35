use Rattle.std.proofs.Common.{◌<◌, List, length, arith, subst}
use Rattle.std.specs.Prelude.{All}
use Rattle.pa_record.specs.declared.root.RootEntry.{RootEntry}
use Rattle.pa_record.specs.declared.history.CellEntry.{CellEntry}
use Rattle.pa_test_audit.proofs.Shortness.{short_lines}
use Rattle.pa_test_audit.proofs.audit.is_short.Goals as goal

pub returns : goal.returns
returns c = λ yes.
    let r = c.args.run.now in
    let entries : length r.entries.items < 1000 = omega arith in
    let pool : length r.pool.items < 1000 = omega arith in
    let report : length r.report.items < 1000 = omega arith in
    let journals = subst (λ (rs : List (List RootEntry)). All (λ (es : List RootEntry). length es < 1000) rs) c.as_slice.ensures.value
    (c.are_short_journals.ensures c.if-not-are_short_journals.false) in
    let histories =
    subst (λ (cs : List (List CellEntry)). All (λ (es : List CellEntry). length es < 1000) cs) c.as_slice-2.ensures.value
    (c.are_short_histories.ensures yes) in
    short_lines r c.requires.roots c.requires.cells entries journals pool histories report
