use Rattle.std.proofs.Common.{List, map, ap, subst, ◌∙◌}
use Rattle.std.specs.List.{AllByRecursion}
use Rattle.pa_record.specs.declared.root.RootEntry.{RootEntry}
use Rattle.pa_record.specs.Bits.{RootInBits}
use Rattle.pa_run_writer.specs.Lines.{OneJournal}
use Rattle.pa_run_writer.proofs.Growing.{ok_then}
use Rattle.pa_run_writer.proofs.journals.Journals.push_all.Goals as goal

pub returns-clause-fits : goal.returns-clause-fits
returns-clause-fits c =
    let Fits : List (List RootEntry) → Type 0 = AllByRecursion (AllByRecursion RootInBits) in
    let same = ap (map (λ (j : OneJournal). j.entries)) c.as_slice.ensures.value ∙ c.self.view_is in
    ok_then _ _ c.push_texts.result (subst Fits same) c.push_texts.ensures.fits
