use Rattle.std.proofs.Common.{subst}
use Rattle.pa_records.specs.Records.{HasSpans}
use Rattle.pa_shelf.proofs.Starting.{shown_is_in_words}
use Rattle.pa_root.specs.Keeping.{RootState, IsRootSound}
use Rattle.pa_root.specs.Kept.{root_of}
use Rattle.pa_root.proofs.root.Root.close.Goals as goal

pub returns-clause-kept : goal.returns-clause-kept
returns-clause-kept g c = subst (λ (z : RootState). IsRootSound g.row.P z) c.self.view_is c.self.invariant.2.sound

pub returns-clause-spans : goal.returns-clause-spans
returns-clause-spans g c =
    let i = c.self.inside in
    let v = i.ledger.seat.view in let js = i.ledger.journal.items in
    subst (λ (z : RootState). HasSpans z.view.words z.root) c.self.view_is
    (shown_is_in_words v i.shelf (root_of v js) c.self.invariant.2.shown)
