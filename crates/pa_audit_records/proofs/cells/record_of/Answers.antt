use Rattle.pa_audit_records.specs.ByKeys.{value_at}
use Rattle.std.proofs.lemmas.Bool.{false≢true}
use Rattle.pa_audit_records.proofs.Exchanging.{taken_none}
use Rattle.pa_audit_records.proofs.cells.record_of.Goals as goal

pub returns-else-fits_now-clause-none : goal.returns-else-fits_now-clause-none
returns-else-fits_now-clause-none c = λ x taken fits.
    taken_none c.args.records.now (value_at c.args.known.now) (value_at c.args.last.now) c.args.phase c.args.given c.args.cell c.args.entry
    c.in-Some.told x c.requires.rising c.in-Some.ensures.some
    (λ is. false≢true (c.if-fits_now.ensures.1 is)) taken fits

pub returns-in-None-clause-none : goal.returns-in-None-clause-none
returns-in-None-clause-none c = λ x (among, line, swap) fits. c.in-None.ensures.none x among line swap
