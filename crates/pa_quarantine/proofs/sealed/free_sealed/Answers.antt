use Rattle.pa_quarantine.proofs.Sealing.{sealed_free_returns}
use Rattle.pa_quarantine.proofs.sealed.free_sealed.Goals as goal

pub returns-clause-returning : goal.returns-clause-returning
returns-clause-returning c =
    sealed_free_returns c.owns_change.ensures c.owns_are_sealed_or_not.ensures c.args.title c.free_owned.result.0.0 c.args.seat.now
    c.free_owned.new.seat c.requires.own.0 c.free_owned.ensures.made

pub returns-clause-free : goal.returns-clause-free
returns-clause-free c =
    c.free_owned.ensures.last (c.free_owned.ensures.fate.1 (
    sealed_free_returns c.owns_change.ensures c.owns_are_sealed_or_not.ensures c.args.title c.free_owned.result.0.0 c.args.seat.now
    c.free_owned.new.seat c.requires.own.0 c.free_owned.ensures.made))
