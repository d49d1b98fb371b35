use Rattle.std.proofs.Common.{sym, ap, arith}
use Rattle.pa_region.specs.Shares.{Share}
use Rattle.pa_test_region.proofs.Sharing.{are_together}
use Rattle.pa_test_region.proofs.quarantine_threads.take_back.Goals as goal
use Rattle.pa_region.proofs.WholeReads.{poisoned_unclean}

pub take-requires-clause-able : goal.take-requires-clause-able
take-requires-clause-able c k t has = let few = poisoned_unclean c.args.seat.now.view t in let clean = c.requires.clean.0 in omega arith

pub returns-clause-together : goal.returns-clause-together
returns-clause-together c =
    let same = ap (λ (s : Share). s.view) c.note.ensures in
    are_together c.args.seat.now.view c.args.other.view c.take.new.seat.view
    (rw (sym same) c.take.ensures.parted) c.requires.clean.0 c.requires.clean.1
