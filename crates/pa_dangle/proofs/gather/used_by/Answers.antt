use Rattle.std.proofs.Common.{refl, sym}
use Rattle.pa_dangle.proofs.Finding.{saw_mark}
use Rattle.pa_dangle.proofs.gather.used_by.Goals as goal

pub returns-then-is_kept-clause-some : goal.returns-then-is_kept-clause-some
returns-then-is_kept-clause-some c = (saw_mark c.args.told c.in-Some.seen (sym c.in-Some.ensures), c.if-is_kept.ensures.0 refl)
