use Rattle.std.proofs.Common.{refl}
use Rattle.std.proofs.lemmas.Bool.{false≢true}
use Rattle.pa_audit_records.proofs.Exchanging.{swap_none}
use Rattle.pa_audit_records.proofs.Seeking.{line_within, line_is, line_none}
use Rattle.pa_audit_records.proofs.cells.swap_of.Goals as goal

pub bounds-records-at : goal.bounds-records-at
bounds-records-at c = line_within c.args.records.now c.args.line c.in-Some.at c.in-Some.ensures.some

pub returns-then-is_swap-clause-some : goal.returns-then-is_swap-clause-some
returns-then-is_swap-clause-some c =
    let (among, line) = line_is c.args.records.now c.args.line c.in-Some.at _ c.in-Some.ensures.some in
    (among, line, c.if-is_swap.ensures.0 refl)

pub returns-else-is_swap-clause-none : goal.returns-else-is_swap-clause-none
returns-else-is_swap-clause-none c = λ x among line swap.
    swap_none c.args.records.now c.args.line c.in-Some.at c.args.cell _ x c.requires.rising c.in-Some.ensures.some
    (λ is. false≢true (c.if-is_swap.ensures.1 is)) among line swap

pub returns-in-None-clause-none : goal.returns-in-None-clause-none
returns-in-None-clause-none c = λ x among line swap. line_none c.args.records.now c.args.line x c.in-None.ensures.none among line
