use Rattle.std.proofs.Common.{refl, sym}
use Rattle.std.proofs.lemmas.Result.{err_from_is_err_and}
use Rattle.pa_trace.specs.Reading.{◌>>=◌, head_in}
use Rattle.pa_trace.proofs.line.head_in.Goals as goal

pub returns : goal.returns
unfolding head_in
returns c = rw (c.in_ok-first.ensures, sym c.in_ok-version.ensures, c.in_ok-region.ensures, c.in_ok-plain.ensures) c.head_of.ensures

pub returns-in_err-plain : goal.returns-in_err-plain
unfolding head_in
returns-in_err-plain c =
    let p = err_from_is_err_and c.from_residual-in_err-plain.result c.from_residual-in_err-plain.ensures.1 in
    rw (p.1, p.2, c.in_ok-first.ensures, sym c.in_ok-version.ensures, c.in_ok-region.ensures, c.in_err-plain.ensures) refl
