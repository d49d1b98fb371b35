use Rattle.std.proofs.Common.{rules, ◌++◌, OnErr, Result, Ok, Err}
use Rattle.pa_cli.specs.Call.{stream_of}
use Rattle.pa_cli.proofs.Given.{given_more}
use Rattle.pa_cli.proofs.input.read_input.Goals as goal

-- what holds anyway holds at an error
on_err : {T E : Type 0} (r : Result T E) {P : Type 0} → P → OnErr r P
on_err (Ok x) p = search rules
on_err (Err e) p = p

pub returns-in_err-read_piece-clause-given : goal.returns-in_err-read_piece-clause-given
returns-in_err-read_piece-clause-given g c =
    let last = c.in_err-read_piece.ensures.given in
    on_err c.from_residual-in_err-read_piece.result (
      c.loop-source.input.items ++
          last.0,
      given_more _ _ (stream_of (g.S.Source.left c.loop-source.source) 0) _ _ _ c.loop-source.invariant.given last.1 last.2,
    )
