use Rattle.std.proofs.Common.{◌*◌, ap, arith}
use Rattle.pa_rules.proofs.Versions.{place_within}
use Rattle.pa_rules.proofs.lists.cache_place.Goals as goal

pub returns-clause-place : goal.returns-clause-place
returns-clause-place c =
    let row = ap (λ n. c.args.row * n) c.class_total.ensures.count in
    omega (arith, row, c.number.ensures.number, c.first_class.ensures)

pub returns-clause-within : goal.returns-clause-within
returns-clause-within c low =
    let row = ap (λ n. c.args.row * n) c.class_total.ensures.count in
    omega (
      arith,
      row,
      c.number.ensures.number,
      c.first_class.ensures,
      place_within c.args.version 4 c.args.row c.args.class low
          c.requires.class,
    )
