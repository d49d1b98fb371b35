use Rattle.std.proofs.Common.{length, refl, sym, ◌∙◌}
use Rattle.std.proofs.lemmas.Option.{slice_get_read}
use Rattle.pa_place.proofs.Searching.{held_found}
use Rattle.pa_place.proofs.scans.index_holding.Goals as goal

pub returns-then-holds-clause-holding : goal.returns-then-holds-clause-holding
returns-then-holds-clause-holding c =
    let ss = c.args.spans.now in
    let v = c.index-spans-home.result in
    let here = slice_get_read ss (length ss) c.guess-home.result v refl c.if-home-spans.true c.index-spans-home.is in
    here ∙ sym (held_found c.args.name ss c.guess-home.result v c.requires.order here (sym c.holds.ensures ∙ c.if-holds.true))
