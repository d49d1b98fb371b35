use Rattle.std.proofs.Common.{◌≡◌, ◌+◌, ◌-◌, ◌<◌, length, refl, sym, ◌∙◌, subst, arith}
use Rattle.std.proofs.lemmas.Option.{slice_get_read}
use Rattle.pa_place.specs.Order.{IsCut}
use Rattle.pa_place.proofs.Searching.{held_found, none_held, none_before}
use Rattle.pa_place.proofs.scans.search.Goals as goal
use Rattle.pa_place.proofs.scans.search.Goals.{else-count-gt0-via-then-count-gt0+else-holds, else-count-gt0-via-else-count-gt0}

pub returns-then-holds-clause-holding : goal.returns-then-holds-clause-holding
returns-then-holds-clause-holding c =
    let ss = c.args.spans.now in
    let count = c.count_up_to-count.result in
    let at = count - 1 in
    let v = c.index-spans-count.result in
    let some = c.if-count-gt0.true in
    let most = c.count_up_to-count.ensures.within in
    let within : at < length ss = omega arith in
    let here = slice_get_read ss (length ss) at v refl within c.index-spans-count.is in
    here ∙ sym (held_found c.args.name ss at v c.requires.order here (sym c.holds.ensures ∙ c.if-holds.true))

pub returns-else-count-gt0-clause-holding : goal.returns-else-count-gt0-clause-holding
returns-else-count-gt0-clause-holding c =
    let ss = c.args.spans.now in
    let count = c.count_up_to-count.result in
    let most = c.count_up_to-count.ensures.within in
    elim c.else-count-gt0.branch [
      | else-count-gt0-via-then-count-gt0+else-holds w ↦
          let at = count - 1 in
          let v = w.index-spans-count.result in
          let some = w.if-count-gt0.true in
          let step : count ≡ at + 1 = omega arith in
          let within : at < length ss = omega arith in
          let here = slice_get_read ss (length ss) at v refl within w.index-spans-count.is in
          let cut = subst (λ n. IsCut c.args.name ss n) step c.count_up_to-count.ensures.cut in
          sym (none_held c.args.name ss at v c.requires.order cut here (sym w.holds.ensures ∙ w.if-holds.false))
      | else-count-gt0-via-else-count-gt0 w ↦
          let none = w.if-count-gt0.false in
          let zero : count ≡ 0 = omega arith in
          sym (none_before c.args.name ss (subst (λ n. IsCut c.args.name ss n) zero c.count_up_to-count.ensures.cut))
    ]
