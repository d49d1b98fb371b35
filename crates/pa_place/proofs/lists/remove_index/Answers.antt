use Rattle.std.proofs.Common.{◌<◌, length, refl, sym, ◌∙◌, ap, arith, Some}
use Rattle.std.proofs.lemmas.Option.{slice_get_read, slice_get_within}
use Rattle.pa_lists.proofs.Members.{of_some}
use Rattle.pa_lists.proofs.Indexed.{element_at}
use Rattle.pa_place.specs.Listing.{IsTurnCut}
use Rattle.pa_place.proofs.Turns.{removed_cut, none_at_cut}
use Rattle.pa_place.proofs.lists.remove_index.Goals as goal
use Rattle.pa_place.proofs.lists.remove_index.Goals.{else-place-len-via-then-place-len+else-index-at, else-place-len-via-else-place-len}

pub returns-then-index-at-clause-removed : goal.returns-then-index-at-clause-removed
returns-then-index-at-clause-removed c =
    let ids = c.args.list.now.items in
    let count = c.count_before-place.result in
    let same = rw c.deref.ensures.value at c.deref.ensures.len in
    let len = c.len.ensures in
    let less = c.if-place-len.true in
    let within : count < length ids = omega arith in
    let here = slice_get_read ids (length ids) count c.index.result.now refl within c.index.ensures in
    c.remove.ensures.items ∙ removed_cut c.args.spans.now ids count c.args.at c.requires.order (here ∙ ap Some c.if-index-at.true)

pub returns-else-place-len-clause-removed : goal.returns-else-place-len-clause-removed
returns-else-place-len-clause-removed c =
    let ids = c.args.list.now.items in
    let ss = c.args.spans.now in
    let count = c.count_before-place.result in
    let same = rw c.deref.ensures.value at c.deref.ensures.len in
    let len = c.len.ensures in
    let (s, e) = element_at ss c.args.at c.requires.there in
    let cut : IsTurnCut ss s.turn ids count =
    rw (sym (c.turn_at.ensures s e)) (rw c.deref.ensures.value at c.count_before-place.ensures.cut) in
    none_at_cut ss ids c.args.at count s c.requires.order cut e (λ here. elim c.else-place-len.branch [
      | else-place-len-via-then-place-len+else-index-at w ↦
          let within = slice_get_within ids count c.args.at here in
          let there = slice_get_read ids (length ids) count w.index.result.now refl within w.index.ensures in
          w.if-index-at.false (of_some w.index.result.now c.args.at (sym there ∙ here))
      | else-place-len-via-else-place-len w ↦
          let more = w.if-place-len.false in
          let within = slice_get_within ids count c.args.at here in
          omega arith
    ])
