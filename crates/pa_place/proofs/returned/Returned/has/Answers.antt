use Rattle.std.proofs.Common.{◌≡◌, ◌<◌, length, sym, ◌∙◌, ap, subst}
use Rattle.std.specs.Prelude.{Contains}
use Rattle.std.proofs.lemmas.Bool.{lt-ltb, ltb-true}
use Rattle.std.proofs.lemmas.List.{get_or_default}
use Rattle.pa_place.specs.CameBack.{CameBack, times_in}
use Rattle.pa_place.proofs.CameBack.{times_in_list, times_listed}
use Rattle.pa_place.proofs.returned.Returned.has.Goals as goal

pub returns : goal.returns
returns c =
    let xs = c.self.inside.list.items in
    let times = c.self.inside.times.items in
    let n = c.args.number in
    let items = ap (λ (b : CameBack). b.items) c.self.view_is in
    let low : n < length times = subst (λ (b : CameBack). n < b.room) (sym c.self.view_is) c.requires in
    let there : c.index.result.now ≡ times_in n xs = c.index.ensures ∙ get_or_default times n c.index.result.now 0 low ∙
    c.self.invariant.1 n low in (
      λ yes. subst (λ ys. Contains ys n) items (times_in_list n xs (subst (λ k. 0 < k) there (ltb-true 0 c.index.result.now yes))),
      λ among. lt-ltb 0 c.index.result.now
          (subst (λ k. 0 < k) (sym there) (times_listed n xs (subst (λ ys. Contains ys n) (sym items) among))),
    )
