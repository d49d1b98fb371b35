use Rattle.std.proofs.Common.{◌∙◌, ap}
use Rattle.pa_buckets.specs.declared.spans.State.{State}
use Rattle.pa_buckets.specs.declared.spans.State.TheVariants as state
use Rattle.pa_spans.specs.Lists.{top_of}
use Rattle.pa_shelf.specs.Shelves.{ShelfParts}
use Rattle.pa_shelf.specs.Taking.{first_some}
use Rattle.pa_shelf.proofs.Tops.{listed_is}
use Rattle.pa_shelf.proofs.shelf.Shelf.listed.Goals as goal

pub returns : goal.returns
returns c v r sound k =
    let l = c.args.self.now in
    let same = λ (a : State). ap (λ (p : ShelfParts). top_of p.lists c.args.class a) c.self.view_is in
    c.first_some-2.ensures
    ∙ (ap (first_some c.top-active.result) c.first_some.ensures
    ∙ listed_is v l r c.args.class c.top-active.result c.top-empty.result c.top-decommitted.result c.number.ensures.bound sound k
    (c.top-active.ensures ∙ same state.Active) (c.top-empty.ensures ∙ same state.Empty)
    (c.top-decommitted.ensures ∙ same state.Decommitted))
