use Rattle.std.proofs.Common.{List, sym, subst}
use Rattle.pa_slot.specs.declared.title.Title.{Title}
use Rattle.pa_record.specs.Root.{mapped}
use Rattle.pa_shelf.specs.contracts.shelf.Shelf
use Rattle.pa_shelf.specs.Shelves.{ShelfParts, ShowsRoot}
use Rattle.pa_shelf.proofs.Mapping.{mapped_shown}
use Rattle.pa_shelf.proofs.shelf.Shelf.map.Goals as goal

pub returns-clause-shown : goal.returns-clause-shown
returns-clause-shown c v r shown =
    let l = Shelf.the_view c.self.inside in
    let before = subst (λ (p : ShelfParts). ShowsRoot v p r) (sym c.self.view_is) shown in
    subst (λ (zs : List Title). ShowsRoot v (record l { maps = zs }) (mapped c.args.title r)) (sym c.push_reserved.ensures.items)
    (mapped_shown v l r c.args.title before)
